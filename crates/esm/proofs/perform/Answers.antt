use Rattle.std.proofs.Common.{map}
use Rattle.std.specs.String.{string_bytes}
use Rattle.esm.proofs.Refusals.{status_of_no_words}
use Rattle.esm.proofs.perform.Goals as goal

pub returns-clause-done : goal.returns-clause-done
returns-clause-done g c = λ known. (c.esm-ended.result.world, c.esm-ended.ensures.outcome known)

pub returns-clause-refused : goal.returns-clause-refused
returns-clause-refused g c = λ refused not-70.
    status_of_no_words c.esm-ended.result.status (map string_bytes c.args.opening.command.now) (c.requires.none refused) c.esm-ended.ensures.spelled not-70
