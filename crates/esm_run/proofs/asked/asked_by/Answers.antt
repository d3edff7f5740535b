use Rattle.std.proofs.Common.{map}
use Rattle.std.specs.String.{string_bytes}
use Rattle.esm_run.proofs.BuiltLemmas.{is_asked}
use Rattle.esm_run.proofs.asked.asked_by.Goals as goal

pub returns-in-Ok : goal.returns-in-Ok
returns-in-Ok c = is_asked (map string_bytes c.args.words.now) c.in-Ok.command c.part.result c.in-Ok.ensures.spelled c.part.ensures
