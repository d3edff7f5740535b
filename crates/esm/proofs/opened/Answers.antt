use Rattle.std.proofs.Common.{map, ap}
use Rattle.std.specs.String.{string_bytes}
use Rattle.esm.proofs.Refusals.{opens_or_refused, refused_opening}
use Rattle.esm.specs.declared.opening.Opening.{Opening}
use Rattle.esm.proofs.opened.Goals as goal

pub returns-clause-opens : goal.returns-clause-opens
returns-clause-opens c =
    opens_or_refused (map string_bytes c.args.words.now) c.read_opening.result _ c.unwrap_or-opening.result c.read_opening.ensures.some c.read_opening.ensures.none c.unwrap_or-opening.ensures

pub returns-clause-refused : goal.returns-clause-refused
returns-clause-refused c = λ refused. ap (λ (o : Opening). map string_bytes o.command.now)
    (refused_opening (map string_bytes c.args.words.now) c.read_opening.result _ c.unwrap_or-opening.result refused c.read_opening.ensures.some c.unwrap_or-opening.ensures)
