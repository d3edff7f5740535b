use Rattle.std.proofs.Common.{◌∙◌}
use Rattle.esm_io.proofs.Within.{is_found}
use Rattle.esm_io.proofs.script.contains.Goals as goal

pub returns : goal.returns
returns c = c.is_some.ensures ∙ is_found c.args.text.now c.args.event.now c.find.result c.find.ensures
