use Rattle.std.proofs.Common.{arith}
use Rattle.esm_ddb.proofs.OwnParts.{moment_read}
use Rattle.esm_ddb.proofs.own_element.is_moment.Goals as goal

pub returns : goal.returns
returns c = λ is. moment_read c.args.text.now (omega arith) (grind arith) (c.are_parts.ensures is)
