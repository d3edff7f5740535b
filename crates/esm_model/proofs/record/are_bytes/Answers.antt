use Rattle.std.proofs.Common.{arith}
use Rattle.esm_model.proofs.record.are_bytes.Goals as goal

pub returns : goal.returns
returns c = λ i. let f = c.type_inv.text i in omega arith
