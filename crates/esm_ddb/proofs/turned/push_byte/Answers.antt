use Rattle.std.proofs.Common.{rules, append_assoc, arith}
use Rattle.esm_ddb.proofs.Digest.{two_digits}
use Rattle.esm_ddb.proofs.turned.push_byte.Goals as goal

pub returns : goal.returns
returns c = rw (two_digits c.args.byte (omega arith)) (search (rules, append_assoc))
