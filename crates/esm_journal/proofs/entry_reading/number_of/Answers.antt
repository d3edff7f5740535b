use Rattle.std.proofs.Common.{arith}
use Rattle.std.proofs.lemmas.Nat.{be_bytes_4}
use Rattle.esm_journal.proofs.entry_reading.number_of.Goals as goal

-- the four bytes are bytes
pub returns-clause-written : goal.returns-clause-written
returns-clause-written c = be_bytes_4 c.args.four.now c.from_be_bytes.result c.requires (λ i. let fits = c.type_inv.four i in omega (arith, fits)) c.from_be_bytes.ensures
