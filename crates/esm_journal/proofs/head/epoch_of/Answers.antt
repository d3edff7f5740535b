use Rattle.std.proofs.Common.{arith}
use Rattle.esm_journal.proofs.Heads.{written_eight}
use Rattle.esm_journal.proofs.head.epoch_of.Goals as goal

-- the eight bytes are bytes
pub returns-clause-written : goal.returns-clause-written
returns-clause-written c = written_eight c.args.bytes.now c.from_be_bytes.result (λ i. let fits = c.type_inv.bytes i in omega (arith, fits)) c.from_be_bytes.ensures
