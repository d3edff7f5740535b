use Rattle.std.proofs.Common.{sym, ◌∙◌}
use Rattle.esm_journal.proofs.Heads.{agree}
use Rattle.esm_journal.proofs.pair_reading.has_seal.Goals as goal

pub returns-clause-headed : goal.returns-clause-headed
returns-clause-headed c = λ sealed. agree c.args.head.now.first c.args.header (sym c.ne.ensures ∙ c.if-ne.false)
