use Rattle.std.proofs.Common.{◌∙◌, arith}
use Rattle.esm_ledger.proofs.Readings.{state_here, absent}
use Rattle.esm_ledger.proofs.ledger.Ledger.state.Goals as goal

pub returns-in-None : goal.returns-in-None
returns-in-None c = absent c.args.self.now c.args.shard 0 c.requires.kept c.in-None.ensures.none (omega arith)

pub returns-in-Some : goal.returns-in-Some
returns-in-Some c = c.state.ensures ∙ state_here c.args.self.now c.args.shard c.args.window c.in-Some.kept.now c.requires.kept c.in-Some.ensures.at
