use Rattle.std.proofs.Common.{◌∙◌}
use Rattle.esm_ledger.proofs.Readings.{calls_here, calls_low, absent}
use Rattle.esm_ledger.proofs.ledger.Ledger.calls_of.Goals as goal

pub calls-requires : goal.calls-requires
calls-requires c = calls_low c.args.self.now c.args.shard c.args.place c.in-Some.kept.now c.requires.kept c.in-Some.ensures.at c.requires.came

pub returns-in-None : goal.returns-in-None
returns-in-None c = absent c.args.self.now c.args.shard c.args.place c.requires.kept c.in-None.ensures.none c.requires.came

pub returns-in-Some : goal.returns-in-Some
returns-in-Some c = c.calls.ensures ∙ calls_here c.args.self.now c.args.shard c.args.place c.in-Some.kept.now c.requires.kept c.in-Some.ensures.at
