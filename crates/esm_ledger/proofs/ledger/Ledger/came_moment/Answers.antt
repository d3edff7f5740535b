use Rattle.std.proofs.Common.{◌∙◌}
use Rattle.esm_ledger.proofs.Readings.{moment_here, absent}
use Rattle.esm_ledger.proofs.ledger.Ledger.came_moment.Goals as goal

pub returns-in-None : goal.returns-in-None
returns-in-None c = absent c.args.self.now c.args.shard c.args.place c.requires.kept c.in-None.ensures.none c.requires.came

pub returns-in-Some : goal.returns-in-Some
returns-in-Some c = c.moment.ensures ∙ moment_here c.args.self.now c.args.shard c.args.place c.in-Some.kept.now c.requires.kept c.in-Some.ensures.at c.requires.came
