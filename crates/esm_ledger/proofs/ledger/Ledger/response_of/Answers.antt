use Rattle.std.proofs.Common.{◌∙◌}
use Rattle.esm_ledger.proofs.Readings.{response_here, calls_low, absent}
use Rattle.esm_ledger.proofs.ledger.Ledger.response_of.Goals as goal

pub response-requires : goal.response-requires
response-requires c = calls_low c.args.self.now c.args.shard c.args.place c.in-Some.kept.now c.requires.kept c.in-Some.ensures.at c.requires.came

pub returns-in-None : goal.returns-in-None
returns-in-None c = absent c.args.self.now c.args.shard c.args.place c.requires.kept c.in-None.ensures.none c.requires.came

pub returns-in-Some : goal.returns-in-Some
returns-in-Some c = c.response.ensures ∙ response_here c.args.self.now c.args.shard c.args.place c.in-Some.kept.now c.requires.kept c.in-Some.ensures.at
