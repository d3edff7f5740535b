use Rattle.std.proofs.Common.{◌∙◌, ap}
use Rattle.esm_ledger.specs.declared.measure.Measure.{Measure}
use Rattle.esm_ledger.proofs.Readings.{window_here, absent}
use Rattle.esm_ledger.proofs.ledger.Ledger.window_of.Goals as goal

pub returns-in-None : goal.returns-in-None
returns-in-None c = absent c.args.self.now c.args.shard c.args.place c.requires.kept c.in-None.ensures.none c.requires.came

pub returns-in-Some : goal.returns-in-Some
returns-in-Some c = ap (λ (m : Measure). m.window) c.measure_of.ensures ∙ window_here c.args.self.now c.args.shard c.args.place c.in-Some.kept.now c.requires.kept c.in-Some.ensures.at c.requires.came
