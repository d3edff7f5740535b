use Rattle.std.proofs.Common.{◌∙◌, sym, ap}
use Rattle.esm_ledger.specs.declared.measure.Measure.{Measure}
use Rattle.esm_ledger.proofs.Readings.{length_here, record_absent, none_some}
use Rattle.esm_ledger.proofs.ledger.Ledger.element_length.Goals as goal

pub returns-in-None : goal.returns-in-None
returns-in-None c = λ r is. none_some r (sym (record_absent c.args.self.now c.args.shard c.args.place c.in-None.ensures.none) ∙ is)

pub returns-in-Some : goal.returns-in-Some
returns-in-Some c = λ r is. ap (λ (m : Measure). m.length) c.measure_of.ensures ∙ length_here c.args.self.now c.args.shard c.args.place c.in-Some.kept.now r c.requires.kept c.in-Some.ensures.at is
