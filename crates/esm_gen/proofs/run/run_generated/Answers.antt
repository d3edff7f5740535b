use Rattle.std.proofs.Common.{ap, ◌∙◌}
use Rattle.std.specs.Prelude.{reverse}
use Rattle.esm_gen.proofs.Begun.{nothing_run}
use Rattle.esm_gen.proofs.Told.{both_ok, has_told}
use Rattle.esm_gen.proofs.run.run_generated.Goals as goal

pub returns-in-Ok-clause-run : goal.returns-in-Ok-clause-run
returns-in-Ok-clause-run g c = rw c.told.ensures.trace (c.run_prepared.ensures.run c.args.records c.in-Ok.ensures.prepared)

pub returns-in-Ok-clause-told : goal.returns-in-Ok-clause-told
returns-in-Ok-clause-told g c =
    both_ok _ _ _ c.told.result.report c.told.ensures.finished c.told.ensures.text (λ text done reports.
    has_told c.args.records (reverse c.run_prepared.result.trace.items) (reverse c.told.result.trace.items) c.run_prepared.result.said text.items
    (ap (λ trace. reverse trace.items) c.told.ensures.trace)
    (ap (λ said. said.fates) c.run_prepared.ensures.said ∙ c.in-Ok.ensures.prepared.said.fates)
    (c.run_prepared.ensures.finished c.args.records c.in-Ok.ensures.prepared done)
    reports)

pub returns-in-Err-clause-run : goal.returns-in-Err-clause-run
returns-in-Err-clause-run g c = rw c.new.ensures.items (nothing_run c.args.records)
