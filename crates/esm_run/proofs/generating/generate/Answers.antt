use Rattle.esm_run.proofs.Results.{with_both}
use Rattle.esm_run.proofs.generating.generate.Goals as goal

pub returns-clause-outcome : goal.returns-clause-outcome
returns-clause-outcome g c = λ known.
    with_both c.run_generated-report.result.report (λ text told ran. record { text = text.items; ran = ran; told = told })
    (c.tell_report-status.ensures.told known) c.run_generated-report.ensures.told
