use Rattle.std.proofs.Common.{ℕ, List, ◌++◌, codes, reverse, ap, ◌∙◌, append_assoc}
use Rattle.esm_report.specs.Report.{line, calls_text}
use Rattle.esm_redrive_model.specs.RedriveReport.{redrive_text}
use Rattle.esm_run.proofs.reports.push_messages.Goals as goal

pub returns : goal.returns
returns c = λ s same legal.
    let h = reverse c.args.trace.now in
    let begin = c.args.out.now.items in
    c.in_ok-push_calls_line.ensures
    ∙ ap (λ (xs : List ℕ). xs ++ line (calls_text h))
    (c.in_ok-push_bytes-2.ensures
    ∙ ap (λ (xs : List ℕ). xs ++ codes "\n")
    (c.in_ok-push_bytes.ensures ∙ ap (λ (xs : List ℕ). begin ++ xs) (c.deref.ensures.value ∙ c.in_ok-text.ensures s same legal))
    ∙ append_assoc begin (redrive_text s h) (codes "\n"))
