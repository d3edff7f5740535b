use Rattle.std.proofs.Common.{◌≡◌, ◌∙◌, ℕ, false, List, ◌++◌, ap, reverse, sym}
use Rattle.std.proofs.lemmas.Bool.{cond-false}
use Rattle.esm_redrive_model.specs.RedriveReport.{redrive_text}
use Rattle.esm_report.specs.Queue.{last_line}
use Rattle.esm_report.specs.Report.{calls_text, line, stands_alone}
use Rattle.esm_run.proofs.reports.redrive_report.Goals as goal

pub returns : goal.returns
returns c = λ s same legal.
    let h = reverse c.args.trace.now in
    let ending = c.args.ending.now in
    let ran : stands_alone ending ≡ false = sym c.stands_alone.ensures ∙ c.if-stands_alone.false in
    let lines : c.push_messages.new.out.items ≡ line (redrive_text s h) ++ line (calls_text h) =
    c.in_ok-push_messages.ensures s same legal ∙ ap (λ (xs : List ℕ). xs ++ line (redrive_text s h) ++ line (calls_text h)) c.new-out.ensures.items in
    c.in_ok-push_redrive_end-2.ensures
    ∙ (ap (λ (xs : List ℕ). xs ++ last_line ending) lines
    ∙ sym (cond-false (stands_alone ending) (last_line ending) (line (redrive_text s h) ++ line (calls_text h) ++ last_line ending) ran))
