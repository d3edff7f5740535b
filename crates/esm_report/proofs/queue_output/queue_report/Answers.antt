use Rattle.std.proofs.Common.{◌≡◌, ℕ, false, List, ◌++◌, reverse, sym, ap, ◌∙◌}
use Rattle.std.proofs.lemmas.Bool.{cond-false}
use Rattle.esm_report.specs.Report.{line, calls_text, stands_alone}
use Rattle.esm_queue_model.specs.QueueReport.{queue_text}
use Rattle.esm_report.specs.Queue.{last_line}
use Rattle.esm_report.proofs.queue_output.queue_report.Goals as goal

pub returns : goal.returns
returns c = λ s same legal.
    let h = reverse c.args.trace.now in
    let ending = c.args.ending.now in
    let ran : stands_alone ending ≡ false = sym c.stands_alone.ensures ∙ c.if-stands_alone.false in
    let history : c.push_history.new.out.items ≡ line (queue_text s h) ++ line (calls_text h) =
    c.in_ok-push_history.ensures s same legal ∙ ap (λ (xs : List ℕ). xs ++ line (queue_text s h) ++ line (calls_text h)) c.new-out.ensures.items in
    c.in_ok-push_queue_last_line-2.ensures
    ∙ (ap (λ (xs : List ℕ). xs ++ last_line ending) history
    ∙ sym (cond-false (stands_alone ending) (last_line ending) (line (queue_text s h) ++ line (calls_text h) ++ last_line ending) ran))
