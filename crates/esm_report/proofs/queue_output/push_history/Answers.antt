use Rattle.std.proofs.Common.{ℕ, List, ◌++◌, reverse, ap, ◌∙◌}
use Rattle.esm_report.specs.Report.{line, calls_text}
use Rattle.esm_report.proofs.QueueTelling.{line_is}
use Rattle.esm_report.proofs.queue_output.push_history.Goals as goal

pub returns : goal.returns
returns c = λ s same legal.
    let h = reverse c.args.trace.now in
    c.in_ok-push_calls_line.ensures
    ∙ ap (λ (xs : List ℕ). xs ++ line (calls_text h))
    (c.in_ok-push_messages_line.ensures
    ∙ ap (λ (xs : List ℕ). c.args.out.now.items ++ xs) (line_is c.args.said.now _ s h c.in_ok-messages.messages same c.in_ok-given.ensures legal c.in_ok-messages.ensures))
