use Rattle.std.proofs.Common.{reverse, ◌∙◌}
use Rattle.esm_redrive_run.proofs.Telling.{counts_are}
use Rattle.esm_redrive_run.proofs.report.messages_text.Goals as goal

pub returns : goal.returns
returns c = λ s same legal.
    (rw c.new-out.ensures.items at c.in_ok-push_counts.ensures)
    ∙ counts_are c.args.said.now _ s (reverse c.args.trace.now) c.in_ok-messages.messages same c.in_ok-given.ensures legal c.in_ok-messages.ensures
