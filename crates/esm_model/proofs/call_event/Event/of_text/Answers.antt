use Rattle.std.proofs.Common.{[], ap, ◌∙◌}
use Rattle.esm_model.specs.EventText.{event_in}
use Rattle.esm_model.proofs.EventFacts.{bare_event}
use Rattle.esm_model.proofs.call_event.Event.of_text.Goals as goal

pub returns : goal.returns
returns c =
    ap (λ rs. event_in c.args.text.items rs c.new-2.result.items c.new-3.result.items) c.new.ensures.items
    ∙ (ap (λ s. event_in c.args.text.items [] s c.new-3.result.items) c.new-2.ensures.items
    ∙ (ap (λ t. event_in c.args.text.items [] [] t) c.new-3.ensures.items ∙ bare_event c.args.text.items))
