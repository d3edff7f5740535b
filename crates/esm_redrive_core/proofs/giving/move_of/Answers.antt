use Rattle.std.proofs.Common.{◌∙◌, List, ℕ, Option, Some, None, sym, ap, ap₂}
use Rattle.std.specs.Prelude.{option_map}
use Rattle.esm_model.specs.declared.entry.Entry.TheVariants.{Gave}
use Rattle.esm_model.specs.declared.entry.Fate.TheVariants.{Exhausted}
use Rattle.esm_model.specs.Items.{queue_kind}
use Rattle.esm_queue_model.specs.QueueEntries.{queue_lane}
use Rattle.esm_redrive_model.specs.DeadLetter.{dead_letter}
use Rattle.esm_redrive_core.proofs.Moving.{message_there, stored_valid, within_short}
use Rattle.esm_redrive_core.proofs.giving.move_of.Goals as goal

pub letter_of-requires : goal.letter_of-requires
letter_of-requires c =
    let q = c.args.queue.now.state in
    let at = message_there q c.args.place c.in-Some.message.now c.in-Some.ensures in
    (c.requires.valid.0, stored_valid (queue_kind c.requires.valid.0) q c.args.place c.in-Some.message.now c.requires.valid.1 at)

pub returns-clause-entry : goal.returns-clause-entry
returns-clause-entry c =
    let q = c.args.queue.now.state in
    let at = message_there q c.args.place c.in-Some.message.now c.in-Some.ensures in
    c.in_ok-gift.ensures.entry
    ∙ ap₂ (λ (ps : List ℕ) (line : Option (List ℕ)). Gave (Some (queue_lane 0)) 0 ps Exhausted line None c.args.moment) c.in_ok-places.ensures.items
    (ap Some c.in_ok-line.ensures.text ∙ ap (option_map dead_letter) (sym at))

pub returns-clause-line : goal.returns-clause-line
returns-clause-line c = within_short c.in_ok-gift.gift c.in_ok-line.line c.in_ok-gift.ensures.line c.in_ok-line.ensures.short
