use Rattle.std.proofs.Common.{◌++◌, ◌∙◌, [], List, refl, sym, subst}
use Rattle.std.specs.Prelude.{reverse}
use Rattle.std.specs.List.{All}
use Rattle.std.proofs.lemmas.List.{length-map}
use Rattle.std.proofs.lemmas.List.Elements.{All-nil}
use Rattle.esm_queue_model.specs.declared.stored.Stored.{Stored}
use Rattle.esm_queue_core.specs.Kept.{messages_stored}
use Rattle.esm_redrive_model.specs.RedriveSetting.{RedriveSetting}
use Rattle.esm_redrive_core.specs.declared.owed.Gift.{Gift}
use Rattle.esm_redrive_core.specs.Coming.{is_known_at, is_dropped_at}
use Rattle.esm_redrive_core.specs.Kept.{IsGiftOf}
use Rattle.esm_redrive_core.proofs.Owing.{places_given}
use Rattle.esm_redrive_core.proofs.arriving.gifts_for.Goals as goal

-- The setting for which the places are asked has the configuration, the deletions
-- and the ids that were handed in, and no messages.

pub owe_first-requires-clause-may : goal.owe_first-requires-clause-may
owe_first-requires-clause-may c =
    let s : RedriveSetting = record { queue = record { config = c.args.config.now; calls = 0; visibility = 0; messages = []; deletions = c.args.said.now.deletions }; max_receives = 0; dead_ids = c.args.dead.now } in
    let old = messages_stored c.args.queue.now.state in
    places_given c.args.config.now.kind (is_dropped_at s) old c.args.items.now c.in_ok-refused.refused.items _ c.args.from c.args.moment c.requires.valid c.requires.places c.requires.few refl c.requires.in_time
    (c.requires.at ∙ sym (length-map c.args.queue.now.state.messages (λ (x : Stored). x.message)))
    (c.in_ok-refused.ensures s (record { deletions = refl; dead_ids = refl; judges = c.requires.criteria; queue = c.requires.config.kind }))

pub owe_first-requires-clause-all : goal.owe_first-requires-clause-all
owe_first-requires-clause-all c = subst (λ (gs : List Gift). All (IsGiftOf (messages_stored c.args.queue.now.state ++ c.args.items.now)) (reverse gs)) (sym c.new-gifts.ensures.items) (All-nil (IsGiftOf (messages_stored c.args.queue.now.state ++ c.args.items.now)))

pub owe_first-requires-2-clause-may : goal.owe_first-requires-2-clause-may
owe_first-requires-2-clause-may c =
    let s : RedriveSetting = record { queue = record { config = c.args.config.now; calls = 0; visibility = 0; messages = []; deletions = c.args.said.now.deletions }; max_receives = 0; dead_ids = c.args.dead.now } in
    let old = messages_stored c.args.queue.now.state in
    places_given c.args.config.now.kind (is_known_at s) old c.args.items.now c.in_ok-found.found.items _ c.args.from c.args.moment c.requires.valid c.requires.places c.requires.few refl c.requires.in_time
    (c.requires.at ∙ sym (length-map c.args.queue.now.state.messages (λ (x : Stored). x.message)))
    (c.in_ok-found.ensures s refl refl)
