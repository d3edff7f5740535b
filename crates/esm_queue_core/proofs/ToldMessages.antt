-- The messages that came to a core are those that its history tells; and what follows from what is kept of it.
use Rattle.std.proofs.Common.{◌≡◌, ◌≤◌, List, [], ◌∷◌, ◌++◌, map, take, drop, reverse, refl, sym, ap, ◌∙◌, subst, append_assoc, append-nil, Option, Some, None}
use Rattle.std.proofs.lemmas.List.{map-append, reverse-append}
use Rattle.esm_model.specs.declared.moment.TheConstants.{MAX_MOMENT}
use Rattle.esm_model.specs.declared.item.Message.{Message}
use Rattle.esm_model.specs.declared.setup.Told.{Told}
use Rattle.esm_model.specs.declared.entry.Entry.{Entry}
use Rattle.esm_model.specs.declared.entry.Entry.TheVariants.{Came, Began, Ended, Gave, Tried, Closed, Replayed, Shut}
use Rattle.esm_model.specs.Entries.{last_moment}
use Rattle.esm_queue_model.specs.Queue.{QueueState}
use Rattle.esm_queue_model.specs.QueueSetting.{QueueSetting}
use Rattle.esm_queue_model.specs.QueueEntries.{queue_of, queue_after}
use Rattle.esm_queue_model.specs.QueueBooks.{messages_with, messages_told}
use Rattle.esm_queue_core.specs.declared.decisions.QueueEntry.{QueueEntry}
use Rattle.esm_queue_core.specs.declared.owed.First.{First}
use Rattle.esm_queue_core.specs.declared.owed.Gift.{Gift}
use Rattle.esm_queue_core.specs.Told.{queue_entry, queue_entries, told_entries, told_of}
use Rattle.esm_queue_core.specs.Kept.{Parts, IsKept, CanAddFirst, full, seen_of, owed_entries, messages_stored}
use Rattle.esm_queue_core.proofs.Added.{messages_came, messages_received, messages_deleted}

pub told-append : (messages : List Message) (es more : List Entry) → told_entries messages (es ++ more) ≡ told_entries messages es ++ told_entries messages more
told-append messages es more =
    ap (map (λ (x : QueueEntry). x.told)) (map-append (queue_entry messages) es more)
    ∙ map-append (λ (x : QueueEntry). x.told) (queue_entries messages es) (queue_entries messages more)

pub messages-append : (history more : List Told) → messages_told (history ++ more) ≡ messages_told history ++ messages_told more
messages-append [] more = refl
messages-append (t ∷ history) more =
    ap (λ (ms : List Message). messages_with t.messages t.entry ++ ms) (messages-append history more)
    ∙ sym (append_assoc (messages_with t.messages t.entry) (messages_told history) (messages_told more))

-- an entry brings the messages that it tells
brings : (s : QueueSetting) (q : QueueState) (e : Entry) → messages_stored (queue_after s q e) ≡ messages_stored q ++ messages_told (told_entries s.messages (e ∷ []))
brings s q (Came shard first count m) =
    let xs = take count (drop first s.messages) in
    messages_came s q m first xs ∙ ap (λ (ms : List Message). messages_stored q ++ ms) (sym (append-nil xs))
brings s q (Began lane places closing m) = messages_received q m places ∙ sym (append-nil (messages_stored q))
brings s q (Gave by shard places f line state m) = messages_deleted q places ∙ sym (append-nil (messages_stored q))
brings s q (Ended lane reply m) = sym (append-nil (messages_stored q))
brings s q (Tried lane places closing tries m) = sym (append-nil (messages_stored q))
brings s q (Closed lane window m) = sym (append-nil (messages_stored q))
brings s q (Replayed shard places m) = sym (append-nil (messages_stored q))
brings s q (Shut m) = sym (append-nil (messages_stored q))

messages-queue_of : (s : QueueSetting) (h : List Entry) → messages_stored (queue_of s h) ≡ messages_told (told_entries s.messages (reverse h))
messages-queue_of s [] = refl
messages-queue_of s (e ∷ h) =
    brings s (queue_of s h) e
    ∙ (ap (λ (ms : List Message). ms ++ messages_told (told_entries s.messages (e ∷ []))) (messages-queue_of s h)
    ∙ (sym (messages-append (told_entries s.messages (reverse h)) (told_entries s.messages (e ∷ [])))
    ∙ ap messages_told (sym (told-append s.messages (reverse h) (e ∷ [])) ∙ ap (told_entries s.messages) (sym (reverse-append (e ∷ []) h)))))

-- of a core

pub messages_kept : (p : Parts) → IsKept p → (seen_of p).setting.messages ≡ messages_told (told_of (seen_of p))
messages_kept p k = ap messages_stored k.queue_ahead ∙ messages-queue_of (full p) p.past

nothing_first : (p : Parts) (f : Option First) (g : Option Gift) → CanAddFirst p.held p.coming f → owed_entries f g ≡ [] → p.coming ≡ []
nothing_first p None g can none = can
nothing_first p (Some f) g can none = absurd (cc)

pub rests_kept : (p : Parts) → IsKept p → owed_entries p.first p.gift ≡ [] → p.coming ≡ []
rests_kept p k none = nothing_first p p.first p.gift k.first none

pub in_time_kept : (p : Parts) → IsKept p → last_moment p.past ≤ MAX_MOMENT
in_time_kept p k = subst (λ m. m ≤ MAX_MOMENT) k.last k.in_time
