-- What the journal has of entries over all messages, and over those that came.
use Rattle.std.proofs.Common.{◌≡◌, ℕ, ◌<◌, List, [], ◌∷◌, ◌++◌, length, take, reverse, refl, sym, ap, ap₂, ◌∙◌, arith, append-nil, Option, Some, None}
use Rattle.std.specs.List.{cons_option}
use Rattle.std.proofs.lemmas.List.{reverse-append}
use Rattle.std.proofs.lemmas.List.Elements.{filter_map-append}
use Rattle.esm_model.specs.declared.book.Trouble.{Trouble}
use Rattle.esm_model.specs.declared.book.Trouble.TheVariants.{Disk, Dest, Changed}
use Rattle.esm_model.specs.declared.item.Message.{Message}
use Rattle.esm_model.specs.declared.entry.Entry.{Entry}
use Rattle.esm_journal_record.specs.EntryPayload.{queue_payload}
use Rattle.esm_book.specs.Decided.{written_of}
use Rattle.esm_book.specs.State.{in_hand}
use Rattle.esm_queue_core.specs.declared.decisions.QueueEntry.{QueueEntry}
use Rattle.esm_queue_core.specs.CoreView.{CoreView, all_messages}
use Rattle.esm_queue_core.specs.Told.{queue_entry, queue_entries, history_of, owed_of}
use Rattle.esm_queue_core.proofs.Tellings.{written_told, payload_in}
use Rattle.esm_queue_book.specs.Books.{payloads_in}
use Rattle.esm_queue_book.proofs.Entries.{map-reverse, reversed_back, past_grows, take-entries}

-- of a core

pub all_came : (v : CoreView) → v.coming ≡ [] → all_messages v ≡ v.setting.messages
all_came v none = ap (λ (ms : List Message). v.setting.messages ++ ms) none ∙ append-nil v.setting.messages

pub oldest_first : (messages : List Message) (h : List Entry) → reverse (queue_entries messages h) ≡ queue_entries messages (reverse h)
oldest_first messages h = sym (map-reverse (queue_entry messages) h)

pub payloads_of : (messages : List Message) (h : List Entry) → written_of payload_in (reverse (queue_entries messages h)) ≡ payloads_in messages (reverse h)
payloads_of messages h = ap (written_of payload_in) (oldest_first messages h) ∙ written_told messages (reverse h)

pub hand_so : (t : Option Trouble) (messages : List Message) (owed : List Entry) → in_hand t (queue_entries messages owed) ≡ queue_entries messages (in_hand t owed)
hand_so None messages owed = refl
hand_so (Some Disk) messages owed = take-entries messages owed
hand_so (Some Dest) messages owed = refl
hand_so (Some (Changed change)) messages owed = refl

payloads_hand : (t : Option Trouble) (messages : List Message) (owed : List Entry) → written_of payload_in (in_hand t (queue_entries messages owed)) ≡ payloads_in messages (in_hand t owed)
payloads_hand t messages owed = ap (written_of payload_in) (hand_so t messages owed) ∙ written_told messages (in_hand t owed)

-- what is told alike has the same payloads

pub past_over : (v : CoreView) (messages : List Message) → queue_entries messages v.past ≡ history_of v → payloads_in (all_messages v) (reverse v.past) ≡ payloads_in messages (reverse v.past)
past_over v messages same =
    sym (payloads_of (all_messages v) v.past)
    ∙ (ap (λ (h : List QueueEntry). written_of payload_in (reverse h)) (sym same)
    ∙ payloads_of messages v.past)

pub hand_over : (t : Option Trouble) (v : CoreView) (messages : List Message) → owed_of v ≡ queue_entries messages v.owed → payloads_in (all_messages v) (in_hand t v.owed) ≡ payloads_in messages (in_hand t v.owed)
hand_over t v messages same =
    sym (payloads_hand t (all_messages v) v.owed)
    ∙ (ap (λ (xs : List QueueEntry). written_of payload_in (in_hand t xs)) same
    ∙ payloads_hand t messages v.owed)

-- entries that were put before a history

payloads_after : (messages : List Message) (es h : List Entry) → payloads_in messages (reverse (reverse es ++ h)) ≡ payloads_in messages (reverse h) ++ payloads_in messages es
payloads_after messages es h =
    ap (payloads_in messages) (reverse-append (reverse es) h ∙ ap (λ (xs : List Entry). reverse h ++ xs) (reversed_back es))
    ∙ filter_map-append (queue_payload messages) (reverse h) es

payloads_grow : (old new : CoreView) (messages : List Message) (es : List Entry) (X : List QueueEntry) → history_of new ≡ reverse X ++ history_of old → X ≡ queue_entries messages es
    → payloads_in (all_messages new) (reverse new.past) ≡ payloads_in (all_messages old) (reverse old.past) ++ payloads_in messages es
payloads_grow old new messages es X is added =
    sym (payloads_of (all_messages new) new.past)
    ∙ (ap (λ (h : List QueueEntry). written_of payload_in (reverse h)) is
    ∙ (ap (written_of payload_in) (reverse-append (reverse X) (history_of old) ∙ ap (λ (xs : List QueueEntry). reverse (history_of old) ++ xs) (reversed_back X ∙ added))
    ∙ (filter_map-append payload_in (reverse (history_of old)) (queue_entries messages es)
    ∙ ap₂ (λ (xs ys : List (List ℕ)). xs ++ ys) (payloads_of (all_messages old) old.past) (written_told messages es))))

-- it has the payloads that it has over the messages that came, if the history before and the entries had
pub stays_so : (old new : CoreView) (messages : List Message) (es : List Entry) (X : List QueueEntry) → history_of new ≡ reverse X ++ history_of old → X ≡ queue_entries messages es
    → payloads_in (all_messages old) (reverse old.past) ≡ payloads_in new.setting.messages (reverse old.past) → payloads_in messages es ≡ payloads_in new.setting.messages es
    → payloads_in (all_messages new) (reverse new.past) ≡ payloads_in new.setting.messages (reverse new.past)
stays_so old new messages es X is added before alike =
    payloads_grow old new messages es X is added
    ∙ (ap₂ (λ (xs ys : List (List ℕ)). xs ++ ys) before alike
    ∙ (sym (payloads_after new.setting.messages es old.past)
    ∙ ap (λ (h : List Entry). payloads_in new.setting.messages (reverse h)) (sym (past_grows old new messages es X is added))))

-- of one entry there is one payload at most

only_payload : (written : Option (List ℕ)) → 0 < length (cons_option written []) → (payload : List ℕ) × (cons_option written [] ≡ payload ∷ [])
only_payload None some = absurd (omega (arith, some))
only_payload (Some payload) some = (payload, refl)

pub one_payload : (messages : List Message) (es : List Entry) → 0 < length (payloads_in messages (take 1 es)) → (payload : List ℕ) × (payloads_in messages (take 1 es) ≡ payload ∷ [])
one_payload messages [] some = absurd (omega (arith, some))
one_payload messages (e ∷ es) some = only_payload (queue_payload messages e) some
