-- The entries of a redrive's core as they are told: the same over more messages; and what is written of them.
use Rattle.std.proofs.Common.{◌≡◌, ℕ, Bool, ◌+◌, ◌<◌, ◌≤◌, List, [], ◌∷◌, ◌++◌, length, take, drop, map, reverse, refl, sym, ap, ap₂, ◌∙◌, subst, false, arith, append-nil, Option, Some, None}
use Rattle.std.specs.Prelude.{slice_get}
use Rattle.std.specs.List.{All, cons_option}
use Rattle.std.proofs.lemmas.List.{map-append, reverse-append, length-drop, length-map, take-append-le, drop-append-le}
use Rattle.std.proofs.lemmas.List.Elements.{All-nil, All-cons, All-head, All-tail}
use Rattle.esm_model.specs.declared.moment.TheConstants.{MAX_MOMENT}
use Rattle.esm_model.specs.declared.config.Kind.{Kind}
use Rattle.esm_model.specs.declared.config.Kind.TheVariants as kinds
use Rattle.esm_model.specs.declared.item.Message.{Message}
use Rattle.esm_model.specs.declared.entry.Entry.{Entry}
use Rattle.esm_model.specs.declared.entry.Entry.TheVariants.{Came, Began, Ended, Gave, Tried, Closed, Replayed, Shut}
use Rattle.esm_model.specs.Books.{entry_line}
use Rattle.esm_model.specs.Items.{queue_kind}
use Rattle.esm_model.specs.Valid.{is_stream}
use Rattle.esm_model.specs.ValidMessage.{IsValidMessage}
use Rattle.esm_journal_record.specs.Payload.{payload_of}
use Rattle.esm_journal_record.specs.declared.said.Said.TheVariants.{Deleted}
use Rattle.esm_journal_record.specs.EntryPayload.{ids_at, queue_payload}
use Rattle.esm_book.specs.Decided.{written_of}
use Rattle.esm_queue_model.specs.declared.stored.Stored.{Stored}
use Rattle.esm_queue_model.specs.Queue.{QueueState}
use Rattle.esm_queue_model.specs.QueueBooks.{messages_told}
use Rattle.esm_queue_model.specs.QueueEntries.{queue_of, queue_after}
use Rattle.esm_queue_model.specs.QueueSetting.{QueueSetting, over_messages, is_fifo}
use Rattle.esm_queue_core.proofs.Added.{messages_came, messages_received, messages_deleted}
use Rattle.esm_queue_core.specs.Kept.{messages_stored}
use Rattle.esm_queue_core.proofs.ToldMessages.{messages-append}
use Rattle.esm_queue_core.proofs.More.{filter_map_same, extends_append}
use Rattle.esm_queue_core.proofs.Named.{within_at}
use Rattle.esm_queue_core.specs.declared.owed.First.{First}
use Rattle.esm_queue_core.specs.declared.owed.First.TheVariants as first
use Rattle.esm_redrive.specs.Limited.{Limited}
use Rattle.esm_redrive.specs.ReadsBack.{IsUtf8Message, HasLetter}
use Rattle.esm_redrive_core.specs.declared.owed.Gift.{Gift}
use Rattle.esm_redrive_core.specs.declared.decisions.RedriveEntry.{RedriveEntry}
use Rattle.esm_redrive_core.specs.Ahead.{IsConsistent, comes_first}
use Rattle.esm_redrive_core.specs.Kept.{Parts, IsKept, IsCovered, CanAddFirst, own, all_of, seen_of, owed_entries}
use Rattle.esm_redrive_core.specs.RedriveView.{RedriveView, owing}
use Rattle.esm_redrive_core.specs.Told.{redrive_entry, redrive_entries, told_entries, history_of}
use Rattle.esm_redrive_core.proofs.Keeping.{within_of, own_valid, own_texts}

-- over more messages

got_over : (a b : List Message) (i : ℕ) → i < length a → slice_get (a ++ b) i ≡ slice_get a i
got_over a b i l = let found = within_at a i l in extends_append a b i found.0 found.1 ∙ sym found.1

ids_over : (a b : List Message) (places : List ℕ) → All (λ i. i < length a) places → ids_at (a ++ b) places ≡ ids_at a places
ids_over a b places within = ap (λ (ms : List Message). map (λ (m : Message). m.id) ms) (filter_map_same (slice_get (a ++ b)) (slice_get a) places (λ i member. got_over a b i (within_of (length a) places i within member)))

front_over : (a b : List Message) (first count : ℕ) → first + count ≤ length a → take count (drop first (a ++ b)) ≡ take count (drop first a)
front_over a b first count low =
    let long : count ≤ length (drop first a) = omega (arith, length-drop first a) in
    ap (take count) (drop-append-le first a b (omega arith)) ∙ take-append-le count (drop first a) b long

entry_over : (a b : List Message) (e : Entry) → IsCovered (length a) e → redrive_entry (a ++ b) e ≡ redrive_entry a e
entry_over a b (Came shard first count m) is =
    ap (λ (ms : List Message). record { told = record { entry = Came shard first count m; records = []; messages = ms }; payload = None; line = None }) (front_over a b first count is)
entry_over a b (Gave by shard places f line state m) is =
    ap (λ (texts : List (List ℕ)). record { told = record { entry = Gave by shard places f line state m; records = []; messages = [] }; payload = Some (payload_of (Deleted f m places texts)); line = line }) (ids_over a b places is)
entry_over a b (Began lane places closing m) is = refl
entry_over a b (Ended lane reply m) is = refl
entry_over a b (Tried lane places closing tries m) is = refl
entry_over a b (Closed lane window m) is = refl
entry_over a b (Replayed shard places m) is = refl
entry_over a b (Shut m) is = refl

entries_over : (a b : List Message) (h : List Entry) → All (IsCovered (length a)) h → redrive_entries (a ++ b) h ≡ redrive_entries a h
entries_over a b [] all = refl
entries_over a b (e ∷ h) all =
    ap₂ (λ (x : RedriveEntry) (xs : List RedriveEntry). x ∷ xs) (entry_over a b e (All-head (IsCovered (length a)) e h all)) (entries_over a b h (All-tail (IsCovered (length a)) e h all))

-- the messages that are told

pub told-append : (messages : List Message) (es more : List Entry) → told_entries messages (es ++ more) ≡ told_entries messages es ++ told_entries messages more
told-append messages es more =
    ap (map (λ (x : RedriveEntry). x.told)) (map-append (redrive_entry messages) es more)
    ∙ map-append (λ (x : RedriveEntry). x.told) (redrive_entries messages es) (redrive_entries messages more)

-- an entry brings those that it tells
brings : (s : QueueSetting) (q : QueueState) (e : Entry) → messages_stored (queue_after s q e) ≡ messages_stored q ++ messages_told (told_entries s.messages (e ∷ []))
brings s q (Came shard first count m) =
    let xs = take count (drop first s.messages) in
    messages_came s q m first xs ∙ ap (λ (ms : List Message). messages_stored q ++ ms) (sym (append-nil xs))
brings s q (Began lane places closing m) = messages_received q m places ∙ sym (append-nil (messages_stored q))
brings s q (Gave by shard places f line state m) = messages_deleted q places ∙ sym (append-nil (messages_stored q))
brings s q (Ended lane reply m) = sym (append-nil (messages_stored q))
brings s q (Tried lane places closing tries m) = sym (append-nil (messages_stored q))
brings s q (Closed lane window m) = sym (append-nil (messages_stored q))
brings s q (Replayed shard places m) = sym (append-nil (messages_stored q))
brings s q (Shut m) = sym (append-nil (messages_stored q))

messages-queue_of : (s : QueueSetting) (h : List Entry) → messages_stored (queue_of s h) ≡ messages_told (told_entries s.messages (reverse h))
messages-queue_of s [] = refl
messages-queue_of s (e ∷ h) =
    brings s (queue_of s h) e
    ∙ (ap (λ (ms : List Message). ms ++ messages_told (told_entries s.messages (e ∷ []))) (messages-queue_of s h)
    ∙ (sym (messages-append (told_entries s.messages (reverse h)) (told_entries s.messages (e ∷ [])))
    ∙ ap messages_told (sym (told-append s.messages (reverse h) (e ∷ [])) ∙ ap (told_entries s.messages) (sym (reverse-append (e ∷ []) h)))))

-- messages are coming where their `Came` is owed
rests_kept : (q : Limited) (coming : List Message) (first : Option First) (gifts : List Gift) → CanAddFirst q coming first → comes_first (owed_entries first gifts) ≡ false → coming ≡ []
rests_kept q coming None gifts can none = can
rests_kept q coming (Some (first.Came from count m)) gifts can none = absurd (cc)
rests_kept q coming (Some (first.Began lane places m)) gifts can none = can.0
rests_kept q coming (Some (first.Ended lane reply m)) gifts can none = can.0

-- the messages have letters
pub kind_is : (kind : Kind) → is_stream kind ≡ false → queue_kind (is_fifo kind) ≡ kind
kind_is kinds.Stream queue = absurd (cc)
kind_is kinds.Standard queue = refl
kind_is kinds.Fifo queue = refl

abbrev pub GivesLetter : Type 0
GivesLetter = (fifo : Bool) (m : Message) → IsUtf8Message m → IsValidMessage (queue_kind fifo) m → HasLetter fifo m

all_letters : GivesLetter → (kind : Kind) (xs : List Message) → is_stream kind ≡ false → All (IsValidMessage kind) xs → All IsUtf8Message xs → All (HasLetter (is_fifo kind)) xs
all_letters gives kind [] queue valid texts = All-nil (HasLetter (is_fifo kind))
all_letters gives kind (x ∷ xs) queue valid texts =
    All-cons (HasLetter (is_fifo kind)) x xs
    (gives (is_fifo kind) x (All-head IsUtf8Message x xs texts) (subst (λ (k : Kind). IsValidMessage k x) (sym (kind_is kind queue)) (All-head (IsValidMessage kind) x xs valid)))
    (all_letters gives kind xs queue (All-tail (IsValidMessage kind) x xs valid) (All-tail IsUtf8Message x xs texts))

-- of a core
pub consistent : GivesLetter → (p : Parts) → IsKept p → IsConsistent (seen_of p)
consistent gives p k =
    let long : length (messages_stored p.limited.state) ≡ length p.limited.state.messages = length-map p.limited.state.messages (λ (x : Stored). x.message) in
    record {
      queue = k.config.kind;
      some_receives = k.some_receives;
      few_receives = k.few_receives;
      count = sym (long ∙ k.count);
      messages = ap messages_stored (k.queue (all_of p) (extends_append (messages_stored p.limited.state) p.coming)) ∙ messages-queue_of (over_messages (own p) (all_of p)) p.past;
      stays = λ more. entries_over (messages_stored p.limited.state) more p.past (subst (λ (n : ℕ). All (IsCovered n) p.past) (sym long) k.covered);
      valid = own_valid p k;
      letters = all_letters gives p.config.kind (messages_stored p.limited.state) k.config.kind (own_valid p k) (own_texts p k);
      rests = λ none. rests_kept p.limited p.coming p.first p.gifts k.first none;
      in_time = subst (λ m. m ≤ MAX_MOMENT) k.last k.in_time;
    }

-- the history is told as before
pub told_owing : (v w : RedriveView) (coming : List Message) (es : List Entry) → IsConsistent v → w ≡ owing v coming es → history_of w ≡ history_of v
told_owing v w coming es c is = ap history_of is ∙ (c.stays coming ∙ sym (c.stays v.coming))

-- what is written of entries

abbrev pub payload_in : RedriveEntry → Option (List ℕ)
payload_in e = e.payload

abbrev pub line_in : RedriveEntry → Option (List ℕ)
line_in e = e.line

pub written_told : (messages : List Message) (es : List Entry) → written_of payload_in (redrive_entries messages es) ≡ written_of (queue_payload messages) es
written_told messages [] = refl
written_told messages (e ∷ es) = ap (λ (bytes : List (List ℕ)). cons_option (queue_payload messages e) bytes) (written_told messages es)

pub lines_told : (messages : List Message) (es : List Entry) → written_of line_in (redrive_entries messages es) ≡ written_of entry_line es
lines_told messages [] = refl
lines_told messages (e ∷ es) = ap (λ (lines : List (List ℕ)). cons_option (entry_line e) lines) (lines_told messages es)

-- where nothing is told nothing is owed
pub none_told : (messages : List Message) (es : List Entry) → redrive_entries messages es ≡ [] → es ≡ []
none_told messages [] is = refl
none_told messages (e ∷ es) is = absurd (cc)
