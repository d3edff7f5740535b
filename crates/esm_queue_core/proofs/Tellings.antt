-- A core's entries as they are told: the same over more messages; and what its calls decide by what is told.
use Rattle.std.proofs.Common.{◌≡◌, ℕ, ◌+◌, ◌<◌, ◌≤◌, List, [], ◌∷◌, ◌++◌, length, take, drop, map, reverse, refl, sym, ap, ap₂, ◌∙◌, subst, arith, Option, Some, None}
use Rattle.std.specs.Prelude.{slice_get}
use Rattle.std.specs.List.{cons_option}
use Rattle.std.proofs.lemmas.List.{append-nil, length-drop, take-append-le, drop-append-le}
use Rattle.esm_model.specs.declared.item.Message.{Message}
use Rattle.esm_model.specs.declared.lane.LaneId.{LaneId}
use Rattle.esm_model.specs.declared.entry.WindowState.{WindowState}
use Rattle.esm_model.specs.declared.entry.Fate.{Fate}
use Rattle.esm_model.specs.declared.entry.Fate.TheVariants.{Succeeded, Filtered, Expired, Exhausted}
use Rattle.esm_model.specs.declared.entry.Entry.{Entry}
use Rattle.esm_model.specs.declared.entry.Entry.TheVariants.{Came, Began, Ended, Gave, Tried, Closed, Replayed, Shut}
use Rattle.esm_model.specs.Entries.{came_count}
use Rattle.esm_journal_record.specs.Payload.{payload_of}
use Rattle.esm_journal_record.specs.declared.said.Said.TheVariants.{Deleted}
use Rattle.esm_journal_record.specs.EntryPayload.{ids_at, queue_payload}
use Rattle.esm_book.specs.Decided.{written_of}
use Rattle.esm_queue_model.specs.QueueSetting.{QueueSetting, over_messages}
use Rattle.esm_queue_model.specs.QueueEntries.{queue_count}
use Rattle.esm_queue_model.specs.QueueStep.{LegalQueue, MayGiveQueue}
use Rattle.esm_queue_model.proofs.Places.{In}
use Rattle.esm_queue_model.proofs.MoreMessages.{count_grows}
use Rattle.esm_queue_model.proofs.QueueBookLaws.{named_came}
use Rattle.esm_queue_core.specs.declared.decisions.QueueEntry.{QueueEntry}
use Rattle.esm_queue_core.specs.CoreView.{CoreView, all_messages, LegalAhead, SettledAhead, owing, forgotten}
use Rattle.esm_queue_core.specs.Coming.{gave_entries, refused_from, came_from, came_entries}
use Rattle.esm_queue_core.specs.Told.{queue_entry, queue_entries, history_of, owed_of, no_line, Adds}
use Rattle.esm_queue_core.proofs.More.{filter_map_same, extends_append}
use Rattle.esm_queue_core.proofs.Named.{within_at}

-- over more messages

got_over : (a b : List Message) (i : ℕ) → i < length a → slice_get (a ++ b) i ≡ slice_get a i
got_over a b i l = let found = within_at a i l in extends_append a b i found.0 found.1 ∙ sym found.1

ids_over : (a b : List Message) (places : List ℕ) → ((i : ℕ) → In places i → i < length a) → ids_at (a ++ b) places ≡ ids_at a places
ids_over a b places within = ap (λ (ms : List Message). map (λ (m : Message). m.id) ms) (filter_map_same (slice_get (a ++ b)) (slice_get a) places (λ i member. got_over a b i (within i member)))

front_over : (a b : List Message) (first count : ℕ) → first + count ≤ length a → take count (drop first (a ++ b)) ≡ take count (drop first a)
front_over a b first count low =
    let long : count ≤ length (drop first a) = omega (arith, length-drop first a) in
    ap (take count) (drop-append-le first a b (omega arith)) ∙ take-append-le count (drop first a) b long

gave_queue : (s : QueueSetting) (h : List Entry) (by : Option LaneId) (shard : ℕ) (places : List ℕ) (f : Fate) (line : Option (List ℕ)) (state : Option WindowState) (m : ℕ) → MayGiveQueue s h by shard places f line state m → shard ≡ 0
gave_queue s h None shard places Filtered line state m may = may.queue
gave_queue s h (Some lane) shard places Succeeded line state m may = may.queue
gave_queue s h None shard places Succeeded line state m may = absurd may
gave_queue s h None shard places Expired line state m may = absurd may
gave_queue s h None shard places Exhausted line state m may = absurd may
gave_queue s h (Some lane) shard places Filtered line state m may = absurd may
gave_queue s h (Some lane) shard places Expired line state m may = absurd may
gave_queue s h (Some lane) shard places Exhausted line state m may = absurd may

entry_over : (s : QueueSetting) (a b : List Message) (h : List Entry) (e : Entry) → LegalQueue s (e ∷ h) → queue_count (e ∷ h) ≤ length a → queue_entry (a ++ b) e ≡ queue_entry a e
entry_over s a b h (Came shard first count m) legal low =
    let may = legal.1.1 in
    let next = may.next in
    let queue : shard ≡ 0 = may.queue in
    let n : queue_count (Came shard first count m ∷ h) ≡ first + count = rw queue (omega (arith, next)) in
    ap (λ (ms : List Message). record { told = record { entry = Came shard first count m; records = []; messages = ms }; payload = None }) (front_over a b first count (omega arith))
entry_over s a b h (Gave by shard places f line state m) legal low =
    let queue : shard ≡ 0 = gave_queue s h by shard places f line state m legal.1.1 in
    let named = named_came s h (Gave by shard places f line state m) legal in
    let ids = ids_over a b places (λ i member. (let l : i < queue_count h = subst (λ (n : ℕ). i < came_count h n) queue (named i member) in let grows = count_grows h (Gave by shard places f line state m) in omega arith)) in
    ap (λ (texts : List (List ℕ)). record { told = record { entry = Gave by shard places f line state m; records = []; messages = [] }; payload = Some (payload_of (Deleted f m places texts)) }) ids
entry_over s a b h (Began lane places closing m) legal low = refl
entry_over s a b h (Ended lane reply m) legal low = refl
entry_over s a b h (Tried lane places closing tries m) legal low = refl
entry_over s a b h (Closed lane window m) legal low = refl
entry_over s a b h (Replayed shard places m) legal low = refl
entry_over s a b h (Shut m) legal low = refl

entries_over : (s : QueueSetting) (a b : List Message) (h : List Entry) → LegalQueue s h → queue_count h ≤ length a → queue_entries (a ++ b) h ≡ queue_entries a h
entries_over s a b [] legal low = refl
entries_over s a b (e ∷ h) legal low =
    let grows = count_grows h e in
    ap₂ (λ (x : QueueEntry) (xs : List QueueEntry). x ∷ xs) (entry_over s a b h e legal low) (entries_over s a b h legal.0 (omega arith))

-- the history is told as before

none_coming : (v w : CoreView) → forgotten w ≡ v → v.coming ≡ []
none_coming v w undone = sym (ap (λ (u : CoreView). u.coming) undone)

none_over : (v : CoreView) (h : List Entry) → v.coming ≡ [] → queue_entries (v.setting.messages ++ []) h ≡ queue_entries (all_messages v) h
none_over v h none = ap (λ (ms : List Message). queue_entries (v.setting.messages ++ ms) h) (sym none)

came_legal : (s : QueueSetting) (e : Entry) (places : List ℕ) (m : ℕ) (h : List Entry) → LegalQueue s (reverse (e ∷ gave_entries None places Filtered m) ++ h) → LegalQueue s (e ∷ h)
came_legal s e [] m h legal = legal
came_legal s e (i ∷ places) m h legal = legal.0

came_before : (v : CoreView) (items : List Message) (m : ℕ) → v.coming ≡ [] → LegalAhead (owing v items (came_from v.setting (length v.setting.messages) items m)) → queue_entries (v.setting.messages ++ items) v.past ≡ queue_entries (all_messages v) v.past
came_before v [] m none legal = none_over v v.past none
came_before v (x ∷ xs) m none legal =
    let front = v.setting.messages in
    let s = over_messages v.setting (front ++ x ∷ xs) in
    let e = Came 0 (length front) (length (x ∷ xs)) m in
    let whole : LegalQueue s (e ∷ v.past) = came_legal s e (refused_from v.setting (length front) (x ∷ xs)) m v.past (legal (front ++ x ∷ xs) (λ i y at. at)) in
    let next = whole.1.1.next in
    entries_over s front (x ∷ xs) v.past whole.0 (omega arith)
    ∙ (ap (λ (ms : List Message). queue_entries ms v.past) (sym (append-nil front)) ∙ none_over v v.past none)

-- where messages come
pub told_coming : (v w : CoreView) (items : List Message) (moment : ℕ) → w ≡ owing v items (came_entries v items moment) → forgotten w ≡ v → LegalAhead w → history_of w ≡ history_of v
told_coming v w items moment is undone legal =
    ap history_of is ∙ came_before v items _ (none_coming v w undone) (subst LegalAhead is legal)

-- what is added

pub adds_of : (v w : CoreView) (coming : List Message) (es : List Entry) → w ≡ owing v coming es → LegalAhead w → SettledAhead w → Adds v coming es (owed_of w)
adds_of v w coming es is legal settled = record { entries_are = ap owed_of is; legal = subst LegalAhead is legal; settled = subst SettledAhead is settled }

-- what is written of entries

abbrev pub payload_in : QueueEntry → Option (List ℕ)
payload_in e = e.payload

pub written_told : (messages : List Message) (es : List Entry) → written_of payload_in (queue_entries messages es) ≡ written_of (queue_payload messages) es
written_told messages [] = refl
written_told messages (e ∷ es) = ap (λ (bytes : List (List ℕ)). cons_option (queue_payload messages e) bytes) (written_told messages es)

pub no_lines : (messages : List Message) (es : List Entry) → written_of no_line (queue_entries messages es) ≡ []
no_lines messages [] = refl
no_lines messages (e ∷ es) = no_lines messages es

-- where nothing is told nothing is owed
pub none_owed : (messages : List Message) (es : List Entry) → queue_entries messages es ≡ [] → es ≡ []
none_owed messages [] is = refl
none_owed messages (e ∷ es) is = absurd (cc)
