-- Which of the entries that a call adds bring messages: the first alone, those of the list that comes.
use Rattle.std.proofs.Common.{◌≡◌, ℕ, ◌<◌, false, List, [], ◌∷◌, ◌++◌, length, take, drop, refl, sym, ap, ap₂, ◌∙◌, subst, arith, append-nil, Option, Some, None}
use Rattle.std.specs.List.{All}
use Rattle.std.proofs.lemmas.List.{take_all}
use Rattle.std.proofs.lemmas.List.Elements.{All-nil, All-cons, All-head, All-tail}
use Rattle.esm_model.specs.declared.item.Message.{Message}
use Rattle.esm_model.specs.declared.lane.LaneId.{LaneId}
use Rattle.esm_model.specs.declared.book.Next.{Next}
use Rattle.esm_model.specs.declared.book.Next.TheVariants as next
use Rattle.esm_model.specs.declared.entry.Fate.{Fate}
use Rattle.esm_model.specs.declared.entry.Fate.TheVariants.{Succeeded, Filtered, Exhausted}
use Rattle.esm_model.specs.declared.entry.Entry.{Entry}
use Rattle.esm_model.specs.declared.entry.Entry.TheVariants.{Came, Began, Ended, Gave, Tried, Closed, Replayed, Shut}
use Rattle.esm_book.specs.Decided.{written_of}
use Rattle.esm_queue_model.specs.QueueBooks.{messages_told}
use Rattle.esm_queue_model.specs.QueueEntries.{queue_lane, queue_of}
use Rattle.esm_queue_core.specs.Coming.{gave_entries}
use Rattle.esm_queue_core.specs.CoreView.{moment_for}
use Rattle.esm_queue_core.specs.Next.{next_for, next_entries}
use Rattle.esm_redrive.specs.Limited.{due_in}
use Rattle.esm_redrive_model.specs.RedriveSetting.{RedriveSetting}
use Rattle.esm_redrive_core.specs.declared.decisions.RedriveCall.{RedriveCall}
use Rattle.esm_redrive_core.specs.declared.decisions.RedriveCall.TheVariants as call
use Rattle.esm_redrive_core.specs.Adding.{came_from, entries_due}
use Rattle.esm_redrive_core.specs.Ahead.{is_coming, comes_first}
use Rattle.esm_redrive_core.specs.Coming.{known_from, dropped_from}
use Rattle.esm_redrive_core.specs.RedriveView.{RedriveView}
use Rattle.esm_redrive_core.specs.Sound.{ended_places}
use Rattle.esm_redrive_core.specs.Told.{redrive_entries, told_entries, coming_by, entries_by}
use Rattle.esm_redrive_book.specs.Books.{payload_in, line_in}
use Rattle.esm_redrive_book.specs.Carried.{messages_by}

-- none of the entries brings messages
abbrev pub AreQuiet : List Entry → Type 0
AreQuiet es = All (λ (e : Entry). is_coming e ≡ false) es

silent : (messages : List Message) (e : Entry) (es : List Entry) → is_coming e ≡ false → messages_told (told_entries messages (e ∷ es)) ≡ messages_told (told_entries messages es)
silent messages (Came shard first count m) es quiet = absurd (cc)
silent messages (Began lane places closing m) es quiet = refl
silent messages (Ended lane reply m) es quiet = refl
silent messages (Gave by shard places f line state m) es quiet = refl
silent messages (Tried lane places closing tries m) es quiet = refl
silent messages (Closed lane window m) es quiet = refl
silent messages (Replayed shard places m) es quiet = refl
silent messages (Shut m) es quiet = refl

pub none_told : (messages : List Message) (es : List Entry) → AreQuiet es → messages_told (told_entries messages es) ≡ []
none_told messages [] quiet = refl
none_told messages (e ∷ es) quiet =
    silent messages e es (All-head (λ (x : Entry). is_coming x ≡ false) e es quiet)
    ∙ none_told messages es (All-tail (λ (x : Entry). is_coming x ≡ false) e es quiet)

gave_quiet : (by : Option LaneId) (places : List ℕ) (f : Fate) (m : ℕ) (es : List Entry) → AreQuiet es → AreQuiet (gave_entries by places f m ++ es)
gave_quiet by [] f m es quiet = quiet
gave_quiet by (i ∷ places) f m es quiet = All-cons (λ (x : Entry). is_coming x ≡ false) _ es refl quiet

gave_alone : (by : Option LaneId) (places : List ℕ) (f : Fate) (m : ℕ) → AreQuiet (gave_entries by places f m)
gave_alone by [] f m = All-nil (λ (x : Entry). is_coming x ≡ false)
gave_alone by (i ∷ places) f m = All-cons (λ (x : Entry). is_coming x ≡ false) _ [] refl (All-nil (λ (x : Entry). is_coming x ≡ false))

begun_quiet : (n : Next) (m : ℕ) → AreQuiet (next_entries n m)
begun_quiet (next.Call job) m = All-cons (λ (x : Entry). is_coming x ≡ false) _ [] refl (All-nil (λ (x : Entry). is_coming x ≡ false))
begun_quiet (next.Gave n) m = All-nil (λ (x : Entry). is_coming x ≡ false)
begun_quiet (next.Idle until) m = All-nil (λ (x : Entry). is_coming x ≡ false)
begun_quiet next.Spent m = All-nil (λ (x : Entry). is_coming x ≡ false)
begun_quiet next.Finished m = All-nil (λ (x : Entry). is_coming x ≡ false)

due_quiet : (s : RedriveSetting) (m : ℕ) (places : List ℕ) (es : List Entry) → AreQuiet es → AreQuiet (entries_due s m places es)
due_quiet s m [] es quiet = quiet
due_quiet s m (i ∷ places) es quiet = All-cons (λ (x : Entry). is_coming x ≡ false) _ [] refl (All-nil (λ (x : Entry). is_coming x ≡ false))

next_quiet : (v : RedriveView) (moment : ℕ) → AreQuiet (entries_by v (call.Next moment))
next_quiet v moment =
    let m = moment_for v.past moment in
    due_quiet v.setting m (due_in v.setting.max_receives (queue_of v.setting.queue v.past) m) (next_entries (next_for v.setting.queue v.past 0 m) m) (begun_quiet (next_for v.setting.queue v.past 0 m) m)

quiet_rest : (es : List Entry) → AreQuiet es → AreQuiet (drop 1 es)
quiet_rest [] quiet = quiet
quiet_rest (e ∷ es) quiet = All-tail (λ (x : Entry). is_coming x ≡ false) e es quiet

came_late : (s : RedriveSetting) (k : ℕ) (items : List Message) (m : ℕ) → AreQuiet (drop 1 (came_from s k items m))
came_late s k [] m = All-nil (λ (x : Entry). is_coming x ≡ false)
came_late s k (x ∷ xs) m = gave_quiet None (known_from s k (x ∷ xs)) Exhausted m (gave_entries None (dropped_from s k (x ∷ xs)) Filtered m) (gave_alone None (dropped_from s k (x ∷ xs)) Filtered m)

-- after the first of them none does
pub late_quiet : (v : RedriveView) (asked : RedriveCall) → AreQuiet (drop 1 (entries_by v asked))
late_quiet v (call.Came items moment) = came_late v.setting (length v.setting.queue.messages) items.items (moment_for v.past moment)
late_quiet v (call.Shut moment) = All-nil (λ (x : Entry). is_coming x ≡ false)
late_quiet v (call.Next moment) = quiet_rest (entries_by v (call.Next moment)) (next_quiet v moment)
late_quiet v (call.Done job reply moment) = gave_alone (Some (queue_lane 0)) (ended_places v.setting v.past reply (moment_for v.past moment)) Succeeded (moment_for v.past moment)

passed : (xs ys : List Message) → drop (length xs) (xs ++ ys) ≡ ys
passed [] ys = refl
passed (x ∷ xs) ys = passed xs ys

came_brings : (s : RedriveSetting) (old items : List Message) (m : ℕ) → messages_told (told_entries (old ++ items) (came_from s (length old) items m)) ≡ items
came_brings s old [] m = refl
came_brings s old (x ∷ xs) m =
    let items = x ∷ xs in
    let part : take (length items) (drop (length old) (old ++ items)) ≡ items = ap (take (length items)) (passed old items) ∙ take_all (length items) items (omega arith) in
    ap₂ (λ (a b : List Message). a ++ b) part (none_told (old ++ items) (drop 1 (came_from s (length old) items m)) (came_late s (length old) items m)) ∙ append-nil items

ended_quiet : (v : RedriveView) (asked : RedriveCall) → AreQuiet (entries_by v asked) → coming_by asked ≡ [] → messages_told (told_entries (messages_by v asked) (entries_by v asked)) ≡ coming_by asked
ended_quiet v asked quiet none = none_told (messages_by v asked) (entries_by v asked) quiet ∙ sym none

-- the entries bring the messages that come with the call
pub all_brought : (v : RedriveView) (asked : RedriveCall) → messages_told (told_entries (messages_by v asked) (entries_by v asked)) ≡ coming_by asked
all_brought v (call.Came items moment) = came_brings v.setting v.setting.queue.messages items.items (moment_for v.past moment)
all_brought v (call.Shut moment) = refl
all_brought v (call.Next moment) = ended_quiet v (call.Next moment) (next_quiet v moment) refl
all_brought v (call.Done job reply moment) =
    let m = moment_for v.past moment in
    ended_quiet v (call.Done job reply moment)
    (All-cons (λ (x : Entry). is_coming x ≡ false) (Ended (queue_lane 0) reply m) (gave_entries (Some (queue_lane 0)) (ended_places v.setting v.past reply m) Succeeded m) refl (gave_alone (Some (queue_lane 0)) (ended_places v.setting v.past reply m) Succeeded m))
    refl

-- of some entries the last ones

quiet_back : (front rest : List Entry) → AreQuiet (front ++ rest) → AreQuiet rest
quiet_back [] rest quiet = quiet
quiet_back (e ∷ front) rest quiet = quiet_back front rest (All-tail (λ (x : Entry). is_coming x ≡ false) e (front ++ rest) quiet)

pub rest_quiet : (front rest es : List Entry) → front ++ rest ≡ es → AreQuiet (drop 1 es) → comes_first rest ≡ false → AreQuiet rest
rest_quiet [] [] es split late first = All-nil (λ (x : Entry). is_coming x ≡ false)
rest_quiet [] (e ∷ rest) es split late first = All-cons (λ (x : Entry). is_coming x ≡ false) e rest first (subst (λ (xs : List Entry). AreQuiet (drop 1 xs)) (sym split) late)
rest_quiet (f ∷ front) rest es split late first = quiet_back front rest (subst (λ (xs : List Entry). AreQuiet (drop 1 xs)) (sym split) late)

-- an entry that has a payload, or a line, brings no messages

pub payload_first : (messages : List Message) (rest : List Entry) → 0 < length (written_of payload_in (take 1 (redrive_entries messages rest))) → comes_first rest ≡ false
payload_first messages [] some = refl
payload_first messages (Came shard first count m ∷ rest) some = absurd (omega (arith, some))
payload_first messages (Began lane places closing m ∷ rest) some = refl
payload_first messages (Ended lane reply m ∷ rest) some = refl
payload_first messages (Gave by shard places f line state m ∷ rest) some = refl
payload_first messages (Tried lane places closing tries m ∷ rest) some = refl
payload_first messages (Closed lane window m ∷ rest) some = refl
payload_first messages (Replayed shard places m ∷ rest) some = refl
payload_first messages (Shut m ∷ rest) some = refl

pub line_first : (messages : List Message) (rest : List Entry) → 0 < length (written_of line_in (take 1 (redrive_entries messages rest))) → comes_first rest ≡ false
line_first messages [] some = refl
line_first messages (Came shard first count m ∷ rest) some = absurd (omega (arith, some))
line_first messages (Began lane places closing m ∷ rest) some = refl
line_first messages (Ended lane reply m ∷ rest) some = refl
line_first messages (Gave by shard places f line state m ∷ rest) some = refl
line_first messages (Tried lane places closing tries m ∷ rest) some = refl
line_first messages (Closed lane window m ∷ rest) some = refl
line_first messages (Replayed shard places m ∷ rest) some = refl
line_first messages (Shut m ∷ rest) some = refl

-- lines

-- none of the entries has a line
abbrev pub HaveNoLine : List Message → List Entry → Type 0
HaveNoLine messages es = written_of line_in (redrive_entries messages es) ≡ []

gave_no_line : (messages : List Message) (by : Option LaneId) (places : List ℕ) (f : Fate) (m : ℕ) (es : List Entry) → HaveNoLine messages es → HaveNoLine messages (gave_entries by places f m ++ es)
gave_no_line messages by [] f m es none = none
gave_no_line messages by (i ∷ places) f m es none = none

gave_alone_no_line : (messages : List Message) (by : Option LaneId) (places : List ℕ) (f : Fate) (m : ℕ) → HaveNoLine messages (gave_entries by places f m)
gave_alone_no_line messages by [] f m = refl
gave_alone_no_line messages by (i ∷ places) f m = refl

came_no_line : (messages : List Message) (s : RedriveSetting) (k : ℕ) (items : List Message) (m : ℕ) → HaveNoLine messages (came_from s k items m)
came_no_line messages s k [] m = refl
came_no_line messages s k (x ∷ xs) m = gave_no_line messages None (known_from s k (x ∷ xs)) Exhausted m (gave_entries None (dropped_from s k (x ∷ xs)) Filtered m) (gave_alone_no_line messages None (dropped_from s k (x ∷ xs)) Filtered m)

-- a call other than a batcher's asks for no line
abbrev pub IsSilent : RedriveCall → Type 0
IsSilent (call.Next moment) = ⊥
IsSilent _ = Unit {0}

pub silent_no_line : (messages : List Message) (v : RedriveView) (asked : RedriveCall) → IsSilent asked → HaveNoLine messages (entries_by v asked)
silent_no_line messages v (call.Came items moment) is = came_no_line messages v.setting (length v.setting.queue.messages) items.items (moment_for v.past moment)
silent_no_line messages v (call.Shut moment) is = refl
silent_no_line messages v (call.Next moment) is = absurd is
silent_no_line messages v (call.Done job reply moment) is = gave_alone_no_line messages (Some (queue_lane 0)) (ended_places v.setting v.past reply (moment_for v.past moment)) Succeeded (moment_for v.past moment)
