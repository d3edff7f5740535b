-- A queue's history that is legal for threads is legal by its entries, and back.
use Rattle.std.proofs.Common.{◌≡◌, ℕ, zero, suc, ◌+◌, ◌<◌, ◌≤◌, Bool, true, false, cond, List, [], ◌∷◌, ◌++◌, length, map, refl, sym, ap, ap₂, ◌∙◌, subst, inl, inr, arith, append_assoc, length-append, Option, Some, None}
use Rattle.std.specs.Prelude.{◌==◌, slice_get, reverse, not}
use Rattle.std.specs.List.{All}
use Rattle.std.proofs.lemmas.List.{append-nil, map-append, reverse-append, take_all}
use Rattle.std.proofs.lemmas.List.Elements.{All-append}
use Rattle.std.proofs.lemmas.Bool.{cases_Bool}
use Rattle.std.proofs.lemmas.Option.{none-some}
use Rattle.esm_model.specs.declared.config.Kind.{Kind}
use Rattle.esm_model.specs.declared.item.Message.{Message}
use Rattle.esm_model.specs.declared.lane.LaneId.{LaneId}
use Rattle.esm_model.specs.declared.entry.Fate.{Fate}
use Rattle.esm_model.specs.declared.entry.Fate.TheVariants.{Succeeded, Filtered, Expired, Exhausted}
use Rattle.esm_model.specs.declared.entry.WindowState.{WindowState}
use Rattle.esm_model.specs.declared.entry.Entry.{Entry}
use Rattle.esm_model.specs.declared.entry.Entry.TheVariants.{Came, Began, Ended, Gave, Tried, Closed, Replayed, Shut}
use Rattle.esm_model.specs.declared.called.Called.{Called}
use Rattle.esm_model.specs.declared.setup.Told.{Told}
use Rattle.esm_model.specs.declared.setup.Setup.{Setup}
use Rattle.esm_model.specs.declared.verdict.QueueReading.{QueueReading}
use Rattle.esm_model.specs.declared.verdict.QueueReading.TheVariants.{NotRun, Failed, Done}
use Rattle.esm_model.specs.Lane.{same_lane}
use Rattle.esm_model.specs.Entries.{holds, came_count, last_call, batch_of}
use Rattle.esm_model.specs.Fates.{below}
use Rattle.esm_model.specs.QueueReading.{queue_reading}
use Rattle.esm_model.specs.Kept.{MayFollowAll, IsLegal}
use Rattle.esm_model.specs.Books.{entries_told, HaveCome, NamesCame}
use Rattle.esm_queue_model.specs.Queue.{QueueState}
use Rattle.esm_queue_model.specs.QueueSetting.{QueueSetting, ids_at, ExtendsMessages, over_messages}
use Rattle.esm_queue_model.specs.QueueEntries.{queue_count, is_deleted}
use Rattle.esm_queue_model.specs.QueueBatch.{queue_event, last_queue_event, queue_calls_after, queue_calls, queue_calls_since}
use Rattle.esm_queue_model.specs.QueueStep.{is_unsorted_message, not_failed, succeeded_by, succeeded_places, MayGiveQueue, LegalQueue}
use Rattle.esm_queue_model.specs.QueueBooks.{messages_with, messages_told, queue_setting_told, MessagesStandWith, IsOfQueue, TellsQueue, queue_may_follow}
use Rattle.esm_queue_model.specs.HistoryLaws.{QueueCallsKept, QueueCallsKeptOver}
use Rattle.esm_queue_model.proofs.Places.{In, In-here, In-there, In-cases, In-none, In-filter, In-below}
use Rattle.esm_queue_model.proofs.QueueHistories.{legal_before}
use Rattle.esm_queue_model.proofs.MoreMessages.{Alike, count_grows, count_within, called_came, batch_came, same_queue, follows_over, extends_front}

abbrev entry_told : Told → Entry
entry_told t = t.entry

-- the entries of more come before those of less
entries-append : (history more : List Told) → entries_told (history ++ more) ≡ entries_told more ++ entries_told history
entries-append history more = ap reverse (map-append entry_told history more) ∙ reverse-append (map entry_told history) (map entry_told more)

entries_more : (history : List Told) (t : Told) → entries_told (history ++ t ∷ []) ≡ t.entry ∷ entries_told history
entries_more history t = entries-append history (t ∷ [])

messages-append : (history more : List Told) → messages_told (history ++ more) ≡ messages_told history ++ messages_told more
messages-append [] more = refl
messages-append (t ∷ history) more =
    ap (λ ms. messages_with t.messages t.entry ++ ms) (messages-append history more)
    ∙ sym (append_assoc (messages_with t.messages t.entry) (messages_told history) (messages_told more))

get_first : (xs ys : List Message) (i : ℕ) (m : Message) → slice_get xs i ≡ Some m → slice_get (xs ++ ys) i ≡ Some m
get_first [] ys i m at = absurd (none-some m at)
get_first (x ∷ xs) ys zero m at = at
get_first (x ∷ xs) ys (suc i) m at = get_first xs ys i m at

told_extends : (history more : List Told) → ExtendsMessages (messages_told history) (messages_told (history ++ more))
told_extends history more i m at = ap (λ ms. slice_get ms i) (messages-append history more) ∙ get_first (messages_told history) (messages_told more) i m at

extends_then : (a b c : List Message) → ExtendsMessages a b → ExtendsMessages b c → ExtendsMessages a c
extends_then a b c first second i m at = second i m (first i m at)

-- from threads to entries

-- its entries are legal over all lists that go on from its messages
abbrev LegalOn : Setup → List Told → Type 0
LegalOn setup history = (messages : List Message) → ExtendsMessages (messages_told history) messages → LegalQueue (over_messages (queue_setting_told setup history) messages) (entries_told history)

legal_after : (setup : Setup) (history more : List Told) → LegalOn setup history → MayFollowAll (queue_may_follow setup) history more → LegalOn setup (history ++ more)
legal_after setup history [] legal may = subst (LegalOn setup) (sym (append-nil history)) legal
legal_after setup history (t ∷ more) legal may = subst (LegalOn setup) (append_assoc history (t ∷ []) more) (legal_after setup (history ++ t ∷ []) more one_more may.1)
  where
    one_more : LegalOn setup (history ++ t ∷ [])
    one_more messages goes =
        subst (LegalQueue (over_messages (queue_setting_told setup history) messages)) (sym (entries_more history t))
        (legal messages (extends_then (messages_told history) (messages_told (history ++ t ∷ [])) messages (told_extends history (t ∷ [])) goes), (may.0.later, may.0.row messages goes))

pub kept_legal : (setup : Setup) (history : List Told) (messages : List Message) → IsLegal (queue_may_follow setup) history → ExtendsMessages (messages_told history) messages → LegalQueue (over_messages (queue_setting_told setup history) messages) (entries_told history)
kept_legal setup history messages kept goes = legal_after setup [] history (λ messages goes. tt) kept messages goes

-- the messages that came are those told

count-append : (later before : List Entry) → queue_count (later ++ before) ≡ queue_count later + queue_count before
count-append [] before = omega arith
count-append (Came k first count m ∷ later) before =
    let rest : queue_count (later ++ before) ≡ queue_count later + queue_count before = count-append later before in
    elim (cases_Bool (k == 0)) [ inl is ↦ rw is (omega (arith, rest)) | inr other ↦ rw other rest ]
count-append (Began lane places closing m ∷ later) before = count-append later before
count-append (Ended lane reply m ∷ later) before = count-append later before
count-append (Gave by k places f line state m ∷ later) before = count-append later before
count-append (Tried lane places closing t m ∷ later) before = count-append later before
count-append (Closed lane w m ∷ later) before = count-append later before
count-append (Replayed k places m ∷ later) before = count-append later before
count-append (Shut m ∷ later) before = count-append later before

count_one : (kind : Kind) (e : Entry) (ms : List Message) → MessagesStandWith kind e ms → queue_count (e ∷ []) ≡ length (messages_with ms e)
count_one kind (Came k first count m) ms stand = rw stand.queue (omega (arith, stand.number))
count_one kind (Began lane places closing m) ms stand = refl
count_one kind (Ended lane reply m) ms stand = refl
count_one kind (Gave by k places f line state m) ms stand = refl
count_one kind (Tried lane places closing t m) ms stand = refl
count_one kind (Closed lane w m) ms stand = refl
count_one kind (Replayed k places m) ms stand = refl
count_one kind (Shut m) ms stand = refl

first_of_all : (kind : Kind) (t : Told) (ts : List Told) → All (IsOfQueue kind) (t ∷ ts) → IsOfQueue kind t
first_of_all kind t ts all = all 0 t (omega arith)

rest_of_all : (kind : Kind) (t : Told) (ts : List Told) → All (IsOfQueue kind) (t ∷ ts) → All (IsOfQueue kind) ts
rest_of_all kind t ts all k d within = all (suc k) d (omega (arith, within))

count_told : (kind : Kind) (history : List Told) → All (IsOfQueue kind) history → queue_count (entries_told history) ≡ length (messages_told history)
count_told kind [] all = refl
count_told kind (t ∷ history) all =
    let rest : queue_count (entries_told history) ≡ length (messages_told history) = count_told kind history (rest_of_all kind t history all) in
    let one : queue_count (t.entry ∷ []) ≡ length (messages_with t.messages t.entry) = count_one kind t.entry t.messages (first_of_all kind t history all).messages in
    let parts : queue_count (entries_told (t ∷ history)) ≡ queue_count (entries_told history) + queue_count (t.entry ∷ [])
    = ap queue_count (entries-append (t ∷ []) history) ∙ count-append (entries_told history) (t.entry ∷ []) in
    let whole : length (messages_told (t ∷ history)) ≡ length (messages_with t.messages t.entry) + length (messages_told history)
    = length-append (messages_with t.messages t.entry) (messages_told history) in
    omega (arith, rest, one, parts, whole)

-- from entries to threads

alone : (kind : Kind) (t : Told) → IsOfQueue kind t → All (IsOfQueue kind) (t ∷ [])
alone kind t is zero d within = is
alone kind t is (suc k) d within = absurd (omega (arith, within))

-- two lists that go on from the messages told begin alike
told_alike : (s : QueueSetting) (history : List Told) (messages after : List Message) → ExtendsMessages (messages_told history) messages → ExtendsMessages (messages_told history) after → Alike (over_messages s messages) after (length (messages_told history))
told_alike s history messages after one other =
    let a = extends_front (messages_told history) messages one in
    let b = extends_front (messages_told history) after other in
    record { front = a.0 ∙ sym b.0; enough = b.1 }

-- the last entry of a legal history, over each list that goes on from the messages told
may_follow_told : (setup : Setup) (messages : List Message) (seen : List Told) (t : Told) → All (IsOfQueue setup.config.kind) (seen ++ t ∷ []) → IsOfQueue setup.config.kind t → ExtendsMessages (messages_told (seen ++ t ∷ [])) messages → LegalQueue (over_messages (queue_setting_told setup seen) messages) (t.entry ∷ entries_told seen) → TellsQueue setup seen t
may_follow_told setup messages seen t all is goes legal = record {
  of_queue = is;
  later = legal.1.0;
  row = λ after onward.
      let s = queue_setting_told setup seen in
      let n : queue_count (t.entry ∷ entries_told seen) ≡ length (messages_told (seen ++ t ∷ [])) = ap queue_count (sym (entries_more seen t)) ∙ count_told setup.config.kind (seen ++ t ∷ []) all in
      follows_over (over_messages s messages) after (length (messages_told (seen ++ t ∷ []))) (entries_told seen) t.entry (told_alike s (seen ++ t ∷ []) messages after goes onward) (omega arith) legal.0 legal.1.1;
}

follow_all : (setup : Setup) (messages : List Message) (seen more : List Told) → All (IsOfQueue setup.config.kind) seen → All (IsOfQueue setup.config.kind) more → ExtendsMessages (messages_told (seen ++ more)) messages → LegalQueue (over_messages (queue_setting_told setup seen) messages) (entries_told (seen ++ more)) → MayFollowAll (queue_may_follow setup) seen more
follow_all setup messages seen [] before after goes legal = tt
follow_all setup messages seen (t ∷ more) before after goes legal =
    let kind = setup.config.kind in
    let s = over_messages (queue_setting_told setup seen) messages in
    let now = seen ++ t ∷ [] in
    let all : All (IsOfQueue kind) (seen ++ t ∷ []) = All-append (IsOfQueue kind) seen (t ∷ []) before (alone kind t (first_of_all kind t more after)) in
    let regrouped : seen ++ t ∷ more ≡ (seen ++ t ∷ []) ++ more = sym (append_assoc seen (t ∷ []) more) in
    let onward : ExtendsMessages (messages_told ((seen ++ t ∷ []) ++ more)) messages = subst (λ h. ExtendsMessages (messages_told h) messages) regrouped goes in
    let whole : LegalQueue (over_messages (queue_setting_told setup seen) messages) (entries_told ((seen ++ t ∷ []) ++ more)) = subst (λ h. LegalQueue (over_messages (queue_setting_told setup seen) messages) (entries_told h)) regrouped legal in
    let legal_now : LegalQueue (over_messages (queue_setting_told setup seen) messages) (entries_told (seen ++ t ∷ [])) = legal_before s (entries_told more) (entries_told now) (subst (LegalQueue s) (entries-append now more) whole) in (
      may_follow_told setup messages seen t all (first_of_all kind t more after) (extends_then (messages_told now) (messages_told (now ++ more)) messages (told_extends now more) onward) (subst (LegalQueue s) (entries_more seen t) legal_now),
      follow_all setup messages now more all (rest_of_all kind t more after) onward whole,
    )

pub legal_kept : (setup : Setup) (history : List Told) (messages : List Message) → All (IsOfQueue setup.config.kind) history → ExtendsMessages (messages_told history) messages → LegalQueue (over_messages (queue_setting_told setup history) messages) (entries_told history) → IsLegal (queue_may_follow setup) history
legal_kept setup history messages all goes legal = follow_all setup messages [] history (λ k d within. absurd (omega (arith, within))) all goes legal

-- what is legal for threads is told as a queue's

follow_told : (setup : Setup) (seen more : List Told) → MayFollowAll (queue_may_follow setup) seen more → All (IsOfQueue setup.config.kind) more
follow_told setup seen [] may k d within = absurd (omega (arith, within))
follow_told setup seen (t ∷ more) may zero d within = may.0.of_queue
follow_told setup seen (t ∷ more) may (suc k) d within = follow_told setup (seen ++ t ∷ []) more may.1 k d (omega (arith, within))

pub kept_told : (setup : Setup) (history : List Told) → IsLegal (queue_may_follow setup) history → All (IsOfQueue setup.config.kind) history
kept_told setup history kept = follow_told setup [] history kept

-- the messages that an entry names came

not_failed_In : (failed : List ℕ) (k : ℕ) (places : List ℕ) (i : ℕ) → In (not_failed failed k places) i → In places i
not_failed_In failed k [] i member = member
not_failed_In failed k (x ∷ places) i member =
    elim (cases_Bool (holds failed k)) [
      | inl is ↦ In-there x places i (not_failed_In failed (k + 1) places i (rw is at member))
      | inr not' ↦ elim (In-cases x (not_failed failed (k + 1) places) i (rw not' at member)) [
        | inl e ↦ In-here x places i e
        | inr rest ↦ In-there x places i (not_failed_In failed (k + 1) places i rest)
      ]
    ]

succeeded_In : (r : QueueReading) (places : List ℕ) (i : ℕ) → In (succeeded_by r places) i → In places i
succeeded_In NotRun places i member = absurd (In-none i member)
succeeded_In Failed places i member = absurd (In-none i member)
succeeded_In (Done failed) places i member = not_failed_In failed 0 places i member

succeeded_came : (s : QueueSetting) (h : List Entry) (lane : LaneId) → LegalQueue s h → (i : ℕ) → In (succeeded_places s h lane) i → i < queue_count h
succeeded_came s [] lane legal i member = absurd (In-none i member)
succeeded_came s (Ended at reply m ∷ h) lane legal i member =
    elim (cases_Bool (same_lane at lane)) [
      | inl same ↦ (let places = batch_of (last_call h lane) in batch_came s h lane legal.0 i (succeeded_In (queue_reading s.config (ids_at s places) reply) places i (rw same at member)))
      | inr other ↦ succeeded_came s h lane legal.0 i (rw other at member)
    ]
succeeded_came s (Began at places closing m ∷ h) lane legal i member =
    elim (cases_Bool (same_lane at lane)) [ inl same ↦ absurd (In-none i (rw same at member)) | inr other ↦ succeeded_came s h lane legal.0 i (rw other at member) ]
succeeded_came s (Came shard first count m ∷ h) lane legal i member = let low = succeeded_came s h lane legal.0 i member in let grows = count_grows h (Came shard first count m) in omega arith
succeeded_came s (Gave by shard places f line state m ∷ h) lane legal i member = succeeded_came s h lane legal.0 i member
succeeded_came s (Tried at places closing tries m ∷ h) lane legal i member = succeeded_came s h lane legal.0 i member
succeeded_came s (Closed at window m ∷ h) lane legal i member = succeeded_came s h lane legal.0 i member
succeeded_came s (Replayed shard places m ∷ h) lane legal i member = succeeded_came s h lane legal.0 i member
succeeded_came s (Shut m ∷ h) lane legal i member = succeeded_came s h lane legal.0 i member

given_came : (s : QueueSetting) (h : List Entry) (by : Option LaneId) (shard : ℕ) (places : List ℕ) (f : Fate) (line : Option (List ℕ)) (state : Option WindowState) (m : ℕ) → LegalQueue s h → MayGiveQueue s h by shard places f line state m → HaveCome h shard places
given_came s h None shard places Filtered line state m legal may i member =
    subst (λ n. i < came_count h n) (sym may.queue) (In-below (queue_count h) i (In-filter (is_unsorted_message s h) (below (queue_count h)) i (subst (λ ps. In ps i) may.exact member)).0)
given_came s h (Some lane) shard places Succeeded line state m legal may i member =
    subst (λ n. i < came_count h n) (sym may.queue) (succeeded_came s h lane legal i (In-filter (λ j. not (is_deleted s h j)) (succeeded_places s h lane) i (subst (λ ps. In ps i) may.exact member)).0)
given_came s h None shard places Succeeded line state m legal may i member = absurd may
given_came s h None shard places Expired line state m legal may i member = absurd may
given_came s h None shard places Exhausted line state m legal may i member = absurd may
given_came s h (Some lane) shard places Filtered line state m legal may i member = absurd may
given_came s h (Some lane) shard places Expired line state m legal may i member = absurd may
given_came s h (Some lane) shard places Exhausted line state m legal may i member = absurd may

pub named_came : (s : QueueSetting) (h : List Entry) (e : Entry) → LegalQueue s (e ∷ h) → NamesCame h e
named_came s h (Came shard first count m) legal = tt
named_came s h (Began lane places None m) legal = λ i member. subst (λ n. i < came_count h n) (sym legal.1.1.queue) (called_came s h lane places None m i legal.0 legal.1.1 member)
named_came s h (Began lane places (Some window) m) legal = absurd legal.1.1
named_came s h (Ended lane reply m) legal = tt
named_came s h (Gave by shard places f line state m) legal = given_came s h by shard places f line state m legal.0 legal.1.1
named_came s h (Tried lane places closing tries m) legal = absurd legal.1.1
named_came s h (Closed lane window m) legal = tt
named_came s h (Replayed shard places m) legal = absurd legal.1.1
named_came s h (Shut m) legal = tt

-- calls

append_if : (b : Bool) (xs ys zs : List Called) → cond b ((xs ++ ys) ++ zs) (xs ++ ys) ≡ xs ++ cond b (ys ++ zs) ys
append_if true xs ys zs = append_assoc xs ys zs
append_if false xs ys zs = refl

calls_step : (s : QueueSetting) (sends : List ℕ → List ℕ) (h : List Entry) (k : ℕ) (xs ys : List Called) (e : Entry) → queue_calls_after s sends h k (xs ++ ys) e ≡ xs ++ queue_calls_after s sends h k ys e
calls_step s sends h k xs ys (Ended lane reply m) = append_if (lane.lane == k) xs ys (record { name = s.config.function; event = sends (last_queue_event s h lane); reply = reply } ∷ [])
calls_step s sends h k xs ys (Came shard first count m) = refl
calls_step s sends h k xs ys (Began lane places closing m) = refl
calls_step s sends h k xs ys (Gave by shard places f line state m) = refl
calls_step s sends h k xs ys (Tried lane places closing tries m) = refl
calls_step s sends h k xs ys (Closed lane window m) = refl
calls_step s sends h k xs ys (Replayed shard places m) = refl
calls_step s sends h k xs ys (Shut m) = refl

pub calls_kept : (s : QueueSetting) (sends : List ℕ → List ℕ) (later before : List Entry) (k : ℕ) → QueueCallsKept s sends later before k
calls_kept s sends [] before k = sym (append-nil (queue_calls s sends before k))
calls_kept s sends (e ∷ later) before k =
    ap (λ (cs : List Called). queue_calls_after s sends (later ++ before) k cs e) (calls_kept s sends later before k)
    ∙ calls_step s sends (later ++ before) k (queue_calls s sends before k) (queue_calls_since s sends later before k) e

same_event : (s : QueueSetting) (after : List Message) (n : ℕ) (h : List Entry) (lane : LaneId) → Alike s after n → queue_count h ≤ n → LegalQueue s h → last_queue_event (over_messages s after) h lane ≡ last_queue_event s h lane
same_event s after n [] lane alike low legal = refl
same_event s after n (Began at places closing m ∷ h) lane alike low legal =
    ap₂ (λ (q : QueueState) (before : List ℕ). cond (same_lane at lane) (queue_event s q m places) before) (same_queue s after n h alike low legal.0) (same_event s after n h lane alike low legal.0)
same_event s after n (Came shard first count m ∷ h) lane alike low legal = let grows = count_grows h (Came shard first count m) in same_event s after n h lane alike (omega arith) legal.0
same_event s after n (Ended at reply m ∷ h) lane alike low legal = same_event s after n h lane alike low legal.0
same_event s after n (Gave by shard places f line state m ∷ h) lane alike low legal = same_event s after n h lane alike low legal.0
same_event s after n (Tried at places closing tries m ∷ h) lane alike low legal = same_event s after n h lane alike low legal.0
same_event s after n (Closed at window m ∷ h) lane alike low legal = same_event s after n h lane alike low legal.0
same_event s after n (Replayed shard places m ∷ h) lane alike low legal = same_event s after n h lane alike low legal.0
same_event s after n (Shut m ∷ h) lane alike low legal = same_event s after n h lane alike low legal.0

same_calls : (s : QueueSetting) (sends : List ℕ → List ℕ) (after : List Message) (n : ℕ) (h : List Entry) (k : ℕ) → Alike s after n → queue_count h ≤ n → LegalQueue s h → queue_calls (over_messages s after) sends h k ≡ queue_calls s sends h k
same_calls s sends after n [] k alike low legal = refl
same_calls s sends after n (Ended lane reply m ∷ h) k alike low legal =
    ap₂ (λ (cs : List Called) (event : List ℕ). cond (lane.lane == k) (cs ++ record { name = s.config.function; event = sends event; reply = reply } ∷ []) cs)
    (same_calls s sends after n h k alike low legal.0) (same_event s after n h lane alike low legal.0)
same_calls s sends after n (Came shard first count m ∷ h) k alike low legal = let grows = count_grows h (Came shard first count m) in same_calls s sends after n h k alike (omega arith) legal.0
same_calls s sends after n (Began lane places closing m ∷ h) k alike low legal = same_calls s sends after n h k alike low legal.0
same_calls s sends after n (Gave by shard places f line state m ∷ h) k alike low legal = same_calls s sends after n h k alike low legal.0
same_calls s sends after n (Tried at places closing tries m ∷ h) k alike low legal = same_calls s sends after n h k alike low legal.0
same_calls s sends after n (Closed at window m ∷ h) k alike low legal = same_calls s sends after n h k alike low legal.0
same_calls s sends after n (Replayed shard places m ∷ h) k alike low legal = same_calls s sends after n h k alike low legal.0
same_calls s sends after n (Shut m ∷ h) k alike low legal = same_calls s sends after n h k alike low legal.0

pub calls_kept_over : (s : QueueSetting) (sends : List ℕ → List ℕ) (h : List Entry) (k : ℕ) (after : List Message) → ExtendsMessages s.messages after → LegalQueue s h → QueueCallsKeptOver s sends h k after
calls_kept_over s sends h k after goes legal =
    let front = extends_front s.messages after goes in
    let n = length s.messages in
    let alike : Alike s after n = record { front = take_all n s.messages (omega arith) ∙ sym front.0; enough = front.1 } in
    same_calls s sends after n h k alike (count_within s h legal) legal
