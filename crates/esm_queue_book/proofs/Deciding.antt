-- What each call decides, in one form: which messages come, which entries are added, and that they stand as they are to.
use Rattle.std.proofs.Common.{◌≡◌, ℕ, suc, ◌+◌, Bool, true, false, cond, List, [], ◌∷◌, ◌++◌, length, take, drop, reverse, refl, sym, ap, ap₂, ◌∙◌, subst, arith, append-nil, Option, Some, None}
use Rattle.std.specs.Prelude.{slice_get, nat_le}
use Rattle.std.specs.List.{All}
use Rattle.std.proofs.lemmas.List.{take_all}
use Rattle.std.proofs.lemmas.List.Elements.{All-nil, All-cons}
use Rattle.std.proofs.lemmas.Option.{slice_get_within}
use Rattle.std.proofs.Math.Seq.{drop-append_seam}
use Rattle.esm_model.specs.declared.config.Kind.{Kind}
use Rattle.esm_model.specs.declared.item.Message.{Message}
use Rattle.esm_model.specs.declared.lane.LaneId.{LaneId}
use Rattle.esm_model.specs.declared.book.Change.{Change}
use Rattle.esm_model.specs.declared.book.Next.{Next}
use Rattle.esm_model.specs.declared.book.Next.TheVariants as next
use Rattle.esm_model.specs.declared.entry.Fate.{Fate}
use Rattle.esm_model.specs.declared.entry.Fate.TheVariants.{Succeeded, Filtered}
use Rattle.esm_model.specs.declared.entry.Reply.{Reply}
use Rattle.esm_model.specs.declared.entry.Entry.{Entry}
use Rattle.esm_model.specs.declared.entry.Entry.TheVariants.{Came, Ended}
use Rattle.esm_model.specs.ValidMessage.{IsValidMessage}
use Rattle.esm_queue_model.specs.QueueSetting.{QueueSetting, over_messages}
use Rattle.esm_model.specs.Entries.{is_shut, calls_begun}
use Rattle.esm_model.specs.Moment.{moment_after}
use Rattle.esm_queue_model.specs.QueueBatch.{queue_batch, is_queue_ready}
use Rattle.esm_queue_model.specs.QueueEntries.{queue_lane}
use Rattle.esm_queue_model.specs.QueueStep.{LegalQueue}
use Rattle.esm_queue_model.specs.QueueBooks.{messages_told, IsOfQueue}
use Rattle.esm_queue_core.specs.declared.decisions.QueueEntry.{QueueEntry}
use Rattle.esm_queue_core.specs.declared.decisions.QueueCall.{QueueCall}
use Rattle.esm_queue_core.specs.declared.decisions.QueueCall.TheVariants as call
use Rattle.esm_queue_core.specs.declared.decisions.QueueAnswer.{QueueAnswer}
use Rattle.esm_queue_core.specs.declared.decisions.QueueAnswer.TheVariants as answer
use Rattle.esm_queue_core.specs.CoreView.{CoreView, moment_for, LegalAhead, SettledAhead, IsRunningJob, owing, forgotten}
use Rattle.esm_queue_core.specs.Coming.{gave_entries, refused_from, came_from, came_entries, IsFirstChange}
use Rattle.esm_queue_core.specs.Ending.{ended_places, ended_entries}
use Rattle.esm_queue_core.specs.Next.{job_of, is_all_deleted, pause_end, next_batch, next_allowed, next_for, next_entries}
use Rattle.esm_queue_core.specs.Told.{queue_entries, history_of, told_entries, MayAsk, MayCome, Adds, Decides, Refuses}
use Rattle.esm_model.proofs.Steps.{same_lane-refl}
use Rattle.esm_queue_core.proofs.Tellings.{told_coming}
use Rattle.esm_queue_book.specs.Books.{payloads_in}
use Rattle.esm_queue_book.specs.Calls.{RunsCall}
use Rattle.esm_queue_book.specs.Carried.{coming_by, messages_after, entries_by, IsAnswer}
use Rattle.esm_queue_book.proofs.Staying.{all_came}

-- these entries are decided, over these messages, of which the last are coming: the first entry brings them, and nothing is
-- written of it
pub record DecidedSo (v : CoreView) (coming messages : List Message) (es : List Entry) : Type 0 where
  pub all : messages ≡ v.setting.messages ++ coming
  pub legal : LegalAhead (owing v coming es)
  pub settled : SettledAhead (owing v coming es)
  pub brings : messages_told (told_entries messages es) ≡ coming
  pub only_first : messages_told (told_entries messages (drop 1 es)) ≡ []
  pub first_unwritten : payloads_in messages (take 1 es) ≡ []
  pub of_queue : All (IsOfQueue v.setting.config.kind) (told_entries messages es)

-- deletions

silent_gave : (messages : List Message) (by : Option LaneId) (places : List ℕ) (fate : Fate) (m : ℕ) → messages_told (told_entries messages (gave_entries by places fate m)) ≡ []
silent_gave messages by [] fate m = refl
silent_gave messages by (i ∷ places) fate m = refl

gave_of_queue : (kind : Kind) (messages : List Message) (by : Option LaneId) (places : List ℕ) (fate : Fate) (m : ℕ) → All (IsOfQueue kind) (told_entries messages (gave_entries by places fate m))
gave_of_queue kind messages by [] fate m = All-nil (IsOfQueue kind)
gave_of_queue kind messages by (i ∷ places) fate m = All-cons (IsOfQueue kind) _ [] (record { messages = refl; no_records = refl }) (All-nil (IsOfQueue kind))

-- messages come

came_covers : (old xs : List Message) → take (length xs) (drop (length old) (old ++ xs)) ≡ xs
came_covers old xs = ap (take (length xs)) (drop-append_seam old xs) ∙ take_all (length xs) xs (omega arith)

came_so : (v : CoreView) (items : List Message) (m : ℕ) → MayCome v items → LegalAhead (owing v items (came_from v.setting (length v.setting.messages) items m)) → SettledAhead (owing v items (came_from v.setting (length v.setting.messages) items m))
    → DecidedSo v items (v.setting.messages ++ items) (came_from v.setting (length v.setting.messages) items m)
came_so v [] m may legal settled = record {
  all = refl;
  legal = legal;
  settled = settled;
  brings = refl;
  only_first = refl;
  first_unwritten = refl;
  of_queue = All-nil (IsOfQueue v.setting.config.kind);
}
came_so v (x ∷ xs) m may legal settled =
    let old = v.setting.messages in
    let kind = v.setting.config.kind in
    let covers = came_covers old (x ∷ xs) in
    let places = refused_from v.setting (length old) (x ∷ xs) in
    let silent = silent_gave (old ++ x ∷ xs) None places Filtered m in
    record {
      all = refl;
      legal = legal;
      settled = settled;
      brings = ap₂ (λ (ms more : List Message). ms ++ more) covers silent ∙ append-nil (x ∷ xs);
      only_first = silent;
      first_unwritten = refl;
      of_queue = All-cons (IsOfQueue kind) _ (told_entries (old ++ x ∷ xs) (gave_entries None places Filtered m))
          (record {
            messages = record {
              queue = refl;
              number = ap (λ (ms : List Message). length ms) covers;
              valid = subst (All (IsValidMessage kind)) (sym covers) may.valid;
            };
            no_records = refl;
          })
          (gave_of_queue kind (old ++ x ∷ xs) None places Filtered m);
    }

-- a call begins

next_so : (v : CoreView) (n : Next) (m : ℕ) → LegalAhead (owing v [] (next_entries n m)) → SettledAhead (owing v [] (next_entries n m)) → DecidedSo v [] v.setting.messages (next_entries n m)
next_so v (next.Call job) m legal settled = record {
  all = sym (append-nil v.setting.messages);
  legal = legal;
  settled = settled;
  brings = refl;
  only_first = refl;
  first_unwritten = refl;
  of_queue = All-cons (IsOfQueue v.setting.config.kind) _ [] (record { messages = refl; no_records = refl }) (All-nil (IsOfQueue v.setting.config.kind));
}
next_so v (next.Gave count) m legal settled = record { all = sym (append-nil v.setting.messages); legal = legal; settled = settled; brings = refl; only_first = refl; first_unwritten = refl; of_queue = All-nil (IsOfQueue v.setting.config.kind) }
next_so v (next.Idle until) m legal settled = record { all = sym (append-nil v.setting.messages); legal = legal; settled = settled; brings = refl; only_first = refl; first_unwritten = refl; of_queue = All-nil (IsOfQueue v.setting.config.kind) }
next_so v next.Spent m legal settled = record { all = sym (append-nil v.setting.messages); legal = legal; settled = settled; brings = refl; only_first = refl; first_unwritten = refl; of_queue = All-nil (IsOfQueue v.setting.config.kind) }
next_so v next.Finished m legal settled = record { all = sym (append-nil v.setting.messages); legal = legal; settled = settled; brings = refl; only_first = refl; first_unwritten = refl; of_queue = All-nil (IsOfQueue v.setting.config.kind) }

-- a call ends

ended_so : (v : CoreView) (lane : LaneId) (reply : Reply) (places : List ℕ) (m : ℕ) → LegalAhead (owing v [] (Ended lane reply m ∷ gave_entries (Some lane) places Succeeded m)) → SettledAhead (owing v [] (Ended lane reply m ∷ gave_entries (Some lane) places Succeeded m))
    → DecidedSo v [] v.setting.messages (Ended lane reply m ∷ gave_entries (Some lane) places Succeeded m)
ended_so v lane reply places m legal settled =
    let kind = v.setting.config.kind in
    let messages = v.setting.messages in
    record {
      all = sym (append-nil messages);
      legal = legal;
      settled = settled;
      brings = silent_gave messages (Some lane) places Succeeded m;
      only_first = silent_gave messages (Some lane) places Succeeded m;
      first_unwritten = refl;
      of_queue = All-cons (IsOfQueue kind) _ (told_entries messages (gave_entries (Some lane) places Succeeded m)) (record { messages = refl; no_records = refl }) (gave_of_queue kind messages (Some lane) places Succeeded m);
    }

-- every call

pub record HasDecided (v : CoreView) (asked : QueueCall) (given : QueueAnswer) (entries : List QueueEntry) : Type 0 where
  pub entries_are : entries ≡ queue_entries (messages_after v asked) (entries_by v asked)
  pub answer_is : IsAnswer v asked given
  pub so : DecidedSo v (coming_by asked) (messages_after v asked) (entries_by v asked)

over_none : (v : CoreView) (es : List Entry) (entries : List QueueEntry) → entries ≡ queue_entries (v.setting.messages ++ []) es → entries ≡ queue_entries v.setting.messages es
over_none v es entries is = is ∙ ap (λ (ms : List Message). queue_entries ms es) (append-nil v.setting.messages)

pub decided_so : (v : CoreView) (asked : QueueCall) (given : QueueAnswer) (entries : List QueueEntry) → MayAsk v asked → Decides v asked given entries → HasDecided v asked given entries
decided_so v (call.Came items moment) answer.Taken entries may d = record {
  entries_are = d.entries_are;
  answer_is = tt;
  so = came_so v items.items (moment_for v.past moment) may d.legal d.settled;
}
decided_so v (call.Came items moment) (answer.Next n) entries may d = absurd d
decided_so v (call.Came items moment) (answer.Deleted count) entries may d = absurd d
decided_so v (call.Shut moment) given entries may d = absurd d
decided_so v (call.Next batcher moment) (answer.Next n) entries may d =
    let m = moment_for v.past moment in
    let adds : Adds v [] (next_entries (next_for v.setting v.past batcher m) m) entries = subst (λ (x : Next). Adds v [] (next_entries x m) entries) d.0 d.1 in
    record {
      entries_are = over_none v (next_entries (next_for v.setting v.past batcher m) m) entries adds.entries_are;
      answer_is = d.0;
      so = next_so v (next_for v.setting v.past batcher m) m adds.legal adds.settled;
    }
decided_so v (call.Next batcher moment) answer.Taken entries may d = absurd d
decided_so v (call.Next batcher moment) (answer.Deleted count) entries may d = absurd d
decided_so v (call.Done job reply moment) (answer.Deleted count) entries may d =
    let m = moment_for v.past moment in
    record {
      entries_are = over_none v (ended_entries v.setting v.past job.lane reply m) entries d.1.entries_are;
      answer_is = d.0;
      so = ended_so v job.lane reply (ended_places v.setting v.past job.lane reply m) m d.1.legal d.1.settled;
    }
decided_so v (call.Done job reply moment) answer.Taken entries may d = absurd d
decided_so v (call.Done job reply moment) (answer.Next n) entries may d = absurd d

-- what was told before it is told so over the messages that come

forgotten_again : (v : CoreView) → v.coming ≡ [] → v.owed ≡ [] → forgotten v ≡ v
forgotten_again v none settled = ap₂ (λ (ms : List Message) (es : List Entry). record v { coming = ms; owed = es }) (sym none) (sym settled)

pub told_before : (v : CoreView) (asked : QueueCall) → v.coming ≡ [] → v.owed ≡ [] → LegalAhead (owing v (coming_by asked) (entries_by v asked)) → queue_entries (messages_after v asked) v.past ≡ history_of v
told_before v (call.Came items moment) none settled legal =
    told_coming v (owing v items.items (came_entries v items.items moment)) items.items moment refl (forgotten_again v none settled) legal
told_before v (call.Shut moment) none settled legal = ap (λ (ms : List Message). queue_entries ms v.past) (sym (all_came v none))
told_before v (call.Next batcher moment) none settled legal = ap (λ (ms : List Message). queue_entries ms v.past) (sym (all_came v none))
told_before v (call.Done job reply moment) none settled legal = ap (λ (ms : List Message). queue_entries ms v.past) (sym (all_came v none))

-- what was taken had not changed

first_legal : (s : QueueSetting) (e : Entry) (places : List ℕ) (m : ℕ) (h : List Entry) → LegalQueue s (reverse (e ∷ gave_entries None places Filtered m) ++ h) → LegalQueue s (e ∷ h)
first_legal s e [] m h legal = legal
first_legal s e (i ∷ places) m h legal = legal.0

later_at : (old xs : List Message) (i : ℕ) → slice_get (old ++ xs) (length old + i) ≡ slice_get xs i
later_at [] xs i = (let e : 0 + i ≡ i = omega arith in ap (slice_get xs) e)
later_at (x ∷ old) xs i =
    let e : suc (length old) + i ≡ suc (length old + i) = omega arith in
    ap (slice_get (x ∷ (old ++ xs))) e ∙ later_at old xs i

not_changed : (v : CoreView) (items : List Message) (m : ℕ) (change : Change) → LegalAhead (owing v items (came_from v.setting (length v.setting.messages) items m)) → IsFirstChange v items change → ⊥
not_changed v [] m change legal first = absurd (cc (first.at))
not_changed v (x ∷ xs) m change legal first =
    let old = v.setting.messages in
    let s = over_messages v.setting (old ++ x ∷ xs) in
    let whole = first_legal s (Came 0 (length old) (length (x ∷ xs)) m) (refused_from v.setting (length old) (x ∷ xs)) m v.past (legal (old ++ x ∷ xs) (λ i y at. at)) in
    let within = slice_get_within (x ∷ xs) first.position first.message first.at in
    first.change_is.differs (whole.1.1.kept (length old + first.position) first.change_is.found first.message (omega arith) (omega arith) (later_at old (x ∷ xs) first.position ∙ first.at) first.change_is.deletion)

pub no_change : (v : CoreView) (asked : QueueCall) (change : Change) → LegalAhead (owing v (coming_by asked) (entries_by v asked)) → Refuses v asked change → ⊥
no_change v (call.Came items moment) change legal refuses = not_changed v items.items (moment_for v.past moment) change legal refuses
no_change v (call.Shut moment) change legal refuses = refuses
no_change v (call.Next batcher moment) change legal refuses = refuses
no_change v (call.Done job reply moment) change legal refuses = refuses

-- a call that begins runs

abbrev pub IsOfLane : ℕ → Next → Type 0
IsOfLane k (next.Call job) = job.lane ≡ queue_lane k
IsOfLane k _ = Unit {0}

either_of : (k : ℕ) (b : Bool) (one other : Next) → IsOfLane k one → IsOfLane k other → IsOfLane k (cond b one other)
either_of k true one other i j = i
either_of k false one other i j = j

batch_of_lane : (s : QueueSetting) (h : List Entry) (k m : ℕ) (batch : List ℕ) → IsOfLane k (next_batch s h k m batch)
batch_of_lane s h k m [] = tt
batch_of_lane s h k m (i ∷ places) = either_of k (is_queue_ready s h m) (next.Call (job_of s h k (i ∷ places) m)) (next.Idle (pause_end s h m (i ∷ places))) refl tt

of_lane : (s : QueueSetting) (h : List Entry) (k m : ℕ) → IsOfLane k (next_for s h k m)
of_lane s h k m =
    either_of k (is_all_deleted s h) (cond (is_shut h) next.Finished (next.Idle (moment_after m 20))) (next_allowed s h k m)
    (either_of k (is_shut h) next.Finished (next.Idle (moment_after m 20)) tt tt)
    (either_of k (nat_le s.calls (calls_begun h)) next.Spent (next_batch s h k m (queue_batch s h m)) tt (batch_of_lane s h k m (queue_batch s h m)))

runs_of : (k : ℕ) (h now : List Entry) (n : Next) (m : ℕ) → now ≡ reverse (next_entries n m) ++ h → IsOfLane k n → RunsCall k now n
runs_of k h now (next.Call job) m is own =
    (own, subst (λ (past : List Entry). IsRunningJob past job) (sym is) (record { runs = rw (same_lane-refl job.lane) refl; places = rw (same_lane-refl job.lane) refl }))
runs_of k h now (next.Gave count) m is own = tt
runs_of k h now (next.Idle until) m is own = tt
runs_of k h now next.Spent m is own = tt
runs_of k h now next.Finished m is own = tt

pub runs_call : (s : QueueSetting) (h now : List Entry) (k m : ℕ) (n : Next) → n ≡ next_for s h k m → now ≡ reverse (next_entries (next_for s h k m) m) ++ h → RunsCall k now n
runs_call s h now k m n given is =
    subst (RunsCall k now) (sym given) (runs_of k h now (next_for s h k m) m is (of_lane s h k m))
