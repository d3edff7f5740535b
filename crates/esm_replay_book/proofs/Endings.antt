-- How a call that was carried out ends.
use Rattle.std.proofs.Common.{◌≡◌, ℕ, ◌+◌, ◌<◌, false, List, [], ◌∷◌, ◌++◌, length, take, reverse, refl, sym, ap, ap₂, ◌∙◌, subst, arith, append-nil, length-append, Option, Some, None}
use Rattle.std.specs.List.{All, cons_option}
use Rattle.esm_io.specs.Faults.{Rose}
use Rattle.esm_io.specs.Meanings.{DiskMeaning, DestMeaning}
use Rattle.esm_journal.specs.Pair.{PairKeepsWhileUp}
use Rattle.esm_model.specs.Records.{Record}
use Rattle.esm_model.specs.declared.book.Change.{Change}
use Rattle.esm_model.specs.declared.book.Job.{Job}
use Rattle.esm_model.specs.declared.book.Trouble.{Trouble}
use Rattle.esm_model.specs.declared.book.Trouble.TheVariants.{Disk, Changed}
use Rattle.esm_model.specs.declared.entry.Entry.{Entry}
use Rattle.esm_model.specs.declared.entry.Reply.{Reply}
use Rattle.esm_model.specs.Valid.{IsValidRecord}
use Rattle.esm_journal_record.specs.EntryPayload.{entry_payload}
use Rattle.esm_book.specs.declared.nowhere.Nowhere.{Nowhere}
use Rattle.esm_book.specs.Decided.{written_of}
use Rattle.esm_book.specs.Growth.{LeavesFronts}
use Rattle.esm_replay_model.specs.ReplaySetting.{ReplaySetting}
use Rattle.esm_replay_model.specs.Pieces.{succeeded_of}
use Rattle.esm_replay_model.specs.ReplayRun.{call_out, owed_replay, IsReplay}
use Rattle.esm_replay_core.specs.declared.decisions.Opened.{Opened}
use Rattle.esm_replay_core.specs.declared.decisions.ReplayCall.{ReplayCall}
use Rattle.esm_replay_core.specs.declared.decisions.ReplayCall.TheVariants as call
use Rattle.esm_replay_core.specs.declared.decisions.ReplayAnswer.{ReplayAnswer}
use Rattle.esm_replay_core.specs.declared.decisions.ReplayEntry.{ReplayEntry}
use Rattle.esm_replay_core.specs.declared.decisions.ReplayNext.{ReplayNext}
use Rattle.esm_replay_core.specs.Deciding.{next_of, next_entries}
use Rattle.esm_replay_core.specs.View.{ReplayView, setting_of, moment_for, IsJobOut, RunAhead, SaidAhead}
use Rattle.esm_replay.specs.Coming.{first_change}
use Rattle.esm_replay_core.specs.Told.{came_entries, added_entries, owed_of, payload_in, MayAsk, Decides, Refuses}
use Rattle.esm_replay_book.specs.Books.{BookState, payloads_in}
use Rattle.esm_replay_book.specs.Calls.{Added, RunsCall, IsSame}
use Rattle.esm_replay_book.specs.Keeping.{IsUncalled, OwesReplay, IsSound}
use Rattle.esm_replay_book.specs.Carried.{records_after, entries_by, IsDone, CarriedAll, CarriedSome, FoundChange, CarriedNone}
use Rattle.esm_replay_book.proofs.Entries.{records_in, entries_in, records-append, entries-append, records_came, records_added, entries_came, entries_added, owed_records, owed_entries, none_coming, none_owed, records_grow, written_came, written_added, written-append, payloads-append, none_writing, parts_of, take-added}
use Rattle.esm_replay_book.proofs.Deciding.{coming_by, decided_so, records_after_is, unchanged_both, paid_after, unwritten, ended_owes, ended_rests, runs_call}
use Rattle.esm_replay_book.proofs.Going.{replay_meaning, Went, same_setting, added_so, leaves_first}

-- what is told of records that come and of entries that are added
records_of_call : (s : ReplaySetting) (rs : List Record) (es : List Entry) → records_in (came_entries rs ++ added_entries s es) ≡ rs
records_of_call s rs es =
    records-append (came_entries rs) (added_entries s es)
    ∙ (ap₂ (λ (xs ys : List Record). xs ++ ys) (records_came rs) (records_added s es) ∙ append-nil rs)

entries_of_call : (s : ReplaySetting) (rs : List Record) (es : List Entry) → entries_in (came_entries rs ++ added_entries s es) ≡ es
entries_of_call s rs es =
    entries-append (came_entries rs) (added_entries s es)
    ∙ ap₂ (λ (xs ys : List Entry). xs ++ ys) (entries_came rs) (entries_added s es)

written_of_call : (s : ReplaySetting) (rs : List Record) (es : List Entry) → written_of payload_in (came_entries rs ++ added_entries s es) ≡ payloads_in s es
written_of_call s rs es =
    written-append (came_entries rs) (added_entries s es)
    ∙ ap₂ (λ (xs ys : List (List ℕ)). xs ++ ys) (written_came rs) (written_added s es)

-- the entries of a call have the same payloads over the records that came with it
same_payloads : (v w : ReplayView) (asked : ReplayCall) → w.opened ≡ v.opened → w.records ≡ records_after v asked → payloads_in (setting_of v) (entries_by v asked) ≡ payloads_in (setting_of w) (entries_by v asked)
same_payloads v w (call.Came items) opened records = refl
same_payloads v w (call.Next moment) opened records = ap (λ (s : ReplaySetting). payloads_in s (entries_by v (call.Next moment))) (sym (same_setting w v opened records))
same_payloads v w (call.Done job reply moment) opened records = ap (λ (s : ReplaySetting). payloads_in s (entries_by v (call.Done job reply moment))) (sym (same_setting w v opened records))

-- nothing is owed of what succeeded, over the records that came with it
paid_over : (v w : ReplayView) (asked : ReplayCall) → MayAsk v asked → w.opened ≡ v.opened → w.records ≡ records_after v asked → w.past ≡ reverse (entries_by v asked) ++ v.past
    → (owed_replay (setting_of v) v.past).places ≡ [] → (owed_replay (setting_of w) w.past).places ≡ []
paid_over v w (call.Came items) may opened records past paid =
    let none : [] ≡ w.past = sym (past ∙ may.early) in
    subst (λ (h : List Entry). (owed_replay (setting_of w) h).places ≡ []) none refl
paid_over v w (call.Next moment) may opened records past paid =
    subst (λ (h : List Entry). (owed_replay (setting_of w) h).places ≡ []) (sym past)
    (subst (λ (s : ReplaySetting). (owed_replay s (reverse (entries_by v (call.Next moment)) ++ v.past)).places ≡ []) (sym (same_setting w v opened records))
    (paid_after v (call.Next moment) may paid))
paid_over v w (call.Done job reply moment) may opened records past paid =
    subst (λ (h : List Entry). (owed_replay (setting_of w) h).places ≡ []) (sym past)
    (subst (λ (s : ReplaySetting). (owed_replay s (reverse (entries_by v (call.Done job reply moment)) ++ v.past)).places ≡ []) (sym (same_setting w v opened records))
    (paid_after v (call.Done job reply moment) may paid))

-- none of the records that came was kept otherwise
unchanged_after : (v w : ReplayView) (asked : ReplayCall) → w.opened ≡ v.opened → w.records ≡ records_after v asked → first_change v.opened.said [] v.records ≡ None → first_change v.opened.said v.records (coming_by asked) ≡ None
    → first_change w.opened.said [] w.records ≡ None
unchanged_after v w asked opened records one other =
    ap₂ (λ (o : Opened) (rs : List Record). first_change o.said [] rs) opened (records ∙ sym (records_after_is v asked))
    ∙ unchanged_both v.opened.said v.records (coming_by asked) one other

-- of a list that only itself goes on
none_more : {A : Type 0} (xs ys : List A) → xs ++ ys ≡ xs → ys ≡ []
none_more xs [] is = refl
none_more {A} xs (y ∷ ys) is =
    let long : length (xs ++ y ∷ ys) ≡ length xs = ap (λ (zs : List A). length zs) is in
    let both : length (xs ++ y ∷ ys) ≡ length xs + length (y ∷ ys) = length-append xs (y ∷ ys) in
    absurd (omega (arith, long, both))

module _ {D : Type 0} (m : DiskMeaning D) (n : DestMeaning Nowhere) (old new : BookState D) (asked : ReplayCall) (given : ReplayAnswer) (X : List ReplayEntry) where
  -- it is carried out whole
  pub carried_all : IsSound old → old.trouble ≡ None → MayAsk old.core asked → Decides old.core asked given X → Went old new X → IsReplay (setting_of new.core) new.core.past → RunAhead new.core → SaidAhead new.core → All IsValidRecord new.core.records
      → owed_of new.core ≡ [] → new.trouble ≡ None → (X ≡ [] → new.pair ≡ old.pair)
      → LeavesFronts replay_meaning m n old.pair new.pair old.dest new.dest (X ++ []) → PairKeepsWhileUp m new.pair → new.pair.down ≡ false → CarriedAll m old new asked given
  carried_all sound was may decides w run ahead said valid owed trouble quiet leaves kept up =
      let s = setting_of old.core in
      let es = entries_by old.core asked in
      let rs = coming_by asked in
      let d = decided_so old.core asked given X decides in
      let came : old.core.records ++ records_in X ≡ records_after old.core asked
      = ap (λ (xs : List Record). old.core.records ++ xs) (ap records_in d.entries_are ∙ records_of_call s rs es) ∙ records_after_is old.core asked in
      let records : new.core.records ≡ records_after old.core asked = records_grow old.core new.core X w.history ∙ came in
      let written : written_of payload_in X ≡ payloads_in (setting_of new.core) es
      = ap (written_of payload_in) d.entries_are ∙ (written_of_call s rs es ∙ same_payloads old.core new.core asked w.origin records) in
      let added = added_so old new X (records_after old.core asked) es w came (ap entries_in d.entries_are ∙ entries_of_call s rs es) written in
      record {
        added = record {
          added = added;
          settled = none_owed new.core owed;
          trouble = trouble;
          quiet = λ none same. quiet
              (d.entries_are
              ∙ ap₂ (λ (xs : List Record) (ys : List Entry). came_entries xs ++ added_entries s ys) (none_more old.core.records rs (records_after_is old.core asked ∙ same)) none);
          images = leaves_first m n old.pair new.pair old.dest new.dest (X ++ []) (payloads_in (setting_of new.core) es) (ap (written_of payload_in) (append-nil X) ∙ written) leaves;
          kept = kept;
          up = up;
        };
        answer_is = d.answer_is;
        no_change = d.no_change;
        sound = record {
          run = run;
          ahead = ahead;
          said = said;
          valid = valid;
          unchanged = unchanged_after old.core new.core asked w.origin records sound.unchanged d.unchanged;
          none_coming = none_coming new.core owed;
          none_owed = λ none. none_owed new.core owed;
          settled = λ none. paid_over old.core new.core asked may w.origin records added.past (sound.settled was);
          down_rests = λ down. absurd (down trouble);
          owes = λ disk. absurd (cc (sym trouble ∙ disk));
          uncalled = subst (λ (t : Option Trouble). IsUncalled t new.core.past) (sym trouble) tt;
        };
      }

-- where a disk failed the call was the end of one
done_alone : (v : ReplayView) (asked : ReplayCall) (X Y : List ReplayEntry) → X ++ Y ≡ came_entries (coming_by asked) ++ added_entries (setting_of v) (entries_by v asked) → 0 < length (written_of payload_in (take 1 Y)) → IsDone asked
done_alone v (call.Came items) X Y is writing = none_writing X Y (ap (written_of payload_in) is ∙ written_of_call (setting_of v) items.items []) writing
done_alone v (call.Next moment) X Y is writing =
    none_writing X Y (ap (written_of payload_in) is ∙ (written_of_call (setting_of v) [] (entries_by v (call.Next moment)) ∙ unwritten v (setting_of v) (call.Next moment) (λ is. is))) writing
done_alone v (call.Done job reply moment) X Y is writing = tt

-- of one entry there is one payload at most

only_payload : (written : Option (List ℕ)) → 0 < length (cons_option written []) → (payload : List ℕ) × (cons_option written [] ≡ payload ∷ [])
only_payload None some = absurd (omega (arith, some))
only_payload (Some payload) some = (payload, refl)

one_payload : (s : ReplaySetting) (es : List Entry) → 0 < length (payloads_in s (take 1 es)) → (payload : List ℕ) × (payloads_in s (take 1 es) ≡ payload ∷ [])
one_payload s [] some = absurd (omega (arith, some))
one_payload s (e ∷ es) some = only_payload (entry_payload s.base e) some

some_left : (es : List Entry) → (s : ReplaySetting) → 0 < length (payloads_in s (take 1 es)) → 0 < length es
some_left [] s some = absurd (omega (arith, some))
some_left (e ∷ es) s some = omega arith

module _ {D : Type 0} (m : DiskMeaning D) (n : DestMeaning Nowhere) (old new : BookState D) (job : Job) (reply : Reply) (moment : ℕ) (X : List ReplayEntry) where
  -- a disk failed in the end of a call
  done_some : IsSound old → Went old new X → IsReplay (setting_of new.core) new.core.past → RunAhead new.core → SaidAhead new.core → All IsValidRecord new.core.records
      → X ++ owed_of new.core ≡ added_entries (setting_of old.core) (entries_by old.core (call.Done job reply moment)) → 0 < length (written_of payload_in (take 1 (owed_of new.core))) → new.trouble ≡ Some Disk
      → LeavesFronts replay_meaning m n old.pair new.pair old.dest new.dest (X ++ take 1 (owed_of new.core)) → Rose (m.faults old.pair.used) (m.faults new.pair.used) → CarriedSome m old new (call.Done job reply moment)
  done_some sound w run ahead said valid decided appending trouble leaves cause =
      let s = setting_of old.core in
      let m' = moment_for old.core.past moment in
      let es = entries_by old.core (call.Done job reply moment) in
      let front = entries_in X in
      let rest = new.core.owed in
      let parts = parts_of s X (owed_of new.core) es decided in
      let owes : owed_of new.core ≡ added_entries s rest = parts.1 ∙ ap (added_entries s) (owed_entries new.core) in
      let none : new.core.coming ≡ [] = sym (owed_records new.core) ∙ (ap records_in owes ∙ records_added s rest) in
      let came : old.core.records ++ records_in X ≡ old.core.records
      = ap (λ (xs : List Record). old.core.records ++ xs) (ap records_in parts.0 ∙ records_added s front) ∙ append-nil old.core.records in
      let same : s ≡ setting_of new.core = sym (same_setting new.core old.core w.origin (records_grow old.core new.core X w.history ∙ came)) in
      let split : front ++ rest ≡ es
      = ap (λ (xs : List Entry). front ++ xs) (sym (owed_entries new.core)) ∙ (sym (entries-append X (owed_of new.core)) ∙ (ap entries_in decided ∙ entries_added s es)) in
      let first : written_of payload_in (take 1 (owed_of new.core)) ≡ payloads_in s (take 1 rest)
      = ap (λ (xs : List ReplayEntry). written_of payload_in (take 1 xs)) owes ∙ (ap (written_of payload_in) (take-added s rest) ∙ written_added s (take 1 rest)) in
      let writing : 0 < length (payloads_in s (take 1 rest)) = subst (λ (texts : List (List ℕ)). 0 < length texts) first appending in
      let written : written_of payload_in X ≡ payloads_in s front = ap (written_of payload_in) parts.0 ∙ written_added s front in
      let added = added_so old new X old.core.records front w came refl (written ∙ ap (λ (t : ReplaySetting). payloads_in t front) same) in
      record {
        is_done = tt;
        added = record {
          front = front;
          rest = rest;
          split = split;
          left = some_left rest s writing;
          writing = subst (λ (t : ReplaySetting). (payload : List ℕ) × (payloads_in t (take 1 rest) ≡ payload ∷ [])) same (one_payload s rest writing);
          added = added;
          owed = refl;
          trouble = trouble;
          images = leaves_first m n old.pair new.pair old.dest new.dest (X ++ take 1 (owed_of new.core)) (payloads_in (setting_of new.core) (front ++ take 1 rest))
              (written-append X (take 1 (owed_of new.core))
              ∙ (ap₂ (λ (xs ys : List (List ℕ)). xs ++ ys) written first
              ∙ (sym (payloads-append s front (take 1 rest))
              ∙ ap (λ (t : ReplaySetting). payloads_in t (front ++ take 1 rest)) same))) leaves;
        };
        cause = cause;
        sound = record {
          run = run;
          ahead = ahead;
          said = said;
          valid = valid;
          unchanged = unchanged_after old.core new.core (call.Done job reply moment) w.origin (records_grow old.core new.core X w.history ∙ came) sound.unchanged refl;
          none_coming = none;
          none_owed = λ up. absurd (cc (sym trouble ∙ up));
          settled = λ up. absurd (cc (sym trouble ∙ up));
          down_rests = λ down.
              subst (λ (h : List Entry). (call_out h).places ≡ []) (sym added.past)
              (ended_rests s (succeeded_of s (call_out old.core.past) reply).shard m' (succeeded_of s (call_out old.core.past) reply).places job.lane reply front rest old.core.past split (some_left rest s writing) writing);
          owes = λ disk.
              subst (λ (t : ReplaySetting). OwesReplay t new.core.past rest) same
              (subst (λ (h : List Entry). OwesReplay s h rest) (sym added.past)
              (ended_owes s s m' job.lane reply front rest old.core.past split (some_left rest s writing) writing));
          uncalled = subst (λ (t : Option Trouble). IsUncalled t new.core.past) (sym trouble) tt;
        };
      }

some_done : {D : Type 0} (m : DiskMeaning D) (n : DestMeaning Nowhere) (old new : BookState D) (asked : ReplayCall) (X : List ReplayEntry) → IsDone asked → IsSound old → Went old new X → IsReplay (setting_of new.core) new.core.past → RunAhead new.core → SaidAhead new.core → All IsValidRecord new.core.records
    → X ++ owed_of new.core ≡ came_entries (coming_by asked) ++ added_entries (setting_of old.core) (entries_by old.core asked) → 0 < length (written_of payload_in (take 1 (owed_of new.core))) → new.trouble ≡ Some Disk
    → LeavesFronts replay_meaning m n old.pair new.pair old.dest new.dest (X ++ take 1 (owed_of new.core)) → Rose (m.faults old.pair.used) (m.faults new.pair.used) → CarriedSome m old new asked
some_done m n old new (call.Came items) X is sound w run ahead said valid decided appending trouble leaves cause = absurd is
some_done m n old new (call.Next moment) X is sound w run ahead said valid decided appending trouble leaves cause = absurd is
some_done m n old new (call.Done job reply moment) X is sound w run ahead said valid decided appending trouble leaves cause = done_some m n old new job reply moment X sound w run ahead said valid decided appending trouble leaves cause

-- a disk failed in it
pub carried_some : {D : Type 0} (m : DiskMeaning D) (n : DestMeaning Nowhere) (old new : BookState D) (asked : ReplayCall) (given : ReplayAnswer) (X : List ReplayEntry) → IsSound old → Decides old.core asked given (X ++ owed_of new.core) → Went old new X
    → IsReplay (setting_of new.core) new.core.past → RunAhead new.core → SaidAhead new.core → All IsValidRecord new.core.records → 0 < length (written_of payload_in (take 1 (owed_of new.core))) → new.trouble ≡ Some Disk
    → LeavesFronts replay_meaning m n old.pair new.pair old.dest new.dest (X ++ take 1 (owed_of new.core)) → Rose (m.faults old.pair.used) (m.faults new.pair.used) → CarriedSome m old new asked
carried_some m n old new asked given X sound decides w run ahead said valid appending trouble leaves cause =
    let d = decided_so old.core asked given (X ++ owed_of new.core) decides in
    some_done m n old new asked X (done_alone old.core asked X (owed_of new.core) d.entries_are appending) sound w run ahead said valid d.entries_are appending trouble leaves cause

-- records come before the first call
early_refused : (v : ReplayView) (asked : ReplayCall) (change : Change) → MayAsk v asked → Refuses v asked change → v.past ≡ []
early_refused v (call.Came items) change may refuses = may.early
early_refused v (call.Next moment) change may refuses = absurd refuses
early_refused v (call.Done job reply moment) change may refuses = absurd refuses

-- it brought a change
pub found_change : {D : Type 0} (old new : BookState D) (asked : ReplayCall) (change : Change) → IsSound old → old.trouble ≡ None → MayAsk old.core asked → Refuses old.core asked change → new ≡ record old { trouble = Some (Changed change) } → FoundChange old new asked change
found_change {D} old new asked change sound up may refuses is =
    let down : BookState D = record old { trouble = Some (Changed change) } in
    let kept : IsSound down = record {
      run = sound.run;
      ahead = sound.ahead;
      said = sound.said;
      valid = sound.valid;
      unchanged = sound.unchanged;
      none_coming = sound.none_coming;
      none_owed = λ none. sound.none_owed up;
      settled = λ none. sound.settled up;
      down_rests = λ none. ap (λ (h : List Entry). (call_out h).places) (early_refused old.core asked change may refuses);
      owes = λ disk. absurd (cc);
      uncalled = early_refused old.core asked change may refuses;
    } in
    record { refuses = refuses; rest = is; sound = subst IsSound (sym is) kept }

-- there was no memory for it
pub carried_none : {D : Type 0} (old new : BookState D) → IsSound old → IsSame old new → CarriedNone old new
carried_none {D} old new sound same =
    let roomy : BookState D = record old { pair = record old.pair { room = new.pair.room } } in
    let kept : IsSound roomy = record {
      run = sound.run;
      ahead = sound.ahead;
      said = sound.said;
      valid = sound.valid;
      unchanged = sound.unchanged;
      none_coming = sound.none_coming;
      none_owed = sound.none_owed;
      settled = sound.settled;
      down_rests = sound.down_rests;
      owes = sound.owes;
      uncalled = sound.uncalled;
    } in
    record { same = same; sound = subst IsSound (sym same) kept }

-- where a call is out the book is not down

up_of : (why : Option Trouble) (h : List Entry) (job : Job) → ((why ≡ None → ⊥) → (call_out h).places ≡ []) → IsJobOut h job → why ≡ None
up_of None h job rests out = refl
up_of (Some why) h job rests out =
    let none : job.places ≡ [] = out.places ∙ rests (λ is. absurd (cc)) in
    let short : length job.places ≡ 0 = ap (λ (xs : List ℕ). length xs) none in
    let some = out.some in
    absurd (omega (arith, short, some))

pub up_out : {D : Type 0} (b : BookState D) (job : Job) → IsSound b → IsJobOut b.core.past job → b.trouble ≡ None
up_out b job sound out = up_of b.trouble b.core.past job sound.down_rests out

-- a call that is answered is out
pub runs_next : {D : Type 0} (old new : BookState D) (m : ℕ) (n : ReplayNext) → n ≡ next_of (setting_of old.core) old.core.past → Added old.core.records old new (next_entries (next_of (setting_of old.core) old.core.past) m)
    → IsReplay (setting_of new.core) new.core.past → RunsCall (setting_of new.core) new.core.past n
runs_next old new m n given a run =
    let same = same_setting new.core old.core a.opened a.records_are in
    subst (λ (s : ReplaySetting). RunsCall s new.core.past n) (sym same)
    (runs_call (setting_of old.core) old.core.past new.core.past m n given a.past (subst (λ (s : ReplaySetting). IsReplay s new.core.past) same run))
