-- The caller asks a redrive's book what to do: what the answer adds, and what runs then.
use Rattle.std.proofs.Common.{◌≡◌, ◌∙◌, ◌≤◌, ◌<◌, ℕ, Bool, true, false, cond, List, [], ◌∷◌, ◌++◌, length, Some, None, ap, append-nil, arith, inl, inr, length-append, refl, subst, sym}
use Rattle.std.specs.Prelude.{◌⊎◌, ◌↔◌, ⊤, is_some, nat_le, Result, Ok, Err, IfOk, IfErr, OnOk, OnErr, IsErrOf, IsSome, if◌then◌else◌, reverse}
use Rattle.std.proofs.lemmas.Bool.Decides.{nat_tests}
use Rattle.esm_io.specs.Meanings.{DiskMeaning, DestMeaning}
use Rattle.esm_journal.specs.State.{JournalState}
use Rattle.esm_model.specs.declared.book.BookError.{BookError}
use Rattle.esm_model.specs.declared.book.BookError.TheVariants as why
use Rattle.esm_model.specs.declared.book.Job.{Job}
use Rattle.esm_model.specs.declared.book.Next.{Next}
use Rattle.esm_model.specs.declared.book.Next.TheVariants as next
use Rattle.esm_model.specs.declared.book.Trouble.{Trouble}
use Rattle.esm_model.specs.declared.book.Trouble.TheVariants as trouble
use Rattle.esm_model.specs.declared.entry.Entry.{Entry}
use Rattle.esm_model.specs.declared.entry.Entry.TheVariants.{Came, Began, Ended, Gave, Tried, Closed, Replayed, Shut}
use Rattle.esm_model.specs.declared.item.Message.{Message}
use Rattle.esm_model.specs.declared.lane.LaneId.{LaneId}
use Rattle.esm_model.specs.Entries.{is_running, is_shut, calls_begun, last_moment}
use Rattle.esm_model.specs.declared.moment.TheConstants.{MAX_MOMENT}
use Rattle.esm_queue_model.specs.declared.stored.TheConstants.{MAX_COUNT}
use Rattle.esm_redrive.specs.declared.limited.TheConstants.{MAX_RECEIVES}
use Rattle.esm_model.specs.Kept.{change_of}
use Rattle.esm_model.specs.Moment.{moment_after}
use Rattle.esm_model.proofs.Steps.{same_lane-refl}
use Rattle.esm_queue_model.specs.QueueSetting.{QueueSetting}
use Rattle.esm_queue_model.specs.QueueEntries.{queue_lane, queue_of}
use Rattle.esm_queue_model.specs.QueueBatch.{queue_event, last_queue_event, queue_batch, is_queue_ready}
use Rattle.esm_queue_core.specs.CoreView.{moment_for}
use Rattle.esm_queue_core.specs.Next.{job_of, is_all_deleted, pause_end, next_batch, next_allowed, next_for, next_entries}
use Rattle.esm_queue_book.specs.Left.{AllDeleted, HasWaiting}
use Rattle.esm_queue_book.proofs.Over.{finished_is, one_waits}
use Rattle.esm_redrive.specs.Limited.{due_in, IsDueByQueue}
use Rattle.esm_redrive_model.specs.RedriveSetting.{RedriveSetting}
use Rattle.esm_redrive_model.specs.RedriveReport.{redrive_calls}
use Rattle.esm_redrive_model.specs.RedriveStep.{LegalRedrive}
use Rattle.esm_redrive_core.specs.declared.decisions.RedriveEntry.{RedriveEntry}
use Rattle.esm_redrive_core.specs.Adding.{next_due, redrive_next, moved_entry, entries_due, redrive_next_entries}
use Rattle.esm_redrive_core.specs.Told.{redrive_entries}
use Rattle.esm_redrive_book.specs.Calls.{Added, AddedAll, AddedSome, RunsCall, IsSame, WasWriting, hand_of, tried_of}
use Rattle.esm_serial.specs.Adding.{IsAnswered}
use Rattle.esm_redrive_run.specs.Book.{Book, IsLegalBook, DoesRest, RunsJob, HasFinished, IsNoneDue, IsSpent}
use Rattle.esm_redrive_run.proofs.Bringing.{no_trouble}
use Rattle.esm_redrive_run.proofs.Following.{Each, IsAtMoment, IsNoEnd, no_end_in, BeginsLater, follow_more, shut_more}
use Rattle.esm_redrive_run.proofs.Stepping.{HasStepped, no_calls, stepped, stood}

-- the event of a call that is answered

abbrev HasEvent : QueueSetting → List Entry → ℕ → Next → Type 0
HasEvent s h m (next.Call job) = job.event ≡ queue_event s (queue_of s h) m job.places
HasEvent s h m _ = ⊤

-- a message waits where all calls allowed began
abbrev HasLeft : QueueSetting → List Entry → Next → Type 0
HasLeft s h next.Spent = (nat_le s.calls (calls_begun h) ≡ true) × (is_all_deleted s h ≡ false)
HasLeft s h _ = ⊤

module _ (s : QueueSetting) (h : List Entry) (k m : ℕ) where
  either_has : (P : Next → Type 0) (b : Bool) (one other : Next) → P one → P other → P (cond b one other)
  either_has P true one other i j = i
  either_has P false one other i j = j

  batch_has : (batch : List ℕ) → HasEvent s h m (next_batch s h k m batch)
  batch_has [] = tt
  batch_has (i ∷ places) = either_has (HasEvent s h m) (is_queue_ready s h m) (next.Call (job_of s h k (i ∷ places) m)) (next.Idle (pause_end s h m (i ∷ places))) refl tt

  pub has_event : HasEvent s h m (next_for s h k m)
  has_event =
      either_has (HasEvent s h m) (is_all_deleted s h) (cond (is_shut h) next.Finished (next.Idle (moment_after m 20))) (next_allowed s h k m)
      (either_has (HasEvent s h m) (is_shut h) next.Finished (next.Idle (moment_after m 20)) tt tt)
      (either_has (HasEvent s h m) (nat_le s.calls (calls_begun h)) next.Spent (next_batch s h k m (queue_batch s h m)) tt (batch_has (queue_batch s h m)))

  left_batch : (batch : List ℕ) → HasLeft s h (next_batch s h k m batch)
  left_batch [] = tt
  left_batch (i ∷ places) = either_has (HasLeft s h) (is_queue_ready s h m) (next.Call (job_of s h k (i ∷ places) m)) (next.Idle (pause_end s h m (i ∷ places))) tt tt

  left_allowed : (b : Bool) (x : Next) → nat_le s.calls (calls_begun h) ≡ b → is_all_deleted s h ≡ false → HasLeft s h x → HasLeft s h (if b then next.Spent else x)
  left_allowed true x is waits left = (is, waits)
  left_allowed false x is waits left = left

  left_if : (b : Bool) → is_all_deleted s h ≡ b → HasLeft s h (if b then (if is_shut h then next.Finished else next.Idle (moment_after m 20)) else next_allowed s h k m)
  left_if true is = either_has (HasLeft s h) (is_shut h) next.Finished (next.Idle (moment_after m 20)) tt tt
  left_if false is = left_allowed (nat_le s.calls (calls_begun h)) (next_batch s h k m (queue_batch s h m)) refl is (left_batch (queue_batch s h m))

  pub left_for : HasLeft s h (next_for s h k m)
  left_for = left_if (is_all_deleted s h) refl

-- no more calls began than are allowed
begun_within : (s : RedriveSetting) (h : List Entry) → LegalRedrive s h → calls_begun h ≤ s.queue.calls
begun_within s [] legal = omega arith
begun_within s (Began lane places None m ∷ h) legal = let left = legal.1.1.calls_left in omega (arith, left)
begun_within s (Began lane places (Some window) m ∷ h) legal = absurd legal.1.1
begun_within s (Came shard first count m ∷ h) legal = begun_within s h legal.0
begun_within s (Ended lane reply m ∷ h) legal = begun_within s h legal.0
begun_within s (Gave by shard places f line state m ∷ h) legal = begun_within s h legal.0
begun_within s (Tried lane places closing tries m ∷ h) legal = begun_within s h legal.0
begun_within s (Closed lane window m ∷ h) legal = begun_within s h legal.0
begun_within s (Replayed shard places m ∷ h) legal = begun_within s h legal.0
begun_within s (Shut m ∷ h) legal = begun_within s h legal.0

all_begun : (s : RedriveSetting) (h : List Entry) → LegalRedrive s h → nat_le s.queue.calls (calls_begun h) ≡ true → calls_begun h ≡ s.queue.calls
all_begun s h legal spent =
    let within : calls_begun h ≤ s.queue.calls = begun_within s h legal in
    grind (arith, nat_tests)

-- the first due message is moved, or the rules of a queue decide
abbrev HasShape : RedriveSetting → List Entry → ℕ → List ℕ → Next → List Entry → Type 0
HasShape s h m places x es =
    ((i : ℕ) × (x ≡ next.Gave 1) × (es ≡ moved_entry s i m ∷ []))
    ⊎ ((x ≡ next_for s.queue h 0 m) × (es ≡ next_entries (next_for s.queue h 0 m) m) × (places ≡ []))

shape_of : (s : RedriveSetting) (h : List Entry) (m : ℕ) (places : List ℕ) → HasShape s h m places (next_due places (next_for s.queue h 0 m)) (entries_due s m places (next_entries (next_for s.queue h 0 m) m))
shape_of s h m [] = inr (refl, refl, refl)
shape_of s h m (i ∷ places) = inl (i, refl, refl)

one_entry : (x : Next) (m : ℕ) → length (next_entries x m) ≤ 1
one_entry (next.Call job) m = omega arith
one_entry (next.Gave n) m = omega arith
one_entry (next.Idle until) m = omega arith
one_entry next.Spent m = omega arith
one_entry next.Finished m = omega arith

one_at_most : (s : RedriveSetting) (m : ℕ) (places : List ℕ) (x : Next) → length (entries_due s m places (next_entries x m)) ≤ 1
one_at_most s m [] x = one_entry x m
one_at_most s m (i ∷ places) x = omega arith

-- of one entry that is cut off nothing was added
pub none_before : (front rest es : List Entry) → length es ≤ 1 → front ++ rest ≡ es → (rest ≡ [] → ⊥) → front ≡ []
none_before [] rest es few split some = refl
none_before (e ∷ front) [] es few split some = absurd (some refl)
none_before (e ∷ front) (r ∷ rest) es few split some =
    let long : length ((e ∷ front) ++ r ∷ rest) ≤ 1 = subst (λ (l : List Entry). length l ≤ 1) (sym split) few in
    absurd (omega (arith, long, length-append front (r ∷ rest)))

pub some_rest : (messages : List Message) (why_down : Trouble) (rest : List Entry) → WasWriting why_down (redrive_entries messages rest) → rest ≡ [] → ⊥
some_rest messages trouble.Disk [] writing none = (let low : 0 < 0 = writing in omega (arith, low))
some_rest messages trouble.Dest [] writing none = (let low : 0 < 0 = writing in omega (arith, low))
some_rest messages (trouble.Changed change) rest writing none = writing
some_rest messages trouble.Disk (e ∷ rest) writing none = absurd (cc)
some_rest messages trouble.Dest (e ∷ rest) writing none = absurd (cc)

-- what `next` says of a call at the moment t
pub record NextDid {D : Type 0} (m : DiskMeaning D) (n : DestMeaning (JournalState D)) (t : ℕ) (old new : Book D) (r : Result Next BookError) : Type 0 where
  pub answer : IfOk r (λ (x : Next). x ≡ redrive_next old.core.setting old.core.past (moment_for old.core.past t))
  pub added : OnOk r (AddedAll m n old.core.setting.queue.messages old new (redrive_next_entries old.core.setting old.core.past (moment_for old.core.past t)))
  pub stopped : IsErrOf r why.DiskFault → AddedSome m n old.core.setting.queue.messages old new (redrive_next_entries old.core.setting old.core.past (moment_for old.core.past t)) trouble.Disk
  pub undelivered : IsErrOf r why.DestFault → AddedSome m n old.core.setting.queue.messages old new (redrive_next_entries old.core.setting old.core.past (moment_for old.core.past t)) trouble.Dest
  pub runs : IfOk r (RunsCall new.core.past)
  pub down : IsErrOf r why.Down ↔ IsSome old.trouble
  pub left : IsErrOf r why.Down → new ≡ old
  pub no_memory : IsErrOf r why.OutOfMemory → IsSame n old new

pub record HasAsked {D : Type 0} (t : ℕ) (old new : Book D) (r : Result Next BookError) : Type 0 where
  pub step : HasStepped t old new no_calls
  pub messages : new.core.setting.queue.messages ≡ old.core.setting.queue.messages
  pub change : change_of new.trouble ≡ change_of old.trouble
  pub shut : is_shut old.core.past ≡ true → is_shut new.core.past ≡ true
  pub answer : IfOk r (IsAnswered DoesRest RunsJob new)
  pub finished : r ≡ Ok next.Finished → HasFinished new
  pub spent : r ≡ Ok next.Spent → IsSpent new
  pub rests : OnErr r (DoesRest new)
  pub up : OnOk r (is_some new.trouble ≡ false)
  pub down : IfErr r (λ (e : BookError). (e ≡ why.OutOfMemory) ⊎ (is_some new.trouble ≡ true))

-- an answer by which no call begins
abbrev IsPause : Next → Type 0
IsPause (next.Call job) = ⊥
IsPause _ = ⊤

rests_so : {D : Type 0} (new : Book D) (x : Next) → IsPause x → DoesRest new → IsAnswered DoesRest RunsJob new x
rests_so new (next.Call job) is rests = absurd is
rests_so new (next.Gave n) is rests = rests
rests_so new (next.Idle until) is rests = rests
rests_so new next.Spent is rests = rests
rests_so new next.Finished is rests = rests

-- of a book that is asked: its history is legal, and the queue after it tells which messages are due
pub record IsQueueBefore {D : Type 0} (b : Book D) : Type 0 where
  pub legal : LegalRedrive b.core.setting b.core.past
  pub due : IsDueByQueue b.core.setting b.core.past
  pub in_time : last_moment b.core.past ≤ MAX_MOMENT

pub few_counted : (n : ℕ) → n ≤ MAX_RECEIVES → n ≤ MAX_COUNT
few_counted n few = omega (arith, few)

not_back : (h : List Entry) (t : ℕ) → last_moment h ≤ MAX_MOMENT → last_moment h ≤ moment_for h t
not_back h t within = omega (arith, within)

module _ {D : Type 0} (m : DiskMeaning D) (n : DestMeaning (JournalState D)) (t : ℕ) (old new : Book D) (rests : DoesRest old) (legal : IsLegalBook new) where
  abbrev now : ℕ
  now = moment_for old.core.past t

  step_of : (es : List Entry) (hand tried : List RedriveEntry) → Added m n old.core.setting.queue.messages old new es hand tried → Each (IsAtMoment now) es → Each IsNoEnd es → Each (BeginsLater old.core.past) es → HasStepped t old new no_calls
  step_of es hand tried added at ends begins =
      stepped t old new old.core.setting.queue.messages es no_calls added.past added.setting added.found added.found_dest legal at
      (λ sends. ap (λ (s : RedriveSetting). redrive_calls s sends (reverse es ++ old.core.past)) added.setting
      ∙ (no_end_in old.core.setting.queue sends es old.core.past ends ∙ sym (append-nil (redrive_calls old.core.setting sends old.core.past))))
      (follow_more es old.core.past begins)

  -- an answer of which the entries leave that no call runs
  paused : (x : Next) (es : List Entry) → IsPause x → AddedAll m n old.core.setting.queue.messages old new es → Each (IsAtMoment now) es → Each IsNoEnd es → Each (BeginsLater old.core.past) es → is_running (reverse es ++ old.core.past) (queue_lane 0) ≡ is_running old.core.past (queue_lane 0)
      → (is_some old.trouble ≡ true → ⊥) → (x ≡ next.Finished → HasFinished new) → (x ≡ next.Spent → IsSpent new) → HasAsked t old new (Ok x)
  paused x es pauses all at ends begins idle up finished spent =
      let was : old.trouble ≡ None = no_trouble old.trouble up in
      let past : new.core.past ≡ reverse es ++ old.core.past = all.added.past in
      record {
        step = step_of es [] [] all.added at ends begins;
        messages = ap (λ (s : RedriveSetting). s.queue.messages) all.added.setting;
        change = ap change_of all.trouble ∙ sym (ap change_of was);
        shut = λ is. ap is_shut past ∙ shut_more es old.core.past is;
        answer = rests_so new x pauses (record {
          idle = ap (λ (h : List Entry). is_running h (queue_lane 0)) past ∙ (idle ∙ rests.idle);
          shut = λ same. ap is_shut past ∙ shut_more es old.core.past (rests.shut was);
        });
        finished = λ is. finished (cc);
        spent = λ is. spent (cc);
        rests = tt;
        up = ap is_some all.trouble;
        down = tt;
      }

  runs_at : (job : Job) → (is_some old.trouble ≡ true → ⊥) → new.core.past ≡ Began job.lane job.places job.closing now ∷ old.core.past → new.core.setting ≡ old.core.setting → job.event ≡ queue_event old.core.setting.queue (queue_of old.core.setting.queue old.core.past) now job.places → RunsCall new.core.past (next.Call job) → RunsJob new job
  runs_at job up past setting event runs =
      let s : QueueSetting = old.core.setting.queue in
      let own : last_queue_event s (Began job.lane job.places job.closing now ∷ old.core.past) job.lane ≡ queue_event s (queue_of s old.core.past) now job.places = rw (same_lane-refl job.lane) refl in
      record {
        lane = runs.lane;
        runs = runs.runs;
        places = runs.places;
        event = event ∙ (sym own ∙ (ap (λ (h : List Entry). last_queue_event s h job.lane) (sym past) ∙ (ap (λ (l : LaneId). last_queue_event s new.core.past l) runs.lane
            ∙ ap (λ (u : RedriveSetting). last_queue_event u.queue new.core.past (queue_lane 0)) (sym setting))));
        shut = λ same. ap is_shut past ∙ rests.shut (no_trouble old.trouble up);
      }

  began : (job : Job) → HasEvent old.core.setting.queue old.core.past now (next.Call job) → AddedAll m n old.core.setting.queue.messages old new (next_entries (next.Call job) now) → RunsCall new.core.past (next.Call job) → (is_some old.trouble ≡ true → ⊥) → HasAsked t old new (Ok (next.Call job))
  began job event all runs up =
      let was : old.trouble ≡ None = no_trouble old.trouble up in
      let shut : is_shut old.core.past ≡ true = rests.shut was in
      record {
        step = step_of (Began job.lane job.places job.closing now ∷ []) [] [] all.added (refl, tt) (tt, tt) ((λ is. shut), tt);
        messages = ap (λ (s : RedriveSetting). s.queue.messages) all.added.setting;
        change = ap change_of all.trouble ∙ sym (ap change_of was);
        shut = λ is. ap is_shut all.added.past ∙ is;
        answer = runs_at job up all.added.past all.added.setting event runs;
        finished = λ is. absurd (cc);
        spent = λ is. absurd (cc);
        rests = tt;
        up = ap is_some all.trouble;
        down = tt;
      }

  -- nothing is added
  quiet : (x : Next) → IsPause x → AddedAll m n old.core.setting.queue.messages old new [] → (is_some old.trouble ≡ true → ⊥) → (x ≡ next.Finished → HasFinished new) → (x ≡ next.Spent → IsSpent new) → HasAsked t old new (Ok x)
  quiet x pauses all up finished spent = paused x [] pauses all tt tt tt refl up finished spent

  finished_so : next_for old.core.setting.queue old.core.past 0 now ≡ next.Finished → AddedAll m n old.core.setting.queue.messages old new [] → HasFinished new
  finished_so is all =
      let over = finished_is old.core.setting.queue old.core.past 0 now is in
      record {
        shut = ap is_shut all.added.past ∙ over.0;
        deleted = subst (λ (h : List Entry). AllDeleted new.core.setting.queue h) (sym all.added.past) (subst (λ (s : RedriveSetting). AllDeleted s.queue old.core.past) (sym all.added.setting) over.1);
      }

  spent_so : IsQueueBefore old → next_for old.core.setting.queue old.core.past 0 now ≡ next.Spent → AddedAll m n old.core.setting.queue.messages old new [] → due_in old.core.setting.max_receives (queue_of old.core.setting.queue old.core.past) now ≡ [] → IsSpent new
  spent_so before is all none =
      let left : HasLeft old.core.setting.queue old.core.past next.Spent = subst (HasLeft old.core.setting.queue old.core.past) is (left_for old.core.setting.queue old.core.past 0 now) in
      record {
        calls = ap calls_begun all.added.past ∙ (all_begun old.core.setting old.core.past before.legal left.0 ∙ ap (λ (s : RedriveSetting). s.queue.calls) (sym all.added.setting));
        waits = subst (λ (h : List Entry). HasWaiting new.core.setting.queue h) (sym all.added.past) (subst (λ (s : RedriveSetting). HasWaiting s.queue old.core.past) (sym all.added.setting) (one_waits old.core.setting.queue old.core.past left.1));
        none_due = subst (λ (h : List Entry). IsNoneDue new.core.setting h) (sym all.added.past)
            (subst (λ (s : RedriveSetting). IsNoneDue s old.core.past) (sym all.added.setting) (now, not_back old.core.past t before.in_time, before.due now ∙ none));
      }

  -- the rules of a queue decided
  by_rules : (x : Next) → x ≡ next_for old.core.setting.queue old.core.past 0 now → IsQueueBefore old → AddedAll m n old.core.setting.queue.messages old new (next_entries x now) → due_in old.core.setting.max_receives (queue_of old.core.setting.queue old.core.past) now ≡ [] → RunsCall new.core.past x → (is_some old.trouble ≡ true → ⊥) → HasAsked t old new (Ok x)
  by_rules (next.Call job) is before all none runs up = began job (subst (HasEvent old.core.setting.queue old.core.past now) (sym is) (has_event old.core.setting.queue old.core.past 0 now)) all runs up
  by_rules (next.Gave k) is before all none runs up = quiet (next.Gave k) tt all up (λ same. absurd (cc)) (λ same. absurd (cc))
  by_rules (next.Idle until) is before all none runs up = quiet (next.Idle until) tt all up (λ same. absurd (cc)) (λ same. absurd (cc))
  by_rules next.Spent is before all none runs up = quiet next.Spent tt all up (λ same. absurd (cc)) (λ same. spent_so before (sym is) all none)
  by_rules next.Finished is before all none runs up = quiet next.Finished tt all up (λ same. finished_so (sym is) all) (λ same. absurd (cc))

  answered : (x : Next) (es : List Entry) → HasShape old.core.setting old.core.past now (due_in old.core.setting.max_receives (queue_of old.core.setting.queue old.core.past) now) x es → IsQueueBefore old → AddedAll m n old.core.setting.queue.messages old new es → RunsCall new.core.past x → (is_some old.trouble ≡ true → ⊥) → HasAsked t old new (Ok x)
  answered x es shape before all runs up = elim shape [
    | inl moved ↦
        (let one : AddedAll m n old.core.setting.queue.messages old new (moved_entry old.core.setting moved.0 now ∷ []) = subst (λ (l : List Entry). AddedAll m n old.core.setting.queue.messages old new l) moved.2 all in
        subst (λ (y : Next). HasAsked t old new (Ok y)) (sym moved.1)
        (paused (next.Gave 1) (moved_entry old.core.setting moved.0 now ∷ []) tt one (refl, tt) (tt, tt) ((λ is. absurd (cc)), tt) refl up (λ same. absurd (cc)) (λ same. absurd (cc))))
    | inr ruled ↦ by_rules x ruled.0 before (subst (λ (y : Next). AddedAll m n old.core.setting.queue.messages old new (next_entries y now)) (sym ruled.0) (subst (λ (l : List Entry). AddedAll m n old.core.setting.queue.messages old new l) ruled.1 all)) ruled.2 runs up
  ]

  -- an error, after which nothing was added
  refused : (e : BookError) → HasStepped t old new no_calls → new.core.past ≡ old.core.past → new.core.setting ≡ old.core.setting → change_of new.trouble ≡ change_of old.trouble → (new.trouble ≡ None → old.trouble ≡ None) → (e ≡ why.OutOfMemory) ⊎ (is_some new.trouble ≡ true) → HasAsked t old new (Err e)
  refused e step past setting change was cause = record {
    step = step;
    messages = ap (λ (s : RedriveSetting). s.queue.messages) setting;
    change = change;
    shut = λ is. ap is_shut past ∙ is;
    answer = tt;
    finished = λ is. absurd (cc);
    spent = λ is. absurd (cc);
    rests = record { idle = ap (λ (h : List Entry). is_running h (queue_lane 0)) past ∙ rests.idle; shut = λ up. ap is_shut past ∙ rests.shut (was up) };
    up = tt;
    down = cause;
  }

  failed : (e : BookError) (why_down : Trouble) → AddedSome m n old.core.setting.queue.messages old new (redrive_next_entries old.core.setting old.core.past now) why_down → change_of (Some why_down) ≡ None → (is_some old.trouble ≡ true → ⊥) → HasAsked t old new (Err e)
  failed e why_down some none up =
      let s : RedriveSetting = old.core.setting in
      let was : old.trouble ≡ None = no_trouble old.trouble up in
      let front : some.front ≡ [] = none_before some.front some.rest (redrive_next_entries s old.core.past now) (one_at_most s now (due_in s.max_receives (queue_of s.queue old.core.past) now) (next_for s.queue old.core.past 0 now)) some.split (some_rest s.queue.messages why_down some.rest some.writing) in
      let hand : List RedriveEntry = redrive_entries s.queue.messages (hand_of why_down some.rest) in
      let tried : List RedriveEntry = redrive_entries s.queue.messages (tried_of why_down some.rest) in
      let added : Added m n s.queue.messages old new [] hand tried = subst (λ (l : List Entry). Added m n s.queue.messages old new l hand tried) front some.added in
      refused e (step_of [] hand tried added tt tt tt) added.past added.setting (ap change_of some.trouble_is ∙ (none ∙ sym (ap change_of was))) (λ is. was) (inr (ap is_some some.trouble_is))

pub asked : {D : Type 0} (m : DiskMeaning D) (n : DestMeaning (JournalState D)) (t : ℕ) (old new : Book D) (r : Result Next BookError) → NextDid m n t old new r → DoesRest old → IsQueueBefore old → IsLegalBook new → HasAsked t old new r
asked {D} m n t old new (Ok x) did rests before legal =
    let s : RedriveSetting = old.core.setting in
    let at : ℕ = moment_for old.core.past t in
    let up : is_some old.trouble ≡ true → ⊥ = λ is. (let never : Ok x ≡ Err why.Down = did.down.1 is in absurd (cc)) in
    let places : List ℕ = due_in s.max_receives (queue_of s.queue old.core.past) at in
    let shape : HasShape s old.core.past at places x (redrive_next_entries s old.core.past at) =
    subst (λ (y : Next). HasShape s old.core.past at places y (redrive_next_entries s old.core.past at)) (sym did.answer) (shape_of s old.core.past at places) in
    answered m n t old new rests legal x (redrive_next_entries s old.core.past at) shape before did.added did.runs up
asked {D} m n t old new (Err why.DiskFault) did rests before legal = failed m n t old new rests legal why.DiskFault trouble.Disk (did.stopped refl) refl (λ is. (let never : Err why.DiskFault ≡ Err why.Down = did.down.1 is in absurd (cc)))
asked {D} m n t old new (Err why.DestFault) did rests before legal = failed m n t old new rests legal why.DestFault trouble.Dest (did.undelivered refl) refl (λ is. (let never : Err why.DestFault ≡ Err why.Down = did.down.1 is in absurd (cc)))
asked {D} m n t old new (Err why.Down) did rests before legal =
    let is : new ≡ old = did.left refl in
    refused m n t old new rests legal why.Down (stood t old new (ap (λ (b : Book D). b.core) is) (ap (λ (b : Book D). b.found) is) (ap (λ (b : Book D). b.found_dest) is)) (ap (λ (b : Book D). b.core.past) is) (ap (λ (b : Book D). b.core.setting) is)
    (ap (λ (b : Book D). change_of b.trouble) is) (λ up. sym (ap (λ (b : Book D). b.trouble) is) ∙ up) (inr (ap (λ (b : Book D). is_some b.trouble) is ∙ did.down.0 refl))
asked {D} m n t old new (Err why.OutOfMemory) did rests before legal =
    let is : new ≡ record old { pair = record old.pair { room = new.pair.room }; dest = new.dest } = (did.no_memory refl).rest in
    refused m n t old new rests legal why.OutOfMemory (stood t old new (ap (λ (b : Book D). b.core) is) (ap (λ (b : Book D). b.found) is) (ap (λ (b : Book D). b.found_dest) is)) (ap (λ (b : Book D). b.core.past) is) (ap (λ (b : Book D). b.core.setting) is)
    (ap (λ (b : Book D). change_of b.trouble) is) (λ up. sym (ap (λ (b : Book D). b.trouble) is) ∙ up) (inl refl)
