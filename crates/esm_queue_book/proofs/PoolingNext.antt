-- A batcher asks a queue's book what to do: what the answer adds, and what runs then.
use Rattle.std.proofs.Common.{◌≡◌, ℕ, suc, ◌<◌, ◌≤◌, Bool, true, false, cond, List, [], ◌∷◌, ◌++◌, length, refl, sym, ap, ◌∙◌, subst, inl, inr, length-append, arith}
use Rattle.std.specs.Prelude.{◌⊎◌, ◌↔◌, ⊤, is_some, nat_le, Result, Ok, Err, IfOk, IfErr, OnOk, OnErr, IsErrOf, IsSome}
use Rattle.std.specs.Coded.{Coded}
use Rattle.esm_io.specs.Meanings.{DiskMeaning}
use Rattle.esm_model.specs.declared.lane.LaneId.{LaneId}
use Rattle.esm_model.specs.declared.book.BookError.{BookError}
use Rattle.esm_model.specs.declared.book.BookError.TheVariants as why
use Rattle.esm_model.specs.declared.book.Job.{Job}
use Rattle.esm_model.specs.declared.book.Next.{Next}
use Rattle.esm_model.specs.declared.book.Next.TheVariants as next
use Rattle.esm_model.specs.declared.entry.Entry.{Entry}
use Rattle.esm_model.specs.declared.entry.Entry.TheVariants.{Began}
use Rattle.esm_model.specs.Moment.{moment_after}
use Rattle.esm_model.specs.Kept.{change_of}
use Rattle.esm_model.specs.Entries.{last_call, batch_of, is_running, is_shut, calls_begun}
use Rattle.esm_model.proofs.Steps.{same_lane-refl}
use Rattle.esm_model.specs.Batching.{Answers}
use Rattle.esm_queue_model.specs.QueueSetting.{QueueSetting}
use Rattle.esm_queue_model.specs.QueueEntries.{queue_lane, queue_of}
use Rattle.esm_queue_model.specs.QueueBatch.{queue_event, last_queue_event, queue_batch, is_queue_ready, queue_calls}
use Rattle.esm_queue_model.specs.QueueStep.{LegalQueue}
use Rattle.esm_queue_book.specs.Batchers.{QueueRests, RunsQueueJob}
use Rattle.esm_queue_core.specs.CoreView.{moment_for}
use Rattle.esm_queue_core.specs.Told.{told_of}
use Rattle.esm_queue_core.specs.Next.{job_of, is_all_deleted, pause_end, next_batch, next_allowed, next_for, next_entries}
use Rattle.esm_queue_book.specs.Books.{BookState, setup_of, is_down}
use Rattle.esm_queue_book.specs.Calls.{Added, AddedAll, AddedSome, RunsCall, IsSame}
use Rattle.esm_queue_book.specs.Keeping.{IsSound}
use Rattle.esm_queue_book.proofs.Pooling.{AreOwn, HasAdded, has_none, still_none, setting_kept, RunsAt, running_at, runs_told}
use Rattle.esm_queue_book.proofs.Over.{FinishedAt, finished_is, spent_is}

-- the event of a call that is answered

abbrev HasEvent : QueueSetting → List Entry → ℕ → Next → Type 0
HasEvent s h m (next.Call job) = job.event ≡ queue_event s (queue_of s h) m job.places
HasEvent s h m _ = ⊤

module _ (s : QueueSetting) (h : List Entry) (k m : ℕ) where
  either_has : (b : Bool) (one other : Next) → HasEvent s h m one → HasEvent s h m other → HasEvent s h m (cond b one other)
  either_has true one other i j = i
  either_has false one other i j = j

  batch_has : (batch : List ℕ) → HasEvent s h m (next_batch s h k m batch)
  batch_has [] = tt
  batch_has (i ∷ places) = either_has (is_queue_ready s h m) (next.Call (job_of s h k (i ∷ places) m)) (next.Idle (pause_end s h m (i ∷ places))) refl tt

  has_event : HasEvent s h m (next_for s h k m)
  has_event =
      either_has (is_all_deleted s h) (cond (is_shut h) next.Finished (next.Idle (moment_after m 20))) (next_allowed s h k m)
      (either_has (is_shut h) next.Finished (next.Idle (moment_after m 20)) tt tt)
      (either_has (nat_le s.calls (calls_begun h)) next.Spent (next_batch s h k m (queue_batch s h m)) tt (batch_has (queue_batch s h m)))

-- what comes of it

-- what `next` says of a call at the moment t
pub record NextDid {D : Type 0} (d : DiskMeaning D) (k t : ℕ) (old new : BookState D) (r : Result Next BookError) : Type 0 where
  pub answer : IfOk r (λ (x : Next). x ≡ next_for old.core.setting old.core.past k (moment_for old.core.past t))
  pub added : OnOk r (AddedAll d old.core.setting.messages old new (next_entries (next_for old.core.setting old.core.past k (moment_for old.core.past t)) (moment_for old.core.past t)))
  pub stopped : IsErrOf r why.DiskFault → AddedSome d old.core.setting.messages old new (next_entries (next_for old.core.setting old.core.past k (moment_for old.core.past t)) (moment_for old.core.past t))
  pub runs : IfOk r (RunsCall k new.core.past)
  pub no_dest : IsErrOf r why.DestFault → ⊥
  pub down : IsErrOf r why.Down ↔ IsSome old.trouble
  pub left : IsErrOf r why.Down → new ≡ old
  pub no_memory : IsErrOf r why.OutOfMemory → IsSame old new

-- the batcher's call runs, or it rests
abbrev pub AnswersAt : QueueSetting → List Entry → ℕ → Next → Type 0
AnswersAt s h k (next.Call job) = RunsAt s h k job
AnswersAt s h k _ = is_running h (queue_lane k) ≡ false

pub record HasAsked {D : Type 0} (k t : ℕ) (old new : BookState D) (r : Result Next BookError) : Type 0 where
  pub es : List Entry
  pub has : HasAdded k t old new es
  pub no_end : (sends : List ℕ → List ℕ) → queue_calls old.core.setting sends new.core.past k ≡ queue_calls old.core.setting sends old.core.past k
  pub answer : IfOk r (AnswersAt old.core.setting new.core.past k)
  pub finished : IfOk r (λ (x : Next). x ≡ next.Finished → FinishedAt old.core.setting new.core.past)
  pub spent : IfOk r (λ (x : Next). x ≡ next.Spent → calls_begun new.core.past ≡ old.core.setting.calls)
  pub rests : OnErr r (is_running new.core.past (queue_lane k) ≡ false)
  pub down : IfErr r (λ (e : BookError). (e ≡ why.OutOfMemory) ⊎ (is_down new ≡ true))

module _ {D : Type 0} (d : DiskMeaning D) (k t : ℕ) (old new : BookState D) where
  abbrev now : ℕ
  now = moment_for old.core.past t

  -- an answer, by which all of these are added
  has_all : (es : List Entry) → AddedAll d old.core.setting.messages old new es → (is_down old ≡ true → ⊥) → AreOwn k now es → HasAdded k t old new es
  has_all es all up own = record {
    past = all.added.past;
    told = all.added.told;
    setting = all.setting;
    found = all.added.found;
    own = own;
    down = λ is. absurd (up is);
    change = still_none old new (ap change_of all.trouble) up;
  }

  runs_at : (job : Job) → new.core.past ≡ Began job.lane job.places job.closing now ∷ old.core.past → job.event ≡ queue_event old.core.setting (queue_of old.core.setting old.core.past) now job.places → RunsCall k new.core.past (next.Call job) → RunsAt old.core.setting new.core.past k job
  runs_at job past event runs =
      let s : QueueSetting = old.core.setting in
      let own : last_queue_event s (Began job.lane job.places job.closing now ∷ old.core.past) job.lane ≡ queue_event s (queue_of s old.core.past) now job.places = rw (same_lane-refl job.lane) refl in
      record {
        lane = runs.0;
        running = ap (λ (l : LaneId). is_running new.core.past l) (sym runs.0) ∙ runs.1.runs;
        places = runs.1.places ∙ ap (λ (l : LaneId). batch_of (last_call new.core.past l)) runs.0;
        event = event ∙ (sym own ∙ (ap (λ (h : List Entry). last_queue_event s h job.lane) (sym past) ∙ ap (λ (l : LaneId). last_queue_event s new.core.past l) runs.0));
      }

  -- an answer that adds nothing
  quiet : (x : Next) → x ≡ next_for old.core.setting old.core.past k now → LegalQueue old.core.setting old.core.past → AddedAll d old.core.setting.messages old new [] → (is_down old ≡ true → ⊥) → is_running old.core.past (queue_lane k) ≡ false → (is_running new.core.past (queue_lane k) ≡ false → AnswersAt old.core.setting new.core.past k x) → HasAsked k t old new (Ok x)
  quiet x is legal all up rest answers = record {
    es = [];
    has = has_all [] all up tt;
    no_end = λ sends. ap (λ (h : List Entry). queue_calls old.core.setting sends h k) all.added.past;
    answer = answers (ap (λ (h : List Entry). is_running h (queue_lane k)) all.added.past ∙ rest);
    finished = λ ends. subst (λ (h : List Entry). FinishedAt old.core.setting h) (sym all.added.past) (finished_is old.core.setting old.core.past k now (sym is ∙ ends));
    spent = λ ends. ap calls_begun all.added.past ∙ spent_is old.core.setting old.core.past k now legal (sym is ∙ ends);
    rests = tt;
    down = tt;
  }

  answered : (x : Next) → x ≡ next_for old.core.setting old.core.past k now → LegalQueue old.core.setting old.core.past → HasEvent old.core.setting old.core.past now x → AddedAll d old.core.setting.messages old new (next_entries x now) → RunsCall k new.core.past x → (is_down old ≡ true → ⊥) → is_running old.core.past (queue_lane k) ≡ false → HasAsked k t old new (Ok x)
  answered (next.Call job) is legal event all runs up rest =
      let number : job.lane.lane ≡ k = ap (λ (l : LaneId). l.lane) runs.0 in
      record {
        es = Began job.lane job.places job.closing now ∷ [];
        has = has_all (Began job.lane job.places job.closing now ∷ []) all up (omega (arith, number), refl, tt);
        no_end = λ sends. ap (λ (h : List Entry). queue_calls old.core.setting sends h k) all.added.past;
        answer = runs_at job all.added.past event runs;
        finished = λ ends. absurd (cc);
        spent = λ ends. absurd (cc);
        rests = tt;
        down = tt;
      }
  answered (next.Gave n) is legal event all runs up rest = quiet (next.Gave n) is legal all up rest (λ rests. rests)
  answered (next.Idle until) is legal event all runs up rest = quiet (next.Idle until) is legal all up rest (λ rests. rests)
  answered next.Spent is legal event all runs up rest = quiet next.Spent is legal all up rest (λ rests. rests)
  answered next.Finished is legal event all runs up rest = quiet next.Finished is legal all up rest (λ rests. rests)

  -- an error by which nothing was added
  refused : (e : BookError) → HasAdded k t old new [] → is_running old.core.past (queue_lane k) ≡ false → (e ≡ why.OutOfMemory) ⊎ (is_down new ≡ true) → HasAsked k t old new (Err e)
  refused e has rest cause = record {
    es = [];
    has = has;
    no_end = λ sends. ap (λ (h : List Entry). queue_calls old.core.setting sends h k) has.past;
    answer = tt;
    finished = tt;
    spent = tt;
    rests = ap (λ (h : List Entry). is_running h (queue_lane k)) has.past ∙ rest;
    down = cause;
  }

one_entry : (x : Next) (m : ℕ) → length (next_entries x m) ≤ 1
one_entry (next.Call job) m = omega arith
one_entry (next.Gave n) m = omega arith
one_entry (next.Idle until) m = omega arith
one_entry next.Spent m = omega arith
one_entry next.Finished m = omega arith

-- of one entry that is cut off nothing was added
pub none_before : (front rest es : List Entry) → length es ≤ 1 → front ++ rest ≡ es → 0 < length rest → front ≡ []
none_before [] rest es few split some = refl
none_before (e ∷ front) rest es few split some =
    let long : suc (length (front ++ rest)) ≤ 1 = subst (λ (l : List Entry). length l ≤ 1) (sym split) few in
    absurd (omega (arith, long, some, length-append front rest))

-- entries of which a part was added before a disk failed
pub has_some : {D : Type 0} (k t : ℕ) (old new : BookState D) (front : List Entry) → Added old.core.setting.messages old new front → new.core.setting ≡ old.core.setting → is_down new ≡ true → change_of new.trouble ≡ change_of old.trouble → AreOwn k (moment_for old.core.past t) front → HasAdded k t old new front
has_some k t old new front all setting down change own = record {
  past = all.past;
  told = all.told;
  setting = setting;
  found = all.found;
  own = own;
  down = λ is. down;
  change = change;
}

pub asked : {D : Type 0} (d : DiskMeaning D) (k t : ℕ) (old new : BookState D) (r : Result Next BookError) → NextDid d k t old new r → is_running old.core.past (queue_lane k) ≡ false → IsSound old → IsSound new → HasAsked k t old new r
asked {D} d k t old new (Ok x) did rest before after =
    let m : ℕ = moment_for old.core.past t in
    let all : AddedAll d old.core.setting.messages old new (next_entries x m) = subst (λ (y : Next). AddedAll d old.core.setting.messages old new (next_entries y m)) (sym did.answer) did.added in
    let event : HasEvent old.core.setting old.core.past m x = subst (HasEvent old.core.setting old.core.past m) (sym did.answer) (has_event old.core.setting old.core.past k m) in
    let up : is_down old ≡ true → ⊥ = λ is. (let never : Ok x ≡ Err why.Down = did.down.1 is in absurd (cc)) in
    answered d k t old new x did.answer before.legal event all did.runs up rest
asked {D} d k t old new (Err why.DiskFault) did rest before after =
    let m : ℕ = moment_for old.core.past t in
    let some = did.stopped refl in
    let none : some.front ≡ [] = none_before some.front some.rest (next_entries (next_for old.core.setting old.core.past k m) m) (one_entry (next_for old.core.setting old.core.past k m) m) some.split some.left in
    let all : Added old.core.setting.messages old new [] = subst (λ (es : List Entry). Added old.core.setting.messages old new es) none some.added in
    let down : is_down new ≡ true = ap is_some some.trouble in
    let up : is_down old ≡ true → ⊥ = λ is. (let never = did.down.1 is in absurd (cc)) in
    refused d k t old new why.DiskFault (has_some k t old new [] all (setting_kept old.core.setting.messages old new [] all refl before after) down (still_none old new (ap change_of some.trouble) up) tt) rest (inr down)
asked {D} d k t old new (Err why.DestFault) did rest before after = absurd (did.no_dest refl)
asked {D} d k t old new (Err why.Down) did rest before after =
    let same : new ≡ old = did.left refl in
    let down : is_down new ≡ true = ap is_down same ∙ did.down.0 refl in
    refused d k t old new why.Down (has_none k t old new (ap (λ (b : BookState D). b.core) same) (ap (λ (b : BookState D). b.found) same) (ap (λ (b : BookState D). b.trouble) same)) rest (inr down)
asked {D} d k t old new (Err why.OutOfMemory) did rest before after =
    let same : IsSame old new = did.no_memory refl in
    refused d k t old new why.OutOfMemory (has_none k t old new (ap (λ (b : BookState D). b.core) same) (ap (λ (b : BookState D). b.found) same) (ap (λ (b : BookState D). b.trouble) same)) rest (inl refl)

-- as the seats of a turn see it
pub answers_told : {D : Type 0} (code : Coded D) (k : ℕ) (old new : BookState D) → new.core.setting ≡ old.core.setting → IsSound new → (x : Next) → AnswersAt old.core.setting new.core.past k x → Answers QueueRests RunsQueueJob (setup_of code old) (told_of new.core) k x
answers_told code k old new same after (next.Call job) runs = runs_told code old new same after k job runs
answers_told code k old new same after (next.Gave n) rests = running_at code old new k ∙ rests
answers_told code k old new same after (next.Idle until) rests = running_at code old new k ∙ rests
answers_told code k old new same after next.Spent rests = running_at code old new k ∙ rests
answers_told code k old new same after next.Finished rests = running_at code old new k ∙ rests
