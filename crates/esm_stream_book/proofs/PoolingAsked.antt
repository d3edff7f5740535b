-- A batcher that asks: what it adds and is answered.
use Rattle.std.proofs.Common.{◌≡◌, ℕ, suc, ◌+◌, ◌≤◌, true, List, [], ◌∷◌, ◌++◌, length, reverse, refl, sym, ap, ◌∙◌, subst, inl, inr, Option, Some, None, arith, length-append}
use Rattle.std.specs.Prelude.{Result, Ok, Err, IfOk, IfErr, OnOk, OnErr, IsErrOf, IsSome, ◌↔◌, ◌⊎◌, ⊤, is_some}
use Rattle.std.specs.Coded.{Coded}
use Rattle.std.proofs.lemmas.Result.{IfOk-weaker, on_err_weaker}
use Rattle.esm_io.specs.Meanings.{DiskMeaning, DestMeaning}
use Rattle.esm_model.specs.declared.setup.Setup.{Setup}
use Rattle.esm_model.specs.declared.lane.LaneId.{LaneId}
use Rattle.esm_model.specs.declared.book.BookError.{BookError}
use Rattle.esm_model.specs.declared.book.BookError.TheVariants as why
use Rattle.esm_model.specs.declared.book.Job.{Job}
use Rattle.esm_model.specs.declared.book.Next.{Next}
use Rattle.esm_model.specs.declared.book.Next.TheVariants as next
use Rattle.esm_model.specs.declared.book.Trouble.{Trouble}
use Rattle.esm_model.specs.declared.book.Trouble.TheVariants.{Disk, Dest, Changed}
use Rattle.esm_model.specs.declared.entry.Entry.{Entry}
use Rattle.esm_model.specs.declared.entry.Entry.TheVariants.{Began}
use Rattle.esm_model.specs.Kept.{added, IsLegal}
use Rattle.esm_model.specs.Books.{stream_may_follow}
use Rattle.esm_model.specs.Setting.{Setting}
use Rattle.esm_model.specs.Step.{Legal}
use Rattle.esm_model.specs.Entries.{batcher, calls_begun}
use Rattle.esm_model.specs.Calls.{calls}
use Rattle.esm_model.proofs.Steps.{same_lane-refl, running_began}
use Rattle.esm_model.specs.GoingOn.{GoesOn, AllAt}
use Rattle.esm_model.specs.Batching.{Answers}
use Rattle.esm_stream_book.specs.Batchers.{calls_told, Rests, RunsJob}
use Rattle.esm_stream_book.specs.Finishing.{HasFinished, AreSpent}
use Rattle.esm_stream_book.proofs.Lanes.{batcher_is}
use Rattle.esm_stream_book.proofs.OneMore.{AllRest, running_can}
use Rattle.esm_ledger.specs.Reading.{lane_of_batcher}
use Rattle.esm_next.specs.Following.{next_for, next_entries, expiry_entries}
use Rattle.esm_stream_core.specs.Told.{told_of}
use Rattle.esm_stream_core.specs.Calls.{moment_for, IsNextOver, IsResting}
use Rattle.esm_stream_book.specs.Books.{BookState, setup_of, is_down}
use Rattle.esm_stream_book.specs.Calls.{AddedAll, AddedSome, RunsCall, IsSame, WasWriting, next_entries_now}
use Rattle.esm_stream_book.specs.Keeping.{IsSound, IsSetupOf}
use Rattle.esm_stream_book.proofs.PoolingEntries.{AreOwn}
use Rattle.esm_stream_book.proofs.PoolingFinished.{IsFinished, finished_for, spent_for}
use Rattle.esm_stream_book.proofs.PoolingLanes.{job_event}
use Rattle.esm_stream_book.proofs.PoolingSteps.{as_kept, HasAdded, added_all, added_some, added_none, added_same, RunsOver, goes_on, at_moment, onto, calls_now, rests_now, runs_now, calls_still, rests_still}

-- its lanes rest, so it may ask
pub may_ask : {D T : Type 0} (v : BookState D T) (k : ℕ) → AllRest v.core.setting v.core.past k → IsResting v.core k
may_ask v k rest lane is = rest lane (batcher_is v.core.setting v.core.past k lane is)

-- what holds of it where it was answered so
abbrev AnswersOver : Setting → List Entry → ℕ → Next → Type 0
AnswersOver s h k (next.Call job) = RunsOver s h k job
AnswersOver s h k _ = AllRest s h k

-- the entries of an answer

pub record IsAnswered (s : Setting) (h : List Entry) (k m : ℕ) (x : Next) (es : List Entry) : Type 0 where
  pub own : AreOwn s h k m es
  pub no_end : (sends : List ℕ → List ℕ) → calls s sends (reverse es ++ h) k ≡ calls s sends h k
  pub answer : AnswersOver s (reverse es ++ h) k x

began : (s : Setting) (h : List Entry) (k m : ℕ) (job : Job) → next.Call job ≡ next_for s h k m → lane_of_batcher s h k ≡ Some job.lane → Legal s (Began job.lane job.places job.closing m ∷ h)
    → IsAnswered s h k m (next.Call job) (Began job.lane job.places job.closing m ∷ [])
began s h k m job is lane legal =
    let served : batcher s h job.lane ≡ k = batcher_is s h k job.lane lane in
    let runs = running_began job.lane job.places job.closing m h in
    record {
      own = (record { lane = job.lane; of_lane = refl; served = served; at = refl }, tt);
      no_end = λ sends. refl;
      answer = record {
        served = served;
        came = (running_can s (Began job.lane job.places job.closing m ∷ h) job.lane legal runs).came;
        running = runs;
        places = rw (same_lane-refl job.lane) refl;
        event = rw (same_lane-refl job.lane) (job_event s h k m job is);
      };
    }

expired : (s : Setting) (h : List Entry) (k m count : ℕ) (o : Option LaneId) → lane_of_batcher s h k ≡ o → AllRest s h k → IsAnswered s h k m (next.Gave count) (expiry_entries s h m o)
expired s h k m count None at rest = record { own = tt; no_end = λ sends. refl; answer = rest }
expired s h k m count (Some lane) at rest = record {
  own = (record { lane = lane; of_lane = refl; served = batcher_is s h k lane at; at = refl }, tt);
  no_end = λ sends. refl;
  answer = rest;
}

-- the lane of a call, where the answer is one
abbrev IsOfBatcher : Setting → List Entry → ℕ → Next → Type 0
IsOfBatcher s h k (next.Call job) = lane_of_batcher s h k ≡ Some job.lane
IsOfBatcher s h k _ = ⊤

of_batcher : {D T : Type 0} (old new : BookState D T) (k : ℕ) (x : Next) → RunsCall k old.core new.core x → IsOfBatcher old.core.setting old.core.past k x
of_batcher old new k (next.Call job) runs = runs.0
of_batcher old new k (next.Gave count) runs = tt
of_batcher old new k (next.Idle until) runs = tt
of_batcher old new k next.Spent runs = tt
of_batcher old new k next.Finished runs = tt

answered : (s : Setting) (h : List Entry) (k m : ℕ) (x : Next) → x ≡ next_for s h k m → IsOfBatcher s h k x → Legal s (reverse (next_entries s h k m x) ++ h) → AllRest s h k → IsAnswered s h k m x (next_entries s h k m x)
answered s h k m (next.Call job) is lane legal rest = began s h k m job is lane legal
answered s h k m (next.Gave count) is lane legal rest = expired s h k m count (lane_of_batcher s h k) refl rest
answered s h k m (next.Idle until) is lane legal rest = record { own = tt; no_end = λ sends. refl; answer = rest }
answered s h k m next.Spent is lane legal rest = record { own = tt; no_end = λ sends. refl; answer = rest }
answered s h k m next.Finished is lane legal rest = record { own = tt; no_end = λ sends. refl; answer = rest }

-- an answer by which it has finished, or the calls are spent, adds nothing

finished_so : (s : Setting) (h : List Entry) (k m : ℕ) (x : Next) → x ≡ next_for s h k m → x ≡ next.Finished → IsFinished s (reverse (next_entries s h k m x) ++ h) k
finished_so s h k m x is finished =
    subst (λ (y : Next). IsFinished s (reverse (next_entries s h k m y) ++ h) k) (sym finished) (finished_for s h k m (sym is ∙ finished))

spent_so : (s : Setting) (h : List Entry) (k m : ℕ) (x : Next) → x ≡ next_for s h k m → x ≡ next.Spent → s.calls ≤ calls_begun (reverse (next_entries s h k m x) ++ h)
spent_so s h k m x is spent =
    subst (λ (y : Next). s.calls ≤ calls_begun (reverse (next_entries s h k m y) ++ h)) (sym spent) (spent_for s h k m (sym is ∙ spent))

-- a fault

one_at_most : (o : Option LaneId) (s : Setting) (h : List Entry) (m : ℕ) → length (expiry_entries s h m o) ≤ 1
one_at_most None s h m = omega arith
one_at_most (Some lane) s h m = omega arith

one_entry : (s : Setting) (h : List Entry) (k m : ℕ) (x : Next) → length (next_entries s h k m x) ≤ 1
one_entry s h k m (next.Call job) = omega arith
one_entry s h k m (next.Gave count) = one_at_most (lane_of_batcher s h k) s h m
one_entry s h k m (next.Idle until) = omega arith
one_entry s h k m next.Spent = omega arith
one_entry s h k m next.Finished = omega arith

no_write : (t : Trouble) (s : Setting) → WasWriting t s [] → ⊥
no_write Disk s writing = absurd (omega (arith, writing))
no_write Dest s writing = absurd (omega (arith, writing))
no_write (Changed change) s writing = writing

-- what was being written was the only entry
none_before : (t : Trouble) (s : Setting) (front rest es : List Entry) → length es ≤ 1 → front ++ rest ≡ es → WasWriting t s rest → front ≡ []
none_before t s [] rest es few split writing = refl
none_before t s (e ∷ front) [] es few split writing = absurd (no_write t s writing)
none_before t s (e ∷ front) (r ∷ rest) es few split writing =
    let long : suc (length (front ++ r ∷ rest)) ≤ 1 = subst (λ (l : List Entry). length l ≤ 1) (sym split) few in
    absurd (omega (arith, long, length-append front (r ∷ rest)))

-- what the book ensures of the call
pub record NextSays {D T : Type 0} (d : DiskMeaning D) (n : DestMeaning T) (k t : ℕ) (old new : BookState D T) (r : Result Next BookError) : Type 0 where
  pub answer : IfOk r (IsNextOver old.core k (moment_for old.core.past t))
  pub added : OnOk r (AddedAll d n old.core.setting old new (next_entries_now old.core k t))
  pub stopped : IsErrOf r why.DiskFault → AddedSome d n old.core.setting old new (next_entries_now old.core k t) Disk
  pub undelivered : IsErrOf r why.DestFault → AddedSome d n old.core.setting old new (next_entries_now old.core k t) Dest
  pub runs : IfOk r (RunsCall k old.core new.core)
  pub down : IsErrOf r why.Down ↔ IsSome old.trouble
  pub left : IsErrOf r why.Down → new ≡ old
  pub no_memory : IsErrOf r why.OutOfMemory → IsSame n old new

-- what is so of the batcher's entries and of its answer
pub record HasAsked {D T : Type 0} (old new : BookState D T) (k t : ℕ) (r : Result Next BookError) : Type 0 where
  pub es : List Entry
  pub added : HasAdded old new k (moment_for old.core.past t) es
  pub no_end : (sends : List ℕ → List ℕ) → calls old.core.setting sends (reverse es ++ old.core.past) k ≡ calls old.core.setting sends old.core.past k
  pub answer : IfOk r (AnswersOver old.core.setting (reverse es ++ old.core.past) k)
  pub finished : IfOk r (λ (x : Next). x ≡ next.Finished → IsFinished old.core.setting (reverse es ++ old.core.past) k)
  pub spent : IfOk r (λ (x : Next). x ≡ next.Spent → old.core.setting.calls ≤ calls_begun (reverse es ++ old.core.past))
  pub rests : OnErr r (AllRest old.core.setting (reverse es ++ old.core.past) k)
  pub down : IfErr r (λ e. (e ≡ why.OutOfMemory) ⊎ (is_down new ≡ true))

answered_all : {D T : Type 0} (d : DiskMeaning D) (n : DestMeaning T) (k t : ℕ) (old new : BookState D T) (x : Next) → NextSays d n k t old new (Ok x) → IsSound new → AllRest old.core.setting old.core.past k → HasAsked old new k t (Ok x)
answered_all d n k t old new x says after rest =
    let s = old.core.setting in
    let h = old.core.past in
    let m = moment_for h t in
    let is : x ≡ next_for s h k m = says.answer s.streams (λ a i r at. at) in
    let es = next_entries s h k m x in
    let all : AddedAll d n s old new es = subst (λ (y : Next). AddedAll d n s old new (next_entries s h k m y)) (sym is) says.added in
    let legal : Legal s (reverse es ++ h) = subst (λ (z : Setting). Legal z (reverse es ++ h)) all.setting (subst (Legal new.core.setting) all.added.past (after.legal new.core.setting.streams (λ a i r at. at))) in
    let so : IsAnswered s h k m x es = answered s h k m x is (of_batcher old new k x says.runs) legal rest in
    record {
      es = es;
      added = added_all d n old new k m es all (λ was. let clash : Ok x ≡ Err why.Down = says.down.1 was in absurd (cc)) so.own;
      no_end = so.no_end;
      answer = so.answer;
      finished = finished_so s h k m x is;
      spent = spent_so s h k m x is;
      rests = tt;
      down = tt;
    }

-- nothing was added
asked_none : {D T : Type 0} (k t : ℕ) (old new : BookState D T) (e : BookError) (es : List Entry) → es ≡ [] → HasAdded old new k (moment_for old.core.past t) es → AllRest old.core.setting old.core.past k → (e ≡ why.OutOfMemory) ⊎ (is_down new ≡ true) → HasAsked old new k t (Err e)
asked_none k t old new e es none g rest down = record {
  es = [];
  added = subst (HasAdded old new k (moment_for old.core.past t)) none g;
  no_end = λ sends. refl;
  answer = tt;
  finished = tt;
  spent = tt;
  rests = rest;
  down = down;
}

asked_fault : {D T : Type 0} (d : DiskMeaning D) (n : DestMeaning T) (k t : ℕ) (old new : BookState D T) (e : BookError) (trouble : Trouble) → AddedSome d n old.core.setting old new (next_entries_now old.core k t) trouble
    → (is_down old ≡ true → ⊥) → IsSound old → IsSound new → AllRest old.core.setting old.core.past k → HasAsked old new k t (Err e)
asked_fault d n k t old new e trouble some up before after rest =
    let s = old.core.setting in
    let m = moment_for old.core.past t in
    let none : some.front ≡ [] = none_before trouble s some.front some.rest (next_entries_now old.core k t) (one_entry s old.core.past k m (next_for s old.core.past k m)) some.split some.writing in
    asked_none k t old new e some.front none
    (added_some d n old new k m (next_entries_now old.core k t) trouble some up before after (subst (AreOwn s old.core.past k m) (sym none) tt))
    rest (inr (ap is_some some.trouble_is))

pub asked : {D T : Type 0} (d : DiskMeaning D) (n : DestMeaning T) (k t : ℕ) (old new : BookState D T) (r : Result Next BookError) → NextSays d n k t old new r → IsSound old → IsSound new → AllRest old.core.setting old.core.past k → HasAsked old new k t r
asked d n k t old new (Ok x) says before after rest = answered_all d n k t old new x says after rest
asked d n k t old new (Err why.DiskFault) says before after rest = asked_fault d n k t old new why.DiskFault Disk (says.stopped refl) (λ was. let clash : Err why.DiskFault ≡ Err why.Down = says.down.1 was in absurd (cc)) before after rest
asked d n k t old new (Err why.DestFault) says before after rest = asked_fault d n k t old new why.DestFault Dest (says.undelivered refl) (λ was. let clash : Err why.DestFault ≡ Err why.Down = says.down.1 was in absurd (cc)) before after rest
asked {D} {T} d n k t old new (Err why.Down) says before after rest =
    let m = moment_for old.core.past t in
    asked_none k t old new why.Down [] refl (subst (λ (b : BookState D T). HasAdded old b k m []) (sym (says.left refl)) (added_none old k m)) rest
    (inr (ap (λ (b : BookState D T). is_down b) (says.left refl) ∙ says.down.0 refl))
asked d n k t old new (Err why.OutOfMemory) says before after rest =
    asked_none k t old new why.OutOfMemory [] refl (added_same n old new k (moment_for old.core.past t) (says.no_memory refl)) rest (inl refl)

-- as told

module _ {D T : Type 0} (code : Coded D) (dest_code : Coded T) (lines : T → Option (List (List ℕ))) (d : DiskMeaning D) (n : DestMeaning T) (k t : ℕ) (old new : BookState D T) (r : Result Next BookError)
    (says : NextSays d n k t old new r) (before : IsSound old) (after : IsSound new) (rest : Rests (setup_of code dest_code lines old) (told_of old.core) k) where
  so : HasAsked old new k t r
  so = asked d n k t old new r says before after (rests_still code dest_code lines old k before rest)

  pub ask_goes_on : ((setup : Setup) → IsSetupOf setup new → IsLegal (stream_may_follow setup) (told_of new.core))
      → GoesOn (as_kept code dest_code lines) (k + 1) old new
  ask_goes_on law = goes_on code dest_code lines old new k (moment_for old.core.past t) so.es so.added law

  pub ask_moments : AllAt t (told_of old.core) (added (told_of old.core) (told_of new.core))
  ask_moments = at_moment code dest_code lines old new k (moment_for old.core.past t) so.es so.added t refl

  pub ask_no_end : (sends : List ℕ → List ℕ) → calls_told (setup_of code dest_code lines old) sends (told_of new.core) k ≡ calls_told (setup_of code dest_code lines old) sends (told_of old.core) k
  ask_no_end sends =
      calls_now code dest_code lines old new k (moment_for old.core.past t) so.es so.added after sends
      ∙ so.no_end sends
      ∙ sym (calls_still code dest_code lines old k before sends)

  told_rests : AllRest old.core.setting (reverse so.es ++ old.core.past) k → Rests (setup_of code dest_code lines old) (told_of new.core) k
  told_rests all = rests_now code dest_code lines old new k (moment_for old.core.past t) so.es so.added after all

  told_answer : (x : Next) → AnswersOver old.core.setting (reverse so.es ++ old.core.past) k x → Answers Rests RunsJob (setup_of code dest_code lines old) (told_of new.core) k x
  told_answer (next.Call job) runs = runs_now code dest_code lines old new k (moment_for old.core.past t) so.es so.added after job runs
  told_answer (next.Gave count) all = told_rests all
  told_answer (next.Idle until) all = told_rests all
  told_answer next.Spent all = told_rests all
  told_answer next.Finished all = told_rests all

  pub ask_answer : IfOk r (Answers Rests RunsJob (setup_of code dest_code lines old) (told_of new.core) k)
  ask_answer = IfOk-weaker r (AnswersOver old.core.setting (reverse so.es ++ old.core.past) k) (Answers Rests RunsJob (setup_of code dest_code lines old) (told_of new.core) k) told_answer so.answer

  told_finished : IsFinished old.core.setting (reverse so.es ++ old.core.past) k → HasFinished (setup_of code dest_code lines old) (told_of new.core) k
  told_finished over =
      let told = onto code dest_code lines old new k (moment_for old.core.past t) so.es so.added after (λ s h. IsFinished s h k) over in
      record { shut = told.shut; quiet = told.quiet }

  told_spent : old.core.setting.calls ≤ calls_begun (reverse so.es ++ old.core.past) → AreSpent (setup_of code dest_code lines old) (told_of new.core)
  told_spent over = onto code dest_code lines old new k (moment_for old.core.past t) so.es so.added after (λ s h. s.calls ≤ calls_begun h) over

  pub ask_finished : IfOk r (λ (x : Next). x ≡ next.Finished → HasFinished (setup_of code dest_code lines old) (told_of new.core) k)
  ask_finished = IfOk-weaker r (λ (x : Next). x ≡ next.Finished → IsFinished old.core.setting (reverse so.es ++ old.core.past) k)
      (λ (x : Next). x ≡ next.Finished → HasFinished (setup_of code dest_code lines old) (told_of new.core) k) (λ x over is. told_finished (over is)) so.finished

  pub ask_spent : IfOk r (λ (x : Next). x ≡ next.Spent → AreSpent (setup_of code dest_code lines old) (told_of new.core))
  ask_spent = IfOk-weaker r (λ (x : Next). x ≡ next.Spent → old.core.setting.calls ≤ calls_begun (reverse so.es ++ old.core.past))
      (λ (x : Next). x ≡ next.Spent → AreSpent (setup_of code dest_code lines old) (told_of new.core)) (λ x over is. told_spent (over is)) so.spent

  pub ask_rests : OnErr r (Rests (setup_of code dest_code lines old) (told_of new.core) k)
  ask_rests = on_err_weaker r told_rests so.rests
