-- A batcher whose call ended: what it adds, and that it rests then.
use Rattle.std.proofs.Common.{◌≡◌, ℕ, ◌+◌, true, false, List, [], ◌∷◌, ◌++◌, reverse, map, refl, sym, ap, ◌∙◌, subst, inl, inr, Option, arith, append_assoc, append-nil}
use Rattle.std.specs.Prelude.{Result, Ok, Err, IfErr, OnOk, IsErrOf, IsSome, ◌↔◌, ◌⊎◌, is_some}
use Rattle.std.specs.Coded.{Coded}
use Rattle.std.proofs.lemmas.Bool.{cases_Bool, eq-eqb}
use Rattle.std.proofs.lemmas.List.{reverse-append}
use Rattle.esm_io.specs.Meanings.{DiskMeaning, DestMeaning}
use Rattle.esm_model.specs.declared.setup.Setup.{Setup}
use Rattle.esm_model.specs.declared.called.Called.{Called}
use Rattle.esm_model.specs.declared.lane.LaneId.{LaneId}
use Rattle.esm_model.specs.declared.book.BookError.{BookError}
use Rattle.esm_model.specs.declared.book.BookError.TheVariants as why
use Rattle.esm_model.specs.declared.book.Job.{Job}
use Rattle.esm_model.specs.declared.book.Trouble.{Trouble}
use Rattle.esm_model.specs.declared.book.Trouble.TheVariants.{Disk, Dest, Changed}
use Rattle.esm_model.specs.declared.entry.Entry.{Entry}
use Rattle.esm_model.specs.declared.entry.Entry.TheVariants.{Ended}
use Rattle.esm_model.specs.declared.entry.Reply.{Reply}
use Rattle.esm_model.specs.Kept.{added, IsLegal}
use Rattle.esm_model.specs.Books.{stream_may_follow}
use Rattle.esm_model.specs.Lane.{same_lane}
use Rattle.esm_model.specs.Setting.{Setting}
use Rattle.esm_model.specs.Step.{Legal}
use Rattle.esm_model.specs.Entries.{is_running, batcher, shards_that_came}
use Rattle.esm_model.specs.Calls.{calls}
use Rattle.esm_model.specs.Owed.{Debt, Success, GiveUp, Try, Close, debt_entry, debts, owed}
use Rattle.esm_model.proofs.Steps.{same_lane-refl}
use Rattle.esm_model.specs.GoingOn.{GoesOn, AllAt}
use Rattle.esm_model.specs.Batching.{call_of}
use Rattle.esm_stream_book.specs.Batchers.{calls_told, Rests, RunsJob}
use Rattle.esm_stream_book.proofs.OneMore.{AllRest}
use Rattle.esm_stream_core.specs.Told.{told_of}
use Rattle.esm_stream_core.specs.Calls.{moment_for, IsRunningJob, ended_entries}
use Rattle.esm_stream_book.specs.Books.{BookState, setup_of, is_down}
use Rattle.esm_stream_book.specs.Calls.{AddedAll, AddedSome, AddedOne, IsSame, WasWriting}
use Rattle.esm_stream_book.specs.Keeping.{IsSound, IsSetupOf}
use Rattle.esm_stream_book.proofs.PoolingEntries.{IsOwn, AreOwn, same_batcher}
use Rattle.esm_stream_book.proofs.PoolingLanes.{one_lane}
use Rattle.esm_stream_book.proofs.PoolingSteps.{as_kept, HasAdded, added_all, added_some, added_one, added_same, RunsOver, goes_on, at_moment, calls_now, rests_now, calls_still, runs_still}

-- it runs the job, so it may end
pub may_end : {D T : Type 0} (v : BookState D T) (k : ℕ) (job : Job) → RunsOver v.core.setting v.core.past k job → IsRunningJob v.core.past job
may_end v k job runs = record { runs = runs.running; places = runs.places }

-- what the end calls for begins and ends no call, and brings no record

record IsQuiet (s : Setting) (sends : List ℕ → List ℕ) (h more : List Entry) : Type 0 where
  running : (lane : LaneId) → is_running more lane ≡ is_running h lane
  shards : shards_that_came more ≡ shards_that_came h
  calls : (k : ℕ) → calls s sends more k ≡ calls s sends h k

quiet_debt : (s at : Setting) (sends : List ℕ → List ℕ) (h before : List Entry) (lane : LaneId) (m : ℕ) (d : Debt) → IsQuiet s sends h (debt_entry at before lane m d ∷ h)
quiet_debt s at sends h before lane m (Success places state) = record { running = λ l. refl; shards = refl; calls = λ k. refl }
quiet_debt s at sends h before lane m (GiveUp places) = record { running = λ l. refl; shards = refl; calls = λ k. refl }
quiet_debt s at sends h before lane m (Try places closing tries) = record { running = λ l. refl; shards = refl; calls = λ k. refl }
quiet_debt s at sends h before lane m (Close window) = record { running = λ l. refl; shards = refl; calls = λ k. refl }

quiet_then : (s : Setting) (sends : List ℕ → List ℕ) (a b c : List Entry) → IsQuiet s sends a b → IsQuiet s sends b c → IsQuiet s sends a c
quiet_then s sends a b c x y = record {
  running = λ l. y.running l ∙ x.running l;
  shards = y.shards ∙ x.shards;
  calls = λ k. y.calls k ∙ x.calls k;
}

one_more : (e : Entry) (es h : List Entry) → reverse es ++ e ∷ h ≡ reverse (e ∷ es) ++ h
one_more e es h = sym (ap (λ xs. xs ++ h) (reverse-append (e ∷ []) es) ∙ append_assoc (reverse es) (e ∷ []) h)

quiet_front : (s at : Setting) (sends : List ℕ → List ℕ) (h before : List Entry) (lane : LaneId) (m : ℕ) (front rest : List Entry) (ds : List Debt) → front ++ rest ≡ map (debt_entry at before lane m) ds → IsQuiet s sends h (reverse front ++ h)
quiet_front s at sends h before lane m [] rest ds split = record { running = λ l. refl; shards = refl; calls = λ k. refl }
quiet_front s at sends h before lane m (e ∷ es) rest [] split = absurd (cc)
quiet_front s at sends h before lane m (e ∷ es) rest (d ∷ ds) split =
    let e_is : debt_entry at before lane m d ≡ e = cc in
    let tail : es ++ rest ≡ map (debt_entry at before lane m) ds = cc in
    let first : IsQuiet s sends h (e ∷ h) = subst (λ (y : Entry). IsQuiet s sends h (y ∷ h)) e_is (quiet_debt s at sends h before lane m d) in
    subst (IsQuiet s sends h) (one_more e es h) (quiet_then s sends h (e ∷ h) (reverse es ++ e ∷ h) first (quiet_front s at sends (e ∷ h) before lane m es rest ds tail))

-- and is the lane's

own_debt : (s : Setting) (h : List Entry) (k : ℕ) (at : Setting) (before : List Entry) (lane : LaneId) (m : ℕ) (d : Debt) → batcher s h lane ≡ k → IsOwn s h k m (debt_entry at before lane m d)
own_debt s h k at before lane m (Success places state) served = record { lane = lane; of_lane = refl; served = served; at = refl }
own_debt s h k at before lane m (GiveUp places) served = record { lane = lane; of_lane = refl; served = served; at = refl }
own_debt s h k at before lane m (Try places closing tries) served = record { lane = lane; of_lane = refl; served = served; at = refl }
own_debt s h k at before lane m (Close window) served = record { lane = lane; of_lane = refl; served = served; at = refl }

own_front : (s : Setting) (h : List Entry) (k : ℕ) (at : Setting) (before : List Entry) (lane : LaneId) (m : ℕ) (front rest : List Entry) (ds : List Debt) → batcher s h lane ≡ k → front ++ rest ≡ map (debt_entry at before lane m) ds → AreOwn s h k m front
own_front s h k at before lane m [] rest ds served split = tt
own_front s h k at before lane m (e ∷ es) rest [] served split = absurd (cc)
own_front s h k at before lane m (e ∷ es) rest (d ∷ ds) served split =
    let e_is : debt_entry at before lane m d ≡ e = cc in
    let tail : es ++ rest ≡ map (debt_entry at before lane m) ds = cc in
    (subst (IsOwn s h k m) e_is (own_debt s h k at before lane m d served), own_front s h k at before lane m es rest ds served tail)

-- the entries of an end

abbrev called : Setting → (List ℕ → List ℕ) → (event : List ℕ) → Reply → Called
called s sends event reply = record { name = s.config.function; event = sends event; reply = reply }

pub record IsEnded (s : Setting) (h : List Entry) (k m : ℕ) (job : Job) (reply : Reply) (es : List Entry) : Type 0 where
  pub own : AreOwn s h k m es
  pub logged : (sends : List ℕ → List ℕ) → calls s sends (reverse es ++ h) k ≡ calls s sends h k ++ called s sends job.event reply ∷ []
  pub rests : AllRest s (reverse es ++ h) k

rests_ended : (s : Setting) (h : List Entry) (k m : ℕ) (job : Job) (reply : Reply) → Legal s h → RunsOver s h k job → (l : LaneId) → batcher s h l ≡ k → is_running (Ended job.lane reply m ∷ h) l ≡ false
rests_ended s h k m job reply legal runs l served = elim (cases_Bool (same_lane job.lane l)) [
  | inl same ↦ rw same refl
  | inr apart ↦ elim (cases_Bool (is_running h l)) [
    | inl ran ↦ absurd (
        let lane : job.lane ≡ l = one_lane s h job.lane l legal runs.running ran (runs.served ∙ sym served) in
        let same : same_lane job.lane l ≡ true = subst (λ (x : LaneId). same_lane job.lane x ≡ true) lane (same_lane-refl job.lane) in
        cc)
    | inr rests ↦ rw apart rests
  ]
]

ended_so : (s : Setting) (h : List Entry) (k m : ℕ) (job : Job) (reply : Reply) (front rest : List Entry) → Legal s h → RunsOver s h k job → front ++ rest ≡ owed s (Ended job.lane reply m ∷ h) job.lane → IsEnded s h k m job reply (Ended job.lane reply m ∷ front)
ended_so s h k m job reply front rest legal runs split =
    let end : List Entry = Ended job.lane reply m ∷ h in
    let ds : List Debt = debts s end job.lane in
    let quiet : (sends : List ℕ → List ℕ) → IsQuiet s sends end (reverse (Ended job.lane reply m ∷ front) ++ h) = λ sends.
    subst (IsQuiet s sends end) (one_more (Ended job.lane reply m) front h) (quiet_front s s sends end end job.lane m front rest ds split) in
    record {
      own = (record { lane = job.lane; of_lane = refl; served = runs.served; at = refl }, own_front s h k s end job.lane m front rest ds runs.served split);
      logged = λ sends. (quiet sends).calls k ∙ rw (eq-eqb (batcher s h job.lane) k runs.served) (ap (λ (event : List ℕ). calls s sends h k ++ called s sends event reply ∷ []) (sym runs.event));
      rests = λ l served.
          let q = quiet (λ text. text) in
          let same : batcher s (reverse (Ended job.lane reply m ∷ front) ++ h) l ≡ batcher s h l = same_batcher s s h (reverse (Ended job.lane reply m ∷ front) ++ h) l refl q.shards in
          q.running l ∙ rests_ended s h k m job reply legal runs l (sym same ∙ served);
    }

-- what the book ensures of the call
pub record DoneSays {D T : Type 0} (d : DiskMeaning D) (n : DestMeaning T) (job : Job) (reply : Reply) (t : ℕ) (old new : BookState D T) (r : Result ℕ BookError) : Type 0 where
  pub added : OnOk r (AddedAll d n old.core.setting old new (ended_entries old.core job.lane reply (moment_for old.core.past t)))
  pub stopped : IsErrOf r why.DiskFault → AddedSome d n old.core.setting old new (ended_entries old.core job.lane reply (moment_for old.core.past t)) Disk
  pub undelivered : IsErrOf r why.DestFault → AddedSome d n old.core.setting old new (ended_entries old.core job.lane reply (moment_for old.core.past t)) Dest
  pub noted : IsErrOf r why.Down → AddedOne old new (Ended job.lane reply (moment_for old.core.past t))
  pub down : IsErrOf r why.Down ↔ IsSome old.trouble
  pub no_memory : IsErrOf r why.OutOfMemory → IsSame n old new

-- what is so of the batcher's entries: its call ended, but where memory was short
pub record HasEnded {D T : Type 0} (old new : BookState D T) (k t : ℕ) (job : Job) (reply : Reply) (r : Result ℕ BookError) : Type 0 where
  pub es : List Entry
  pub added : HasAdded old new k (moment_for old.core.past t) es
  pub ended : (IsErrOf r why.OutOfMemory → ⊥) → IsEnded old.core.setting old.core.past k (moment_for old.core.past t) job reply es
  pub unchanged : IsErrOf r why.OutOfMemory → es ≡ []
  pub down : IfErr r (λ e. (e ≡ why.OutOfMemory) ⊎ (is_down new ≡ true))

no_end : (t : Trouble) (s : Setting) (lane : LaneId) (reply : Reply) (m : ℕ) (more : List Entry) → WasWriting t s (Ended lane reply m ∷ more) → ⊥
no_end Disk s lane reply m more writing = absurd (omega (arith, writing))
no_end Dest s lane reply m more writing = absurd (omega (arith, writing))
no_end (Changed change) s lane reply m more writing = writing

-- the end was added, whatever failed
ended_front : (t : Trouble) (s : Setting) (h : List Entry) (k m : ℕ) (job : Job) (reply : Reply) (front rest : List Entry) → Legal s h → RunsOver s h k job
    → front ++ rest ≡ Ended job.lane reply m ∷ owed s (Ended job.lane reply m ∷ h) job.lane → WasWriting t s rest → IsEnded s h k m job reply front
ended_front t s h k m job reply [] rest legal runs split writing = absurd (no_end t s job.lane reply m (owed s (Ended job.lane reply m ∷ h) job.lane) (subst (WasWriting t s) split writing))
ended_front t s h k m job reply (e ∷ es) rest legal runs split writing =
    let e_is : Ended job.lane reply m ≡ e = cc in
    let tail : es ++ rest ≡ owed s (Ended job.lane reply m ∷ h) job.lane = cc in
    subst (λ (x : Entry). IsEnded s h k m job reply (x ∷ es)) e_is (ended_so s h k m job reply es rest legal runs tail)

ended_fault : {D T : Type 0} (d : DiskMeaning D) (n : DestMeaning T) (k t : ℕ) (job : Job) (reply : Reply) (old new : BookState D T) (e : BookError) (trouble : Trouble) → (e ≡ why.OutOfMemory → ⊥) → Legal old.core.setting old.core.past
    → AddedSome d n old.core.setting old new (ended_entries old.core job.lane reply (moment_for old.core.past t)) trouble → (is_down old ≡ true → ⊥) → IsSound old → IsSound new → RunsOver old.core.setting old.core.past k job → HasEnded old new k t job reply (Err e)
ended_fault d n k t job reply old new e trouble other legal some up before after runs =
    let s = old.core.setting in
    let m = moment_for old.core.past t in
    let so : IsEnded s old.core.past k m job reply some.front = ended_front trouble s old.core.past k m job reply some.front some.rest legal runs some.split some.writing in
    record {
      es = some.front;
      added = added_some d n old new k m (ended_entries old.core job.lane reply m) trouble some up before after so.own;
      ended = λ any. so;
      unchanged = λ is. absurd (other (let same : e ≡ why.OutOfMemory = cc in same));
      down = inr (ap is_some some.trouble_is);
    }

legal_before : {D T : Type 0} (old : BookState D T) → IsSound old → Legal old.core.setting old.core.past
legal_before old before = before.legal old.core.setting.streams (λ a i r at. at)

pub ended : {D T : Type 0} (d : DiskMeaning D) (n : DestMeaning T) (k t : ℕ) (job : Job) (reply : Reply) (old new : BookState D T) (r : Result ℕ BookError) → DoneSays d n job reply t old new r → IsSound old → IsSound new → RunsOver old.core.setting old.core.past k job
    → HasEnded old new k t job reply r
ended d n k t job reply old new (Ok count) says before after runs =
    let s = old.core.setting in
    let m = moment_for old.core.past t in
    let end : Entry = Ended job.lane reply m in
    let so : IsEnded s old.core.past k m job reply (ended_entries old.core job.lane reply m) = ended_so s old.core.past k m job reply (owed s (end ∷ old.core.past) job.lane) [] (legal_before old before) runs (append-nil (owed s (end ∷ old.core.past) job.lane)) in
    record {
      es = ended_entries old.core job.lane reply m;
      added = added_all d n old new k m (ended_entries old.core job.lane reply m) says.added (λ was. let clash : Ok count ≡ Err why.Down = says.down.1 was in absurd (cc)) so.own;
      ended = λ any. so;
      unchanged = λ is. absurd (cc);
      down = tt;
    }
ended d n k t job reply old new (Err why.DiskFault) says before after runs =
    ended_fault d n k t job reply old new why.DiskFault Disk (λ is. absurd (cc)) (legal_before old before) (says.stopped refl) (λ was. let clash : Err why.DiskFault ≡ Err why.Down = says.down.1 was in absurd (cc)) before after runs
ended d n k t job reply old new (Err why.DestFault) says before after runs =
    ended_fault d n k t job reply old new why.DestFault Dest (λ is. absurd (cc)) (legal_before old before) (says.undelivered refl) (λ was. let clash : Err why.DestFault ≡ Err why.Down = says.down.1 was in absurd (cc)) before after runs
ended {D} {T} d n k t job reply old new (Err why.Down) says before after runs =
    let s = old.core.setting in
    let m = moment_for old.core.past t in
    let one : AddedOne old new (Ended job.lane reply m) = says.noted refl in
    let so : IsEnded s old.core.past k m job reply (Ended job.lane reply m ∷ []) = ended_so s old.core.past k m job reply [] (owed s (Ended job.lane reply m ∷ old.core.past) job.lane) (legal_before old before) runs refl in
    record {
      es = Ended job.lane reply m ∷ [];
      added = added_one old new k m (Ended job.lane reply m) one so.own;
      ended = λ any. so;
      unchanged = λ is. absurd (cc);
      down = inr (ap (λ (b : BookState D T). is_down b) one.rest ∙ says.down.0 refl);
    }
ended d n k t job reply old new (Err why.OutOfMemory) says before after runs = record {
  es = [];
  added = added_same n old new k (moment_for old.core.past t) (says.no_memory refl);
  ended = λ any. absurd (any refl);
  unchanged = λ is. refl;
  down = inl refl;
}

-- as told

module _ {D T : Type 0} (code : Coded D) (dest_code : Coded T) (lines : T → Option (List (List ℕ))) (d : DiskMeaning D) (n : DestMeaning T) (k t : ℕ) (job : Job) (reply : Reply) (old new : BookState D T) (r : Result ℕ BookError)
    (says : DoneSays d n job reply t old new r) (before : IsSound old) (after : IsSound new) (runs : RunsJob (setup_of code dest_code lines old) (told_of old.core) k job) where
  so : HasEnded old new k t job reply r
  so = ended d n k t job reply old new r says before after (runs_still code dest_code lines old k before job runs)

  pub end_goes_on : ((setup : Setup) → IsSetupOf setup new → IsLegal (stream_may_follow setup) (told_of new.core))
      → GoesOn (as_kept code dest_code lines) (k + 1) old new
  end_goes_on law = goes_on code dest_code lines old new k (moment_for old.core.past t) so.es so.added law

  pub end_moments : AllAt t (told_of old.core) (added (told_of old.core) (told_of new.core))
  end_moments = at_moment code dest_code lines old new k (moment_for old.core.past t) so.es so.added t refl

  pub end_called : (IsErrOf r why.OutOfMemory → ⊥) → (sends : List ℕ → List ℕ) → calls_told (setup_of code dest_code lines old) sends (told_of new.core) k ≡ calls_told (setup_of code dest_code lines old) sends (told_of old.core) k ++ call_of (setup_of code dest_code lines old) sends job.event reply ∷ []
  end_called other sends =
      calls_now code dest_code lines old new k (moment_for old.core.past t) so.es so.added after sends
      ∙ (so.ended other).logged sends
      ∙ ap (λ (cs : List Called). cs ++ called old.core.setting sends job.event reply ∷ []) (sym (calls_still code dest_code lines old k before sends))

  pub end_rests : (IsErrOf r why.OutOfMemory → ⊥) → Rests (setup_of code dest_code lines old) (told_of new.core) k
  end_rests other = rests_now code dest_code lines old new k (moment_for old.core.past t) so.es so.added after (so.ended other).rests
