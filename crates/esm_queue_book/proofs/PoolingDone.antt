-- A batcher's call of a queue's book ended: what the end adds, and how the call is logged.
use Rattle.std.proofs.Common.{◌≡◌, ℕ, suc, ◌+◌, ◌<◌, ◌≤◌, true, false, List, [], ◌∷◌, ◌++◌, length, take, reverse, refl, sym, ap, ◌∙◌, subst, inl, inr, eq-eqb, arith, None}
use Rattle.std.specs.Prelude.{◌⊎◌, ◌↔◌, is_some, Result, Ok, Err, Some, IfErr, OnOk, IsErrOf, IsSome}
use Rattle.esm_io.specs.Meanings.{DiskMeaning}
use Rattle.esm_model.specs.declared.item.Message.{Message}
use Rattle.esm_model.specs.declared.lane.LaneId.{LaneId}
use Rattle.esm_model.specs.declared.book.BookError.{BookError}
use Rattle.esm_model.specs.declared.book.BookError.TheVariants as why
use Rattle.esm_model.specs.declared.book.Job.{Job}
use Rattle.esm_model.specs.declared.called.Called.{Called}
use Rattle.esm_model.specs.declared.entry.Fate.TheVariants.{Succeeded}
use Rattle.esm_model.specs.declared.entry.Reply.{Reply}
use Rattle.esm_model.specs.declared.entry.Entry.{Entry}
use Rattle.esm_model.specs.declared.entry.Entry.TheVariants.{Ended, Gave}
use Rattle.esm_model.specs.Kept.{change_of}
use Rattle.esm_model.specs.Entries.{is_running, last_call, batch_of}
use Rattle.esm_model.proofs.Steps.{same_lane-refl}
use Rattle.esm_queue_model.specs.QueueSetting.{QueueSetting}
use Rattle.esm_queue_model.specs.QueueEntries.{queue_lane}
use Rattle.esm_queue_model.specs.QueueBatch.{last_queue_event, queue_calls}
use Rattle.esm_queue_core.specs.CoreView.{moment_for, IsRunningJob}
use Rattle.esm_queue_core.specs.Coming.{gave_entries}
use Rattle.esm_queue_core.specs.Ending.{ended_places, ended_entries}
use Rattle.esm_queue_core.specs.Told.{told_of}
use Rattle.esm_queue_book.specs.Books.{BookState, payloads_in, is_down}
use Rattle.esm_queue_book.specs.Calls.{Added, AddedAll, AddedSome, AddedOne, IsSame}
use Rattle.esm_queue_book.specs.Keeping.{IsSound}
use Rattle.esm_queue_book.proofs.Pooling.{AreOwn, HasAdded, has_none, still_none, setting_kept, RunsAt}
use Rattle.esm_queue_book.proofs.PoolingNext.{has_some, none_before}

pub is_running_job : (s : QueueSetting) (h : List Entry) (k : ℕ) (job : Job) → RunsAt s h k job → IsRunningJob h job
is_running_job s h k job runs = record {
  runs = ap (λ (l : LaneId). is_running h l) runs.lane ∙ runs.running;
  places = runs.places ∙ ap (λ (l : LaneId). batch_of (last_call h l)) (sym runs.lane);
}

-- the entries of an end

-- the end alone, or the end and then a deletion
abbrev AreEnd : LaneId → Reply → ℕ → List Entry → Type 0
AreEnd lane reply m es = (es ≡ Ended lane reply m ∷ []) ⊎ ((places : List ℕ) × (es ≡ Ended lane reply m ∷ Gave (Some lane) 0 places Succeeded None None m ∷ []))

all_end : (lane : LaneId) (reply : Reply) (m : ℕ) (places : List ℕ) → AreEnd lane reply m (Ended lane reply m ∷ gave_entries (Some lane) places Succeeded m)
all_end lane reply m [] = inl refl
all_end lane reply m (i ∷ places) = inr (i ∷ places, refl)

few_gave : (lane : LaneId) (m : ℕ) (places : List ℕ) → length (gave_entries (Some lane) places Succeeded m) ≤ 1
few_gave lane m [] = omega arith
few_gave lane m (i ∷ places) = omega arith

-- of a call's end nothing is written
not_written : (messages : List Message) (lane : LaneId) (reply : Reply) (m : ℕ) (payload : List ℕ) → payloads_in messages (Ended lane reply m ∷ []) ≡ payload ∷ [] → ⊥
not_written messages lane reply m payload writing = let none : [] ≡ payload ∷ [] = writing in cc

-- so where a disk failed the end alone was added
end_alone : (messages : List Message) (lane : LaneId) (reply : Reply) (m : ℕ) (places : List ℕ) (front rest : List Entry) → front ++ rest ≡ Ended lane reply m ∷ gave_entries (Some lane) places Succeeded m
    → 0 < length rest → (payload : List ℕ) × (payloads_in messages (take 1 rest) ≡ payload ∷ []) → front ≡ Ended lane reply m ∷ []
end_alone messages lane reply m places [] rest split some writing =
    absurd (not_written messages lane reply m writing.0 (subst (λ (es : List Entry). payloads_in messages (take 1 es) ≡ writing.0 ∷ []) split writing.1))
end_alone messages lane reply m places (e ∷ es) rest split some writing =
    let first : e ≡ Ended lane reply m = cc in
    let tail : es ++ rest ≡ gave_entries (Some lane) places Succeeded m = cc in
    let none : es ≡ [] = none_before es rest (gave_entries (Some lane) places Succeeded m) (few_gave lane m places) tail some in
    cc

-- what they do to a history

own_end : (k m : ℕ) (lane : LaneId) (reply : Reply) (es : List Entry) → lane.lane ≡ k → AreEnd lane reply m es → AreOwn k m es
own_end k m lane reply es number end =
    let seat : suc lane.lane ≡ k + 1 = omega (arith, number) in
    elim end [ inl is ↦ subst (AreOwn k m) (sym is) (seat, refl, tt) | inr both ↦ subst (AreOwn k m) (sym both.1) (seat, refl, (seat, refl, tt)) ]

rests_end : (h : List Entry) (m : ℕ) (lane : LaneId) (reply : Reply) (es : List Entry) → AreEnd lane reply m es → is_running (reverse es ++ h) lane ≡ false
rests_end h m lane reply es end =
    let alone : is_running (Ended lane reply m ∷ h) lane ≡ false = rw (same_lane-refl lane) refl in
    elim end [
      | inl is ↦ subst (λ (xs : List Entry). is_running (reverse xs ++ h) lane ≡ false) (sym is) alone
      | inr both ↦ subst (λ (xs : List Entry). is_running (reverse xs ++ h) lane ≡ false) (sym both.1) alone
    ]

-- the call as it is logged
abbrev called : QueueSetting → (List ℕ → List ℕ) → List ℕ → Reply → Called
called s sends event reply = record { name = s.config.function; event = sends event; reply = reply }

calls_end : (s : QueueSetting) (sends : List ℕ → List ℕ) (h : List Entry) (k m : ℕ) (lane : LaneId) (reply : Reply) (event : List ℕ) (es : List Entry) → lane.lane ≡ k → event ≡ last_queue_event s h lane → AreEnd lane reply m es
    → queue_calls s sends (reverse es ++ h) k ≡ queue_calls s sends h k ++ called s sends event reply ∷ []
calls_end s sends h k m lane reply event es number text end =
    let alone : queue_calls s sends (Ended lane reply m ∷ h) k ≡ queue_calls s sends h k ++ called s sends event reply ∷ [] =
    rw (eq-eqb lane.lane k number) (ap (λ (e : List ℕ). queue_calls s sends h k ++ called s sends e reply ∷ []) (sym text)) in
    elim end [
      | inl is ↦ subst (λ (xs : List Entry). queue_calls s sends (reverse xs ++ h) k ≡ queue_calls s sends h k ++ called s sends event reply ∷ []) (sym is) alone
      | inr both ↦ subst (λ (xs : List Entry). queue_calls s sends (reverse xs ++ h) k ≡ queue_calls s sends h k ++ called s sends event reply ∷ []) (sym both.1) alone
    ]

-- what comes of it

-- what `done` says of a call at the moment t
pub record DoneDid {D : Type 0} (d : DiskMeaning D) (t : ℕ) (job : Job) (reply : Reply) (old new : BookState D) (r : Result ℕ BookError) : Type 0 where
  pub added : OnOk r (AddedAll d old.core.setting.messages old new (ended_entries old.core.setting old.core.past job.lane reply (moment_for old.core.past t)))
  pub stopped : IsErrOf r why.DiskFault → AddedSome d old.core.setting.messages old new (ended_entries old.core.setting old.core.past job.lane reply (moment_for old.core.past t))
  pub noted : IsErrOf r why.Down → AddedOne old new (Ended job.lane reply (moment_for old.core.past t))
  pub no_dest : IsErrOf r why.DestFault → ⊥
  pub down : IsErrOf r why.Down ↔ IsSome old.trouble
  pub no_memory : IsErrOf r why.OutOfMemory → IsSame old new

pub record HasEnded {D : Type 0} (k t : ℕ) (job : Job) (reply : Reply) (old new : BookState D) (r : Result ℕ BookError) : Type 0 where
  pub es : List Entry
  pub has : HasAdded k t old new es
  pub calls : (IsErrOf r why.OutOfMemory → ⊥) → (sends : List ℕ → List ℕ) → queue_calls old.core.setting sends new.core.past k ≡ queue_calls old.core.setting sends old.core.past k ++ called old.core.setting sends job.event reply ∷ []
  pub rests : (IsErrOf r why.OutOfMemory → ⊥) → is_running new.core.past (queue_lane k) ≡ false
  pub unchanged : IsErrOf r why.OutOfMemory → told_of new.core ≡ told_of old.core
  pub down : IfErr r (λ (e : BookError). (e ≡ why.OutOfMemory) ⊎ (is_down new ≡ true))

module _ {D : Type 0} (k t : ℕ) (job : Job) (reply : Reply) (old new : BookState D) (r : Result ℕ BookError) where
  -- the end is in
  noted_end : (es : List Entry) → RunsAt old.core.setting old.core.past k job → AreEnd job.lane reply (moment_for old.core.past t) es
      → (AreOwn k (moment_for old.core.past t) es → HasAdded k t old new es) → (IsErrOf r why.OutOfMemory → ⊥) → IfErr r (λ (e : BookError). (e ≡ why.OutOfMemory) ⊎ (is_down new ≡ true)) → HasEnded k t job reply old new r
  noted_end es runs end adds kept cause =
      let m : ℕ = moment_for old.core.past t in
      let number : job.lane.lane ≡ k = ap (λ (l : LaneId). l.lane) runs.lane in
      let has : HasAdded k t old new es = adds (own_end k m job.lane reply es number end) in
      let text : job.event ≡ last_queue_event old.core.setting old.core.past job.lane = runs.event ∙ ap (λ (l : LaneId). last_queue_event old.core.setting old.core.past l) (sym runs.lane) in
      record {
        es = es;
        has = has;
        calls = λ other sends. ap (λ (h : List Entry). queue_calls old.core.setting sends h k) has.past ∙ calls_end old.core.setting sends old.core.past k m job.lane reply job.event es number text end;
        rests = λ other. ap (λ (h : List Entry). is_running h (queue_lane k)) has.past ∙ (ap (λ (l : LaneId). is_running (reverse es ++ old.core.past) l) (sym runs.lane) ∙ rests_end old.core.past m job.lane reply es end);
        unchanged = λ is. absurd (kept is);
        down = cause;
      }

pub ended : {D : Type 0} (d : DiskMeaning D) (k t : ℕ) (job : Job) (reply : Reply) (old new : BookState D) (r : Result ℕ BookError) → DoneDid d t job reply old new r → RunsAt old.core.setting old.core.past k job → IsSound old → IsSound new → HasEnded k t job reply old new r
ended {D} d k t job reply old new (Ok count) did runs before after =
    let m : ℕ = moment_for old.core.past t in
    let all : AddedAll d old.core.setting.messages old new (ended_entries old.core.setting old.core.past job.lane reply m) = did.added in
    let up : is_down old ≡ true → ⊥ = λ is. (let never : Ok count ≡ Err why.Down = did.down.1 is in absurd (cc)) in
    noted_end k t job reply old new (Ok count) (ended_entries old.core.setting old.core.past job.lane reply m) runs
    (all_end job.lane reply m (ended_places old.core.setting old.core.past job.lane reply m))
    (λ own. record { past = all.added.past; told = all.added.told; setting = all.setting; found = all.added.found; own = own; down = λ is. absurd (up is); change = still_none old new (ap change_of all.trouble) up })
    (λ is. absurd (cc)) tt
ended {D} d k t job reply old new (Err why.DiskFault) did runs before after =
    let m : ℕ = moment_for old.core.past t in
    let messages : List Message = old.core.setting.messages in
    let some = did.stopped refl in
    let alone : some.front ≡ Ended job.lane reply m ∷ [] = end_alone messages job.lane reply m (ended_places old.core.setting old.core.past job.lane reply m) some.front some.rest some.split some.left some.writing in
    let all : Added messages old new (Ended job.lane reply m ∷ []) = subst (λ (es : List Entry). Added messages old new es) alone some.added in
    let down : is_down new ≡ true = ap is_some some.trouble in
    let up : is_down old ≡ true → ⊥ = λ is. (let never = did.down.1 is in absurd (cc)) in
    noted_end k t job reply old new (Err why.DiskFault) (Ended job.lane reply m ∷ []) runs (inl refl)
    (has_some k t old new (Ended job.lane reply m ∷ []) all (setting_kept messages old new (Ended job.lane reply m ∷ []) all refl before after) down (still_none old new (ap change_of some.trouble) up))
    (λ is. absurd (cc)) (inr down)
ended {D} d k t job reply old new (Err why.DestFault) did runs before after = absurd (did.no_dest refl)
ended {D} d k t job reply old new (Err why.Down) did runs before after =
    let m : ℕ = moment_for old.core.past t in
    let one : AddedOne old new (Ended job.lane reply m) = did.noted refl in
    let same : is_down new ≡ is_down old = ap is_down one.rest in
    noted_end k t job reply old new (Err why.Down) (Ended job.lane reply m ∷ []) runs (inl refl)
    (λ own. record { past = one.past; told = one.told; setting = one.setting; found = ap (λ (b : BookState D). b.found) one.rest; own = own; down = λ is. same ∙ is; change = ap (λ (b : BookState D). change_of b.trouble) one.rest })
    (λ is. absurd (cc)) (inr (same ∙ did.down.0 refl))
ended {D} d k t job reply old new (Err why.OutOfMemory) did runs before after =
    let same : IsSame old new = did.no_memory refl in
    let core : new.core ≡ old.core = ap (λ (b : BookState D). b.core) same in
    record {
      es = [];
      has = has_none k t old new core (ap (λ (b : BookState D). b.found) same) (ap (λ (b : BookState D). b.trouble) same);
      calls = λ other. absurd (other refl);
      rests = λ other. absurd (other refl);
      unchanged = λ is. ap told_of core;
      down = inl refl;
    }
