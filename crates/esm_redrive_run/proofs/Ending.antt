-- A call that a redrive's book began came to its end.
use Rattle.std.proofs.Common.{◌≡◌, ◌∙◌, ◌≤◌, ◌<◌, ℕ, true, false, List, [], ◌∷◌, ◌++◌, length, Some, None, ap, arith, inl, inr, refl, subst, sym}
use Rattle.std.specs.Prelude.{◌⊎◌, ◌↔◌, is_some, Result, Ok, Err, IfErr, OnOk, IsErrOf, IsSome, reverse}
use Rattle.esm_io.specs.Meanings.{DiskMeaning, DestMeaning}
use Rattle.esm_journal.specs.State.{JournalState}
use Rattle.esm_model.specs.declared.book.BookError.{BookError}
use Rattle.esm_model.specs.declared.book.BookError.TheVariants as why
use Rattle.esm_model.specs.declared.book.Job.{Job}
use Rattle.esm_model.specs.declared.book.Trouble.TheVariants as trouble
use Rattle.esm_model.specs.declared.entry.Entry.{Entry}
use Rattle.esm_model.specs.declared.entry.Entry.TheVariants.{Ended, Gave}
use Rattle.esm_model.specs.declared.entry.Fate.TheVariants.{Succeeded}
use Rattle.esm_model.specs.declared.entry.Reply.{Reply}
use Rattle.esm_model.specs.declared.item.Message.{Message}
use Rattle.esm_model.specs.declared.lane.LaneId.{LaneId}
use Rattle.esm_model.specs.Entries.{is_running, is_shut, last_call, batch_of, CallsFollowShut}
use Rattle.esm_model.specs.Kept.{change_of}
use Rattle.esm_queue_core.specs.Coming.{gave_entries}
use Rattle.esm_queue_core.specs.CoreView.{moment_for}
use Rattle.esm_queue_model.specs.QueueEntries.{queue_lane}
use Rattle.esm_queue_model.specs.QueueBatch.{last_queue_event}
use Rattle.esm_redrive_model.specs.RedriveSetting.{RedriveSetting}
use Rattle.esm_redrive_model.specs.RedriveReport.{redrive_calls}
use Rattle.esm_redrive_core.specs.declared.decisions.RedriveEntry.{RedriveEntry}
use Rattle.esm_redrive_core.specs.Adding.{ended_entries}
use Rattle.esm_redrive_core.specs.RedriveView.{RedriveView, IsRunningJob}
use Rattle.esm_redrive_core.specs.Sound.{ended_places}
use Rattle.esm_redrive_core.specs.Told.{redrive_entries}
use Rattle.esm_redrive_book.specs.Calls.{Added, AddedAll, AddedSome, AddedOne, IsSame, WasWriting, hand_of, tried_of}
use Rattle.esm_serial.specs.Adding.{call_to}
use Rattle.esm_redrive_run.specs.Book.{Book, IsLegalBook, DoesRest, RunsJob}
use Rattle.esm_redrive_run.proofs.Asking.{none_before, some_rest}
use Rattle.esm_redrive_run.proofs.Bringing.{no_trouble}
use Rattle.esm_redrive_run.proofs.Following.{Each, IsAtMoment, shut_more}
use Rattle.esm_redrive_run.proofs.Stepping.{HasStepped, no_calls, stepped, stood}

pub is_running_job : {D : Type 0} (b : Book D) (job : Job) → RunsJob b job → IsRunningJob b.core.past job
is_running_job b job runs = record { lane = runs.lane; runs = runs.runs; places = runs.places }

-- the entries of an end: the end alone, or the end and then a deletion
abbrev AreEnd : Reply → ℕ → List Entry → Type 0
AreEnd reply m es = (es ≡ Ended (queue_lane 0) reply m ∷ []) ⊎ ((places : List ℕ) × (es ≡ Ended (queue_lane 0) reply m ∷ Gave (Some (queue_lane 0)) 0 places Succeeded None None m ∷ []))

all_end : (reply : Reply) (m : ℕ) (places : List ℕ) → AreEnd reply m (Ended (queue_lane 0) reply m ∷ gave_entries (Some (queue_lane 0)) places Succeeded m)
all_end reply m [] = inl refl
all_end reply m (i ∷ places) = inr (i ∷ places, refl)

few_gave : (m : ℕ) (places : List ℕ) → length (gave_entries (Some (queue_lane 0)) places Succeeded m) ≤ 1
few_gave m [] = omega arith
few_gave m (i ∷ places) = omega arith

-- of a call's end nothing is written, so where a disk failed the end alone was added
end_alone : (messages : List Message) (reply : Reply) (m : ℕ) (places : List ℕ) (front rest : List Entry) → front ++ rest ≡ Ended (queue_lane 0) reply m ∷ gave_entries (Some (queue_lane 0)) places Succeeded m
    → WasWriting trouble.Disk (redrive_entries messages rest) → front ≡ Ended (queue_lane 0) reply m ∷ []
end_alone messages reply m places [] rest split writing =
    absurd (let none : WasWriting trouble.Disk (redrive_entries messages (Ended (queue_lane 0) reply m ∷ gave_entries (Some (queue_lane 0)) places Succeeded m)) = subst (λ (es : List Entry). WasWriting trouble.Disk (redrive_entries messages es)) split writing in let low : 0 < 0 = none in omega (arith, low))
end_alone messages reply m places (e ∷ es) rest split writing =
    let first : e ≡ Ended (queue_lane 0) reply m = cc in
    let tail : es ++ rest ≡ gave_entries (Some (queue_lane 0)) places Succeeded m = cc in
    let none : es ≡ [] = none_before es rest (gave_entries (Some (queue_lane 0)) places Succeeded m) (few_gave m places) tail (some_rest messages trouble.Disk rest writing) in
    cc

-- what they do to a history

end_at : (reply : Reply) (m : ℕ) (es : List Entry) → AreEnd reply m es → Each (IsAtMoment m) es
end_at reply m es end = elim end [ inl is ↦ subst (Each (IsAtMoment m)) (sym is) (refl, tt) | inr both ↦ subst (Each (IsAtMoment m)) (sym both.1) (refl, (refl, tt)) ]

end_rests : (h : List Entry) (reply : Reply) (m : ℕ) (es : List Entry) → AreEnd reply m es → is_running (reverse es ++ h) (queue_lane 0) ≡ false
end_rests h reply m es end = elim end [
  | inl is ↦ subst (λ (xs : List Entry). is_running (reverse xs ++ h) (queue_lane 0) ≡ false) (sym is) refl
  | inr both ↦ subst (λ (xs : List Entry). is_running (reverse xs ++ h) (queue_lane 0) ≡ false) (sym both.1) refl
]

end_follows : (h : List Entry) (reply : Reply) (m : ℕ) (es : List Entry) → AreEnd reply m es → CallsFollowShut h → CallsFollowShut (reverse es ++ h)
end_follows h reply m es end before = elim end [
  | inl is ↦ subst (λ (xs : List Entry). CallsFollowShut (reverse xs ++ h)) (sym is) ((λ no. absurd (cc)), before)
  | inr both ↦ subst (λ (xs : List Entry). CallsFollowShut (reverse xs ++ h)) (sym both.1) ((λ no. absurd (cc)), ((λ no. absurd (cc)), before))
]

end_called : (s : RedriveSetting) (sends : List ℕ → List ℕ) (h : List Entry) (reply : Reply) (m : ℕ) (event : List ℕ) (es : List Entry) → event ≡ last_queue_event s.queue h (queue_lane 0) → AreEnd reply m es
    → redrive_calls s sends (reverse es ++ h) ≡ redrive_calls s sends h ++ call_to s.queue.config.function sends event reply ∷ []
end_called s sends h reply m event es text end =
    let alone : redrive_calls s sends (Ended (queue_lane 0) reply m ∷ h) ≡ redrive_calls s sends h ++ call_to s.queue.config.function sends event reply ∷ [] =
    ap (λ (e : List ℕ). redrive_calls s sends h ++ call_to s.queue.config.function sends e reply ∷ []) (sym text) in
    elim end [
      | inl is ↦ subst (λ (xs : List Entry). redrive_calls s sends (reverse xs ++ h) ≡ redrive_calls s sends h ++ call_to s.queue.config.function sends event reply ∷ []) (sym is) alone
      | inr both ↦ subst (λ (xs : List Entry). redrive_calls s sends (reverse xs ++ h) ≡ redrive_calls s sends h ++ call_to s.queue.config.function sends event reply ∷ []) (sym both.1) alone
    ]

-- what comes of it

-- what `done` says of a call at the moment t
pub record DoneDid {D : Type 0} (m : DiskMeaning D) (n : DestMeaning (JournalState D)) (t : ℕ) (job : Job) (reply : Reply) (old new : Book D) (r : Result ℕ BookError) : Type 0 where
  pub added : OnOk r (AddedAll m n old.core.setting.queue.messages old new (ended_entries old.core.setting old.core.past reply (moment_for old.core.past t)))
  pub stopped : IsErrOf r why.DiskFault → AddedSome m n old.core.setting.queue.messages old new (ended_entries old.core.setting old.core.past reply (moment_for old.core.past t)) trouble.Disk
  pub noted : IsErrOf r why.Down → AddedOne old new (Ended job.lane reply (moment_for old.core.past t))
  pub no_dest : IsErrOf r why.DestFault → ⊥
  pub down : IsErrOf r why.Down ↔ IsSome old.trouble
  pub no_memory : IsErrOf r why.OutOfMemory → IsSame n old new

pub record HasEnded {D : Type 0} (t : ℕ) (job : Job) (reply : Reply) (old new : Book D) (r : Result ℕ BookError) : Type 0 where
  pub called : (IsErrOf r why.OutOfMemory → ⊥) → HasStepped t old new (λ sends. call_to old.core.setting.queue.config.function sends job.event reply ∷ [])
  pub no_end : IsErrOf r why.OutOfMemory → HasStepped t old new no_calls
  pub rests : (IsErrOf r why.OutOfMemory → ⊥) → DoesRest new
  pub runs : IsErrOf r why.OutOfMemory → RunsJob new job
  pub messages : new.core.setting.queue.messages ≡ old.core.setting.queue.messages
  pub config : new.core.setting ≡ old.core.setting
  pub change : change_of new.trouble ≡ change_of old.trouble
  pub shut : is_shut old.core.past ≡ true → is_shut new.core.past ≡ true
  pub down : IfErr r (λ (e : BookError). (e ≡ why.OutOfMemory) ⊎ (is_some new.trouble ≡ true))

module _ {D : Type 0} (t : ℕ) (job : Job) (reply : Reply) (old new : Book D) (r : Result ℕ BookError) where
  -- the end is in
  noted_end : (es : List Entry) → RunsJob old job → IsLegalBook new → AreEnd reply (moment_for old.core.past t) es → new.core.past ≡ reverse es ++ old.core.past → new.core.setting ≡ old.core.setting → new.found ≡ old.found → new.found_dest ≡ old.found_dest
      → change_of new.trouble ≡ change_of old.trouble → (new.trouble ≡ None → old.trouble ≡ None) → (IsErrOf r why.OutOfMemory → ⊥) → IfErr r (λ (e : BookError). (e ≡ why.OutOfMemory) ⊎ (is_some new.trouble ≡ true)) → HasEnded t job reply old new r
  noted_end es runs legal end past setting found found_dest change was kept cause =
      let m : ℕ = moment_for old.core.past t in
      record {
        called = λ other. stepped t old new old.core.setting.queue.messages es (λ sends. call_to old.core.setting.queue.config.function sends job.event reply ∷ []) past setting found found_dest legal (end_at reply m es end)
            (λ sends. ap (λ (s : RedriveSetting). redrive_calls s sends (reverse es ++ old.core.past)) setting ∙ end_called old.core.setting sends old.core.past reply m job.event es runs.event end)
            (end_follows old.core.past reply m es end);
        no_end = λ is. absurd (kept is);
        rests = λ other. record {
          idle = ap (λ (h : List Entry). is_running h (queue_lane 0)) past ∙ end_rests old.core.past reply m es end;
          shut = λ up. ap is_shut past ∙ shut_more es old.core.past (runs.shut (was up));
        };
        runs = λ is. absurd (kept is);
        messages = ap (λ (s : RedriveSetting). s.queue.messages) setting;
        config = setting;
        change = change;
        shut = λ is. ap is_shut past ∙ shut_more es old.core.past is;
        down = cause;
      }

pub ended : {D : Type 0} (m : DiskMeaning D) (n : DestMeaning (JournalState D)) (t : ℕ) (job : Job) (reply : Reply) (old new : Book D) (r : Result ℕ BookError) → DoneDid m n t job reply old new r → RunsJob old job → IsLegalBook new → HasEnded t job reply old new r
ended {D} m n t job reply old new (Ok count) did runs legal =
    let at : ℕ = moment_for old.core.past t in
    let all : AddedAll m n old.core.setting.queue.messages old new (ended_entries old.core.setting old.core.past reply at) = did.added in
    let up : is_some old.trouble ≡ true → ⊥ = λ is. (let never : Ok count ≡ Err why.Down = did.down.1 is in absurd (cc)) in
    let was : old.trouble ≡ None = no_trouble old.trouble up in
    noted_end t job reply old new (Ok count) (ended_entries old.core.setting old.core.past reply at) runs legal (all_end reply at (ended_places old.core.setting old.core.past reply at))
    all.added.past all.added.setting all.added.found all.added.found_dest (ap change_of all.trouble ∙ sym (ap change_of was)) (λ is. was) (λ is. absurd (cc)) tt
ended {D} m n t job reply old new (Err why.DiskFault) did runs legal =
    let at : ℕ = moment_for old.core.past t in
    let messages : List Message = old.core.setting.queue.messages in
    let some = did.stopped refl in
    let hand : List RedriveEntry = redrive_entries messages (hand_of trouble.Disk some.rest) in
    let tried : List RedriveEntry = redrive_entries messages (tried_of trouble.Disk some.rest) in
    let alone : some.front ≡ Ended (queue_lane 0) reply at ∷ [] = end_alone messages reply at (ended_places old.core.setting old.core.past reply at) some.front some.rest some.split some.writing in
    let added : Added m n messages old new (Ended (queue_lane 0) reply at ∷ []) hand tried = subst (λ (es : List Entry). Added m n messages old new es hand tried) alone some.added in
    let up : is_some old.trouble ≡ true → ⊥ = λ is. (let never : Err why.DiskFault ≡ Err why.Down = did.down.1 is in absurd (cc)) in
    let was : old.trouble ≡ None = no_trouble old.trouble up in
    noted_end t job reply old new (Err why.DiskFault) (Ended (queue_lane 0) reply at ∷ []) runs legal (inl refl)
    added.past added.setting added.found added.found_dest (ap change_of some.trouble_is ∙ sym (ap change_of was)) (λ is. was) (λ is. absurd (cc)) (inr (ap is_some some.trouble_is))
ended {D} m n t job reply old new (Err why.DestFault) did runs legal = absurd (did.no_dest refl)
ended {D} m n t job reply old new (Err why.Down) did runs legal =
    let at : ℕ = moment_for old.core.past t in
    let one : AddedOne old new (Ended job.lane reply at) = did.noted refl in
    let past : new.core.past ≡ Ended (queue_lane 0) reply at ∷ old.core.past = one.past ∙ ap (λ (l : LaneId). Ended l reply at ∷ old.core.past) runs.lane in
    let same : new.trouble ≡ old.trouble = ap (λ (b : Book D). b.trouble) one.rest in
    noted_end t job reply old new (Err why.Down) (Ended (queue_lane 0) reply at ∷ []) runs legal (inl refl)
    past one.setting (ap (λ (b : Book D). b.found) one.rest) (ap (λ (b : Book D). b.found_dest) one.rest) (ap change_of same) (λ up. sym same ∙ up) (λ is. absurd (cc)) (inr (ap is_some same ∙ did.down.0 refl))
ended {D} m n t job reply old new (Err why.OutOfMemory) did runs legal =
    let is : new ≡ record old { pair = record old.pair { room = new.pair.room }; dest = new.dest } = (did.no_memory refl).rest in
    let core : new.core ≡ old.core = ap (λ (b : Book D). b.core) is in
    let trouble_same : new.trouble ≡ old.trouble = ap (λ (b : Book D). b.trouble) is in
    record {
      called = λ other. absurd (other refl);
      no_end = λ same. stood t old new core (ap (λ (b : Book D). b.found) is) (ap (λ (b : Book D). b.found_dest) is);
      rests = λ other. absurd (other refl);
      runs = λ same. record {
        lane = runs.lane;
        runs = ap (λ (v : RedriveView). is_running v.past (queue_lane 0)) core ∙ runs.runs;
        places = runs.places ∙ ap (λ (v : RedriveView). batch_of (last_call v.past (queue_lane 0))) (sym core);
        event = runs.event ∙ ap (λ (v : RedriveView). last_queue_event v.setting.queue v.past (queue_lane 0)) (sym core);
        shut = λ up. ap (λ (v : RedriveView). is_shut v.past) core ∙ runs.shut (sym trouble_same ∙ up);
      };
      messages = ap (λ (v : RedriveView). v.setting.queue.messages) core;
      config = ap (λ (v : RedriveView). v.setting) core;
      change = ap change_of trouble_same;
      shut = λ was. ap (λ (v : RedriveView). is_shut v.past) core ∙ was;
      down = inl refl;
    }
