-- A book in which no message came; the call that runs after a batcher's; and a list that is taken, which brings no change.
use Rattle.std.proofs.Common.{◌≡◌, ℕ, ◌+◌, true, List, [], ◌∷◌, ◌++◌, length, reverse, refl, sym, ap, ◌∙◌, subst, None}
use Rattle.std.proofs.lemmas.Option.{slice_get_within}
use Rattle.esm_io.specs.Meanings.{DiskMeaning, DestMeaning}
use Rattle.esm_model.specs.declared.item.Message.{Message}
use Rattle.esm_model.specs.declared.lane.LaneId.{LaneId}
use Rattle.esm_model.specs.declared.book.Change.{Change}
use Rattle.esm_model.specs.declared.book.Next.{Next}
use Rattle.esm_model.specs.declared.book.Next.TheVariants as next
use Rattle.esm_model.specs.declared.entry.Entry.{Entry}
use Rattle.esm_model.specs.Lane.{same_lane}
use Rattle.esm_queue_model.specs.QueueSetting.{QueueSetting}
use Rattle.esm_queue_model.specs.QueueEntries.{queue_lane, queue_of}
use Rattle.esm_queue_core.specs.Coming.{NoneHasChanged}
use Rattle.esm_queue_core.specs.Next.{next_for, next_entries}
use Rattle.esm_queue_core.proofs.Beginning.{called_by}
use Rattle.esm_redrive.specs.Limited.{due_in}
use Rattle.esm_redrive_model.specs.RedriveSetting.{RedriveSetting}
use Rattle.esm_redrive_model.specs.RedriveStep.{LegalRedrive, SettledRedrive}
use Rattle.esm_redrive_core.specs.declared.decisions.RedriveCall.{RedriveCall}
use Rattle.esm_redrive_core.specs.declared.decisions.RedriveCall.TheVariants as call
use Rattle.esm_redrive_core.specs.declared.decisions.RedriveAnswer.{RedriveAnswer}
use Rattle.esm_redrive_core.specs.declared.decisions.RedriveAnswer.TheVariants as answer
use Rattle.esm_redrive_core.specs.Adding.{next_due, entries_due, redrive_next, redrive_next_entries}
use Rattle.esm_redrive_core.specs.Ahead.{comes_first}
use Rattle.esm_redrive_core.specs.RedriveView.{RedriveView, IsRunningJob}
use Rattle.esm_redrive_core.specs.Refusing.{IsFirstChange}
use Rattle.esm_redrive_core.specs.Told.{IsAnswer, Refuses}
use Rattle.esm_redrive_core.proofs.Keeping.{same_lane-refl}
use Rattle.esm_redrive_core.proofs.Stepping.{kept_id}
use Rattle.esm_redrive_book.specs.Books.{BookState}
use Rattle.esm_redrive_book.specs.Calls.{RunsCall}
use Rattle.esm_redrive_book.specs.Carried.{CarriedAll, CarriedSome}
use Rattle.esm_redrive_book.specs.Keeping.{IsSorted, IsSound}
use Rattle.esm_redrive_book.proofs.Ending.{none_in_hand, none_in_delivery}

-- a book in which no message came
pub sound_new : {D T : Type 0} (b : BookState D T) → b.core.past ≡ [] → b.core.owed ≡ [] → b.trouble ≡ None → IsSound b
sound_new {D} {T} b none settled trouble = record {
  legal = subst (LegalRedrive b.core.setting) (sym none) tt;
  settled = λ up. subst (SettledRedrive b.core.setting) (sym none) (record { recorded = refl; sorted = refl; paid = refl });
  changed = λ change so. subst (IsSorted b.core.setting) (sym none) (record { going = refl; recorded = refl; sorted = refl });
  hand = λ e some. absurd (none_in_hand b.trouble b.core.owed e settled some);
  tried = λ e some. absurd (none_in_delivery b.trouble b.core.owed e settled some);
  hand_is_one = λ disk. absurd (cc (sym trouble ∙ disk));
  tried_is_one = λ dest. absurd (cc (sym trouble ∙ dest));
  none_owed = λ up. settled;
  none_coming = ap comes_first settled;
}

-- a call that begins runs

runs_of : (s : QueueSetting) (h now : List Entry) (m : ℕ) (n : Next) → next_for s h 0 m ≡ n → now ≡ reverse (next_entries n m) ++ h → RunsCall now n
runs_of s h now m (next.Call job) is added =
    let called = called_by s h 0 m job is in
    let own_lane : same_lane job.lane (queue_lane 0) ≡ true = ap (λ (l : LaneId). same_lane l (queue_lane 0)) called.lane ∙ same_lane-refl (queue_lane 0) in
    subst (λ (past : List Entry). IsRunningJob past job) (sym added) (record { lane = called.lane; runs = rw own_lane refl; places = rw own_lane refl })
runs_of s h now m (next.Gave count) is added = tt
runs_of s h now m (next.Idle until) is added = tt
runs_of s h now m next.Spent is added = tt
runs_of s h now m next.Finished is added = tt

runs_due : (s : RedriveSetting) (h now : List Entry) (m : ℕ) (due : List ℕ) → now ≡ reverse (entries_due s m due (next_entries (next_for s.queue h 0 m) m)) ++ h → RunsCall now (next_due due (next_for s.queue h 0 m))
runs_due s h now m [] added = runs_of s.queue h now m (next_for s.queue h 0 m) refl added
runs_due s h now m (i ∷ due) added = tt

pub runs_call : (s : RedriveSetting) (h now : List Entry) (m : ℕ) (n : Next) → n ≡ redrive_next s h m → now ≡ reverse (redrive_next_entries s h m) ++ h → RunsCall now n
runs_call s h now m n given added = subst (RunsCall now) (sym given) (runs_due s h now m (due_in s.max_receives (queue_of s.queue h) m) added)

-- a list that is taken brings no change

not_changed : (v : RedriveView) (items : List Message) (change : Change) → NoneHasChanged v.setting.queue.deletions (length v.setting.queue.messages) items (length items) → IsFirstChange v items change → ⊥
not_changed v items change none first =
    let i = length v.setting.queue.messages + first.position in
    let within = slice_get_within items first.position first.message first.at in
    first.change_is.differs (kept_id v.setting.queue.deletions i first.change_is.found first.message first.change_is.deletion (none first.position first.message within first.at))

no_change : (v : RedriveView) (asked : RedriveCall) (given : RedriveAnswer) (change : Change) → IsAnswer v asked given → Refuses v asked change → ⊥
no_change v (call.Came items moment) answer.Taken change none refuses = not_changed v items.items change none refuses
no_change v (call.Came items moment) (answer.Next n) change none refuses = none
no_change v (call.Came items moment) (answer.Deleted count) change none refuses = none
no_change v (call.Shut moment) given change is refuses = refuses
no_change v (call.Next moment) given change is refuses = refuses
no_change v (call.Done job reply moment) given change is refuses = refuses

pub taken_unchanged : {D T : Type 0} {m : DiskMeaning D} {n : DestMeaning T} {old new : BookState D T} {asked : RedriveCall} {given : RedriveAnswer} (change : Change) → CarriedAll m n old new asked given → Refuses old.core asked change → ⊥
taken_unchanged {old = old} {asked = asked} {given = given} change all refuses = no_change old.core asked given change all.answer_is refuses

pub failed_unchanged : {D T : Type 0} {m : DiskMeaning D} {n : DestMeaning T} {old new : BookState D T} {asked : RedriveCall} (change : Change) → CarriedSome m n old new asked → Refuses old.core asked change → ⊥
failed_unchanged {old = old} {asked = asked} change some refuses = no_change old.core asked some.given change some.answer_is refuses
