-- What a run of a queue's book leaves, from what its threads did over the history that they shared.
use Rattle.std.proofs.Common.{◌≡◌, ◌<◌, ◌≤◌, ℕ, false, List, [], refl, sym, ap, ◌∙◌, subst, inl, inr, Result, Ok, Err, Option, Some, None}
use Rattle.std.specs.Prelude.{◌⊎◌, is_err, reverse, IfOk, OnOk, OnErr, IsSome}
use Rattle.std.specs.Coded.{Coded}
use Rattle.std.proofs.lemmas.List.{append-nil}
use Rattle.esm_io.specs.Told.{TakesFront}
use Rattle.esm_model.specs.declared.book.Change.{Change}
use Rattle.esm_model.specs.declared.book.Trouble.{Trouble}
use Rattle.esm_model.specs.declared.book.Trouble.TheVariants.{Disk, Dest, Changed}
use Rattle.esm_model.specs.declared.item.Message.{Message}
use Rattle.esm_model.specs.declared.memory.OutOfMemory.{OutOfMemory}
use Rattle.esm_model.specs.declared.entry.Entry.{Entry}
use Rattle.esm_model.specs.declared.setup.Setup.{Setup}
use Rattle.esm_model.specs.Kept.{change_of}
use Rattle.esm_model.specs.Books.{entries_told}
use Rattle.esm_model.specs.Entries.{is_shut, calls_begun}
use Rattle.esm_input.specs.Positions.{from_start}
use Rattle.esm_input.specs.Reading.{InputState, IsInput, items_read, handed}
use Rattle.esm_model.specs.GoingOn.{AllGiven}
use Rattle.esm_workers.specs.Working.{Outside}
use Rattle.esm_workers.specs.Shared.{HaveCalled}
use Rattle.esm_pool.specs.declared.running.RunEnd.{RunEnd}
use Rattle.esm_pool.specs.declared.running.RunEnd.TheVariants as ends
use Rattle.esm_pool.specs.Ran as pool
use Rattle.esm_queue_model.specs.QueueSetting.{QueueSetting}
use Rattle.esm_queue_model.specs.QueueBooks.{queue_setting_told}
use Rattle.esm_queue_book.specs.Batchers.{queue_calls_told, QueueRests, RunsQueueJob}
use Rattle.esm_queue_book.specs.Left.{QueueFinished, QueueLeft, QueueSpent, queue_items}
use Rattle.esm_queue_core.specs.CoreView.{all_messages}
use Rattle.esm_queue_core.specs.Told.{told_entries, told_of}
use Rattle.esm_queue_book.specs.Books.{BookState, setup_of, is_down}
use Rattle.esm_queue_book.specs.Coming.{QueueDiffers}
use Rattle.esm_queue_book.specs.Keeping.{IsSound}
use Rattle.esm_queue_book.specs.Moments.{IsTimedView}
use Rattle.esm_queue_book.proofs.Standing.{past_told}
use Rattle.esm_runner.specs.Number.{batchers_in}
use Rattle.esm_runner.specs.QueueComing.{messages_in_items, SomeCame, AllCame}
use Rattle.esm_runner.specs.QueueRan.{AllDeleted, HasWaiting, HasRun, HasStopped, EndsSo, CameSo, IsDownFor, IsUnfinished, IsOfMessage, NoneDiffersBefore, IsCutInput}
use Rattle.esm_runner.proofs.Shared.{no_trouble}
use Rattle.esm_runner.proofs.QueueSetups.{setting_of_setup, found_of_setup, setting_is}
use Rattle.esm_runner.proofs.QueueBridges.{moments_are, none_runs, calls_made, calls_logged, none_called}
use Rattle.esm_runner.proofs.QueueItems.{all_came, some_came, change_is}
use Rattle.esm_runner.proofs.QueueFirstChange.{first_is}

-- nothing is told of a new book
pub told_new : {D : Type 0} (v : BookState D) → v.core.past ≡ [] → told_of v.core ≡ []
told_new v new = ap (λ (h : List Entry). told_entries (all_messages v.core) (reverse h)) new

-- what a run of any book says of a queue's: it went from v to w, the input from what it was to j, and the callers from the ones
-- to the others
pub record BookRan {S D F : Type 0} (code : Coded D) (o : Outside F) (faults : S → ℕ) (left : S → Option (List ℕ)) (v w : BookState D) (j : InputState S) (batchers : ℕ) (old new : List F) (r : Result RunEnd OutOfMemory) : Type 0 where
  pub setup_is : setup_of code w ≡ setup_of code v
  pub moments : AllGiven o.gave [] (told_of w.core)
  pub timed : IsTimedView o.gave w.core
  pub called : HaveCalled queue_calls_told QueueRests RunsQueueJob o (setup_of code v) (told_of w.core) (is_err r) batchers old new
  pub ended : IfOk r (pool.EndsSo QueueFinished QueueSpent (setup_of code v) (told_of w.core) (is_down w) batchers)
  pub left_one : r ≡ Ok ends.Spent → pool.HasLeftOne QueueLeft (setup_of code v) (told_of w.core) batchers ⊎ (j.end ≡ None)
  pub came : IfOk r (pool.CameSo left j (queue_items (told_of w.core)) (told_of w.core))
  pub changed : OnOk r ((change : Change) → change_of w.trouble ≡ Some change → pool.IsChangeOf queue_items QueueDiffers (setup_of code v) (told_of w.core) j change)
  pub read : OnOk r (IsInput faults left j)
  pub good : OnOk r (j.failed ≡ false)
  pub cut : OnErr r (pool.IsCut left j (queue_items (told_of w.core)))

-- what came

all_so : {S D : Type 0} (w : BookState D) (j : InputState S) → IsSound w → pool.AllCame j (queue_items (told_of w.core)) (told_of w.core) → AllCame w (messages_in_items (handed j)) × IsSome j.end
all_so w j sound all = (record { came = all_came w (handed j) sound all.items; shut = ap is_shut (sym (past_told w.core)) ∙ all.shut }, all.ended)

-- all that were handed out came, also where the input had not ended
left_so : {S D : Type 0} (left : S → Option (List ℕ)) (w : BookState D) (j : InputState S) → IsSound w → pool.AllCame j (queue_items (told_of w.core)) (told_of w.core) ⊎ pool.IsLeftOff left j (queue_items (told_of w.core)) (told_of w.core)
    → AllCame w (messages_in_items (handed j))
left_so left w j sound (inl all) = (all_so w j sound all).0
left_so left w j sound (inr off) = record { came = all_came w (handed j) sound off.items; shut = ap is_shut (sym (past_told w.core)) ∙ off.shut }

down_for : (s : QueueSetting) (messages : List Message) (t : Option Trouble) → ((change : Change) → change_of t ≡ Some change → IsOfMessage messages change × NoneDiffersBefore s.deletions messages change.place) → IsDownFor s messages t
down_for s messages None changed = tt
down_for s messages (Some Disk) changed = tt
down_for s messages (Some Dest) changed = tt
down_for s messages (Some (Changed change)) changed = changed change refl

come_so : {S D : Type 0} (left : S → Option (List ℕ)) (setup : Setup) (w : BookState D) (j : InputState S) (e : RunEnd) → IsSound w → queue_setting_told setup (told_of w.core) ≡ w.core.setting
    → ((change : Change) → change_of w.trouble ≡ Some change → pool.IsChangeOf queue_items QueueDiffers setup (told_of w.core) j change) → pool.CameSo left j (queue_items (told_of w.core)) (told_of w.core) e → CameSo j w e
come_so left setup w j ends.Finished sound is changed came = all_so w j sound came
come_so left setup w j ends.Spent sound is changed came = left_so left w j sound came
come_so left setup w j ends.Down sound is changed came = (
  some_came w (handed j) sound came,
  down_for w.core.setting (messages_in_items (handed j)) w.trouble (λ change told. (
    change_is setup (told_of w.core) j change (changed change told),
    first_is setup w j change sound is (changed change told),
  )),
)

-- the first of what was handed out came
some_so : {S D : Type 0} (left : S → Option (List ℕ)) (w : BookState D) (j : InputState S) (e : RunEnd) → IsSound w → pool.CameSo left j (queue_items (told_of w.core)) (told_of w.core) e → SomeCame w (messages_in_items (handed j))
some_so left w j ends.Finished sound came = (let all = all_came w (handed j) sound came.items in ([], sym all ∙ sym (append-nil w.core.setting.messages)))
some_so left w j ends.Spent sound came = (let all = (left_so left w j sound came).came in ([], sym all ∙ sym (append-nil w.core.setting.messages)))
some_so left w j ends.Down sound came = some_came w (handed j) sound came

cut_so : {S D : Type 0} (faults : S → ℕ) (left : S → Option (List ℕ)) (w : BookState D) (j : InputState S) (r : Result RunEnd OutOfMemory) → IsSound w → IfOk r (pool.CameSo left j (queue_items (told_of w.core)) (told_of w.core)) → OnOk r (IsInput faults left j)
    → OnErr r (pool.IsCut left j (queue_items (told_of w.core))) → IsCutInput left j w
cut_so faults left w j (Ok e) sound came read cut = record {
  bytes = j.bytes;
  more = [];
  whole = j.whole;
  taken = subst (TakesFront (left j.found) (left j.source)) (sym (append-nil j.bytes)) read.taken;
  came = some_so left w j e sound came;
}
cut_so faults left w j (Err x) sound came read cut = record {
  bytes = cut.bytes;
  more = cut.more;
  whole = cut.whole;
  taken = cut.taken;
  came = some_came w (from_start j.start (items_read j.kind j.factor cut.whole cut.bytes).items) sound cut.some;
}

-- how it ended

-- the reading ended and a message waits, or the input had not ended
unfinished : {S D : Type 0} (left : S → Option (List ℕ)) (setup : Setup) (w : BookState D) (j : InputState S) (batchers : ℕ) → queue_setting_told setup (told_of w.core) ≡ w.core.setting
    → pool.AllCame j (queue_items (told_of w.core)) (told_of w.core) ⊎ pool.IsLeftOff left j (queue_items (told_of w.core)) (told_of w.core)
    → pool.HasLeftOne QueueLeft setup (told_of w.core) batchers ⊎ (j.end ≡ None) → IsUnfinished w.core.setting w.core.past j.end (left j.source)
unfinished left setup w j batchers is (inl all) (inl one) =
    inl (all.ended, subst (λ (h : List Entry). HasWaiting w.core.setting h) (past_told w.core) (subst (λ (s : QueueSetting). HasWaiting s (entries_told (told_of w.core))) is one.2))
unfinished left setup w j batchers is (inl all) (inr going) = absurd (let ended = all.ended in let none = going in cc)
unfinished left setup w j batchers is (inr off) one = inr (off.going, off.untold)

end_so : {S D : Type 0} (left : S → Option (List ℕ)) (setup : Setup) (w : BookState D) (j : InputState S) (batchers : ℕ) (e : RunEnd) → 0 < batchers → queue_setting_told setup (told_of w.core) ≡ w.core.setting
    → pool.CameSo left j (queue_items (told_of w.core)) (told_of w.core) e → pool.EndsSo QueueFinished QueueSpent setup (told_of w.core) (is_down w) batchers e
    → (e ≡ ends.Spent → pool.HasLeftOne QueueLeft setup (told_of w.core) batchers ⊎ (j.end ≡ None)) → EndsSo left j w e
end_so left setup w j batchers ends.Finished some is came ended one = (
  no_trouble w.trouble ended.0,
  subst (λ (h : List Entry). AllDeleted w.core.setting h) (past_told w.core) (subst (λ (s : QueueSetting). AllDeleted s (entries_told (told_of w.core))) is (ended.1 0 some).deleted),
)
end_so left setup w j batchers ends.Spent some is came ended one = (
  no_trouble w.trouble ended.0,
  ap calls_begun (sym (past_told w.core)) ∙ (ended.1 ∙ ap (λ (s : QueueSetting). s.calls) is),
  unfinished left setup w j batchers is came (one refl),
)
end_so left setup w j batchers ends.Down some is came ended one = ended

-- the whole

module _ {S D F : Type 0} (code : Coded D) (o : Outside F) (faults : S → ℕ) (left : S → Option (List ℕ)) (v w : BookState D) (j : InputState S) (batchers : ℕ) (old new : List F) (r : Result RunEnd OutOfMemory)
    (number : batchers ≡ batchers_in v.core.setting.config) (sound : IsSound w) (did : BookRan code o faults left v w j batchers old new r) where
  setting_so : queue_setting_told (setup_of code v) (told_of w.core) ≡ w.core.setting
  setting_so = setting_is code v w did.setup_is sound

  pub ran_so : (e : RunEnd) → r ≡ Ok e → HasRun o v w old new
  ran_so e is =
      let long : is_err r ≡ false = ap (λ (x : Result RunEnd OutOfMemory). is_err x) is in
      record {
        opened = setting_of_setup code v w did.setup_is;
        found = found_of_setup code v w did.setup_is;
        moments = moments_are o.gave w did.moments;
        timed = did.timed;
        rests = none_runs (setup_of code v) w sound (did.called.rest long);
        as_many = did.called.as_many;
        calls_made = calls_made o (setup_of code v) w (is_err r) batchers old new setting_so did.called long;
        untouched = λ k d past. did.called.untouched k d (subst (λ n. n ≤ k) (sym number) past);
        no_calls = λ k past. none_called o (setup_of code v) w (is_err r) batchers old new setting_so did.called k (subst (λ n. n ≤ k) (sym number) past);
      }

  pub stopped_so : HasStopped o v w old new
  stopped_so = record {
    opened = setting_of_setup code v w did.setup_is;
    found = found_of_setup code v w did.setup_is;
    moments = moments_are o.gave w did.moments;
    timed = did.timed;
    as_many = did.called.as_many;
    calls_made = calls_logged o (setup_of code v) w (is_err r) batchers old new setting_so did.called;
    untouched = λ k d past. did.called.untouched k d (subst (λ n. n ≤ k) (sym number) past);
    no_calls = λ k past. none_called o (setup_of code v) w (is_err r) batchers old new setting_so did.called k (subst (λ n. n ≤ k) (sym number) past);
  }

  came_told : (e : RunEnd) → r ≡ Ok e → pool.CameSo left j (queue_items (told_of w.core)) (told_of w.core) e
  came_told e is = subst (λ (x : Result RunEnd OutOfMemory). IfOk x (pool.CameSo left j (queue_items (told_of w.core)) (told_of w.core))) is did.came

  pub came_so : (e : RunEnd) → r ≡ Ok e → CameSo j w e
  came_so e is =
      come_so left (setup_of code v) w j e sound setting_so
      (subst (λ (x : Result RunEnd OutOfMemory). OnOk x ((change : Change) → change_of w.trouble ≡ Some change → pool.IsChangeOf queue_items QueueDiffers (setup_of code v) (told_of w.core) j change)) is did.changed)
      (came_told e is)

  pub ended_so : (e : RunEnd) → 0 < batchers → r ≡ Ok e → EndsSo left j w e
  ended_so e some is =
      end_so left (setup_of code v) w j batchers e some setting_so (came_told e is)
      (subst (λ (x : Result RunEnd OutOfMemory). IfOk x (pool.EndsSo QueueFinished QueueSpent (setup_of code v) (told_of w.core) (is_down w) batchers)) is did.ended)
      (λ (spent : e ≡ ends.Spent). did.left_one (is ∙ ap (λ (x : RunEnd). Ok x) spent))

  pub cut_came : IsCutInput left j w
  cut_came = cut_so faults left w j r sound did.came did.read did.cut
