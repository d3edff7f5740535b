-- How the run of a redrive ended, from how its caller came to its end.
use Rattle.std.proofs.Common.{◌≡◌, ◌∙◌, ◌+◌, ◌<◌, ◌≤◌, ◌^◌, ℕ, Bool, true, false, List, [], ◌∷◌, ◌++◌, length, Result, Ok, Err, Option, Some, None, ap, append-nil, append_assoc, arith, inl, inr, refl, subst, sym}
use Rattle.std.proofs.lemmas.Option.{slice_get_within}
use Rattle.std.specs.Prelude.{◌⊎◌, IfOk, IsErr, OnErr, OnOk, is_some, slice_get}
use Rattle.esm_io.specs.Faults.{Rose}
use Rattle.esm_io.specs.Meanings.{DiskMeaning}
use Rattle.esm_io.specs.Told.{Grows, TakesFront}
use Rattle.esm_model.specs.declared.book.Change.{Change}
use Rattle.esm_model.specs.declared.book.Job.{Job}
use Rattle.esm_model.specs.declared.book.Trouble.{Trouble}
use Rattle.esm_model.specs.declared.book.Trouble.TheVariants as trouble
use Rattle.esm_model.specs.declared.called.Called.{Called}
use Rattle.esm_model.specs.declared.config.Start.{Start}
use Rattle.esm_model.specs.declared.entry.Entry.{Entry}
use Rattle.esm_model.specs.declared.item.Item.{Item}
use Rattle.esm_model.specs.declared.item.LineKind.{LineKind}
use Rattle.esm_model.specs.declared.item.Message.{Message}
use Rattle.esm_model.specs.declared.limits.TheConstants.{MAX_BATCH}
use Rattle.esm_model.specs.declared.memory.OutOfMemory.{OutOfMemory}
use Rattle.esm_model.specs.declared.setup.FoundDeletion.{FoundDeletion}
use Rattle.esm_model.specs.Coming.{AreCome, AreSomeCome}
use Rattle.esm_model.specs.Entries.{CallsFollowShut}
use Rattle.esm_model.specs.Kept.{change_of}
use Rattle.esm_book.specs.State.{in_delivery, in_hand}
use Rattle.esm_input.specs.declared.ending.InputEnd.{InputEnd}
use Rattle.esm_input.specs.Positions.{from_start}
use Rattle.esm_input.specs.Reading.{InputState, IsInput, handed, items_read}
use Rattle.esm_queue_core.specs.Coming.{deletion_at, IsChangeOf, NoneHasChanged}
use Rattle.esm_queue_model.specs.QueueBatch.{last_queue_event}
use Rattle.esm_queue_model.specs.QueueEntries.{queue_count, queue_lane}
use Rattle.esm_queue_model.specs.QueueSetting.{found_deletion, is_fifo}
use Rattle.esm_queue_book.specs.Coming.{messages_in_items}
use Rattle.esm_redrive.specs.DeadFile.{AreLetters, dead_ids}
use Rattle.esm_redrive_core.specs.RedriveView.{RedriveView, new_setting, new_view}
use Rattle.esm_redrive_core.specs.Refusing.{IsFirstChange}
use Rattle.esm_redrive_core.specs.Told.{opened}
use Rattle.esm_redrive_model.specs.RedriveLaws.{HaveDifferentIds}
use Rattle.esm_redrive_model.specs.RedriveReport.{redrive_calls}
use Rattle.esm_redrive_model.specs.RedriveStep.{LegalRedrive}
use Rattle.esm_redrive_model.specs.RedriveSetting.{RedriveSetting, HaveSameIds, redrive_over, with_dead_ids}
use Rattle.esm_redrive_book.specs.Keeping.{IsCause}
use Rattle.esm_redrive_book.specs.Moments.{IsTimedView}
use Rattle.esm_runner.specs.Files.{FilesState}
use Rattle.esm_runner.specs.Given.{AreGiven}
use Rattle.esm_runner.specs.QueueEnded.{IsChanged, line_kind}
use Rattle.esm_runner.specs.QueueRan.{NoneDiffersBefore}
use Rattle.esm_runner.specs.QueueStopping.{HasLogged}
use Rattle.esm_runner.proofs.QueueItems.{get_behind, get_front}
use Rattle.esm_serial.specs.declared.running.RunEnd.{RunEnd}
use Rattle.esm_serial.specs.declared.running.RunEnd.TheVariants as ran
use Rattle.esm_serial.specs.declared.serial.Serial.{Ghosts as Serial}
use Rattle.esm_serial.specs.Ran as serial
use Rattle.esm_redrive_run.specs.Book.{Book, HasGoneOn, IsGoing, IsLegalBook, IsShut, DoesRest, RunsJob, HasFinished, IsSpent, items_in, Differs}
use Rattle.esm_redrive_run.specs.Headline.{Disks, Headline, Words, setting_before}
use Rattle.esm_redrive_run.specs.Ended.{AllCame, CallsAfterAll, HasRun, HasStopped, IsCauseOf, IsFaultOf, IsOfNext, Telling, trouble_of}
use Rattle.esm_redrive_run.specs.Ending.{EndsBy, HasReason, IsEndOf}
use Rattle.esm_redrive_run.specs.Laws.{AreLaws}
use Rattle.esm_redrive_run.specs.Runs.{IsLeft}
use Rattle.esm_redrive_run.specs.declared.run.RedriveEnd.{RedriveEnd}
use Rattle.esm_redrive_run.specs.declared.run.RedriveEnd.TheVariants as end
use Rattle.esm_redrive_run.proofs.Different.{came_apart, handed_apart}
use Rattle.esm_redrive_run.proofs.Following.{arrivals_open, arrivals_unbegun}
use Rattle.esm_redrive_run.proofs.Headlines.{AreOf, headline, disk_rose, dest_rose}
use Rattle.esm_redrive_run.proofs.Items.{all_told, few_of, items_both, messages_few, some_told}
use Rattle.esm_redrive_run.proofs.InputRead.{IsMadeFor, IsReadSo, read_in_part, read_whole}
use Rattle.esm_redrive_run.proofs.Settling.{never_called, none_begun}
use Rattle.esm_redrive_run.proofs.KeptIds.{none_came_changed, none_before}

-- a serial run's book is seen as a redrive's
pub record Means {B D : Type 0} (m : Serial B) (see : B → Book D) : Type 0 where
  pub since : (gave : ℕ → Bool) (sends : List ℕ → List ℕ) (a b : B) (calls : List Called) → m.since gave sends a b calls → HasGoneOn gave sends (see a) (see b) calls
  pub rests : (b : B) → m.rests b → DoesRest (see b)
  pub runs : (b : B) (job : Job) → m.runs b job → RunsJob (see b) job
  pub going : (b : B) → m.going b → IsGoing (see b)
  pub shut : (b : B) → m.shut b → IsShut (see b)
  pub finished : (b : B) → m.finished b → HasFinished (see b)
  pub spent : (b : B) → m.spent b → IsSpent (see b)
  pub down : (b : B) → m.down b ≡ is_some (see b).trouble
  pub change : (b : B) → m.change b ≡ change_of (see b).trouble
  pub function : (b : B) → m.function b ≡ (see b).core.setting.queue.config.function
  pub items : (b : B) (n : ℕ) → m.items b n ≡ items_in (see b) n
  pub differs : (b : B) (list : List Item) (change : Change) → m.differs b list change → Differs (see b) list change

-- what the book had at its opening
pub record StoodSo {D : Type 0} (w : Words) (f : FilesState D) (first : Book D) : Type 0 where
  pub letters : AreLetters (is_fifo w.config.kind) f.dest.payloads (length f.dest.payloads)
  pub ids : List (List ℕ)
  pub same_ids : HaveSameIds ids (dead_ids (is_fifo w.config.kind) f.dest.payloads)
  pub core : first.core ≡ new_view (new_setting w.config w.calls w.visibility f.said.deletions w.max_receives ids)

-- why the book is down, where it is
abbrev pub IsCauseIn : {D : Type 0} → DiskMeaning D → Book D → Option Trouble → Type 0
IsCauseIn m b why = IsCause (Rose (m.faults b.found.used) (m.faults b.pair.used)) (Rose (m.faults b.found_dest.disk) (m.faults b.dest.disk)) (opened b.core) why

no_trouble : (x : Option Trouble) → is_some x ≡ false → x ≡ None
no_trouble None up = refl
no_trouble (Some trouble) up = absurd (let clash : true ≡ false = up in cc)

module _ {B D F : Type 0} (m : Serial B) (see : B → Book D) (means : Means m see) (t : Telling D F) (w : Words) (f : FilesState D) (first now : B) (stood : StoodSo w f (see first)) where
  abbrev clock_gave : ℕ → Bool
  clock_gave = t.callers.gave

  abbrev sent : List ℕ → List ℕ
  sent = t.callers.sends

  abbrev ids : List (List ℕ)
  ids = dead_ids (is_fifo w.config.kind) f.dest.payloads

  abbrev own : RedriveSetting
  own = with_dead_ids (see now).core.setting ids

  abbrev past : List Entry
  past = (see now).core.past

  -- the setting

  first_setting : (see first).core.setting ≡ new_setting w.config w.calls w.visibility f.said.deletions w.max_receives stood.ids
  first_setting = ap (λ (v : RedriveView). v.setting) stood.core

  first_past : (see first).core.past ≡ []
  first_past = ap (λ (v : RedriveView). v.past) stood.core

  setting_of : (b : B) → (calls : List Called) → m.since clock_gave sent first b calls → (see b).core.setting ≡ redrive_over (new_setting w.config w.calls w.visibility f.said.deletions w.max_receives stood.ids) (see b).core.setting.queue.messages
  setting_of b calls since = (means.since clock_gave sent first b calls since).opened ∙ ap (λ (s : RedriveSetting). redrive_over s (see b).core.setting.queue.messages) first_setting

  opened_so : (calls : List Called) → m.since clock_gave sent first now calls → own ≡ redrive_over (setting_before w f) own.queue.messages
  opened_so calls since = ap (λ (s : RedriveSetting). with_dead_ids s ids) (setting_of now calls since)

  same_ids : (calls : List Called) → m.since clock_gave sent first now calls → HaveSameIds (see now).core.setting.dead_ids ids
  same_ids calls since = subst (λ (x : List (List ℕ)). HaveSameIds x ids) (ap (λ (s : RedriveSetting). s.dead_ids) (sym (setting_of now calls since))) stood.same_ids

  deletions_of : (b : B) (calls : List Called) → m.since clock_gave sent first b calls → (see b).core.setting.queue.deletions ≡ f.said.deletions
  deletions_of b calls since = ap (λ (s : RedriveSetting). s.queue.deletions) (setting_of b calls since)

  -- the calls

  calls_so : (calls : List Called) → m.since clock_gave sent first now calls → redrive_calls own sent past ≡ calls
  calls_so calls since =
      (means.since clock_gave sent first now calls since).called
      ∙ ap (λ (cs : List Called). cs ++ calls) (ap (λ (h : List Entry). redrive_calls (see first).core.setting sent h) first_past)

  given_so : (calls : List Called) → m.since clock_gave sent first now calls → AreGiven clock_gave past
  given_so calls since = (means.since clock_gave sent first now calls since).moments (subst (AreGiven clock_gave) (sym first_past) tt)

  timed_so : (calls : List Called) → m.since clock_gave sent first now calls → IsTimedView clock_gave (see now).core
  timed_so calls since = (means.since clock_gave sent first now calls since).timed (subst (IsTimedView clock_gave) (sym stood.core) (record { past = tt; owed = tt }))

  later_so : (calls : List Called) → m.since clock_gave sent first now calls → CallsFollowShut past
  later_so calls since = (means.since clock_gave sent first now calls since).later (subst CallsFollowShut (sym first_past) tt)

  -- what came

  come_seen : (b : B) (list : List Item) → AreCome (m.items b) list → AreCome (items_in (see b)) list
  come_seen b list come n = sym (means.items b n) ∙ come n

  some_seen : (b : B) (list : List Item) → AreSomeCome (m.items b) list → AreSomeCome (items_in (see b)) list
  some_seen b list come n = ((come n).0, (come n).1 ∙ ap (λ (xs : List Item). xs ++ (come n).0) (means.items b n))

  some_of_all : (list : List Item) → AreCome (m.items now) list → (rest : List Message) × (messages_in_items list ≡ own.queue.messages ++ rest)
  some_of_all list come = ([], sym (all_told (see now) list (come_seen now list come)) ∙ sym (append-nil own.queue.messages))

  some_came : {S : Type 0} (i : InputState S) (start log : Option (List Called)) (r : RunEnd) → serial.CameSo m clock_gave first now i start log r → (rest : List Message) × (messages_in_items (handed i) ≡ own.queue.messages ++ rest)
  some_came i start log ran.Finished came = some_of_all (handed i) came.items
  some_came i start log ran.Spent came = some_of_all (handed i) came.items
  some_came i start log ran.Down came = elim came [
    | inl all ↦ some_of_all (handed i) all.items
    | inr refused ↦ some_told (see now) (handed i) (some_seen now (handed i) refused.items)
  ]

  -- the change

  first_legal : {b : B} (calls : List Called) → m.since clock_gave sent first b calls → IsLegalBook (see b)
  first_legal {b} calls since = (means.since clock_gave sent first b calls since).sound (record {
    legal = subst (λ (v : RedriveView). LegalRedrive v.setting v.past) (sym stood.core) tt;
    came = subst (λ (v : RedriveView). queue_count v.past ≡ length v.setting.queue.messages) (sym stood.core) refl;
  })

  handed_is : {S : Type 0} (i : InputState S) (change : Change) (of : serial.IsChangeOf m clock_gave sent first now i change)
      → messages_in_items (handed i) ≡ (see of.before).core.setting.queue.messages ++ (messages_in_items of.list ++ messages_in_items of.rest)
  handed_is i change of =
      ap messages_in_items of.handed_out
      ∙ (items_both (of.front ++ of.list) of.rest
      ∙ (ap (λ (l : List Message). l ++ messages_in_items of.rest) (items_both of.front of.list)
      ∙ (append_assoc (messages_in_items of.front) (messages_in_items of.list) (messages_in_items of.rest)
      ∙ ap (λ (l : List Message). l ++ (messages_in_items of.list ++ messages_in_items of.rest)) (sym (all_told (see of.before) of.front (come_seen of.before of.front of.had_come))))))

  changed_so : {S : Type 0} (calls : List Called) → m.since clock_gave sent first now calls → (i : InputState S) (change : Change) → serial.IsChangeOf m clock_gave sent first now i change → IsChanged own.queue (messages_in_items (handed i)) change
  changed_so calls since i change of =
      let differs : IsFirstChange (see of.before).core (messages_in_items of.list) change = means.differs of.before of.list change of.differs_so in
      let told : List Message = (see of.before).core.setting.queue.messages in
      let list : List Message = messages_in_items of.list in
      let rest : List Message = messages_in_items of.rest in
      let deletions : List FoundDeletion = (see of.before).core.setting.queue.deletions in
      let is : IsChangeOf deletions (length told + differs.position) differs.message change = differs.change_is in
      let parts : messages_in_items (handed i) ≡ told ++ (list ++ rest) = handed_is i change of in
      let same : deletions ≡ own.queue.deletions = deletions_of of.before [] of.since ∙ sym (deletions_of now calls since) in
      let legal = first_legal [] of.since in
      let none : NoneHasChanged deletions 0 (told ++ (list ++ rest)) (length told + differs.position) =
      none_before deletions told list rest differs.position differs.message (none_came_changed (see of.before).core.setting (see of.before).core.past legal.legal legal.came) differs.at differs.before in
      record {
        queue = is.queue;
        found = is.found;
        deletion = ap (λ (k : ℕ). found_deletion own.queue k) is.place_is ∙ (ap (λ (ds : List FoundDeletion). deletion_at ds (length told + differs.position)) (sym same) ∙ is.deletion);
        kept = is.kept;
        message = differs.message;
        at = ap (λ (l : List Message). slice_get l change.place) parts
            ∙ (ap (slice_get (told ++ (list ++ rest))) is.place_is
            ∙ (get_behind told (list ++ rest) differs.position
            ∙ get_front list rest differs.position differs.message differs.at));
        given = is.given;
        differs = λ alike. is.differs (sym is.given ∙ (alike ∙ is.kept));
        first = subst (λ (ds : List FoundDeletion). NoneDiffersBefore ds (messages_in_items (handed i)) change.place) same
            (subst (λ (ms : List Message). NoneHasChanged deletions 0 ms change.place) (sym parts)
            (subst (λ (k : ℕ). NoneHasChanged deletions 0 (told ++ (list ++ rest)) k) (sym is.place_is) none));
      }

  -- it is of the list that came next
  next_so : {S : Type 0} (i : InputState S) (change : Change) → IsLeft t.disk f (see now) → serial.IsChangeOf m clock_gave sent first now i change → IsOfNext past change
  next_so i change left of =
      let differs : IsFirstChange (see of.before).core (messages_in_items of.list) change = means.differs of.before of.list change of.differs_so in
      let told : List Message = (see of.before).core.setting.queue.messages in
      let list : List Message = messages_in_items of.list in
      let same : told ≡ own.queue.messages = all_told (see of.before) of.front (come_seen of.before of.front of.had_come) ∙ sym (all_told (see now) of.front (come_seen now of.front of.came)) in
      let count : queue_count past ≡ length told = left.consistent.count ∙ ap (λ (ms : List Message). length ms) (sym same) in
      let place : change.place ≡ length told + differs.position = differs.change_is.place_is in
      let within : differs.position < length list = slice_get_within list differs.position differs.message differs.at in
      let fewer : length list ≤ length of.list = messages_few of.list in
      let few : length of.list ≤ MAX_BATCH = of.few in
      record { behind = omega (arith, count, place); near = omega (arith, count, place, within, fewer, few) }

  -- why it ended

  trouble_is : (reading : Option InputEnd) (r : RunEnd) (e : RedriveEnd) → serial.EndsSo m now r → IsEndOf r (see now).trouble reading e → (see now).trouble ≡ trouble_of e
  trouble_is reading r (end.Finished last) so is = no_trouble (see now).trouble (sym (means.down now) ∙ (subst (serial.EndsSo m now) is.0 so).0)
  trouble_is reading r end.CallsSpent so is = no_trouble (see now).trouble (sym (means.down now) ∙ (subst (serial.EndsSo m now) is so).0)
  trouble_is reading r end.DiskFault so is = is.1
  trouble_is reading r end.DestFault so is = is.1
  trouble_is reading r (end.Changed change) so is = is.1
  trouble_is reading r (end.BadLine index) so is = absurd is

  all_came : {S : Type 0} (calls : List Called) → m.since clock_gave sent first now calls → IsLeft t.disk f (see now) → (i : InputState S) → serial.AllCame m now i → AllCame own past (messages_in_items (handed i))
  all_came calls since left i all =
      let list : own.queue.messages ≡ messages_in_items (handed i) = all_told (see now) (handed i) (come_seen now (handed i) all.items) in
      record {
        list = list;
        came = left.consistent.count ∙ ap (λ (ms : List Message). length ms) list;
        unchanged = subst (λ (ms : List Message). NoneDiffersBefore own.queue.deletions ms (length ms)) list (none_came_changed (see now).core.setting past left.sound.legal left.consistent.count);
        shut = means.shut now all.shut;
      }

  cause_of : {S : Type 0} (calls : List Called) → m.since clock_gave sent first now calls → (start log : Option (List Called)) (i : InputState S) (new : Disks D) (r : RunEnd) (e : RedriveEnd) → IsLeft t.disk f (see now) → AreOf (see now) new → IsCauseIn t.disk (see now) (see now).trouble
      → serial.CameSo m clock_gave first now i start log r → serial.EndsSo m now r → ((change : Change) → m.change now ≡ Some change → serial.IsChangeOf m clock_gave sent first now i change) → IsEndOf r (see now).trouble i.end e
      → IsCauseOf t.disk f own past (messages_in_items (handed i)) i.end new e
  cause_of calls since start log i new r (end.Finished last) left of cause came so changed is =
      let all = subst (serial.CameSo m clock_gave first now i start log) is.0 came in
      let gone = subst (serial.EndsSo m now) is.0 so in
      (all_came calls since left i all, is.1, (means.finished now gone.1).deleted)
  cause_of calls since start log i new r end.CallsSpent left of cause came so changed is =
      let all = subst (serial.CameSo m clock_gave first now i start log) is came in
      let gone = means.spent now (subst (serial.EndsSo m now) is so).1 in
      (all_came calls since left i all, gone.calls, gone.waits, all.ended, gone.none_due)
  cause_of calls since start log i new r end.DiskFault left of cause came so changed is = disk_rose t.disk f (see now) left new of (subst (IsCauseIn t.disk (see now)) is.1 cause)
  cause_of calls since start log i new r end.DestFault left of cause came so changed is = dest_rose t.disk f (see now) left new of (subst (IsCauseIn t.disk (see now)) is.1 cause)
  cause_of calls since start log i new r (end.Changed change) left of cause came so changed is =
      let found = changed change (means.change now ∙ ap change_of is.1) in
      (changed_so calls since i change found, next_so i change left found, λ sends. never_called (see now).core.setting sends past left.sound.legal (left.sound.changed change is.1).going (later_so calls since))
  cause_of calls since start log i new r (end.BadLine index) left of cause came so changed is = absurd is

  -- all of the input came before the first call
  after_all : {S : Type 0} (calls : List Called) → m.since clock_gave sent first now calls → IsLeft t.disk f (see now) → (start log : Option (List Called)) (i : InputState S) (r : RunEnd) → m.rests now → serial.CameSo m clock_gave first now i start log r
      → CallsAfterAll own past (messages_in_items (handed i)) i.end
  after_all calls since left start log i ran.Finished rests came = inl (all_came calls since left i came, came.ended)
  after_all calls since left start log i ran.Spent rests came = inl (all_came calls since left i came, came.ended)
  after_all calls since left start log i ran.Down rests came = elim came [
    | inl all ↦ inl (all_came calls since left i all, all.ended)
    | inr refused ↦ inr (none_begun (see now).core.setting sent past left.sound.legal (means.rests now rests).idle (calls_so [] (refused.uncalled sent)))
  ]

  abbrev hand_now : List Entry
  hand_now = in_hand (see now).trouble (see now).core.owed

  abbrev tried_now : List Entry
  tried_now = in_delivery (see now).trouble (see now).core.owed

  head_of : (calls : List Called) → m.since clock_gave sent first now calls → HaveDifferentIds own.queue.messages → length own.queue.messages < 2 ^ 32 → AreLaws → IsLeft t.disk f (see now) → (new : Disks D) → AreOf (see now) new
      → Headline t.disk clock_gave f own past (see now).trouble hand_now tried_now new
  head_of calls since different few laws left new of =
      headline t.disk f (see now) left new of clock_gave ids (same_ids calls since) (deletions_of now calls since) different few laws (given_so calls since) (timed_so calls since) (later_so calls since)

  different_handed : {S : Type 0} (i : InputState S) (start log : Option (List Called)) (r : RunEnd) → serial.CameSo m clock_gave first now i start log r → HaveDifferentIds own.queue.messages
  different_handed i start log r came =
      let some = some_came i start log r came in
      came_apart own.queue.messages (messages_in_items (handed i)) some.0 (handed_apart i.start i.kind i.factor i.whole i.bytes) some.1

  few_handed : {S : Type 0} (i : InputState S) (start log : Option (List Called)) (r : RunEnd) → AreLaws → serial.CameSo m clock_gave first now i start log r → length own.queue.messages < 2 ^ 32
  few_handed i start log r laws came =
      let some = some_came i start log r came in
      few_of own.queue.messages some.0 (handed i) some.1 (laws.within i.kind i.factor i.start i.whole i.bytes (handed i) [] (sym (append-nil (handed i)))).few

  pub ended : {S : Type 0} (faults : S → ℕ) (left_in : S → Option (List ℕ)) (old : S) (i : InputState S) (old_caller new_caller : F) (new : Disks D) (r : RunEnd) (e : RedriveEnd) → AreLaws → IsLeft t.disk f (see now) → AreOf (see now) new → IsCauseIn t.disk (see now) (see now).trouble
      → IsMadeFor w.config old i → i.failed ≡ false → IsInput faults left_in i → serial.HasCalled m clock_gave sent first now (t.callers.log old_caller) (t.callers.log new_caller) → m.rests now → serial.EndsSo m now r
      → serial.CameSo m clock_gave first now i (t.callers.log old_caller) (t.callers.log new_caller) r → ((change : Change) → m.change now ≡ Some change → serial.IsChangeOf m clock_gave sent first now i change) → IsEndOf r (see now).trouble i.end e
      → HasRun t faults left_in w f old i.source i.end old_caller new_caller past new e
  ended faults left_in old i old_caller new_caller new r e laws left of cause made good read called rests so came changed is = record {
    input = i;
    is_input = record { kind = made.kind; factor = made.factor; start = made.start; found = made.found; source = refl; good = good; read = read };
    read_to = refl;
    setting = own;
    is_setting = record { opened = opened_so called.calls called.since; came = some_came i (t.callers.log old_caller) (t.callers.log new_caller) r came; letters = stood.letters };
    hand = hand_now;
    tried = tried_now;
    headline = subst (λ (why : Option Trouble). Headline t.disk clock_gave f own past why hand_now tried_now new) (trouble_is i.end r e so is)
        (head_of called.calls called.since (different_handed i (t.callers.log old_caller) (t.callers.log new_caller) r came) (few_handed i (t.callers.log old_caller) (t.callers.log new_caller) r laws came) laws left new of);
    calls_made = subst (Grows (t.callers.log old_caller) (t.callers.log new_caller)) (sym (calls_so called.calls called.since)) called.logged;
    rests = (means.rests now rests).idle;
    calls_after_all = after_all called.calls called.since left (t.callers.log old_caller) (t.callers.log new_caller) i r rests came;
    cause = cause_of called.calls called.since (t.callers.log old_caller) (t.callers.log new_caller) i new r e left of cause came so changed is;
  }

  -- want of memory

  fault_in : (new : Disks D) (why : Option Trouble) → change_of why ≡ None → IsLeft t.disk f (see now) → AreOf (see now) new → IsCauseIn t.disk (see now) why → IsFaultOf t.disk f new why
  fault_in new None same left of cause = tt
  fault_in new (Some trouble.Disk) same left of cause = disk_rose t.disk f (see now) left new of cause
  fault_in new (Some trouble.Dest) same left of cause = dest_rose t.disk f (see now) left new of cause
  fault_in new (Some (trouble.Changed change)) same left of cause = absurd (cc)

  read_for : {S : Type 0} (old : S) (i : InputState S) (whole : Bool) (bytes : List ℕ) → IsMadeFor w.config old i → AreSomeCome (m.items now) (from_start i.start (items_read i.kind i.factor whole bytes).items)
      → (rest : List Message) × (messages_in_items (from_start w.config.start (items_read (line_kind w.config) w.config.factor whole bytes).items) ≡ own.queue.messages ++ rest)
  read_for old i whole bytes made came =
      some_told (see now) (from_start w.config.start (items_read (line_kind w.config) w.config.factor whole bytes).items)
      (some_seen now (from_start w.config.start (items_read (line_kind w.config) w.config.factor whole bytes).items)
      (subst (λ (k : LineKind). AreSomeCome (m.items now) (from_start w.config.start (items_read k w.config.factor whole bytes).items)) made.kind
      (subst (λ (n : ℕ). AreSomeCome (m.items now) (from_start w.config.start (items_read i.kind n whole bytes).items)) made.factor
      (subst (λ (s : Start). AreSomeCome (m.items now) (from_start s (items_read i.kind i.factor whole bytes).items)) made.start came))))

  different_read : {S : Type 0} (old : S) (i : InputState S) (whole : Bool) (bytes : List ℕ) → IsMadeFor w.config old i → AreSomeCome (m.items now) (from_start i.start (items_read i.kind i.factor whole bytes).items) → HaveDifferentIds own.queue.messages
  different_read old i whole bytes made came =
      let read = read_for old i whole bytes made came in
      came_apart own.queue.messages (messages_in_items (from_start w.config.start (items_read (line_kind w.config) w.config.factor whole bytes).items)) read.0 (handed_apart w.config.start (line_kind w.config) w.config.factor whole bytes) read.1

  few_read : {S : Type 0} (old : S) (i : InputState S) (whole : Bool) (bytes : List ℕ) → AreLaws → IsMadeFor w.config old i → AreSomeCome (m.items now) (from_start i.start (items_read i.kind i.factor whole bytes).items) → length own.queue.messages < 2 ^ 32
  few_read old i whole bytes laws made came =
      let read = read_for old i whole bytes made came in
      let items = from_start w.config.start (items_read (line_kind w.config) w.config.factor whole bytes).items in
      few_of own.queue.messages read.0 items read.1 (laws.within (line_kind w.config) w.config.factor w.config.start whole bytes items [] (sym (append-nil items))).few

  -- all of the input came, or no call began
  read_so : {S : Type 0} (faults : S → ℕ) (left_in : S → Option (List ℕ)) (old : S) (i : InputState S) (start log : Option (List Called)) (calls : List Called) → m.since clock_gave sent first now calls → IsLeft t.disk f (see now) → IsMadeFor w.config old i
      → serial.StopsSo m clock_gave faults left_in first now i start log → IsReadSo faults left_in w old i (m.items now) own past
  read_so faults left_in old i start log calls since left made stops = elim stops [
    | inl was ↦ read_whole m faults left_in w old i now own past made (all_came calls since left i was.all) was
    | inr cut ↦ read_in_part faults left_in w old i (m.items now) own past cut.cut
        (record { open_still = arrivals_open past (means.going now cut.going); uncalled = arrivals_unbegun past (means.going now cut.going) })
  ]

  stopped_with : {S : Type 0} (faults : S → ℕ) (left_in : S → Option (List ℕ)) (old : S) (i : InputState S) (old_caller new_caller : F) (new : Disks D) (calls : List Called) → m.since clock_gave sent first now calls → AreLaws → IsLeft t.disk f (see now) → AreOf (see now) new → IsCauseIn t.disk (see now) (see now).trouble
      → IsMadeFor w.config old i → IsReadSo faults left_in w old i (m.items now) own past → HasLogged sent own.queue past 0 (t.callers.log old_caller) (t.callers.log new_caller) → m.change now ≡ None
      → HasStopped t faults left_in w f old i.source i.end old_caller new_caller past new
  stopped_with {S = S} faults left_in old i old_caller new_caller new calls since laws left of cause made cut logged no_change = record {
    bytes = cut.bytes;
    more = cut.more;
    whole = cut.whole;
    taken = subst (λ (s : S). TakesFront (left_in s) (left_in i.source) (cut.bytes ++ cut.more)) made.found cut.taken;
    at_end = cut.at_end;
    setting = own;
    is_setting = record { opened = opened_so calls since; came = read_for old i cut.whole cut.bytes made cut.some; letters = stood.letters };
    calls_after_all = cut.after;
    trouble = (see now).trouble;
    fault = fault_in new (see now).trouble (sym (means.change now) ∙ no_change) left of cause;
    hand = hand_now;
    tried = tried_now;
    headline = head_of calls since (different_read old i cut.whole cut.bytes made cut.some) (few_read old i cut.whole cut.bytes laws made cut.some) laws left new of;
    calls_made = logged;
  }

  pub stopped : {S : Type 0} (faults : S → ℕ) (left_in : S → Option (List ℕ)) (old : S) (i : InputState S) (old_caller new_caller : F) (new : Disks D) → AreLaws → IsLeft t.disk f (see now) → AreOf (see now) new → IsCauseIn t.disk (see now) (see now).trouble
      → IsMadeFor w.config old i → serial.StopsSo m clock_gave faults left_in first now i (t.callers.log old_caller) (t.callers.log new_caller)
      → serial.HasCalled m clock_gave sent first now (t.callers.log old_caller) (t.callers.log new_caller) ⊎ serial.HasOneMore m clock_gave sent first now (t.callers.log old_caller) (t.callers.log new_caller) → m.change now ≡ None
      → HasStopped t faults left_in w f old i.source i.end old_caller new_caller past new
  stopped faults left_in old i old_caller new_caller new laws left of cause made stops called no_change = elim called [
    | inl all ↦ stopped_with faults left_in old i old_caller new_caller new all.calls all.since laws left of cause made (read_so faults left_in old i (t.callers.log old_caller) (t.callers.log new_caller) all.calls all.since left made stops)
        (inl (subst (Grows (t.callers.log old_caller) (t.callers.log new_caller)) (sym (calls_so all.calls all.since)) all.logged)) no_change
    | inr more ↦
        (let runs : RunsJob (see now) more.job = means.runs now more.job more.running in
        stopped_with faults left_in old i old_caller new_caller new more.calls more.since laws left of cause made (read_so faults left_in old i (t.callers.log old_caller) (t.callers.log new_caller) more.calls more.since left made stops)
        (inr (record {
          runs = runs.runs;
          reply = more.reply;
          logged = subst (λ (cs : List Called). Grows (t.callers.log old_caller) (t.callers.log new_caller) (cs ++ record { name = own.queue.config.function; event = sent (last_queue_event own.queue past (queue_lane 0)); reply = more.reply } ∷ [])) (sym (calls_so more.calls more.since))
              (subst (λ (e : List ℕ). Grows (t.callers.log old_caller) (t.callers.log new_caller) (more.calls ++ record { name = own.queue.config.function; event = sent e; reply = more.reply } ∷ [])) runs.event
              (subst (λ (name : List ℕ). Grows (t.callers.log old_caller) (t.callers.log new_caller) (more.calls ++ record { name = name; event = sent more.job.event; reply = more.reply } ∷ [])) (means.function now) more.logged));
        })) no_change)
  ]

-- both

-- how the caller came to what it came to
pub record HasCome {B S F : Type 0} (m : Serial B) (gave : ℕ → Bool) (sends : List ℕ → List ℕ) (log : F → Option (List Called)) (faults : S → ℕ) (left_in : S → Option (List ℕ)) (first now : B) (i : InputState S) (old new : F) (r : Result RunEnd OutOfMemory) : Type 0 where
  pub called : OnOk r (serial.HasCalled m gave sends first now (log old) (log new))
  pub rests : OnOk r (m.rests now)
  pub stopped : OnErr r (serial.HasCalled m gave sends first now (log old) (log new) ⊎ serial.HasOneMore m gave sends first now (log old) (log new))
  pub ended : IfOk r (serial.EndsSo m now)
  pub came : IfOk r (serial.CameSo m gave first now i (log old) (log new))
  pub changed : (change : Change) → m.change now ≡ Some change → serial.IsChangeOf m gave sends first now i change
  pub read : OnOk r (IsInput faults left_in i)
  pub good : OnOk r (i.failed ≡ false)
  pub cut : OnErr r (serial.StopsSo m gave faults left_in first now i (log old) (log new))
  pub no_change : OnErr r (m.change now ≡ None)

pub ended_by : {B D S F : Type 0} (m : Serial B) (see : B → Book D) (means : Means m see) (t : Telling D F) (w : Words) (f : FilesState D) (first now : B) (stood : StoodSo w f (see first)) (faults : S → ℕ) (left_in : S → Option (List ℕ)) (old : S) (i : InputState S) (old_caller new_caller : F) (new : Disks D)
    → (r : Result RunEnd OutOfMemory) (e : RedriveEnd) → AreLaws → IsLeft t.disk f (see now) → AreOf (see now) new → IsCauseIn t.disk (see now) (see now).trouble → IsMadeFor w.config old i → HasCome m t.callers.gave t.callers.sends t.callers.log faults left_in first now i old_caller new_caller r
    → EndsBy r (see now).trouble i.end e → HasRun t faults left_in w f old i.source i.end old_caller new_caller (see now).core.past new e
ended_by m see means t w f first now stood faults left_in old i old_caller new_caller new (Ok r) e laws left of cause made come is =
    ended m see means t w f first now stood faults left_in old i old_caller new_caller new r e laws left of cause made come.good come.read come.called come.rests come.ended come.came come.changed is
ended_by m see means t w f first now stood faults left_in old i old_caller new_caller new (Err none) e laws left of cause made come is = absurd is

pub stopped_by : {B D S F : Type 0} (m : Serial B) (see : B → Book D) (means : Means m see) (t : Telling D F) (w : Words) (f : FilesState D) (first now : B) (stood : StoodSo w f (see first)) (faults : S → ℕ) (left_in : S → Option (List ℕ)) (old : S) (i : InputState S) (old_caller new_caller : F) (new : Disks D)
    → (r : Result RunEnd OutOfMemory) → AreLaws → IsLeft t.disk f (see now) → AreOf (see now) new → IsCauseIn t.disk (see now) (see now).trouble → IsMadeFor w.config old i → HasCome m t.callers.gave t.callers.sends t.callers.log faults left_in first now i old_caller new_caller r
    → IsErr r → HasStopped t faults left_in w f old i.source i.end old_caller new_caller (see now).core.past new
stopped_by m see means t w f first now stood faults left_in old i old_caller new_caller new (Ok r) laws left of cause made come short = absurd (let clash : false ≡ true = short in cc)
stopped_by m see means t w f first now stood faults left_in old i old_caller new_caller new (Err none) laws left of cause made come short =
    stopped m see means t w f first now stood faults left_in old i old_caller new_caller new laws left of cause made come.cut come.stopped come.no_change

-- what stays, and the reason of an end

pub found_stays : {B D S F : Type 0} (m : Serial B) (see : B → Book D) (means : Means m see) (gave : ℕ → Bool) (sends : List ℕ → List ℕ) (log : F → Option (List Called)) (faults : S → ℕ) (left_in : S → Option (List ℕ)) (first now : B) (i : InputState S) (old new : F) (r : Result RunEnd OutOfMemory)
    → HasCome m gave sends log faults left_in first now i old new r → ((see now).found ≡ (see first).found) × ((see now).found_dest ≡ (see first).found_dest)
found_stays m see means gave sends log faults left_in first now i old new (Ok r) come = (let on = means.since gave sends first now come.called.calls come.called.since in (on.found, on.found_dest))
found_stays m see means gave sends log faults left_in first now i old new (Err none) come = elim come.stopped [
  | inl all ↦ (let on = means.since gave sends first now all.calls all.since in (on.found, on.found_dest))
  | inr more ↦ (let on = means.since gave sends first now more.calls more.since in (on.found, on.found_dest))
]

reason_for : {B D S : Type 0} (m : Serial B) (see : B → Book D) (gave : ℕ → Bool) (first now : B) (i : InputState S) (start log : Option (List Called)) (r : RunEnd) → ((b : B) → m.down b ≡ is_some (see b).trouble) → serial.CameSo m gave first now i start log r → serial.EndsSo m now r → HasReason (see now).trouble i.end r
reason_for m see gave first now i start log ran.Finished down came so = came.ended
reason_for m see gave first now i start log ran.Spent down came so = tt
reason_for m see gave first now i start log ran.Down down came so = sym (down now) ∙ so

pub reason_so : {B D S : Type 0} (m : Serial B) (see : B → Book D) (gave : ℕ → Bool) (first now : B) (i : InputState S) (start log : Option (List Called)) (r : Result RunEnd OutOfMemory) → ((b : B) → m.down b ≡ is_some (see b).trouble)
    → IfOk r (serial.CameSo m gave first now i start log) → IfOk r (serial.EndsSo m now) → IfOk r (HasReason (see now).trouble i.end)
reason_so m see gave first now i start log (Ok r) down came so = reason_for m see gave first now i start log r down came so
reason_so m see gave first now i start log (Err none) down came so = tt

pub found_ran : {B D F : Type 0} (m : Serial B) (see : B → Book D) (gave : ℕ → Bool) (sends : List ℕ → List ℕ) (log : F → Option (List Called)) (first now : B) (old new : F) (r : Result RunEnd OutOfMemory)
    → ((a b : B) (calls : List Called) → m.since gave sends a b calls → HasGoneOn gave sends (see a) (see b) calls)
    → OnOk r (serial.HasCalled m gave sends first now (log old) (log new)) → OnErr r (serial.HasCalled m gave sends first now (log old) (log new) ⊎ serial.HasOneMore m gave sends first now (log old) (log new))
    → (see now).found ≡ (see first).found
found_ran m see gave sends log first now old new (Ok r) on called short = (on first now called.calls called.since).found
found_ran m see gave sends log first now old new (Err none) on called short = elim short [
  | inl all ↦ (on first now all.calls all.since).found
  | inr more ↦ (on first now more.calls more.since).found
]
