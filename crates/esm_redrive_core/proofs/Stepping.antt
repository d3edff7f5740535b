-- What each call decides leaves of a sound history of a redrive.
use Rattle.std.proofs.Common.{◌≡◌, ℕ, zero, suc, ◌+◌, ◌-◌, ◌<◌, ◌≤◌, false, not, List, [], ◌∷◌, ◌++◌, length, take, reverse, refl, sym, ap, ◌∙◌, subst, arith, Option, Some, None, append-nil}
use Rattle.std.specs.Prelude.{slice_get, option_map, unwrap_or}
use Rattle.std.specs.Str.{bytes_eq}
use Rattle.std.proofs.lemmas.Bool.{not-false}
use Rattle.esm_model.specs.declared.item.Message.{Message}
use Rattle.esm_model.specs.declared.moment.TheConstants.{MAX_MOMENT}
use Rattle.esm_model.specs.declared.setup.FoundDeletion.{FoundDeletion}
use Rattle.esm_model.specs.declared.lane.LaneId.{LaneId}
use Rattle.esm_model.specs.declared.book.Next.{Next}
use Rattle.esm_model.specs.declared.book.Next.TheVariants as next
use Rattle.esm_model.specs.declared.entry.Fate.TheVariants.{Succeeded, Filtered, Exhausted}
use Rattle.esm_model.specs.declared.entry.Entry.{Entry}
use Rattle.esm_model.specs.declared.entry.Entry.TheVariants.{Came, Began, Ended}
use Rattle.esm_model.specs.Fates.{below}
use Rattle.esm_model.specs.Entries.{is_running, last_moment}
use Rattle.esm_model.specs.Step.{IsLater}
use Rattle.esm_queue_model.specs.Queue.{is_eligible, eligible}
use Rattle.esm_queue_model.specs.QueueSetting.{message_at, ExtendsMessages}
use Rattle.esm_queue_model.specs.QueueEntries.{queue_lane, queue_of}
use Rattle.esm_queue_model.specs.QueueStep.{IsKeptMessage}
use Rattle.esm_queue_model.proofs.Groups.{bytes_eq-true}
use Rattle.esm_queue_model.proofs.Places.{In, In-here, In-filter, In-below}
use Rattle.esm_queue_core.specs.Coming.{gave_entries, deletion_at, has_changed, NoneHasChanged}
use Rattle.esm_queue_core.specs.CoreView.{moment_for}
use Rattle.esm_queue_core.specs.Next.{next_for, next_entries}
use Rattle.esm_queue_core.proofs.Beginning.{called_by}
use Rattle.esm_queue_core.proofs.More.{extends_append}
use Rattle.esm_queue_core.proofs.Named.{within_at}
use Rattle.esm_redrive.specs.Limited.{due_in, is_spent, IsDueByQueue}
use Rattle.esm_redrive_model.specs.DeadLetter.{dead_letter}
use Rattle.esm_redrive_model.specs.RedriveSetting.{RedriveSetting, redrive_over}
use Rattle.esm_redrive_model.specs.Due.{due}
use Rattle.esm_redrive_model.specs.RedriveStep.{MayMove, MayBeginRedrive}
use Rattle.esm_redrive_model.proofs.Built.{stored_count, count_within}
use Rattle.esm_redrive_model.proofs.Named.{built_of}
use Rattle.esm_redrive_core.specs.declared.decisions.RedriveCall.{RedriveCall}
use Rattle.esm_redrive_core.specs.declared.decisions.RedriveCall.TheVariants as call
use Rattle.esm_redrive_core.specs.declared.decisions.RedriveAnswer.{RedriveAnswer}
use Rattle.esm_redrive_core.specs.declared.decisions.RedriveAnswer.TheVariants as answer
use Rattle.esm_redrive_core.specs.Coming.{known_from, dropped_from}
use Rattle.esm_redrive_core.specs.RedriveView.{RedriveView, owing}
use Rattle.esm_redrive_core.specs.Adding.{came_entries, entries_due, redrive_next_entries, ended_entries}
use Rattle.esm_redrive_core.specs.Sound.{Sound, Brings, gave_on, ended_places}
use Rattle.esm_redrive_core.specs.Told.{MayCome, MayAsk, IsAnswer, coming_by, entries_by}
use Rattle.esm_redrive_core.specs.Ahead.{IsConsistent, SoundAhead}
use Rattle.esm_redrive_core.proofs.Settling.{sound_over, came_sound, moved_sound, began_sound, ended_sound}
use Rattle.esm_redrive_core.proofs.Keeping.{goes_same}

-- the moment

later_is : (h : List Entry) (moment : ℕ) → last_moment h ≤ MAX_MOMENT → IsLater h (moment_for h moment)
later_is h moment within = record { not_back = omega (arith, within); within = omega arith }

-- messages come

-- one that was found deleted has the id that was kept
pub kept_id : (deletions : List FoundDeletion) (i : ℕ) (f : FoundDeletion) (m : Message) → deletion_at deletions i ≡ Some f → has_changed deletions i m ≡ false → m.id ≡ f.text
kept_id deletions i f m at same =
    let is : not (bytes_eq f.text m.id) ≡ false = subst (λ (o : Option FoundDeletion). unwrap_or (option_map (λ (g : FoundDeletion). not (bytes_eq g.text m.id)) o) false ≡ false) at same in
    sym (bytes_eq-true f.text m.id (not-false (bytes_eq f.text m.id) is))

past_at : (old xs : List Message) (i : ℕ) → length old ≤ i → slice_get (old ++ xs) i ≡ slice_get xs (i - length old)
past_at [] xs i le = (let e : i ≡ i - 0 = omega arith in ap (λ j. slice_get xs j) e)
past_at (x ∷ old) xs zero le = absurd (omega arith)
past_at (x ∷ old) xs (suc i) le = (let e : i - length old ≡ suc i - suc (length old) = omega arith in past_at old xs i (omega arith) ∙ ap (λ j. slice_get xs j) e)

came_kept : (s : RedriveSetting) (old items : List Message) → NoneHasChanged s.queue.deletions (length old) items (length items) → IsKeptMessage (redrive_over s (old ++ items)).queue (length old) (length items)
came_kept s old items none i f m from to at found =
    let n = length old in
    let there : slice_get items (i - n) ≡ Some m = sym (past_at old items i from) ∙ at in
    let l : i - n < length items = omega arith in
    let e : n + (i - n) ≡ i = omega arith in
    kept_id s.queue.deletions i f m found (subst (λ j. has_changed s.queue.deletions j m ≡ false) e (none (i - n) m l there))

-- entries on a history

on_came : (ps qs : List ℕ) (m : ℕ) (e : Entry) (h : List Entry) → gave_on None qs Filtered m (gave_on None ps Exhausted m (e ∷ h)) ≡ reverse (e ∷ (gave_entries None ps Exhausted m ++ gave_entries None qs Filtered m)) ++ h
on_came [] [] m e h = refl
on_came [] (q ∷ qs) m e h = refl
on_came (p ∷ ps) [] m e h = refl
on_came (p ∷ ps) (q ∷ qs) m e h = refl

on_ended : (ps : List ℕ) (by : Option LaneId) (m : ℕ) (e : Entry) (h : List Entry) → gave_on by ps Succeeded m (e ∷ h) ≡ reverse (e ∷ gave_entries by ps Succeeded m) ++ h
on_ended [] by m e h = refl
on_ended (p ∷ ps) by m e h = refl

none_more : (v : RedriveView) (h : List Entry) → Sound v.setting h → (messages : List Message) → ExtendsMessages (v.setting.queue.messages ++ []) messages → Sound (redrive_over v.setting messages) h
none_more v h sound messages goes =
    sound_over v.setting h messages (goes_same v.setting.queue.messages (v.setting.queue.messages ++ []) messages (sym (append-nil v.setting.queue.messages)) goes) sound

coming_sound : (v : RedriveView) (items : List Message) (moment : ℕ) → IsConsistent v → Sound v.setting v.past → MayCome v items → NoneHasChanged v.setting.queue.deletions (length v.setting.queue.messages) items (length items) → SoundAhead (owing v items (came_entries v items moment))
coming_sound v [] moment is sound may none = none_more v v.past sound
coming_sound v (x ∷ xs) moment is sound may none = λ messages goes.
    let old = v.setting.queue.messages in
    let items = x ∷ xs in
    let m = moment_for v.past moment in
    let s = redrive_over v.setting (old ++ items) in
    let before = sound_over v.setting v.past (old ++ items) (extends_append old items) sound in
    let brings : Brings s v.past old items m = record {
      all = refl;
      number = is.count;
      going = may.going;
      some = omega arith;
      kept = came_kept v.setting old items none;
      later = later_is v.past moment is.in_time;
    } in
    let after = came_sound s v.past old items m brings before in
    let on = on_came (known_from s (length old) items) (dropped_from s (length old) items) m (Came 0 (length old) (length items) m) v.past in
    sound_over s _ messages goes (subst (Sound s) on after)

-- the batcher asks

-- a message that is due came
due_came : (s : RedriveSetting) (h : List Entry) (m i : ℕ) (is : List ℕ) → Sound s h → due_in s.max_receives (queue_of s.queue h) m ≡ i ∷ is → i < length s.queue.messages
due_came s h m i is sound due_is =
    let q = queue_of s.queue h in
    let built = built_of s h sound.legal in
    let here : In (i ∷ is) i = In-here i is i refl in
    let spent = In-filter (is_spent s.max_receives q) (eligible q m) i (subst (λ (ps : List ℕ). In ps i) (sym due_is) here) in
    let low : i < length q.messages = In-below (length q.messages) i (In-filter (is_eligible q m) (below (length q.messages)) i spent.0).0 in
    let count = stored_count s.queue h built in
    let within = count_within s.queue h built in
    omega (arith, low, count, within)

module _ (s : RedriveSetting) (h : List Entry) (m : ℕ) (sound : Sound s h) (later : IsLater h m) (rests : is_running h (queue_lane 0) ≡ false) (by_queue : IsDueByQueue s h) where
  begins : (n : Next) → due_in s.max_receives (queue_of s.queue h) m ≡ [] → next_for s.queue h 0 m ≡ n → Sound s (reverse (next_entries n m) ++ h)
  begins (next.Call job) none is =
      let called = called_by s.queue h 0 m job is in
      let may : MayBeginRedrive s h job.lane job.places m = record {
        settled = sound.settled;
        batcher = called.lane;
        rests = rests;
        calls_left = called.left;
        none_due = by_queue m ∙ none;
        exact = called.places;
        some = called.some;
        ready = called.ready;
      } in
      subst (λ (closing : Option ℕ). Sound s (Began job.lane job.places closing m ∷ h)) (sym called.closing) (began_sound s h job.lane job.places m sound later may)
  begins (next.Gave n) none is = sound
  begins (next.Idle until) none is = sound
  begins next.Spent none is = sound
  begins next.Finished none is = sound

  steps : (places : List ℕ) → due_in s.max_receives (queue_of s.queue h) m ≡ places → Sound s (reverse (entries_due s m places (next_entries (next_for s.queue h 0 m) m)) ++ h)
  steps [] none = begins (next_for s.queue h 0 m) none refl
  steps (i ∷ places) is =
      let found = within_at s.queue.messages i (due_came s h m i places sound is) in
      let may : MayMove s h (queue_lane 0) 0 (i ∷ []) (option_map dead_letter (message_at s.queue i)) None m = record {
        settled = sound.settled;
        batcher = refl;
        rests = rests;
        queue = refl;
        place = i;
        first = ap (λ (ps : List ℕ). take 1 ps) (by_queue m ∙ is);
        exact = refl;
        message = found.0;
        is_there = found.1;
        line_is = ap (option_map dead_letter) found.1;
        no_state = refl;
      } in
      moved_sound s h (queue_lane 0) 0 (i ∷ []) (option_map dead_letter (message_at s.queue i)) None m sound later may

-- each call

pub decided_sound : (v : RedriveView) (asked : RedriveCall) (given : RedriveAnswer) → IsDueByQueue v.setting v.past → IsConsistent v → Sound v.setting v.past → MayAsk v asked → IsAnswer v asked given → SoundAhead (owing v (coming_by asked) (entries_by v asked))
decided_sound v (call.Came items moment) answer.Taken due is sound may none = coming_sound v items.items moment is sound may none
decided_sound v (call.Came items moment) (answer.Next n) due is sound may none = absurd none
decided_sound v (call.Came items moment) (answer.Deleted count) due is sound may none = absurd none
decided_sound v (call.Shut moment) given due is sound may none = none_more v v.past sound
decided_sound v (call.Next moment) given due is sound may answered =
    let m = moment_for v.past moment in
    none_more v (reverse (redrive_next_entries v.setting v.past m) ++ v.past) (steps v.setting v.past m sound (later_is v.past moment is.in_time) may due (due_in v.setting.max_receives (queue_of v.setting.queue v.past) m) refl)
decided_sound v (call.Done job reply moment) given due is sound may answered =
    let m = moment_for v.past moment in
    let after = ended_sound v.setting v.past reply m sound may.runs (later_is v.past moment is.in_time) in
    none_more v (reverse (ended_entries v.setting v.past reply m) ++ v.past)
    (subst (Sound v.setting) (on_ended (ended_places v.setting v.past reply m) (Some (queue_lane 0)) m (Ended (queue_lane 0) reply m) v.past) after)
