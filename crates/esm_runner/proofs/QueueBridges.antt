-- A history that threads shared, in the words of its queue's book.
use Rattle.std.proofs.Common.{◌≡◌, ◌<◌, ◌≤◌, ℕ, Bool, true, false, List, [], ◌∷◌, ◌++◌, length, sym, ap, ◌∙◌, subst, inl, inr, Option, Some, None}
use Rattle.std.specs.Prelude.{◌==◌, slice_index_or}
use Rattle.std.proofs.lemmas.Bool.{cases_Bool, eqb-true, and_parts}
use Rattle.esm_io.specs.Told.{Grows}
use Rattle.esm_model.specs.declared.called.Called.{Called}
use Rattle.esm_model.specs.declared.lane.LaneId.{LaneId}
use Rattle.esm_model.specs.declared.setup.Setup.{Setup}
use Rattle.esm_model.specs.declared.setup.Told.{Told}
use Rattle.esm_model.specs.declared.entry.Entry.{Entry}
use Rattle.esm_model.specs.declared.entry.Entry.TheVariants.{Came, Began, Ended, Gave, Tried, Closed, Replayed, Shut}
use Rattle.esm_model.specs.Lane.{same_lane}
use Rattle.esm_model.specs.Entries.{is_running}
use Rattle.esm_model.specs.Books.{entries_told}
use Rattle.esm_model.specs.GoingOn.{AllGiven}
use Rattle.esm_workers.specs.Working.{Outside}
use Rattle.esm_workers.specs.Working as working
use Rattle.esm_workers.specs.Shared.{HaveCalled}
use Rattle.esm_queue_book.specs.Batchers.{queue_calls_told, QueueRests, RunsQueueJob}
use Rattle.esm_queue_model.specs.QueueSetting.{QueueSetting}
use Rattle.esm_queue_model.specs.QueueEntries.{queue_lane}
use Rattle.esm_queue_model.specs.QueueBatch.{queue_calls}
use Rattle.esm_queue_model.specs.QueueBooks.{queue_setting_told}
use Rattle.esm_queue_model.specs.QueueStep.{LegalQueue}
use Rattle.esm_queue_core.specs.Told.{told_of}
use Rattle.esm_queue_book.specs.Books.{BookState}
use Rattle.esm_queue_book.specs.Keeping.{IsSound}
use Rattle.esm_runner.specs.Given.{AreGiven}
use Rattle.esm_runner.specs.Ran.{NoneRuns}
use Rattle.esm_runner.specs.QueueStopping.{HasLogged}
use Rattle.esm_queue_book.proofs.Standing.{past_told}
use Rattle.esm_runner.proofs.Bridges.{given_on}

-- moments

pub moments_are : {D : Type 0} (gave : ℕ → Bool) (v : BookState D) → AllGiven gave [] (told_of v.core) → AreGiven gave v.core.past
moments_are gave v all = subst (AreGiven gave) (past_told v.core) (given_on gave [] (told_of v.core) tt all)

-- batchers

-- a lane that runs is one of a queue
of_queue : (s : QueueSetting) (h : List Entry) (lane : LaneId) → LegalQueue s h → is_running h lane ≡ true → lane.shard ≡ 0
of_queue s [] lane legal runs = absurd (cc)
of_queue s (Began at places None m ∷ h) lane legal runs = elim (cases_Bool (same_lane at lane)) [
  | inl same ↦ sym (eqb-true at.shard lane.shard (and_parts (at.shard == lane.shard) (at.lane == lane.lane) same).0) ∙ legal.1.1.queue
  | inr other ↦ of_queue s h lane legal.0 (rw other at runs)
]
of_queue s (Began at places (Some window) m ∷ h) lane legal runs = absurd legal.1.1
of_queue s (Ended at reply m ∷ h) lane legal runs = elim (cases_Bool (same_lane at lane)) [
  | inl same ↦ absurd (let clash : false ≡ true = rw same at runs in cc)
  | inr other ↦ of_queue s h lane legal.0 (rw other at runs)
]
of_queue s (Came shard first count m ∷ h) lane legal runs = of_queue s h lane legal.0 runs
of_queue s (Gave by shard places f line state m ∷ h) lane legal runs = of_queue s h lane legal.0 runs
of_queue s (Tried at places closing tries m ∷ h) lane legal runs = of_queue s h lane legal.0 runs
of_queue s (Closed at window m ∷ h) lane legal runs = of_queue s h lane legal.0 runs
of_queue s (Replayed shard places m ∷ h) lane legal runs = of_queue s h lane legal.0 runs
of_queue s (Shut m ∷ h) lane legal runs = of_queue s h lane legal.0 runs

abbrev lane_at : ℕ → ℕ → LaneId
lane_at k n = record { shard = n; lane = k }

lane_is : (lane : LaneId) → lane.shard ≡ 0 → queue_lane lane.lane ≡ lane
lane_is lane shard = ap (lane_at lane.lane) (sym shard)

pub none_runs : {D : Type 0} (setup : Setup) (v : BookState D) → IsSound v → ((k : ℕ) → QueueRests setup (told_of v.core) k) → NoneRuns v.core.past
none_runs setup v sound rest lane = elim (cases_Bool (is_running v.core.past lane)) [
  | inl runs ↦ (
      let is : queue_lane lane.lane ≡ lane = lane_is lane (of_queue v.core.setting v.core.past lane sound.legal runs) in
      ap (is_running v.core.past) (sym is) ∙ ap (λ h. is_running h (queue_lane lane.lane)) (sym (past_told v.core)) ∙ rest lane.lane)
  | inr idle ↦ idle
]

calls_are : {D : Type 0} (setup : Setup) (sends : List ℕ → List ℕ) (v : BookState D) (k : ℕ) → queue_setting_told setup (told_of v.core) ≡ v.core.setting → queue_calls_told setup sends (told_of v.core) k ≡ queue_calls v.core.setting sends v.core.past k
calls_are setup sends v k is =
    ap (λ (s : QueueSetting). queue_calls s sends (entries_told (told_of v.core)) k) is ∙ ap (λ h. queue_calls v.core.setting sends h k) (past_told v.core)

-- a call that runs
logged_more : (sends : List ℕ → List ℕ) (setup : Setup) (h : List Told) (k : ℕ) (old new : Option (List Called))
    → working.HasOneMore (RunsQueueJob setup h k) setup sends (queue_calls_told setup sends h k) old new → HasLogged sends (queue_setting_told setup h) (entries_told h) k old new
logged_more sends setup h k old new more = inr (record {
  runs = more.running.running;
  reply = more.reply;
  logged = subst (λ (e : List ℕ). Grows old new (queue_calls_told setup sends h k ++ record { name = setup.config.function; event = sends e; reply = more.reply } ∷ [])) more.running.event more.logged;
})

logged_told : (sends : List ℕ → List ℕ) (setup : Setup) (h : List Told) (k : ℕ) (old new : Option (List Called))
    → working.HasLogged (RunsQueueJob setup h k) setup sends (queue_calls_told setup sends h k) old new → HasLogged sends (queue_setting_told setup h) (entries_told h) k old new
logged_told sends setup h k old new logged = elim logged [ inl grows ↦ inl grows | inr more ↦ logged_more sends setup h k old new more ]

module _ {D F : Type 0} (o : Outside F) (setup : Setup) (v : BookState D) (short : Bool) (batchers : ℕ) (old new : List F) (is : queue_setting_told setup (told_of v.core) ≡ v.core.setting)
    (called : HaveCalled queue_calls_told QueueRests RunsQueueJob o setup (told_of v.core) short batchers old new) where
  pub calls_made : short ≡ false → (k : ℕ) (d : F) → k < length old → Grows (o.log (slice_index_or old k d)) (o.log (slice_index_or new k d)) (queue_calls v.core.setting o.sends v.core.past k)
  calls_made long k d within = subst (Grows (o.log (slice_index_or old k d)) (o.log (slice_index_or new k d))) (calls_are setup o.sends v k is) (called.called long k d within)

  pub calls_logged : (k : ℕ) (d : F) → k < length old → HasLogged o.sends v.core.setting v.core.past k (o.log (slice_index_or old k d)) (o.log (slice_index_or new k d))
  calls_logged k d within =
      let a = o.log (slice_index_or old k d) in
      let b = o.log (slice_index_or new k d) in
      let told : HasLogged o.sends (queue_setting_told setup (told_of v.core)) (entries_told (told_of v.core)) k a b = logged_told o.sends setup (told_of v.core) k a b (called.logged k d within) in
      subst (λ (h : List Entry). HasLogged o.sends v.core.setting h k a b) (past_told v.core)
      (subst (λ (s : QueueSetting). HasLogged o.sends s (entries_told (told_of v.core)) k a b) is told)

  pub none_called : (k : ℕ) → batchers ≤ k → queue_calls v.core.setting o.sends v.core.past k ≡ []
  none_called k past = sym (calls_are setup o.sends v k is) ∙ called.no_calls k past
