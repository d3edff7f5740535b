-- Whether a queue's batcher rests once it was told what to do, and once its call ended. Only this crate's tests cite
-- this.
use Rattle.std.proofs.Common.{◌≡◌, ℕ, false, List, [], ◌∷◌, ◌++◌, reverse, Some, refl, ap, subst, ◌∙◌}
use Rattle.esm_model.specs.declared.lane.LaneId.{LaneId}
use Rattle.esm_model.specs.declared.book.Job.{Job}
use Rattle.esm_model.specs.declared.book.Next.{Next}
use Rattle.esm_model.specs.declared.book.Next.TheVariants as next
use Rattle.esm_model.specs.declared.entry.Fate.TheVariants.{Succeeded}
use Rattle.esm_model.specs.declared.entry.Reply.{Reply}
use Rattle.esm_model.specs.declared.entry.Entry.{Entry}
use Rattle.esm_model.specs.declared.entry.Entry.TheVariants.{Ended}
use Rattle.esm_model.specs.Entries.{is_shut, is_running}
use Rattle.esm_queue_model.specs.QueueEntries.{queue_lane}
use Rattle.esm_queue_model.specs.QueueSetting.{QueueSetting}
use Rattle.esm_queue_core.specs.Coming.{gave_entries}
use Rattle.esm_queue_core.specs.Ending.{ended_places, ended_entries}
use Rattle.esm_queue_core.specs.Next.{next_entries}
use Rattle.esm_queue_book.specs.Calls.{RunsCall}
use Rattle.esm_tests_books.specs.Queues.{Calls}

-- a batcher is told what to do

pub call_runs : (answer : Next) (job : Job) (h : List Entry) → answer ≡ next.Call job → RunsCall 0 h answer → Calls h job
call_runs answer job h is runs = let told : RunsCall 0 h (next.Call job) = subst (RunsCall 0 h) is runs in record { lane = told.0; runs = told.1 }

pub next_goes_on : (answer : Next) (m : ℕ) (h more : List Entry) → more ≡ reverse (next_entries answer m) ++ h → is_shut more ≡ is_shut h
next_goes_on (next.Call job) m h more past = ap is_shut past
next_goes_on (next.Gave count) m h more past = ap is_shut past
next_goes_on (next.Idle until) m h more past = ap is_shut past
next_goes_on next.Spent m h more past = ap is_shut past
next_goes_on next.Finished m h more past = ap is_shut past

pub pause_rests : (answer : Next) (until m : ℕ) (h more : List Entry) → answer ≡ next.Idle until → more ≡ reverse (next_entries answer m) ++ h → is_running h (queue_lane 0) ≡ false → is_running more (queue_lane 0) ≡ false
pause_rests answer until m h more is past rests = ap (λ es. is_running es (queue_lane 0)) (past ∙ ap (λ (x : Next). reverse (next_entries x m) ++ h) is) ∙ rests

-- a call of batcher 0 ends, and some of its messages may be deleted

one_rests : (reply : Reply) (m : ℕ) (places : List ℕ) (h : List Entry) → is_running (reverse (Ended (queue_lane 0) reply m ∷ gave_entries (Some (queue_lane 0)) places Succeeded m) ++ h) (queue_lane 0) ≡ false
one_rests reply m [] h = refl
one_rests reply m (i ∷ places) h = refl

one_goes_on : (lane : LaneId) (reply : Reply) (m : ℕ) (places : List ℕ) (h : List Entry) → is_shut (reverse (Ended lane reply m ∷ gave_entries (Some lane) places Succeeded m) ++ h) ≡ is_shut h
one_goes_on lane reply m [] h = refl
one_goes_on lane reply m (i ∷ places) h = refl

pub end_rests : (s : QueueSetting) (h more : List Entry) (lane : LaneId) (reply : Reply) (m : ℕ) → lane ≡ queue_lane 0 → more ≡ reverse (ended_entries s h lane reply m) ++ h → is_running more (queue_lane 0) ≡ false
end_rests s h more lane reply m is past =
    ap (λ es. is_running es (queue_lane 0)) (past ∙ ap (λ (l : LaneId). reverse (Ended l reply m ∷ gave_entries (Some l) (ended_places s h lane reply m) Succeeded m) ++ h) is)
    ∙ one_rests reply m (ended_places s h lane reply m) h

pub end_goes_on : (s : QueueSetting) (h more : List Entry) (lane : LaneId) (reply : Reply) (m : ℕ) → more ≡ reverse (ended_entries s h lane reply m) ++ h → is_shut more ≡ is_shut h
end_goes_on s h more lane reply m past = ap is_shut past ∙ one_goes_on lane reply m (ended_places s h lane reply m) h
