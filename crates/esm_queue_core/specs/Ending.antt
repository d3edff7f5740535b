-- What the end of a call adds. Source: the Lambda Developer Guide, "Implementing partial batch responses" for Amazon SQS.
use Rattle.std.specs.Prelude.{ℕ, List, ◌∷◌}
use Rattle.esm_model.specs.declared.lane.LaneId.{LaneId}
use Rattle.esm_model.specs.declared.entry.Reply.{Reply}
use Rattle.esm_model.specs.declared.entry.Fate.TheVariants.{Succeeded}
use Rattle.esm_model.specs.declared.entry.Entry.{Entry}
use Rattle.esm_model.specs.declared.entry.Entry.TheVariants.{Ended}
use Rattle.std.specs.Prelude.{Some}
use Rattle.esm_queue_model.specs.QueueSetting.{QueueSetting}
use Rattle.esm_queue_model.specs.QueueStep.{owed_places}
use Rattle.esm_queue_core.specs.Coming.{gave_entries}

-- the places that the end deletes: those that succeeded and are not deleted
abbrev pub ended_places : QueueSetting → List Entry → LaneId → Reply → ℕ → List ℕ
ended_places s h lane reply m = owed_places s (Ended lane reply m ∷ h) lane

-- the end, and then the deletion, if there is one
abbrev pub ended_entries : QueueSetting → List Entry → LaneId → Reply → ℕ → List Entry
ended_entries s h lane reply m = Ended lane reply m ∷ gave_entries (Some lane) (ended_places s h lane reply m) Succeeded m
