-- How a queue's answer is read. Source: the Lambda Developer Guide, "Implementing partial batch responses" for Amazon SQS
-- (`batchItemFailures`, `itemIdentifier`). That every status other than 200 counts as not run is this product's own.
use Rattle.std.specs.Prelude.{ℕ, ◌==◌, List, [], ◌∷◌, length, filter, codes, not, if◌then◌else◌, Option, Some, None}
use Rattle.serde_json.specs.Data.{Data, null, array, object}
use Rattle.serde_json.specs.Find.{get_member}
use Rattle.esm_model.specs.Json.{read_json}
use Rattle.esm_model.specs.Entries.{holds}
use Rattle.esm_model.specs.Fates.{below}
use Rattle.esm_model.specs.Reading.{all_reported}
use Rattle.esm_model.specs.declared.config.Config.{Config}
use Rattle.esm_model.specs.declared.entry.Reply.{Reply}
use Rattle.esm_model.specs.declared.entry.Reply.TheVariants.{Answered, Garbled, Lost}
use Rattle.esm_model.specs.declared.verdict.QueueReading.{QueueReading}
use Rattle.esm_model.specs.declared.verdict.QueueReading.TheVariants.{NotRun, Failed, Done}

-- the positions in the batch that are reported, rising, each once
abbrev pub failed_positions : List (List ℕ) → List ℕ → List ℕ
failed_positions ids reported = filter (holds reported) (below (length ids))

-- from the positions that the elements report: those messages failed, the others succeeded
abbrev pub reported_reading : List (List ℕ) → Option (List ℕ) → QueueReading
reported_reading ids None = Failed
reported_reading ids (Some reported) = Done (failed_positions ids reported)

-- from the value of `batchItemFailures`
abbrev pub queue_failures_reading : List (List ℕ) → Option Data → QueueReading
queue_failures_reading ids None = Done []
queue_failures_reading ids (Some null) = Done []
queue_failures_reading ids (Some (array ds)) = reported_reading ids (all_reported ids ds)
queue_failures_reading ids (Some _) = Failed

-- from the whole answer
abbrev pub queue_body_reading : List (List ℕ) → Option Data → QueueReading
queue_body_reading ids (Some null) = Done []
queue_body_reading ids (Some (object ms)) = queue_failures_reading ids (get_member (codes "batchItemFailures") ms)
queue_body_reading ids _ = Failed

-- from the batch's message ids and the answer's body
unfoldable pub queue_item_reading : List (List ℕ) → List ℕ → QueueReading
queue_item_reading ids [] = Done []
queue_item_reading ids (x ∷ xs) = queue_body_reading ids (read_json (x ∷ xs))

-- from the batch's message ids, in order, and the reply
abbrev pub queue_reading : Config → List (List ℕ) → Reply → QueueReading
queue_reading c ids Lost = Failed
queue_reading c ids (Garbled bytes) = Failed
queue_reading c ids (Answered status error body) =
    if not (status == 200) then NotRun else (if error then Failed else (if c.item_failures then queue_item_reading ids body else Done []))
