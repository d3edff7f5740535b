-- What a list of messages that arrives at a redrive adds. Sources: the Lambda Developer Guide, event filtering for Amazon
-- SQS (a message that does not pass is deleted); that a message whose line is already in the dead-letter file is recorded
-- as moved without a second line is this product's own.
use Rattle.std.specs.Prelude.{ℕ, ◌+◌, Bool, not, ◌&&◌, List, [], ◌∷◌, if◌then◌else◌}
use Rattle.esm_model.specs.declared.item.Message.{Message}
use Rattle.esm_queue_model.specs.QueueSetting.{is_found}
use Rattle.esm_queue_model.specs.QueueStep.{is_refused_message}
use Rattle.esm_redrive_model.specs.RedriveSetting.{RedriveSetting, has_dead_id}

-- the places of the messages that pass the test; the list begins at place k
abbrev pub places_from : (ℕ → Message → Bool) → ℕ → List Message → List ℕ
places_from test k [] = []
places_from test k (x ∷ xs) = if test k x then k ∷ places_from test (k + 1) xs else places_from test (k + 1) xs

-- the message that arrives at the place was not found deleted, and its line is in the dead-letter file
abbrev pub is_known_at : RedriveSetting → ℕ → Message → Bool
is_known_at s k x = not (is_found s.queue k) && has_dead_id s x

-- it was not found deleted, it has no line, and it does not pass the filter
abbrev pub is_dropped_at : RedriveSetting → ℕ → Message → Bool
is_dropped_at s k x = not (is_found s.queue k) && (not (has_dead_id s x) && is_refused_message s.queue x)

abbrev pub known_from : RedriveSetting → ℕ → List Message → List ℕ
known_from s k xs = places_from (is_known_at s) k xs

abbrev pub dropped_from : RedriveSetting → ℕ → List Message → List ℕ
dropped_from s k xs = places_from (is_dropped_at s) k xs
