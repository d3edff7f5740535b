-- The calls of a history, those of batches and final ones separately, and their bounds. This product's own.
use Rattle.std.specs.Prelude.{◌≡◌, ◌≤◌, ◌+◌, ℕ, suc, Bool, true, false, List, [], ◌∷◌, Option, Some, None, if◌then◌else◌}
use Rattle.esm_model.specs.declared.config.Config.{Config}
use Rattle.esm_model.specs.declared.entry.Reply.{Reply}
use Rattle.esm_model.specs.declared.entry.Entry.{Entry}
use Rattle.esm_model.specs.declared.entry.Entry.TheVariants.{Began, Ended}
use Rattle.esm_model.specs.Setting.{Setting, sequences_at}
use Rattle.esm_model.specs.Entries.{Call, calls_begun, last_call}
use Rattle.esm_model.specs.Reading.{reading}
use Rattle.esm_model.specs.Valid.{HasStreamFields}
use Rattle.esm_model.specs.CallBound.{call_bound, is_not_run, record_count}

-- a stream's configuration with this finite number of retry attempts
pub record IsFinite (c : Config) (retries : ℕ) : Type 0 where
  pub fields : HasStreamFields c
  pub finite : c.retries ≡ Some retries

-- calls of batches

abbrev pub batch_calls_after : ℕ → Entry → ℕ
batch_calls_after before (Began lane places None moment) = suc before
batch_calls_after before _ = before

-- the number of calls that began with a batch
abbrev pub batch_calls : List Entry → ℕ
batch_calls [] = 0
batch_calls (e ∷ h) = batch_calls_after (batch_calls h) e

-- the call was one of a batch
abbrev pub is_of_batch : Option ℕ → Bool
is_of_batch None = true
is_of_batch (Some window) = false

-- the reply to a call of a batch of the shard says that the call was not run
abbrev pub batch_was_not_run : Setting → ℕ → Option Call → Reply → Bool
batch_was_not_run s n None reply = false
batch_was_not_run s n (Some call) reply = if is_of_batch call.closing then is_not_run (reading s.config (sequences_at s n call.places) false reply) else false

abbrev pub batch_not_run_after : Setting → List Entry → ℕ → Entry → ℕ
batch_not_run_after s h before (Ended lane reply moment) = if batch_was_not_run s lane.shard (last_call h lane) reply then suc before else before
batch_not_run_after s h before _ = before

-- the number of replies that say that a call of a batch was not run
abbrev pub batch_calls_not_run : Setting → List Entry → ℕ
batch_calls_not_run s [] = 0
batch_calls_not_run s (e ∷ h) = batch_not_run_after s h (batch_calls_not_run s h) e

-- The bound exceeds the calls of a history by at least one for each record that arrived. So once a record arrived, a run
-- that may make as many calls as its bound never stops because its calls are spent.
abbrev pub IsWithinBound : Setting → List Entry → Type 0
IsWithinBound s h = calls_begun h + record_count h ≤ call_bound s h
