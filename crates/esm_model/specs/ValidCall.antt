-- Which window calls and failures are valid: their numbers and texts are within the bounds of what a journal keeps.
use Rattle.std.specs.Prelude.{◌≤◌, length}
use Rattle.esm_model.specs.declared.moment.TheConstants.{MAX_MOMENT}
use Rattle.esm_model.specs.declared.limits.TheConstants.{MAX_SHARD, MAX_DATA}
use Rattle.esm_model.specs.declared.event.WindowCall.{WindowCall}
use Rattle.esm_model.specs.declared.event.Failure.{Failure}

pub record IsValidWindowCall (w : WindowCall) : Type 0 where
  pub shard : w.shard ≤ MAX_SHARD
  pub window : w.state.window ≤ MAX_MOMENT
  pub text : length w.state.text ≤ MAX_DATA

pub record IsValidFailure (f : Failure) : Type 0 where
  pub shard : f.shard ≤ MAX_SHARD
  pub first_arrival : f.first_arrival ≤ MAX_MOMENT
  pub last_arrival : f.last_arrival ≤ MAX_MOMENT
  pub moment : f.moment ≤ MAX_MOMENT
