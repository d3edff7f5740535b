-- What a queue is ready for when a call begins. Only this crate's proofs cite this.
use Rattle.std.specs.Prelude.{◌≡◌, ℕ, ⊤, Option, Some, None}
use Rattle.esm_model.specs.Moment.{moment_after, capped_moment}
use Rattle.esm_queue.specs.Held.{Held}
use Rattle.esm_queue_core.specs.declared.owed.First.{First}

-- for the receipt of the call that begins at the moment, if one does
abbrev pub IsReadyFor : Option First → Held → ℕ → Type 0
IsReadyFor None queue m = ⊤
IsReadyFor (Some first) queue m = queue.ready ≡ moment_after (capped_moment m) queue.state.visibility
