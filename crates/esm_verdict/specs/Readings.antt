-- What the contracts of this crate cite in addition to the definitions of `esm_model`.
use Rattle.std.specs.Prelude.{ℕ, ◌<◌, ◌≤◌, Bool, true, false, ⊤, if◌then◌else◌, not, ◌||◌, ◌==◌}
use Rattle.esm_model.specs.State.{state_read, IsSpanIn}
use Rattle.esm_model.specs.declared.config.Config.{Config}
use Rattle.esm_model.specs.declared.entry.Reply.{Reply}
use Rattle.esm_model.specs.declared.entry.Reply.TheVariants.{Answered, Garbled, Lost}
use Rattle.esm_model.specs.declared.verdict.Reading.{Reading}
use Rattle.esm_model.specs.declared.verdict.Reading.TheVariants.{UpTo}
use Rattle.esm_model.specs.declared.verdict.StateRead.{StateRead}
use Rattle.esm_model.specs.declared.verdict.StateRead.TheVariants.{Empty}
use Rattle.esm_verdict.specs.declared.stream.Call.{Call}
use Rattle.esm_verdict.specs.declared.stream.Call.TheVariants.{OfBatch, OfWindow}

-- where only some records succeeded, they are at least one and not all of the batch
abbrev pub IsWithin : ℕ → Reading → Type 0
IsWithin count (UpTo p) = (1 ≤ p) × (p < count)
IsWithin count _ = ⊤

-- the bytes of the state are within the answer's body
abbrev pub IsStateIn : Reply → StateRead → Type 0
IsStateIn (Answered status error body) state = IsSpanIn body state
IsStateIn _ state = ⊤

-- the call is a window's final one
abbrev pub is_closing : Call → Bool
is_closing OfBatch = false
is_closing OfWindow = true

-- The state that a reply gives its window: that of an answer with status 200 and no error, where windows are configured.
abbrev pub reply_state : Config → Reply → StateRead
reply_state c Lost = Empty
reply_state c (Garbled bytes) = Empty
reply_state c (Answered status error body) =
    if not (status == 200) || error || (c.tumbling_ms == 0) then Empty else state_read body
