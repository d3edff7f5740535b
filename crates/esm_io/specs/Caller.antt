-- The state of a scripted caller. This product's own.
use Rattle.std.specs.Prelude.{ℕ, List, [], Bool}
use Rattle.esm_io.specs.Schedule.{ScheduleState}
use Rattle.esm_io.specs.declared.script.Script.{Script}
use Rattle.esm_model.specs.declared.called.Called.{Called}

-- its script, how many of the script's replies were given, the calls made, in order, and whether it keeps copies of them
pub record CallerState : Type 0 where
  pub script : Script
  pub given : ℕ
  pub log : List Called
  pub keeps_copies : Bool
  pub schedule : ScheduleState

-- a caller that has made no call
abbrev pub new_caller : Script → List ℕ → Bool → CallerState
new_caller script fails keeps_copies = record { script = script; given = 0; log = []; keeps_copies = keeps_copies; schedule = record { fails = fails; calls = 0; faults = 0 } }
