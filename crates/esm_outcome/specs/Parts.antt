-- The parts of what the end of a call requires, as they are found one by one. Only this crate's proofs cite this.
use Rattle.std.specs.Prelude.{◌≡◌, ℕ, ◌+◌, true, List, [], ◌∷◌, ◌++◌, drop, codes, Option, Some, None, if◌then◌else◌}
use Rattle.esm_model.specs.Records.{Record}
use Rattle.esm_model.specs.declared.lane.LaneId.{LaneId}
use Rattle.esm_model.specs.declared.entry.Fate.TheVariants.{Succeeded, Exhausted}
use Rattle.esm_model.specs.declared.entry.Reply.{Reply}
use Rattle.esm_model.specs.declared.entry.Reply.TheVariants.{Answered}
use Rattle.esm_model.specs.declared.entry.WindowState.{WindowState}
use Rattle.esm_model.specs.declared.verdict.Rest.{Rest}
use Rattle.esm_model.specs.declared.verdict.Rest.TheVariants as rest
use Rattle.esm_model.specs.declared.verdict.StateRead.{StateRead}
use Rattle.esm_model.specs.Setting.{Setting}
use Rattle.esm_model.specs.Entries.{last_call, batch_of, is_running}
use Rattle.esm_model.specs.State.{span_bytes}
use Rattle.esm_model.specs.Ruling.{capped_tries}
use Rattle.esm_model.specs.Windows.{has_windows}
use Rattle.esm_model.specs.Calls.{window_of_call}
use Rattle.esm_shard_index.specs.WindowsLaws.{closing_of}
use Rattle.esm_ledger.specs.declared.ledger.Ledger.{Ledger}
use Rattle.esm_ledger.specs.Ledger.{past_of}
use Rattle.esm_outcome.specs.declared.outcome.Due.{Due}
use Rattle.esm_outcome.specs.declared.outcome.Due.TheVariants.{Gave, Tried, Closed}

-- the lane's running call has these places and closes this window, if it closes one
pub record IsRunningCall (c : Ledger) (lane : LaneId) (places : List ℕ) (closing : Option ℕ) : Type 0 where
  pub runs : is_running (past_of c) lane ≡ true
  pub places_are : places ≡ batch_of (last_call (past_of c) lane)
  pub closing_is : closing ≡ closing_of (last_call (past_of c) lane)

-- a record's sequence number, if there is one
abbrev pub sequence_in : Option Record → List (List ℕ)
sequence_in None = []
sequence_in (Some r) = r.seq ∷ []

-- the bytes of a state in the body of an answer
abbrev pub text_in : Reply → StateRead → List ℕ
text_in (Answered status error body) state = span_bytes body state
text_in _ state = codes "{}"

-- the state that the records give their window, if some succeeded and windows are configured
abbrev pub success_state : Setting → ℕ → List ℕ → Option ℕ → List ℕ → Option WindowState
success_state s n [] closing text = None
success_state s n (i ∷ places) closing text =
    if has_windows s.config then Some (record { window = window_of_call s n (i ∷ places) closing; text = text }) else None

-- the records that succeeded, if there are any
abbrev pub success_dues : List ℕ → Option WindowState → List Due
success_dues [] state = []
success_dues (i ∷ places) state = Gave (i ∷ places) Succeeded None state ∷ []

-- the records that are given up, if there are any
abbrev pub give_up_dues : List ℕ → Option (List ℕ) → List Due
give_up_dues [] line = []
give_up_dues (i ∷ places) line = Gave (i ∷ places) Exhausted line None ∷ []

-- the window of a final call
abbrev pub close_dues : Option ℕ → List Due
close_dues None = []
close_dues (Some window) = Closed window ∷ []

-- one more try
abbrev pub tried_dues : List ℕ → Option ℕ → ℕ → List Due
tried_dues places closing tries = Tried places closing (capped_tries (tries + 1)) ∷ []

-- by the rest of the verdict; the tries are those before the end
abbrev pub rest_dues : Rest → List ℕ → Option ℕ → ℕ → Option (List ℕ) → List Due
rest_dues rest.Nothing places closing tries line = close_dues closing
rest_dues rest.Again places closing tries line = []
rest_dues (rest.Split k) places closing tries line = []
rest_dues rest.Counted places closing tries line = tried_dues places closing tries
rest_dues rest.Exhausted places closing tries line = give_up_dues places line ++ close_dues closing

-- how many of `left` records are given up
abbrev pub given_up : Rest → ℕ → ℕ
given_up rest.Exhausted left = left
given_up _ left = 0

-- the records of the lane's running call after those that succeeded, in order
pub record IsRest (c : Ledger) (lane : LaneId) (left : List ℕ) : Type 0 where
  pub runs : is_running (past_of c) lane ≡ true
  pub succeeded : ℕ
  pub left_are : left ≡ drop succeeded (batch_of (last_call (past_of c) lane))
