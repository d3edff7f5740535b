-- What the end of a call requires, as it is returned: entries without their lane and their moment. This product's own.
use Rattle.std.specs.Prelude.{ℕ, ◌+◌, List, [], ◌∷◌, length, Option, Some, None}
use Rattle.std.specs.Option.{option_or}
use Rattle.std.specs.Prelude.{option_map}
use Rattle.esm_model.specs.declared.lane.LaneId.{LaneId}
use Rattle.esm_model.specs.declared.entry.WindowState.{WindowState}
use Rattle.esm_model.specs.declared.entry.Entry.{Entry}
use Rattle.esm_model.specs.declared.entry.Entry.TheVariants as entry
use Rattle.esm_outcome.specs.declared.outcome.Due.{Due}
use Rattle.esm_outcome.specs.declared.outcome.Due.TheVariants.{Gave, Tried, Closed}

-- the entry of the lane at the moment
abbrev pub due_entry : LaneId → ℕ → Due → Entry
due_entry lane m (Gave places fate line state) = entry.Gave (Some lane) lane.shard places fate line state m
due_entry lane m (Tried places closing tries) = entry.Tried lane places closing tries m
due_entry lane m (Closed window) = entry.Closed lane window m

-- how many places get a fate by it
abbrev pub given_by : Due → ℕ
given_by (Gave places fate line state) = length places
given_by _ = 0

-- how many get one by all of them
abbrev pub given_count : List Due → ℕ
given_count [] = 0
given_count (d ∷ ds) = given_by d + given_count ds

-- the window of a state
abbrev pub window_in : Option WindowState → Option ℕ
window_in state = option_map (λ (x : WindowState). x.window) state

-- the window of the state that it gives, if it gives one
abbrev pub window_by : Due → Option ℕ
window_by (Gave places fate line state) = window_in state
window_by _ = None

-- the window of the first state that they give, if one gives a state
abbrev pub window_given : List Due → Option ℕ
window_given [] = None
window_given (d ∷ ds) = option_or (window_by d) (window_given ds)
