-- When the records of a shard came, and what a history says of that. This product's own.
use Rattle.std.specs.Prelude.{ℕ, ◌≡◌, ◌==◌, ◌<◌, nat_le, false, List, [], ◌∷◌, if◌then◌else◌, ⊤}
use Rattle.esm_model.specs.declared.entry.Entry.{Entry}
use Rattle.esm_model.specs.declared.entry.Entry.TheVariants.{Came}
use Rattle.esm_model.specs.Entries.{came_count, came_moment}
use Rattle.esm_shard_index.specs.declared.arrivals.Arrival.{Arrival}

-- the times at which records came, oldest first, how many came, and for how many more times there is room
pub record Coming : Type 0 where
  pub runs : List Arrival
  pub came : ℕ
  pub room : ℕ

abbrev pub arrival : ℕ → ℕ → Arrival
arrival first moment = record { first = first; moment = moment }

abbrev pub moment_from : ℕ → List Arrival → ℕ → ℕ
moment_from before [] i = before
moment_from before (r ∷ runs) i = moment_from (if nat_le r.first i then r.moment else before) runs i

-- the moment of the last run that begins at the place or before it, or 0
abbrev pub moment_in : List Arrival → ℕ → ℕ
moment_in runs i = moment_from 0 runs i

-- the runs say of the shard's records that came what the history says
pub record IsArrivals (h : List Entry) (n : ℕ) (v : Coming) : Type 0 where
  pub came : v.came ≡ came_count h n
  pub moments : (i : ℕ) → i < came_count h n → moment_in v.runs i ≡ came_moment h n i

-- the entry brings no record of the shard
abbrev pub BringsNone : ℕ → Entry → Type 0
BringsNone n (Came shard first count moment) = (shard == n) ≡ false
BringsNone n _ = ⊤
