-- How a lane keeps its pieces: its open places in one list, and beside it a list of runs, each with its number of places and
-- its standing. This product's own.
use Rattle.std.specs.Prelude.{◌≡◌, ℕ, ◌+◌, ◌-◌, ◌<◌, nat_lt, if◌then◌else◌, List, [], ◌∷◌, length, take, drop}
use Rattle.esm_lanes.specs.declared.standing.Standing.{Standing}
use Rattle.esm_lanes.specs.declared.standing.Standing.TheVariants.{Split}
use Rattle.esm_lanes.specs.declared.run.Run.{Run}
use Rattle.esm_lanes.specs.Piece.{Piece, takes}

-- the pieces that the runs cut the places into
abbrev pub pieces_of : List ℕ → List Run → List Piece
pieces_of places [] = []
pieces_of places (r ∷ rest) = record { places = take r.count places; standing = r.standing } ∷ pieces_of (drop r.count places) rest

-- the number of places of all runs
abbrev pub total : List Run → ℕ
total [] = 0
total (r ∷ rest) = r.count + total rest

-- no run is empty
abbrev pub AllFilled : List Run → Type 0
AllFilled [] = Unit {0}
AllFilled (r ∷ rest) = (0 < r.count) × AllFilled rest

-- the runs cover the places, and none is empty
pub record IsLaid (places : List ℕ) (runs : List Run) : Type 0 where
  pub covered : total runs ≡ length places
  pub filled : AllFilled runs

abbrev pub one : Standing → Run
one standing = record { count = 1; standing = standing }

abbrev pub longer : Run → Run
longer r = record { count = r.count + 1; standing = r.standing }

abbrev pub one_added_behind : Standing → Run → List Run → List Run
one_added_behind standing r [] = if takes r.standing standing then longer r ∷ [] else r ∷ one standing ∷ []
one_added_behind standing r (q ∷ rest) = r ∷ one_added_behind standing q rest

-- a place is added at the end: it joins the last run where that accepts it
abbrev pub one_added : Standing → List Run → List Run
one_added standing [] = one standing ∷ []
one_added standing (r ∷ rest) = one_added_behind standing r rest

abbrev pub first_count : List Run → ℕ
first_count [] = 0
first_count (r ∷ rest) = r.count

-- a run without its first places
abbrev pub without : ℕ → Run → Run
without n r = record { count = r.count - n; standing = r.standing }

-- the rest of a run stays if it has a place left
abbrev pub ahead_of : ℕ → Run → List Run → List Run
ahead_of n r rest = if nat_lt n r.count then without n r ∷ rest else rest

abbrev pub first_split : ℕ → ℕ → List Run → List Run
first_split n tries [] = []
first_split n tries (r ∷ rest) = record { count = n; standing = Split tries } ∷ ahead_of n r rest

abbrev pub first_shortened : ℕ → List Run → List Run
first_shortened n [] = []
first_shortened n (r ∷ rest) = ahead_of n r rest
