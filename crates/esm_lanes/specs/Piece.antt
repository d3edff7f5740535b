-- The pieces of a lane, and what each call does to them. Which records are called together after a failure follows the
-- Lambda Developer Guide, error handling for Kinesis (`BisectBatchOnFunctionError`, `MaximumRetryAttempts`). That a batch
-- never crosses the end of a piece is this product's own.
use Rattle.std.specs.Prelude.{◌≡◌, ℕ, ◌-◌, ◌<◌, ◌==◌, max, Bool, true, false, if◌then◌else◌, List, [], ◌∷◌, ◌++◌, length, take, drop, slice_index_or}
use Rattle.std.specs.List.{flat_map}
use Rattle.esm_lanes.specs.declared.standing.Standing.{Standing}
use Rattle.esm_lanes.specs.declared.standing.Standing.TheVariants.{Fresh, Tried, Split}

abbrev pub is_fresh : Standing → Bool
is_fresh Fresh = true
is_fresh _ = false

abbrev pub tries_of : Standing → ℕ
tries_of Fresh = 0
tries_of (Tried tries) = tries
tries_of (Split tries) = tries

-- a fresh place joins a fresh piece, and a tried one a piece that was opened by a place with the same tries
abbrev pub takes : Standing → Standing → Bool
takes Fresh Fresh = true
takes (Tried mine) (Tried theirs) = mine == theirs
takes _ _ = false

-- places that are called together
pub record Piece : Type 0 where
  pub places : List ℕ
  pub standing : Standing

-- the piece that a place opens
abbrev pub opened : Standing → ℕ → Piece
opened standing place = record { places = place ∷ []; standing = standing }

abbrev pub joined : ℕ → Piece → Piece
joined place p = record { places = p.places ++ place ∷ []; standing = p.standing }

-- `p` and the pieces after it, with the place added at the end
abbrev pub added_behind : Standing → ℕ → Piece → List Piece → List Piece
added_behind standing place p [] = if takes p.standing standing then joined place p ∷ [] else p ∷ opened standing place ∷ []
added_behind standing place p (q ∷ rest) = p ∷ added_behind standing place q rest

-- the place joins the last piece where that accepts it, and otherwise opens a piece at the end
abbrev pub added : Standing → ℕ → List Piece → List Piece
added standing place [] = opened standing place ∷ []
added standing place (p ∷ rest) = added_behind standing place p rest

-- a piece without its first places
abbrev pub rest_of : ℕ → Piece → Piece
rest_of n p = record { places = drop n p.places; standing = p.standing }

-- the first places of a piece as a piece of their own, split off with this number of tries
abbrev pub first_of : ℕ → ℕ → Piece → Piece
first_of n tries p = record { places = take n p.places; standing = Split tries }

-- `p` before the others, unless it has no place left
abbrev pub ahead_of : Piece → List Piece → List Piece
ahead_of p rest = if length p.places == 0 then rest else p ∷ rest

-- the front piece in two: its first places, split off, and the rest of it, if any is left
abbrev pub split : ℕ → ℕ → List Piece → List Piece
split n tries [] = []
split n tries (p ∷ rest) = first_of n tries p ∷ ahead_of (rest_of n p) rest

-- the front piece without its first places; it goes if none is left
abbrev pub shortened : ℕ → List Piece → List Piece
shortened n [] = []
shortened n (p ∷ rest) = ahead_of (rest_of n p) rest

-- all places of the pieces, in order
abbrev pub open_places : List Piece → List ℕ
open_places pieces = flat_map (λ p. p.places) pieces

abbrev pub HasPlaces : Piece → Type 0
HasPlaces p = 0 < length p.places

abbrev pub front_length : List Piece → ℕ
front_length [] = 0
front_length (p ∷ rest) = length p.places

-- the front piece has these places, freshness and tries
abbrev pub IsFront : List Piece → List ℕ → Bool → ℕ → Type 0
IsFront [] places fresh tries = ⊥
IsFront (p ∷ rest) places fresh tries = (places ≡ p.places) × (fresh ≡ is_fresh p.standing) × (tries ≡ tries_of p.standing)

-- a lane: its pieces in order, and for how many adds and how many splits memory is reserved
pub record Lane : Type 0 where
  pub pieces : List Piece
  pub adds : ℕ
  pub splits : ℕ

abbrev pub empty_lane : Lane
empty_lane = record { pieces = []; adds = 0; splits = 0 }

-- a place was added; this used one of the reserved adds
abbrev pub after_add : Standing → ℕ → Lane → Lane
after_add standing place l = record { pieces = added standing place l.pieces; adds = l.adds - 1; splits = l.splits }

-- the front piece was split; this used one of the reserved splits
abbrev pub after_split : ℕ → ℕ → Lane → Lane
after_split n tries l = record { pieces = split n tries l.pieces; adds = l.adds; splits = l.splits - 1 }

abbrev pub after_shorten : ℕ → Lane → Lane
after_shorten n l = record { pieces = shortened n l.pieces; adds = l.adds; splits = l.splits }

-- memory is reserved for at least these numbers of adds and splits
abbrev pub after_reserve : ℕ → ℕ → Lane → Lane
after_reserve adds splits l = record { pieces = l.pieces; adds = max l.adds adds; splits = max l.splits splits }

-- the lane with this number
abbrev pub lane_at : List Lane → ℕ → Lane
lane_at lanes n = slice_index_or lanes n empty_lane

-- the open places of the lane with this number
abbrev pub open_at : List Lane → ℕ → List ℕ
open_at lanes n = open_places (lane_at lanes n).pieces
