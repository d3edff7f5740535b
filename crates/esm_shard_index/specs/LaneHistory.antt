-- What a kept lane says of a history. This product's own.
use Rattle.std.specs.Prelude.{◌≡◌, ℕ, zero, suc, ◌+◌, ◌≤◌, ◌==◌, Bool, true, false, not, ◌&&◌, List, [], ◌∷◌, ◌++◌, take, Option, Some, None, option_map, unwrap_or, filter, is_some, is_none, ⊤}
use Rattle.esm_model.specs.declared.lane.LaneId.{LaneId}
use Rattle.esm_model.specs.declared.entry.Entry.{Entry}
use Rattle.esm_model.specs.Setting.{Setting, record_at, is_in_lane, found_fate, found_try}
use Rattle.esm_model.specs.declared.setup.FoundTries.{FoundTries}
use Rattle.esm_model.specs.Entries.{Call, holds, is_running, last_call}
use Rattle.esm_model.specs.Fates.{open_places}
use Rattle.esm_model.specs.Tries.{mark, same_mark, tries}
use Rattle.esm_model.specs.Ruling.{capped_tries}
use Rattle.esm_model.specs.Batches.{failures, last_end}
use Rattle.esm_model.specs.Owed.{Debt, Success, GiveUp, Try, Close, is_refused, debts}
use Rattle.esm_lanes.specs.declared.standing.Standing.{Standing}
use Rattle.esm_lanes.specs.declared.standing.Standing.TheVariants.{Fresh, Tried, Split}
use Rattle.esm_lanes.specs.Piece.{Piece, HasPlaces, front_length}
use Rattle.esm_lanes.specs.Piece as piece
use Rattle.esm_shard_index.specs.declared.lane_state.Running.{Running}
use Rattle.esm_shard_index.specs.LaneView.{LaneView, front_places, standing_of}

-- what a history says of a shard's records: their marks, their tries, and whether tries of them were found at opening
pub record Tags : Type 0 where
  pub mark : ℕ → Option (ℕ × ℕ)
  pub tries : ℕ → ℕ
  pub found : ℕ → Bool

abbrev pub tags : Setting → List Entry → ℕ → Tags
tags s h n = record { mark = mark s h n; tries = tries s h n; found = λ i. is_some (found_try s n i) }

-- the two records have the same mark and the same tries
abbrev pub same_tag : Tags → ℕ → ℕ → Bool
same_tag g i j = same_mark (g.mark i) (g.mark j) && (g.tries i == g.tries j)

-- the record has this standing: it is fresh, it has found tries and no mark, or it has a mark; and these are its tries
abbrev pub HasStanding : Tags → Standing → ℕ → Type 0
HasStanding g Fresh i = (g.mark i ≡ None) × (g.found i ≡ false) × (g.tries i ≡ 0)
HasStanding g (Tried n) i = (g.mark i ≡ None) × (g.found i ≡ true) × (g.tries i ≡ n) × (1 ≤ n)
HasStanding g (Split n) i = (is_some (g.mark i) ≡ true) × (g.tries i ≡ n)

-- the place is one of the places
abbrev pub IsIn : List ℕ → ℕ → Type 0
IsIn places i = holds places i ≡ true

-- the piece has a place, and all its places have its standing and the same mark
pub record IsPiece (g : Tags) (p : Piece) : Type 0 where
  pub some : HasPlaces p
  pub standing : (i : ℕ) → IsIn p.places i → HasStanding g p.standing i
  pub one : (i j : ℕ) → IsIn p.places i → IsIn p.places j → g.mark i ≡ g.mark j

-- the piece after it, if there is one, has another mark or other tries
abbrev pub IsApart : Tags → Piece → List Piece → Type 0
IsApart g p [] = ⊤
IsApart g p (q ∷ rest) = (i j : ℕ) → IsIn p.places i → IsIn q.places j → same_tag g i j ≡ false

-- all are pieces, and neighbours differ
abbrev pub ArePieces : Tags → List Piece → Type 0
ArePieces g [] = ⊤
ArePieces g (p ∷ rest) = IsPiece g p × IsApart g p rest × ArePieces g rest

-- the places that a debt gives a fate
abbrev pub fated_by : Debt → List ℕ
fated_by (Success places state) = places
fated_by (GiveUp places) = places
fated_by (Try places closing tries) = []
fated_by (Close window) = []

-- the places that get a fate from what is owed, in order
abbrev pub owed_places : List Debt → List ℕ
owed_places [] = []
owed_places (d ∷ ds) = fated_by d ++ owed_places ds

-- the record at the place, if there is one, passes the filter
abbrev pub is_passing : Setting → ℕ → ℕ → Bool
is_passing s n i = not (unwrap_or (option_map (is_refused s) (record_at s n i)) false)

-- the places of the lane's open records that pass the filter, in order
abbrev pub sorted_places : Setting → List Entry → LaneId → List ℕ
sorted_places s h lane = filter (is_passing s lane.shard) (open_places s h lane)

-- this is the lane's last call, of the first places of the front piece; a final call has none
pub record IsCall (h : List Entry) (lane : LaneId) (pieces : List Piece) (r : Running) : Type 0 where
  pub call : Call
  pub last : last_call h lane ≡ Some call
  pub places : call.places ≡ take r.count (front_places pieces)
  pub within : r.count ≤ front_length pieces
  pub closing : call.closing ≡ r.closing
  pub final : (w : ℕ) → r.closing ≡ Some w → r.count ≡ 0

-- the lane is as the history says: the places to which it owes a fate, and then those of its pieces, are those of its open
-- records that pass the filter; each piece is the records of one mark and the same tries; it runs its last call, and its
-- failures in a row and the moment of its last end are those of the history
pub record IsLane (s : Setting) (h : List Entry) (lane : LaneId) (v : LaneView) : Type 0 where
  pub places : owed_places (debts s h lane) ++ piece.open_places v.kept.pieces ≡ sorted_places s h lane
  pub pieces : ArePieces (tags s h lane.shard) v.kept.pieces
  pub runs : is_running h lane ≡ is_some v.state.running
  pub call : (r : Running) → v.state.running ≡ Some r → IsCall h lane v.kept.pieces r
  pub failures : v.state.failures ≡ failures s h lane
  pub last_end : v.state.last_end ≡ last_end h lane

-- records that come

-- `count` places from the first on
abbrev pub places_from : ℕ → ℕ → List ℕ
places_from first zero = []
places_from first (suc count) = places_from first count ++ (first + count) ∷ []

-- the record belongs to the lane, has no found fate and passes the filter
abbrev pub arrives : Setting → LaneId → ℕ → Bool
arrives s lane i = is_in_lane s lane i && is_none (found_fate s lane.shard i) && is_passing s lane.shard i

-- the places of the records that a `Came` adds to the lane, in order
abbrev pub arriving : Setting → LaneId → ℕ → ℕ → List ℕ
arriving s lane first count = filter (arrives s lane) (places_from first count)

-- the record comes fresh, or with its found tries
abbrev pub standing_at : Setting → ℕ → ℕ → Standing
standing_at s n i = standing_of (option_map (λ (f : FoundTries). capped_tries f.tries) (found_try s n i))

-- the tries that were found of records of the shard are at least one
abbrev pub HasFoundTries : Setting → ℕ → Type 0
HasFoundTries s n = (i : ℕ) (f : FoundTries) → found_try s n i ≡ Some f → 1 ≤ f.tries
