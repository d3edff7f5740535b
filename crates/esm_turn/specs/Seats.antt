-- What contracts see of a turn and of its seats. This product's own.
use Rattle.std.specs.Prelude.{◌≡◌, ℕ, ◌<◌, if◌then◌else◌, Bool, false, List, [], ◌∷◌, length, Option, None, slice_index_or}
use Rattle.atomic_table.specs.Seated.{TableId}
use Rattle.atomic_table.specs.Table.{Me}
use Rattle.esm_model.specs.declared.book.Change.{Change}
use Rattle.esm_model.specs.declared.setup.Setup.{Setup}
use Rattle.esm_model.specs.declared.setup.Told.{Told}
use Rattle.esm_turn.specs.declared.part.Part.{Part}
use Rattle.esm_turn.specs.Parts.{begun_part}

-- which turn it is, the setup of the value, and the number of seats
pub record TurnView : Type 0 where
  pub at : TableId
  pub setup : Setup
  pub seats : ℕ

-- which turn the seat is of, and what it knows
pub record SeatView : Type 0 where
  pub at : TableId
  pub setup : Setup
  pub number : ℕ
  pub seen : List Told
  pub mine : List Told
  pub mark : Bool
  pub change : Option Change
  pub holds : Bool

abbrev pub turn_view : TableId → Setup → ℕ → TurnView
turn_view at setup seats = record { at = at; setup = setup; seats = seats }

abbrev pub seat_view : TableId → Part → SeatView
seat_view at p = record { at = at; setup = p.setup; number = p.number; seen = p.seen; mine = p.mine; mark = p.mark; change = p.change; holds = p.holds }

abbrev pub part_of : SeatView → Part
part_of s = record { setup = s.setup; number = s.number; seen = s.seen; mine = s.mine; mark = s.mark; change = s.change; holds = s.holds }

-- the slot of the seat is empty while its caller has the value
abbrev pub slot_in_hand : {T : Type 0} → Bool → List (ℕ × Option T)
slot_in_hand holds = if holds then (0, None) ∷ [] else []

-- a seat has one part, and the slot while it holds the value
abbrev pub IsSeat : {T : Type 0} → Part → Me (Option T) (List Part) → Type 0
IsSeat p me = me ≡ (p ∷ [], slot_in_hand p.holds)

-- seat k of the turn, which does not have the value
pub record IsFreeSeat (t : TurnView) (k : ℕ) (s : SeatView) : Type 0 where
  pub at_is : s.at ≡ t.at
  pub setup_is : s.setup ≡ t.setup
  pub number_is : s.number ≡ k
  pub free : s.holds ≡ false

-- these are all seats of the turn, in the order of their numbers, and none has the value
pub record AreAllSeats (t : TurnView) (seats : List SeatView) : Type 0 where
  pub count : length seats ≡ t.seats
  pub each : (k : ℕ) (d : SeatView) → k < length seats → IsFreeSeat t k (slice_index_or seats k d)

-- seat k, which has seen the history h, with its own entries in it, and the change
abbrev pub begun_seat : (Setup → List Told → Told → ℕ) → List Told → Option Change → TurnView → ℕ → SeatView
begun_seat author h change t k = seat_view t.at (begun_part author t.setup h change k)

-- these are all seats of the turn, as it was made over a value with the history h and the change
pub record AreBegun (author : Setup → List Told → Told → ℕ) (h : List Told) (change : Option Change) (t : TurnView) (seats : List SeatView) : Type 0 where
  pub count : length seats ≡ t.seats
  pub each : (k : ℕ) (d : SeatView) → k < length seats → slice_index_or seats k d ≡ begun_seat author h change t k
