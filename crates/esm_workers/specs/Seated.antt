-- What holds of a seat between two turns of its thread. This product's own.
use Rattle.std.specs.Prelude.{◌≡◌, ℕ, Bool, [], List}
use Rattle.esm_model.specs.declared.setup.Setup.{Setup}
use Rattle.esm_model.specs.declared.setup.Told.{Told}
use Rattle.esm_model.specs.Kept.{entries_of, IsLegal}
use Rattle.esm_model.specs.GoingOn.{OwnGiven}
use Rattle.esm_turn.specs.Seats.{TurnView, SeatView, IsFreeSeat}

-- Seat n of the turn does not hold the value. What it has seen is legal and has all entries that it added itself, and each
-- of these has a moment that the clock gave, or that of the entry before if that is later.
pub record IsSeated (author : Setup → List Told → Told → ℕ) (may_follow : Setup → List Told → Told → Type 0) (gave : ℕ → Bool) (t : TurnView) (n : ℕ) (s : SeatView) : Type 0 where
  pub free : IsFreeSeat t n s
  pub whole : s.mine ≡ entries_of (author t.setup) n s.seen
  pub legal : IsLegal (may_follow t.setup) s.seen
  pub moments : OwnGiven gave (author t.setup) n [] s.seen
