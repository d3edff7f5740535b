-- Hands as lists of seats and of callers.
use Rattle.std.proofs.Common.{◌≡◌, ℕ, zero, suc, ◌<◌, List, [], ◌∷◌, length, get_or, refl, ap, arith}
use Rattle.esm_turn.specs.Seats.{SeatView}
use Rattle.esm_workers.specs.declared.hand.Hand.{Hand}
use Rattle.esm_workers.specs.Packs.{seats_of, callers_of}

pub some_of : {A : Type 0} (l : List A) → 0 < length l → A
some_of [] lt = absurd (omega arith)
some_of (x ∷ xs) lt = x

module _ {T F : Type 0} where
  pub seats_length : (hs : List (Hand T F)) → length (seats_of hs) ≡ length hs
  seats_length [] = refl
  seats_length (h ∷ hs) = ap suc (seats_length hs)

  pub callers_length : (hs : List (Hand T F)) → length (callers_of hs) ≡ length hs
  callers_length [] = refl
  callers_length (h ∷ hs) = ap suc (callers_length hs)

  pub seat_at : (hs : List (Hand T F)) (k : ℕ) (s : SeatView) (d : Hand T F) → k < length hs → get_or (seats_of hs) k s ≡ (get_or hs k d).seat
  seat_at [] k s d lt = absurd (omega arith)
  seat_at (h ∷ hs) zero s d lt = refl
  seat_at (h ∷ hs) (suc k) s d lt = seat_at hs k s d (omega arith)

  pub caller_at : (hs : List (Hand T F)) (k : ℕ) (f : F) (d : Hand T F) → k < length hs → get_or (callers_of hs) k f ≡ (get_or hs k d).caller
  caller_at [] k f d lt = absurd (omega arith)
  caller_at (h ∷ hs) zero f d lt = refl
  caller_at (h ∷ hs) (suc k) f d lt = caller_at hs k f d (omega arith)
