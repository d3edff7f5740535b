-- What is known once all seats have come back.
use Rattle.std.proofs.Common.{◌≡◌, ℕ, zero, suc, ◌<◌, false, List, [], ◌∷◌, ◌++◌, length, get_or, refl, sym, ap, ◌∙◌, subst, arith, Option, Some, None, length-append}
use Rattle.std.proofs.Math.Seq.{get_or-append_seam}
use mathlib.Core.Option.{some, some-injective}
use lib.ListN.{get_elem?}
use Rattle.std.specs.List.{All}
use Rattle.atomic_table.specs.Table.{Final, Seen}
use Rattle.esm_model.specs.declared.setup.Setup.{Setup}
use Rattle.esm_model.specs.Kept.{Meaning}
use Rattle.esm_turn.specs.declared.part.Part.{Part}
use Rattle.esm_turn.specs.Parts.{no_part, Each, Within}
use Rattle.esm_turn.specs.Rule.{IsKept}
use Rattle.esm_turn.specs.Seats.{SeatView, TurnView, AreAllSeats, part_of, seat_view}
use Rattle.esm_turn.proofs.PartLemmas.{within_left}
use Rattle.esm_turn.proofs.Steps.{EndsFor, Ends, ends}

pub no_items : {A : Type 0} (l : List A) → length l ≡ 0 → l ≡ []
no_items [] h = refl
no_items (x ∷ xs) h = absurd (omega arith)

-- what holds of all elements holds of the one in the middle
pub at_seam : {A : Type 0} (P : A → Type 0) (all new more : List A) (a : A) → all ≡ new ++ a ∷ more → All P all → P a
at_seam P all new more a is each =
    let lt : length new < length all = omega (arith, ap length is ∙ length-append new (a ∷ more)) in
    subst P (ap (λ l. get_or l (length new) a) is ∙ get_or-append_seam new a more a) (each (length new) a lt)

-- the parts of these seats are all among ps
abbrev pub AllWithin : List SeatView → List Part → Type 0
AllWithin [] ps = Unit {0}
AllWithin (s ∷ ss) ps = Within (part_of s) ps × AllWithin ss ps

pub all_within_left : (ss : List SeatView) (xs ys : List Part) → AllWithin ss xs → AllWithin ss (xs ++ ys)
all_within_left [] xs ys h = tt
all_within_left (s ∷ ss) xs ys h = (within_left (part_of s) xs ys h.0, all_within_left ss xs ys h.1)

pub within_at : (ss : List SeatView) (ps : List Part) → AllWithin ss ps → All (λ s. Within (part_of s) ps) ss
within_at [] ps h k d lt = absurd (omega arith)
within_at (s ∷ ss) ps h zero d lt = h.0
within_at (s ∷ ss) ps h (suc k) d lt = within_at ss ps h.1 k d (omega arith)

value_or : {T : Type 0} → T → Option T → T
value_or d (Some x) = x
value_or d None = d

option_injective : {T : Type 0} (x y : T) → Some x ≡ Some y → x ≡ y
unfolding value_or
option_injective x y e = ap (value_or x) e

module _ {T : Type 0} (m : Meaning T) where
  -- the value at the end, whatever the seats are and of each seat
  pub record Closes (t : TurnView) (seats : List SeatView) (x : T) : Type 0 where
    pub ends : Ends m t.setup t.seats x
    pub each : All (λ s. EndsFor m t.setup (part_of s) x) seats

  pub closes : (setup : Setup) (seats id : ℕ) (v : List Part) (ws : List ℕ) (xs : List (Option T)) (t : TurnView) (ss : List SeatView) (r : Option T)
      → Final (Seen (IsKept m setup seats) id v) ws xs → Each (λ p. p.holds ≡ false) v
      → setup ≡ t.setup → seats ≡ t.seats → AreAllSeats t ss → All (λ s. Within (part_of s) v) ss
      → get_elem? xs 0 ≡ some r
      → (x : T) × (r ≡ Some x) × Closes t ss x
  closes setup seats id v ws xs t ss r final idle setup_is seats_is all within at =
      let e = ends m setup seats id v ws xs final idle (λ n lt.
      let inside : n < length ss = (let a = all.count in omega (arith, a, seats_is)) in
      let d : SeatView = seat_view t.at no_part in
      (part_of (get_or ss n d), within n d inside, (all.each n d inside).number_is)) in (
        e.0,
        some-injective r (Some e.0) (sym at ∙ e.1),
        record {
          ends = subst (λ (z : Setup × ℕ). Ends m z.0 z.1 e.0) (λ i. (setup_is i, seats_is i)) e.2;
          each = λ k d lt. subst (λ z. EndsFor m z (part_of (get_or ss k d)) e.0) setup_is (e.3 (part_of (get_or ss k d)) (within k d lt));
        },
      )

  -- the same of the value that was there
  pub closes_at : (setup : Setup) (seats id : ℕ) (v : List Part) (ws : List ℕ) (xs : List (Option T)) (t : TurnView) (ss : List SeatView) (r : Option T) (y : T)
      → Final (Seen (IsKept m setup seats) id v) ws xs → Each (λ p. p.holds ≡ false) v
      → setup ≡ t.setup → seats ≡ t.seats → AreAllSeats t ss → All (λ s. Within (part_of s) v) ss
      → get_elem? xs 0 ≡ some r → r ≡ Some y
      → Closes t ss y
  closes_at setup seats id v ws xs t ss r y final idle setup_is seats_is all within at is =
      let e = closes setup seats id v ws xs t ss r final idle setup_is seats_is all within at in
      subst (Closes t ss) (option_injective e.0 y (sym e.1 ∙ is)) e.2
