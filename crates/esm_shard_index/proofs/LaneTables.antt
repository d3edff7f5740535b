-- What stands at a lane that is written, and a lane's delay.
use Rattle.std.proofs.Common.{◌≡◌, ℕ, zero, suc, ◌^◌, ◌<◌, ◌≤◌, List, [], ◌∷◌, ◌++◌, length, slice_set, refl, ap, ◌∙◌, arith}
use Rattle.std.specs.Prelude.{All}
use Rattle.std.proofs.lemmas.List.{get_or-set_same}
use Rattle.std.proofs.Math.Pow.{pow_mono}
use Rattle.esm_model.specs.Moment.{moment_after}
use Rattle.esm_model.specs.Batches.{delay_from}
use Rattle.esm_lanes.specs.Piece.{Piece, Lane, HasPlaces, lane_at, empty_lane, open_places}
use Rattle.esm_shard_index.specs.LaneView.{front_tries}

-- without places there is no front piece
pub no_front : (ps : List Piece) → All HasPlaces ps → open_places ps ≡ [] → 0 ≡ front_tries ps
no_front [] filled none = refl
no_front (p ∷ rest) filled none = absurd (never p.places (open_places rest) (filled 0 p (omega arith)) none)
  where
    never : (xs ys : List ℕ) → 0 < length xs → xs ++ ys ≡ [] → ⊥
    never [] ys some none = omega arith
    never (x ∷ xs) ys some none = cc

set_again : (lanes : List Lane) (n : ℕ) (a b : Lane) → slice_set (slice_set lanes n a) n b ≡ slice_set lanes n b
set_again [] n a b = refl
set_again (l ∷ lanes) zero a b = refl
set_again (l ∷ lanes) (suc n) a b = ap (λ ls. l ∷ ls) (set_again lanes n a b)

-- a lane that is changed twice
pub twice : (old mid new : List Lane) (n : ℕ) (f g : Lane → Lane) → n < length old → mid ≡ slice_set old n (f (lane_at old n)) → new ≡ slice_set mid n (g (lane_at mid n)) → new ≡ slice_set old n (g (f (lane_at old n)))
twice old mid new n f g known first second =
    let here : lane_at mid n ≡ f (lane_at old n) = ap (λ ls. lane_at ls n) first ∙ get_or-set_same old n (f (lane_at old n)) empty_lane known in
    second ∙ ap (λ l. slice_set mid n (g l)) here ∙ ap (λ ls. slice_set ls n (g (f (lane_at old n)))) first ∙ set_again old n (f (lane_at old n)) (g (f (lane_at old n)))

-- after nine failures a lane waits a minute
pub long_delay : (n end : ℕ) → 9 ≤ n → moment_after end 60000 ≡ delay_from n end
long_delay zero end h = absurd (omega arith)
long_delay (suc n) end h =
    let above : 8 ≤ n = omega arith in
    let p : 2 ^ 8 ≤ 2 ^ n = pow_mono above in
    omega (arith, p)
