-- The open places of a lane after each call.
use Rattle.std.proofs.Common.{◌≡◌, ℕ, ◌<◌, ◌≤◌, Bool, true, false, if◌then◌else◌, List, [], ◌∷◌, ◌++◌, length, take, drop, get_or, slice_set, refl, sym, ap, ◌∙◌, inl, inr, arith, append_assoc, append-nil, take-append-drop}
use Rattle.std.proofs.lemmas.List.{drop-append-le, drop_all, get_or-set_same, get_or_default, nil_from_length}
use Rattle.std.proofs.lemmas.Bool.Decides.{eqb_tells}
use Rattle.esm_lanes.specs.declared.standing.Standing.{Standing}
use Rattle.esm_lanes.specs.Piece.{Piece, takes, opened, joined, added_behind, added, rest_of, ahead_of, split, shortened, open_places, front_length, Lane, empty_lane, after_add, lane_at, open_at}

last_places : (b : Bool) (s : Standing) (x : ℕ) (p : Piece) → open_places (if b then joined x p ∷ [] else p ∷ opened s x ∷ []) ≡ open_places (p ∷ []) ++ x ∷ []
last_places true s x p = append-nil (p.places ++ x ∷ []) ∙ ap (λ (ys : List ℕ). ys ++ x ∷ []) (sym (append-nil p.places))
last_places false s x p = ap (λ (ys : List ℕ). ys ++ x ∷ []) (sym (append-nil p.places))

behind_places : (s : Standing) (x : ℕ) (p : Piece) (rest : List Piece) → open_places (added_behind s x p rest) ≡ open_places (p ∷ rest) ++ x ∷ []
behind_places s x p [] = last_places (takes p.standing s) s x p
behind_places s x p (q ∷ rest) =
    ap (λ (ys : List ℕ). p.places ++ ys) (behind_places s x q rest) ∙ sym (append_assoc p.places (open_places (q ∷ rest)) (x ∷ []))

-- an add puts its place behind the others
pub open_places-added : (s : Standing) (x : ℕ) (pieces : List Piece) → open_places (added s x pieces) ≡ open_places pieces ++ x ∷ []
open_places-added s x [] = refl
open_places-added s x (p ∷ rest) = behind_places s x p rest

open_places-ahead : (p : Piece) (rest : List Piece) → open_places (ahead_of p rest) ≡ p.places ++ open_places rest
open_places-ahead p rest = elim (eqb_tells (length p.places) 0) [
  | inl empty ↦
      ap (λ (b : Bool). open_places (if b then rest else p ∷ rest)) empty.0
      ∙ sym (ap (λ (ys : List ℕ). ys ++ open_places rest) (nil_from_length p.places empty.1))
  | inr some ↦ ap (λ (b : Bool). open_places (if b then rest else p ∷ rest)) some.0
]

-- a split leaves the places as they are
pub open_places-split : (n tries : ℕ) (pieces : List Piece) → open_places (split n tries pieces) ≡ open_places pieces
open_places-split n tries [] = refl
open_places-split n tries (p ∷ rest) =
    ap (λ (ys : List ℕ). take n p.places ++ ys) (open_places-ahead (rest_of n p) rest)
    ∙ sym (append_assoc (take n p.places) (drop n p.places) (open_places rest))
    ∙ ap (λ (ys : List ℕ). ys ++ open_places rest) (take-append-drop n p.places)

-- a cut takes the first places away
pub open_places-shortened : (n : ℕ) (pieces : List Piece) → n ≤ front_length pieces → open_places (shortened n pieces) ≡ drop n (open_places pieces)
open_places-shortened n [] within = sym (drop_all n [] (omega arith))
open_places-shortened n (p ∷ rest) within =
    open_places-ahead (rest_of n p) rest ∙ sym (drop-append-le n p.places (open_places rest) within)

-- what stands at the lane that was written
pub open_at-slice_set : (lanes : List Lane) (n : ℕ) (l : Lane) → n < length lanes → open_at (slice_set lanes n l) n ≡ open_places l.pieces
open_at-slice_set lanes n l known = ap (λ (m : Lane). open_places m.pieces) (get_or-set_same lanes n l empty_lane known)

-- an add puts its place behind the open places of its lane
pub open_at-added : (s : Standing) (x : ℕ) (lanes : List Lane) (n : ℕ) (old new : Lane) → n < length lanes → old ≡ get_or lanes n old → new ≡ after_add s x old → open_at (slice_set lanes n new) n ≡ open_at lanes n ++ x ∷ []
open_at-added s x lanes n old new known read e =
    let here : old ≡ lane_at lanes n = read ∙ get_or_default lanes n old empty_lane known in
    open_at-slice_set lanes n new known
    ∙ ap (λ (l : Lane). open_places l.pieces) e
    ∙ open_places-added s x old.pieces
    ∙ ap (λ (l : Lane). open_places l.pieces ++ x ∷ []) here
