-- The front piece after a batch of it ended: its rest is set apart.
use Rattle.std.proofs.Common.{◌≡◌, ℕ, ◌<◌, ◌≤◌, Bool, true, false, ◌&&◌, List, [], ◌∷◌, length, take, drop, refl, sym, ap, ◌∙◌, ◌⊎◌, inl, inr, Option, Some, None, arith}
use Rattle.std.specs.Prelude.{◌==◌, is_some, ⊤}
use Rattle.std.proofs.lemmas.Bool.Decides.{eqb_tells}
use Rattle.std.proofs.lemmas.List.{length-take-le}
use Rattle.esm_model.specs.Tries.{same_mark}
use Rattle.esm_model.proofs.Lists.{In, In-append_left, In-append_cases}
use Rattle.esm_lanes.specs.declared.standing.Standing.TheVariants.{Split}
use Rattle.esm_lanes.specs.Piece.{Piece, rest_of, first_of, ahead_of, split, shortened, front_length}
use Rattle.esm_lanes.specs.Piece as piece
use Rattle.esm_shard_index.specs.LaneView.{front_places}
use Rattle.esm_shard_index.specs.LaneHistory.{Tags, same_tag, IsPiece, IsApart, ArePieces}
use Rattle.esm_shard_index.proofs.LanePieces.{SameTag, pieces_kept, shortened_pieces, ahead_pieces, other_mark}

-- it is the mark of no earlier end than this one
abbrev pub IsOlder : ℕ → Option (ℕ × ℕ) → Type 0
IsOlder at None = ⊤
IsOlder at (Some a) = a.0 < at

-- the end gives the place this side and these tries
pub record IsSplit (k : Tags) (at side count i : ℕ) : Type 0 where
  pub mark : k.mark i ≡ Some (at, side)
  pub tries : k.tries i ≡ count

-- it leaves the place, whose mark is older
pub record IsLeft (g k : Tags) (at i : ℕ) : Type 0 where
  pub same : SameTag g k i
  pub older : IsOlder at (g.mark i)

older_differs : (at side : ℕ) (m : Option (ℕ × ℕ)) → IsOlder at m → same_mark (Some (at, side)) m ≡ false
older_differs at side None older = refl
older_differs at side (Some a) older = by (at == a.0) (side == a.1) (elim (eqb_tells at a.0) [ inl same ↦ absurd (let e : at ≡ a.0 = same.1 in omega arith) | inr other ↦ other.0 ])
  where
    by : (x y : Bool) → x ≡ false → (x && y) ≡ false
    by true y e = cc
    by false y e = refl

split_left : (g k : Tags) (at side tries i j : ℕ) → IsSplit k at side tries i → IsLeft g k at j → same_tag k i j ≡ false
split_left g k at side tries i j is left = other_mark k i j (ap (λ m. same_mark m (k.mark j)) is.mark ∙ ap (same_mark (Some (at, side))) left.same.mark ∙ older_differs at side (g.mark j) left.older)

two_sides : (k : Tags) (at tries i j : ℕ) → IsSplit k at 0 tries i → IsSplit k at 1 tries j → same_tag k i j ≡ false
two_sides k at tries i j a b = other_mark k i j (ap (λ m. same_mark m (k.mark j)) a.mark ∙ ap (same_mark (Some (at, 0))) b.mark ∙ never (at == at))
  where
    never : (x : Bool) → (x && (0 == 1)) ≡ false
    never true = refl
    never false = refl

-- places of one side are a piece
split_piece : (k : Tags) (at side tries : ℕ) (xs : List ℕ) → 0 < length xs → ((i : ℕ) → In xs i → IsSplit k at side tries i) → IsPiece k (record { places = xs; standing = Split tries })
split_piece k at side tries xs some all = record {
  some = some;
  standing = λ i m. (ap is_some (all i m).mark, (all i m).tries);
  one = λ i j m n. (all i m).mark ∙ sym (all j n).mark;
}

apart_all : (k : Tags) (q : Piece) (rest : List Piece) → ((i j : ℕ) → In q.places i → In (piece.open_places rest) j → same_tag k i j ≡ false) → IsApart k q rest
apart_all k q [] all = tt
apart_all k q (r ∷ rest) all = λ i j m n. all i j m (In-append_left r.places (piece.open_places rest) j n)

ahead_In : (p : Piece) (rest : List Piece) (i : ℕ) → In (piece.open_places (ahead_of p rest)) i → In p.places i ⊎ In (piece.open_places rest) i
ahead_In p rest i m = elim (eqb_tells (length p.places) 0) [
  | inl empty ↦ inr (rw empty.0 at m)
  | inr some ↦ In-append_cases p.places (piece.open_places rest) i (rw some.0 at m)
]

-- the pieces behind what is set apart
behind_left : (g k : Tags) (at n : ℕ) (ps : List Piece) → ArePieces g ps → ((i : ℕ) → In (piece.open_places (shortened n ps)) i → IsLeft g k at i) → ArePieces k (shortened n ps)
behind_left g k at n ps are left = pieces_kept g k (shortened n ps) (λ i m. (left i m).same) (shortened_pieces g n ps are)

-- the first places of the front piece get one mark
pub split_pieces : (g k : Tags) (at side tries n : ℕ) (ps : List Piece) → 0 < n → n ≤ front_length ps → ArePieces g ps
    → ((i : ℕ) → In (take n (front_places ps)) i → IsSplit k at side tries i) → ((i : ℕ) → In (piece.open_places (shortened n ps)) i → IsLeft g k at i) → ArePieces k (split n tries ps)
split_pieces g k at side tries n [] some within are marked left = absurd (omega arith)
split_pieces g k at side tries n (p ∷ rest) some within are marked left =
    let long : length (take n p.places) ≡ n = length-take-le n p.places within in (
      split_piece k at side tries (take n p.places) (omega (arith, long)) marked,
      apart_all k (first_of n tries p) (shortened n (p ∷ rest)) (λ i j a b. split_left g k at side tries i j (marked i a) (left j b)),
      behind_left g k at n (p ∷ rest) are left,
    )

-- the first n of them get the one side, and the others the other side
pub halved_pieces : (g k : Tags) (at tries n left : ℕ) (ps : List Piece) → 0 < n → n ≤ left → left ≤ front_length ps → ArePieces g ps
    → ((i : ℕ) → In (take n (take left (front_places ps))) i → IsSplit k at 0 tries i) → ((i : ℕ) → In (drop n (take left (front_places ps))) i → IsSplit k at 1 tries i)
    → ((i : ℕ) → In (piece.open_places (shortened left ps)) i → IsLeft g k at i) → ArePieces k (split n tries (split left tries ps))
halved_pieces g k at tries n left [] some low within are first second others = absurd (omega arith)
halved_pieces g k at tries n left (p ∷ rest) some low within are first second others =
    let long : length (take left p.places) ≡ left = length-take-le left p.places within in
    let front : length (take n (take left p.places)) ≡ n = length-take-le n (take left p.places) (omega (arith, long)) in (
      split_piece k at 0 tries (take n (take left p.places)) (omega (arith, front)) first,
      apart_all k (first_of n tries (first_of left tries p)) (ahead_of (rest_of n (first_of left tries p)) (shortened left (p ∷ rest))) (λ i j a b. elim (ahead_In (rest_of n (first_of left tries p)) (shortened left (p ∷ rest)) j b) [
        | inl here ↦ two_sides k at tries i j (first i a) (second j here)
        | inr there ↦ split_left g k at 0 tries i j (first i a) (others j there)
      ]),
      ahead_pieces k (rest_of n (first_of left tries p)) (shortened left (p ∷ rest)) (λ more. split_piece k at 1 tries (drop n (take left p.places)) more second)
          (apart_all k (rest_of n (first_of left tries p)) (shortened left (p ∷ rest)) (λ i j a b. split_left g k at 1 tries i j (second i a) (others j b)))
          (behind_left g k at left (p ∷ rest) are others),
    )
