-- Pieces whose places have one mark and the same tries.
use Rattle.std.proofs.Common.{◌≡◌, ℕ, ◌<◌, ◌≤◌, Bool, true, false, cond, ◌&&◌, List, [], ◌∷◌, ◌++◌, length, refl, sym, ap, ◌∙◌, subst, inl, inr, Option, Some, None, arith}
use Rattle.std.specs.Prelude.{◌==◌, is_some, ⊤}
use Rattle.std.proofs.lemmas.Bool.{cases_Bool, eqb-true}
use Rattle.std.proofs.lemmas.Bool.Decides.{eqb_tells}
use Rattle.esm_model.specs.Tries.{same_mark}
use Rattle.esm_model.proofs.Lists.{In, In-one, In-here, In-append_left, In-append_right, In-append_cases, In-drop}
use Rattle.esm_model.proofs.OtherLanes.{piece_agree}
use Rattle.esm_lanes.specs.declared.standing.Standing.{Standing}
use Rattle.esm_lanes.specs.declared.standing.Standing.TheVariants.{Fresh, Tried, Split}
use Rattle.esm_lanes.specs.Piece.{Piece, takes, opened, joined, added_behind, added, rest_of, ahead_of, shortened}
use Rattle.esm_lanes.specs.Piece as piece
use Rattle.esm_shard_index.specs.LaneHistory.{Tags, same_tag, HasStanding, IsPiece, IsApart, ArePieces}

-- the two say the same of the place
pub record SameTag (g k : Tags) (i : ℕ) : Type 0 where
  pub mark : k.mark i ≡ g.mark i
  pub tries : k.tries i ≡ g.tries i
  pub found : k.found i ≡ g.found i

standing_kept : (g k : Tags) (st : Standing) (i : ℕ) → SameTag g k i → HasStanding g st i → HasStanding k st i
standing_kept g k Fresh i same is = (same.mark ∙ is.0, same.found ∙ is.1, same.tries ∙ is.2)
standing_kept g k (Tried n) i same is = (same.mark ∙ is.0, same.found ∙ is.1, same.tries ∙ is.2, is.3)
standing_kept g k (Split n) i same is = (ap is_some same.mark ∙ is.0, same.tries ∙ is.1)

tag_kept : (g k : Tags) (i j : ℕ) → SameTag g k i → SameTag g k j → same_tag g i j ≡ false → same_tag k i j ≡ false
tag_kept g k i j here there other =
    piece_agree (k.mark i) (g.mark i) (k.mark j) (g.mark j) (k.tries i) (g.tries i) (k.tries j) (g.tries j) here.mark there.mark here.tries there.tries ∙ other

piece_kept : (g k : Tags) (p : Piece) → ((i : ℕ) → In p.places i → SameTag g k i) → IsPiece g p → IsPiece k p
piece_kept g k p same is = record {
  some = is.some;
  standing = λ i m. standing_kept g k p.standing i (same i m) (is.standing i m);
  one = λ i j m n. (same i m).mark ∙ is.one i j m n ∙ sym (same j n).mark;
}

apart_kept : (g k : Tags) (p : Piece) (rest : List Piece) → ((i : ℕ) → In p.places i → SameTag g k i) → ((i : ℕ) → In (piece.open_places rest) i → SameTag g k i) → IsApart g p rest → IsApart k p rest
apart_kept g k p [] here there is = tt
apart_kept g k p (q ∷ rest) here there is = λ i j m n. tag_kept g k i j (here i m) (there j (In-append_left q.places (piece.open_places rest) j n)) (is i j m n)

-- where nothing is said otherwise of the places, the pieces stay
pub pieces_kept : (g k : Tags) (ps : List Piece) → ((i : ℕ) → In (piece.open_places ps) i → SameTag g k i) → ArePieces g ps → ArePieces k ps
pieces_kept g k [] same are = tt
pieces_kept g k (p ∷ rest) same are =
    let here : (i : ℕ) → In p.places i → SameTag g k i = λ i m. same i (In-append_left p.places (piece.open_places rest) i m) in
    let there : (i : ℕ) → In (piece.open_places rest) i → SameTag g k i = λ i m. same i (In-append_right p.places (piece.open_places rest) i m) in
    (piece_kept g k p here are.0, apart_kept g k p rest here there are.1, pieces_kept g k rest there are.2)

-- a place that comes

-- it has no mark
abbrev pub IsNew : Standing → Type 0
IsNew Fresh = ⊤
IsNew (Tried n) = ⊤
IsNew (Split n) = ⊥

pub opened_piece : (g : Tags) (st : Standing) (i : ℕ) → HasStanding g st i → IsPiece g (opened st i)
opened_piece g st i is = record {
  some = omega arith;
  standing = λ j m. subst (HasStanding g st) (In-one i j m) is;
  one = λ j k m n. ap g.mark (sym (In-one i j m) ∙ In-one i k n);
}

marks_none : (g : Tags) (st mine : Standing) (i j : ℕ) → IsNew st → takes mine st ≡ true → HasStanding g mine i → HasStanding g st j → (g.mark i ≡ g.mark j) × HasStanding g mine j
marks_none g Fresh Fresh i j new same a b = (a.0 ∙ sym b.0, b)
marks_none g (Tried n) Fresh i j new same a b = absurd cc
marks_none g (Split n) mine i j new same a b = absurd new
marks_none g Fresh (Tried m) i j new same a b = absurd cc
marks_none g (Tried n) (Tried m) i j new same a b = (let e : m ≡ n = eqb-true m n same in (a.0 ∙ sym b.0, (b.0, b.1, b.2 ∙ sym e, a.3)))
marks_none g Fresh (Split m) i j new same a b = absurd cc
marks_none g (Tried n) (Split m) i j new same a b = absurd cc

-- a place of a list that is not empty
pub some_place : (xs : List ℕ) → 0 < length xs → (x : ℕ) × In xs x
some_place [] h = absurd (omega arith)
some_place (x ∷ xs) h = (x, In-here x xs x refl)

joined_piece : (g : Tags) (st : Standing) (i : ℕ) (p : Piece) → IsNew st → HasStanding g st i → takes p.standing st ≡ true → IsPiece g p → IsPiece g (joined i p)
joined_piece g st i p new is same piece' =
    let first = some_place p.places piece'.some in
    let both = marks_none g st p.standing first.0 i new same (piece'.standing first.0 first.1) is in
    let mark_of : (j : ℕ) → In (p.places ++ i ∷ []) j → g.mark j ≡ g.mark i = λ j m. elim (In-append_cases p.places (i ∷ []) j m) [
      | inl old ↦ (piece'.one j first.0 old first.1 ∙ both.0)
      | inr last ↦ ap g.mark (sym (In-one i j last))
    ] in
    record {
      some = longer p.places;
      standing = λ j m. elim (In-append_cases p.places (i ∷ []) j m) [ inl old ↦ piece'.standing j old | inr last ↦ subst (HasStanding g p.standing) (In-one i j last) both.1 ];
      one = λ j k m n. mark_of j m ∙ sym (mark_of k n);
    }
  where
    longer : (xs : List ℕ) → 0 < length (xs ++ i ∷ [])
    longer [] = omega arith
    longer (x ∷ xs) = omega arith

-- places of other tries, or with a mark and without one, differ

other_tries : (g : Tags) (i j m n : ℕ) → g.tries i ≡ m → g.tries j ≡ n → (m == n) ≡ false → same_tag g i j ≡ false
other_tries g i j m n a b other = and_none (same_mark (g.mark i) (g.mark j)) (g.tries i == g.tries j) (ap (λ x. x == g.tries j) a ∙ ap (λ x. m == x) b ∙ other)
  where
    and_none : (a b : Bool) → b ≡ false → (a && b) ≡ false
    and_none true b e = e
    and_none false b e = refl

pub other_mark : (g : Tags) (i j : ℕ) → same_mark (g.mark i) (g.mark j) ≡ false → same_tag g i j ≡ false
other_mark g i j other = ap (λ b. b && (g.tries i == g.tries j)) other

one_marked : (a b : Option (ℕ × ℕ)) → is_some a ≡ true → b ≡ None → same_mark a b ≡ false
one_marked None b x y = absurd cc
one_marked (Some a) b x y = ap (same_mark (Some a)) y

unequal : (m n : ℕ) → (m ≡ n → ⊥) → (m == n) ≡ false
unequal m n h = elim (eqb_tells m n) [ inl same ↦ absurd (h same.1) | inr other ↦ other.0 ]

not_taken : (g : Tags) (st mine : Standing) (i j : ℕ) → IsNew st → takes mine st ≡ false → HasStanding g mine i → HasStanding g st j → same_tag g i j ≡ false
not_taken g (Split n) mine i j new other a b = absurd new
not_taken g Fresh Fresh i j new other a b = absurd cc
not_taken g (Tried n) Fresh i j new other a b = other_tries g i j 0 n a.2 b.2 (unequal 0 n (λ e. let some : 1 ≤ n = b.3 in omega arith))
not_taken g Fresh (Tried m) i j new other a b = other_tries g i j m 0 a.2 b.2 (unequal m 0 (λ e. let some : 1 ≤ m = a.3 in omega arith))
not_taken g (Tried n) (Tried m) i j new other a b = other_tries g i j m n a.2 b.2 other
not_taken g Fresh (Split m) i j new other a b = other_mark g i j (one_marked (g.mark i) (g.mark j) a.0 b.0)
not_taken g (Tried n) (Split m) i j new other a b = other_mark g i j (one_marked (g.mark i) (g.mark j) a.0 b.0)

pub tries_one : (g : Tags) (st : Standing) (i j : ℕ) → HasStanding g st i → HasStanding g st j → g.tries i ≡ g.tries j
tries_one g Fresh i j a b = a.2 ∙ sym b.2
tries_one g (Tried n) i j a b = a.2 ∙ sym b.2
tries_one g (Split n) i j a b = a.1 ∙ sym b.1

-- what differs from one of two that agree differs from the other
as_other : (g : Tags) (j k x : ℕ) → g.mark k ≡ g.mark x → g.tries k ≡ g.tries x → same_tag g j x ≡ false → same_tag g j k ≡ false
as_other g j k x marks tries other = piece_agree (g.mark j) (g.mark j) (g.mark k) (g.mark x) (g.tries j) (g.tries j) (g.tries k) (g.tries x) refl marks refl tries ∙ other

added_last : (g : Tags) (st : Standing) (i : ℕ) (p : Piece) → IsNew st → HasStanding g st i → IsPiece g p → ArePieces g (added_behind st i p [])
added_last g st i p new is piece' = elim (cases_Bool (takes p.standing st)) [
  | inl same ↦ rw same (joined_piece g st i p new is same piece', tt, tt)
  | inr other ↦ rw other (
    piece',
    (λ j k m n. not_taken_at j k (piece'.standing j m) (In-one i k n) other),
    (opened_piece g st i is, tt, tt),
  )
]
  where
    not_taken_at : (j k : ℕ) → HasStanding g p.standing j → i ≡ k → takes p.standing st ≡ false → same_tag g j k ≡ false
    not_taken_at j k a e other = subst (λ x. same_tag g j x ≡ false) e (not_taken g st p.standing j i new other a is)

-- behind a piece that another follows, it differs as before
apart_added : (g : Tags) (st : Standing) (i : ℕ) (p q : Piece) (rest : List Piece) → HasStanding g st i → IsPiece g q → IsApart g p (q ∷ rest) → ArePieces g (added_behind st i q rest) → IsApart g p (added_behind st i q rest)
apart_added g st i p q (r ∷ rest) is piece' apart are = apart
apart_added g st i p q [] is piece' apart are = at (takes q.standing st) are
  where
    first : (x : ℕ) × In q.places x
    first = some_place q.places piece'.some

    at : (b : Bool) → ArePieces g (cond b (joined i q ∷ []) (q ∷ opened st i ∷ [])) → IsApart g p (cond b (joined i q ∷ []) (q ∷ opened st i ∷ []))
    at false are = apart
    at true are = λ j k m n. as_other g j k first.0 (are.0.one k first.0 n (In-append_left q.places (i ∷ []) first.0 first.1)) (tries_one g q.standing k first.0 (are.0.standing k n) (piece'.standing first.0 first.1)) (apart j first.0 m first.1)

behind_pieces : (g : Tags) (st : Standing) (i : ℕ) (p : Piece) (rest : List Piece) → IsNew st → HasStanding g st i → ArePieces g (p ∷ rest) → ArePieces g (added_behind st i p rest)
behind_pieces g st i p [] new is are = added_last g st i p new is are.0
behind_pieces g st i p (q ∷ rest) new is are =
    let later = behind_pieces g st i q rest new is are.2 in
    (are.0, apart_added g st i p q rest is are.2.0 are.1 later, later)

-- a place that comes without a mark joins the last piece or opens one
pub added_pieces : (g : Tags) (st : Standing) (i : ℕ) (ps : List Piece) → IsNew st → HasStanding g st i → ArePieces g ps → ArePieces g (added st i ps)
added_pieces g st i [] new is are = (opened_piece g st i is, tt, tt)
added_pieces g st i (p ∷ rest) new is are = behind_pieces g st i p rest new is are

-- places that leave the front

pub part_piece : (g : Tags) (p q : Piece) → IsPiece g p → q.standing ≡ p.standing → 0 < length q.places → ((i : ℕ) → In q.places i → In p.places i) → IsPiece g q
part_piece g p q is same some inside = record {
  some = some;
  standing = λ i m. subst (λ st. HasStanding g st i) (sym same) (is.standing i (inside i m));
  one = λ i j m n. is.one i j (inside i m) (inside j n);
}

pub part_apart : (g : Tags) (p q : Piece) (rest : List Piece) → ((i : ℕ) → In q.places i → In p.places i) → IsApart g p rest → IsApart g q rest
part_apart g p q [] inside apart = tt
part_apart g p q (r ∷ rest) inside apart = λ i j m n. apart i j (inside i m) n

-- a piece that may be empty stands ahead of others
pub ahead_pieces : (g : Tags) (p : Piece) (rest : List Piece) → (0 < length p.places → IsPiece g p) → IsApart g p rest → ArePieces g rest → ArePieces g (ahead_of p rest)
ahead_pieces g p rest is apart are = elim (eqb_tells (length p.places) 0) [
  | inl empty ↦ rw empty.0 are
  | inr some ↦ (let more : 0 < length p.places = (let no = some.1 in omega arith) in rw some.0 (is more, apart, are))
]

pub shortened_pieces : (g : Tags) (n : ℕ) (ps : List Piece) → ArePieces g ps → ArePieces g (shortened n ps)
shortened_pieces g n [] are = tt
shortened_pieces g n (p ∷ rest) are =
    ahead_pieces g (rest_of n p) rest (λ some. part_piece g p (rest_of n p) are.0 refl some (λ i m. In-drop n p.places i m))
    (part_apart g p (rest_of n p) rest (λ i m. In-drop n p.places i m) are.1) are.2
