-- Where a lane owes nothing and all that is open passes, its group is the front piece.
use Rattle.std.proofs.Common.{◌≡◌, ℕ, ◌<◌, Bool, true, false, not, cond, ◌&&◌, List, [], ◌∷◌, ◌++◌, length, refl, sym, ap, ◌∙◌, subst, inl, inr, Option, Some, None, arith}
use Rattle.std.specs.Prelude.{◌==◌, option_map, unwrap_or, slice_index, take_while, is_some}
use Rattle.std.proofs.lemmas.Bool.{cases_Bool, and_from, eq-eqb}
use Rattle.std.proofs.lemmas.List.{append-nil}
use Rattle.std.proofs.lemmas.List.Sums.{take_while-cons}
use Rattle.esm_model.specs.declared.lane.LaneId.{LaneId}
use Rattle.esm_model.specs.declared.entry.Entry.{Entry}
use Rattle.esm_model.specs.Setting.{Setting, record_at}
use Rattle.esm_model.specs.Entries.{came_count}
use Rattle.esm_model.specs.Fates.{below, lacks_fate, open_places}
use Rattle.esm_model.specs.Tries.{tries, same_mark, is_fresh}
use Rattle.esm_model.specs.Batches.{group_of, group, last_end, delay_end, delay_from}
use Rattle.esm_model.specs.Owed.{debts, is_refused, is_unsorted, unsorted}
use Rattle.esm_model.proofs.Lists.{In, In-none, In-here, In-there, filter-In, below-In, filter_all}
use Rattle.esm_model.proofs.Sound.{open_In}
use Rattle.esm_lanes.specs.declared.standing.Standing.{Standing}
use Rattle.esm_lanes.specs.declared.standing.Standing.TheVariants.{Fresh, Tried, Split}
use Rattle.esm_lanes.specs.Piece.{Piece}
use Rattle.esm_lanes.specs.Piece as piece
use Rattle.esm_shard_index.specs.LaneView.{LaneView, front_places}
use Rattle.esm_shard_index.specs.LaneHistory.{Tags, tags, same_tag, HasStanding, IsPiece, IsApart, ArePieces, owed_places, is_passing, sorted_places, IsLane}
use Rattle.esm_shard_index.proofs.LanePieces.{tries_one}

-- nothing that is open is refused

pub all_pass : (s : Setting) (h : List Entry) (lane : LaneId) → unsorted s h lane.shard ≡ [] → sorted_places s h lane ≡ open_places s h lane
all_pass s h lane none = filter_all (is_passing s lane.shard) (open_places s h lane) (λ i member.
    elim (cases_Bool (unwrap_or (option_map (is_refused s) (record_at s lane.shard i)) false)) [
      | inr passes ↦ ap not passes
      | inl refused ↦ (
          let facts = open_In s h lane i member in
          absurd (In-none i (subst (λ xs. In xs i) none
          (filter-In (is_unsorted s h lane.shard) (below (came_count h lane.shard)) i (below-In (came_count h lane.shard) i facts.0)
          (and_from (lacks_fate s h lane.shard i) (unwrap_or (option_map (is_refused s) (record_at s lane.shard i)) false) facts.2 refused)))))
    ])

-- so the open places are those of the pieces
pub opens_are : (s : Setting) (h : List Entry) (lane : LaneId) (v : LaneView) → debts s h lane ≡ [] → unsorted s h lane.shard ≡ [] → IsLane s h lane v → open_places s h lane ≡ piece.open_places v.kept.pieces
opens_are s h lane v owes none is = sym (all_pass s h lane none) ∙ sym is.places ∙ ap (λ ds. owed_places ds ++ piece.open_places v.kept.pieces) owes

-- a group

mark_self : (m : Option (ℕ × ℕ)) → same_mark m m ≡ true
mark_self None = refl
mark_self (Some a) = and_from (a.0 == a.0) (a.1 == a.1) (eq-eqb a.0 a.0 refl) (eq-eqb a.1 a.1 refl)

pub one_tag : (g : Tags) (p : Piece) → IsPiece g p → (i j : ℕ) → In p.places i → In p.places j → same_tag g i j ≡ true
one_tag g p is i j m n = and_from (same_mark (g.mark i) (g.mark j)) (g.tries i == g.tries j)
    (ap (same_mark (g.mark i)) (sym (is.one i j m n)) ∙ mark_self (g.mark i))
    (eq-eqb (g.tries i) (g.tries j) (tries_one g p.standing i j (is.standing i m) (is.standing j n)))

take_while_on : (q : ℕ → Bool) (xs ys : List ℕ) → ((i : ℕ) → In xs i → q i ≡ true) → take_while q (xs ++ ys) ≡ xs ++ take_while q ys
take_while_on q [] ys all = refl
take_while_on q (x ∷ xs) ys all =
    take_while-cons q x (xs ++ ys) ∙ ap (λ b. cond b (x ∷ take_while q (xs ++ ys)) []) (all x (In-here x xs x refl))
    ∙ ap (λ zs. x ∷ zs) (take_while_on q xs ys (λ i m. all i (In-there x xs i m)))

-- behind the front piece the next one has other tries or another mark
stops : (g : Tags) (p : Piece) (rest : List Piece) (x : ℕ) → In p.places x → IsApart g p rest → ArePieces g rest → take_while (same_tag g x) (piece.open_places rest) ≡ []
stops g p [] x inside apart are = refl
stops g p (q ∷ rest) x inside apart are = at q.places are.0.some (λ i m. apart x i inside m)
  where
    at : (xs : List ℕ) → 0 < length xs → ((i : ℕ) → In xs i → same_tag g x i ≡ false) → take_while (same_tag g x) (xs ++ piece.open_places rest) ≡ []
    at [] some other = absurd (omega arith)
    at (y ∷ ys) some other =
        take_while-cons (same_tag g x) y (ys ++ piece.open_places rest) ∙ ap (λ b. cond b (y ∷ take_while (same_tag g x) (ys ++ piece.open_places rest)) []) (other y (In-here y ys y refl))

first_of_piece : (xs ys : List ℕ) → 0 < length xs → In xs (slice_index (xs ++ ys) 0)
first_of_piece [] ys some = absurd (omega arith)
first_of_piece (x ∷ xs) ys some = In-here x xs x refl

-- the longest prefix of the places of pieces that has the mark and the tries of the first is the front piece
pub front_group : (g : Tags) (ps : List Piece) → ArePieces g ps → take_while (same_tag g (slice_index (piece.open_places ps) 0)) (piece.open_places ps) ≡ front_places ps
front_group g [] are = refl
front_group g (p ∷ rest) are =
    let x = slice_index (piece.open_places (p ∷ rest)) 0 in
    let inside : In p.places x = first_of_piece p.places (piece.open_places rest) are.0.some in
    take_while_on (same_tag g x) p.places (piece.open_places rest) (λ i m. one_tag g p are.0 x i inside m)
    ∙ ap (λ zs. p.places ++ zs) (stops g p rest x inside are.1 are.2) ∙ append-nil p.places

pub group_is : (s : Setting) (h : List Entry) (lane : LaneId) (v : LaneView) → debts s h lane ≡ [] → unsorted s h lane.shard ≡ [] → IsLane s h lane v → group s h lane ≡ front_places v.kept.pieces
group_is s h lane v owes none is = ap (group_of s h lane.shard) (opens_are s h lane v owes none is) ∙ front_group (tags s h lane.shard) v.kept.pieces is.pieces

-- what is said of its first record

fresh_at : (g : Tags) (st : Standing) (i : ℕ) → HasStanding g st i → (not (is_some (g.mark i)) && not (g.found i)) ≡ piece.is_fresh st
fresh_at g Fresh i is = ap (λ m. not (is_some m) && not (g.found i)) is.0 ∙ ap not is.1
fresh_at g (Tried n) i is = ap (λ m. not (is_some m) && not (g.found i)) is.0 ∙ ap not is.1
fresh_at g (Split n) i is = ap (λ b. not b && not (g.found i)) is.0

pub tries_at : (g : Tags) (st : Standing) (i : ℕ) → HasStanding g st i → g.tries i ≡ piece.tries_of st
tries_at g Fresh i is = is.2
tries_at g (Tried n) i is = is.2
tries_at g (Split n) i is = is.1

pub fresh_is : (s : Setting) (h : List Entry) (n : ℕ) (p : Piece) (rest : List Piece) → ArePieces (tags s h n) (p ∷ rest) → (i : ℕ) → In p.places i → is_fresh s h n i ≡ piece.is_fresh p.standing
fresh_is s h n p rest are i m = fresh_at (tags s h n) p.standing i (are.0.standing i m)

pub tries_are : (s : Setting) (h : List Entry) (n : ℕ) (p : Piece) (rest : List Piece) → ArePieces (tags s h n) (p ∷ rest) → (i : ℕ) → In p.places i → tries s h n i ≡ piece.tries_of p.standing
tries_are s h n p rest are i m = tries_at (tags s h n) p.standing i (are.0.standing i m)

pub delay_is : (s : Setting) (h : List Entry) (lane : LaneId) (v : LaneView) → IsLane s h lane v → delay_end s h lane ≡ delay_from v.state.failures v.state.last_end
delay_is s h lane v is = ap (λ n. delay_from n (last_end h lane)) (sym is.failures) ∙ ap (delay_from v.state.failures) (sym is.last_end)
