-- A call of a lane ends.
use Rattle.std.proofs.Common.{◌≡◌, ℕ, zero, suc, ◌+◌, ◌-◌, ◌≤◌, Bool, true, false, ◌&&◌, List, [], ◌∷◌, ◌++◌, length, take, drop, refl, sym, ap, ◌∙◌, subst, inl, inr, Option, Some, None, arith, min, length-drop}
use Rattle.std.specs.Prelude.{option_map, slice_index}
use Rattle.std.specs.Option.{option_or}
use Rattle.std.proofs.lemmas.Bool.Decides.{eqb_tells}
use Rattle.std.proofs.lemmas.List.{append-nil, take-append-drop}
use Rattle.esm_model.specs.declared.lane.LaneId.{LaneId}
use Rattle.esm_model.specs.declared.entry.Reply.{Reply}
use Rattle.esm_model.specs.declared.entry.WindowState.{WindowState}
use Rattle.esm_model.specs.declared.entry.Entry.{Entry}
use Rattle.esm_model.specs.declared.verdict.Rest.{Rest}
use Rattle.esm_model.specs.declared.verdict.Rest.TheVariants as rest
use Rattle.esm_model.specs.declared.verdict.Verdict.{Verdict}
use Rattle.esm_model.specs.Setting.{Setting}
use Rattle.esm_model.specs.Entries.{Call, holds, last_call, batch_of}
use Rattle.esm_model.specs.Ruling.{capped_tries, is_counted}
use Rattle.esm_model.specs.Tries.{tries_sum, tries_for, counts, counts_in_call, call_verdict, verdict_on, verdict_after, mark, marked_by}
use Rattle.esm_model.specs.Owed.{Debt, success_debts, give_up_debts, close_debts, rest_debts, call_debts, end_debts, new_state}
use Rattle.esm_model.proofs.Lists.{Distinct}
use Rattle.esm_lanes.specs.Piece.{Piece, Lane, shortened, front_length}
use Rattle.esm_lanes.specs.Piece as piece
use Rattle.esm_lanes.proofs.Pieces.{open_places-shortened, open_places-split}
use Rattle.esm_shard_index.specs.LaneView.{front_tries, set_apart, after_rest}
use Rattle.esm_shard_index.specs.LaneHistory.{owed_places}
use Rattle.esm_shard_index.proofs.LaneMarks.{outside_drop}
use Rattle.esm_shard_index.proofs.LaneSplits.{IsOlder}

-- lists

take_none : (k : ℕ) → take k (let xs : List ℕ = [] in xs) ≡ []
take_none zero = refl
take_none (suc k) = refl

drop_none : (k : ℕ) → drop k (let xs : List ℕ = [] in xs) ≡ []
drop_none zero = refl
drop_none (suc k) = refl

pub take_of : (a b : ℕ) (xs : List ℕ) → take a (take b xs) ≡ take (min a b) xs
take_of zero b xs = (let e : min zero b ≡ zero = omega arith in rw e refl)
take_of (suc a) zero xs = (let e : min (suc a) zero ≡ zero = omega arith in rw e refl)
take_of (suc a) (suc b) [] = sym (take_none (min (suc a) (suc b)))
take_of (suc a) (suc b) (x ∷ xs) = (let e : min (suc a) (suc b) ≡ suc (min a b) = omega arith in rw e (ap (λ ys. x ∷ ys) (take_of a b xs)))

pub drop_of : (a b : ℕ) (xs : List ℕ) → drop a (take b xs) ≡ take (b - min a b) (drop (min a b) xs)
drop_of zero b xs = (let e : min zero b ≡ zero = omega arith in let f : b - zero ≡ b = omega arith in rw (e, f) refl)
drop_of (suc a) zero xs = (let e : min (suc a) zero ≡ zero = omega arith in rw e refl)
drop_of (suc a) (suc b) [] = sym (ap (take (suc b - min (suc a) (suc b))) (drop_none (min (suc a) (suc b))) ∙ take_none (suc b - min (suc a) (suc b)))
drop_of (suc a) (suc b) (x ∷ xs) =
    let e : min (suc a) (suc b) ≡ suc (min a b) = omega arith in
    let f : suc b - suc (min a b) ≡ b - min a b = omega arith in
    rw (e, f) (drop_of a b xs)

pub distinct_drop : (k : ℕ) (xs : List ℕ) → Distinct xs → Distinct (drop k xs)
distinct_drop zero xs d = d
distinct_drop (suc k) [] d = tt
distinct_drop (suc k) (x ∷ xs) d = distinct_drop k xs d.1

-- the front piece of what is left is long enough
pub left_within : (n left : ℕ) (ps : List Piece) → n + left ≤ front_length ps → left ≤ front_length (shortened n ps)
left_within n left [] within = omega arith
left_within n left (p ∷ rest) within =
    let long : length (drop n p.places) ≡ length p.places - n = length-drop n p.places in
    elim (eqb_tells (length (drop n p.places)) 0) [
      | inl empty ↦ (let none : length (drop n p.places) ≡ 0 = empty.1 in let zero' : left ≡ 0 = omega arith in rw zero' (omega arith))
      | inr some ↦ rw some.0 (omega (arith, long))
    ]

-- marks are of ends before

older_later : (a b : ℕ) (o : Option (ℕ × ℕ)) → a ≤ b → IsOlder a o → IsOlder b o
older_later a b None low older = tt
older_later a b (Some x) low older = omega arith

pub older_mark : (s : Setting) (h : List Entry) (n i : ℕ) → IsOlder (length h) (mark s h n i)
older_mark s [] n i = tt
older_mark s (e ∷ h) n i = at (marked_by s h n i e) (mark s h n i) (older_mark s h n i)
  where
    at : (o : Option ℕ) (old : Option (ℕ × ℕ)) → IsOlder (length h) old → IsOlder (length (e ∷ h)) (option_or (option_map (λ (k : ℕ). (length h, k)) o) old)
    at None old older = older_later (length h) (length (e ∷ h)) old (omega arith) older
    at (Some k) old older = omega arith

-- a call counts a try of what did not succeed

pub and_false : (a b : Bool) → b ≡ false → (a && b) ≡ false
and_false true b e = e
and_false false b e = refl

counts_at : (s : Setting) (h : List Entry) (n : ℕ) (call : Call) (reply : Reply) (i : ℕ) (o : Option ℕ) → call.closing ≡ o → ((w : ℕ) → o ≡ Some w → call.places ≡ [])
    → counts (call_verdict s n call (capped_tries (tries_sum s h n (slice_index call.places 0))) reply) call.places i ≡ counts (call_verdict s n call (tries_for s h n call.places call.closing) reply) call.places i
counts_at s h n call reply i None none final = ap (λ c. counts (call_verdict s n call (tries_for s h n call.places c) reply) call.places i) (sym none)
counts_at s h n call reply i (Some w) closes final =
    let empty : holds call.places i ≡ false = ap (λ xs. holds xs i) (final w refl) in
    let none : (v : Verdict) → counts v call.places i ≡ false = λ v. and_false (is_counted v.rest) (holds (drop v.succeeded call.places) i) (outside_drop v.succeeded call.places i empty) in
    none (call_verdict s n call (capped_tries (tries_sum s h n (slice_index call.places 0))) reply) ∙ sym (none (call_verdict s n call (tries_for s h n call.places call.closing) reply))

pub counts_are : (s : Setting) (h : List Entry) (lane : LaneId) (reply : Reply) (call : Call) (i : ℕ) → last_call h lane ≡ Some call → ((w : ℕ) → call.closing ≡ Some w → call.places ≡ [])
    → counts_in_call s lane.shard (last_call h lane) (tries_sum s h lane.shard) reply i
    ≡ (is_counted (verdict_after s h lane reply).rest && holds (drop (verdict_after s h lane reply).succeeded (batch_of (last_call h lane))) i)
counts_are s h lane reply call i last final =
    subst (λ o. counts_in_call s lane.shard o (tries_sum s h lane.shard) reply i ≡ (is_counted (verdict_on s h lane.shard o reply).rest && holds (drop (verdict_on s h lane.shard o reply).succeeded (batch_of o)) i))
    (sym last) (counts_at s h lane.shard call reply i call.closing refl final)

-- what the end owes

abbrev pub given_up : Rest → List ℕ → List ℕ
given_up rest.Exhausted xs = xs
given_up _ xs = []

owed_success : (xs : List ℕ) (state : Option WindowState) (ds : List Debt) → owed_places (success_debts xs state ++ ds) ≡ xs ++ owed_places ds
owed_success [] state ds = refl
owed_success (x ∷ xs) state ds = refl

owed_close : (closing : Option ℕ) → owed_places (close_debts closing) ≡ []
owed_close None = refl
owed_close (Some w) = refl

owed_give_up : (xs : List ℕ) (closing : Option ℕ) → owed_places (give_up_debts xs ++ close_debts closing) ≡ xs
owed_give_up [] closing = owed_close closing
owed_give_up (x ∷ xs) closing = ap (λ zs. (x ∷ xs) ++ zs) (owed_close closing) ∙ append-nil (x ∷ xs)

owed_rest : (r : Rest) (xs : List ℕ) (closing : Option ℕ) (t : ℕ) → owed_places (rest_debts r xs closing t) ≡ given_up r xs
owed_rest rest.Nothing xs closing t = owed_close closing
owed_rest rest.Again xs closing t = refl
owed_rest rest.Counted xs closing t = refl
owed_rest (rest.Split k) xs closing t = refl
owed_rest rest.Exhausted xs closing t = owed_give_up xs closing

pub owed_end : (s : Setting) (h : List Entry) (lane : LaneId) (reply : Reply) (call : Call) → last_call h lane ≡ Some call
    → owed_places (end_debts s h lane reply) ≡ take (verdict_after s h lane reply).succeeded (batch_of (last_call h lane)) ++ given_up (verdict_after s h lane reply).rest (drop (verdict_after s h lane reply).succeeded (batch_of (last_call h lane)))
owed_end s h lane reply call last =
    let v = verdict_after s h lane reply in
    subst (λ o. owed_places (call_debts s h lane o reply) ≡ take (verdict_after s h lane reply).succeeded (batch_of o) ++ given_up (verdict_after s h lane reply).rest (drop (verdict_after s h lane reply).succeeded (batch_of o))) (sym last)
    (owed_success (take v.succeeded call.places) (new_state s lane.shard call reply) (rest_debts v.rest (drop v.succeeded call.places) call.closing _)
    ∙ ap (λ xs. take v.succeeded call.places ++ xs) (owed_rest v.rest (drop v.succeeded call.places) call.closing _))

-- the pieces hold what is left

pieces_apart : (n t : ℕ) (l : Lane) → piece.open_places (set_apart n t l).pieces ≡ piece.open_places l.pieces
pieces_apart n t l = elim (eqb_tells n 0) [ inl none ↦ rw none.0 refl | inr some ↦ rw some.0 (open_places-split n t l.pieces) ]

pub rest_keeps : (r : Rest) (left : ℕ) (l : Lane) → left ≤ front_length l.pieces → given_up r (take left (piece.open_places l.pieces)) ++ piece.open_places (after_rest r left l).pieces ≡ piece.open_places l.pieces
rest_keeps rest.Nothing left l within = refl
rest_keeps rest.Again left l within = refl
rest_keeps rest.Counted left l within = pieces_apart left (capped_tries (front_tries l.pieces + 1)) l
rest_keeps (rest.Split k) left l within = pieces_apart (min k left) (front_tries l.pieces) (set_apart left (front_tries l.pieces) l) ∙ pieces_apart left (front_tries l.pieces) l
rest_keeps rest.Exhausted left l within = ap (λ xs. take left (piece.open_places l.pieces) ++ xs) (open_places-shortened left l.pieces within) ∙ take-append-drop left (piece.open_places l.pieces)
