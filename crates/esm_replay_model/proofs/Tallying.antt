-- How many records a run replays: each of them stands once in the first list of pieces.
use Rattle.std.proofs.Common.{◌≡◌, ℕ, ◌+◌, ◌≤◌, Bool, true, false, cond, ◌&&◌, ◌||◌, List, [], ◌∷◌, length, refl, sym, ap₂, ◌∙◌, subst, inl, inr, arith}
use Rattle.std.specs.Prelude.{◌==◌, not, filter}
use Rattle.std.proofs.lemmas.Bool.{cases_Bool, eqb-true, eq-eqb}
use Rattle.esm_model.specs.declared.entry.Entry.{Entry}
use Rattle.esm_model.specs.declared.entry.Entry.TheVariants.{Came, Began, Ended, Gave, Tried, Closed, Replayed, Shut}
use Rattle.esm_model.specs.Entries.{holds}
use Rattle.esm_replay_model.specs.ReplaySetting.{ReplaySetting}
use Rattle.esm_replay_model.specs.Pieces.{ReplayPiece, piece, first_pieces}
use Rattle.esm_replay_model.specs.ReplayRun.{IsReplay}
use Rattle.esm_replay_model.specs.ReplayReport.{is_replayed, replayed_in, records_in, count_passing, replayed_count}
use Rattle.esm_replay_model.specs.ReplayLaws.{CountsAddUp}
use Rattle.esm_replay_model.proofs.Counting.{times, in_piece, in_pieces, in_piece-own, first_once}
use Rattle.esm_replay_model.proofs.Runs.{replayed_times, in_piece-some, keeps}

-- so each record at most once

replayed_at_most : (s : ReplaySetting) (h : List Entry) (n i : ℕ) → IsReplay s h → replayed_times h n i ≤ 1
replayed_at_most s h n i run =
    let spent = (keeps s h run).spent n i in
    let once = (first_once s n i).once in
    omega (arith, spent, once)

abbrev one_if : Bool → ℕ
one_if b = cond b 1 0

-- as often as the history says that it is replayed

by_entry : (own before : Bool) (here times : ℕ) → (own ≡ true → 1 ≤ here) → (own ≡ false → here ≡ 0) → one_if before ≡ times → here + times ≤ 1 → one_if (own || before) ≡ here + times
by_entry true before here times some none is most = (let one = some refl in omega (arith, one, most))
by_entry false before here times some none is most = (let zero = none refl in omega (arith, zero, is))

not_in : (places : List ℕ) (i : ℕ) → holds places i ≡ false → times places i ≡ 0
not_in [] i is = refl
not_in (x ∷ places) i is = elim (cases_Bool (x == i)) [
  | inl same ↦ (let clash = rw same at is in absurd (cc))
  | inr other ↦ (let rest : holds places i ≡ false = rw other at is in let none = not_in places i rest in rw other (omega (arith, none)))
]

own_none : (m : ℕ) (places : List ℕ) (n i : ℕ) → ((m == n) && holds places i) ≡ false → in_piece (piece m places) n i ≡ 0
own_none m places n i is = elim (cases_Bool (m == n)) [
  | inl same ↦ (let rest : holds places i ≡ false = rw same at is in rw same (not_in places i rest))
  | inr other ↦ rw other refl
]

replayed_as : (s : ReplaySetting) (h : List Entry) (n i : ℕ) → IsReplay s h → one_if (is_replayed h n i) ≡ replayed_times h n i
replayed_as s [] n i run = refl
replayed_as s (Replayed shard places m ∷ h) n i run =
    by_entry ((shard == n) && holds places i) (is_replayed h n i) (in_piece (piece shard places) n i) (replayed_times h n i) (in_piece-some shard places n i) (own_none shard places n i) (replayed_as s h n i run.0)
    (replayed_at_most s (Replayed shard places m ∷ h) n i run)
replayed_as s (Began lane places closing m ∷ h) n i run = replayed_as s h n i run.0
replayed_as s (Ended lane reply m ∷ h) n i run = replayed_as s h n i run.0
replayed_as s (Came shard first count m ∷ h) n i run = replayed_as s h n i run.0
replayed_as s (Gave by shard places f line state m ∷ h) n i run = replayed_as s h n i run.0
replayed_as s (Tried lane places closing tries m ∷ h) n i run = replayed_as s h n i run.0
replayed_as s (Closed lane window m ∷ h) n i run = replayed_as s h n i run.0
replayed_as s (Shut m ∷ h) n i run = replayed_as s h n i run.0

-- sums over the records of pieces

abbrev sum_over : (ℕ → ℕ) → List ℕ → ℕ
sum_over f [] = 0
sum_over f (x ∷ xs) = f x + sum_over f xs

abbrev sum_of : (ℕ → ℕ → ℕ) → List ReplayPiece → ℕ
sum_of f [] = 0
sum_of f (p ∷ others) = sum_over (f p.shard) p.places + sum_of f others

over_same : (f g : ℕ → ℕ) (xs : List ℕ) → ((x : ℕ) → f x ≡ g x) → sum_over f xs ≡ sum_over g xs
over_same f g [] same = refl
over_same f g (x ∷ xs) same = ap₂ (λ (a b : ℕ). a + b) (same x) (over_same f g xs same)

of_same : (f g : ℕ → ℕ → ℕ) (ps : List ReplayPiece) → ((n x : ℕ) → f n x ≡ g n x) → sum_of f ps ≡ sum_of g ps
of_same f g [] same = refl
of_same f g (p ∷ others) same = ap₂ (λ (a b : ℕ). a + b) (over_same (f p.shard) (g p.shard) p.places (same p.shard)) (of_same f g others same)

over_both : (f g : ℕ → ℕ) (xs : List ℕ) → sum_over (λ x. f x + g x) xs ≡ sum_over f xs + sum_over g xs
over_both f g [] = refl
over_both f g (x ∷ xs) = (let rest = over_both f g xs in omega (arith, rest))

of_both : (f g : ℕ → ℕ → ℕ) (ps : List ReplayPiece) → sum_of (λ n x. f n x + g n x) ps ≡ sum_of f ps + sum_of g ps
of_both f g [] = refl
of_both f g (p ∷ others) =
    let here = over_both (f p.shard) (g p.shard) p.places in
    let rest = of_both f g others in
    omega (arith, here, rest)

over_none : (xs : List ℕ) → sum_over (λ x. 0) xs ≡ 0
over_none [] = refl
over_none (x ∷ xs) = (let rest = over_none xs in omega (arith, rest))

of_none : (ps : List ReplayPiece) → sum_of (λ n x. 0) ps ≡ 0
of_none [] = refl
of_none (p ∷ others) = (let here = over_none p.places in let rest = of_none others in omega (arith, here, rest))

-- those that pass
passing_over : (q : ℕ → Bool) (xs : List ℕ) → length (filter q xs) ≡ sum_over (λ x. one_if (q x)) xs
passing_over q [] = refl
passing_over q (x ∷ xs) =
    let rest = passing_over q xs in
    elim (cases_Bool (q x)) [ inl is ↦ rw is (omega (arith, rest)) | inr fails ↦ rw fails (omega (arith, rest)) ]

passing_of : (q : ℕ → ℕ → Bool) (ps : List ReplayPiece) → count_passing q ps ≡ sum_of (λ n x. one_if (q n x)) ps
passing_of q [] = refl
passing_of q (p ∷ others) = ap₂ (λ (a b : ℕ). a + b) (passing_over (q p.shard) p.places) (passing_of q others)

-- one record is found as often as it stands there

same_either : (a b : ℕ) → (a == b) ≡ (b == a)
same_either a b = elim (cases_Bool (a == b)) [
  | inl is ↦ (let same = eqb-true a b is in is ∙ sym (subst (λ (x : ℕ). (b == x) ≡ true) (sym same) (eq-eqb b b refl)))
  | inr is ↦ elim (cases_Bool (b == a)) [
    | inl other ↦ (let same = eqb-true b a other in absurd (let here = eq-eqb a b (sym same) in cc))
    | inr other ↦ is ∙ sym other
  ]
]

abbrev one_at : ℕ → ℕ → ℕ → ℕ → ℕ
one_at m i n x = cond (m == n) (one_if (i == x)) 0

over_one : (i : ℕ) (xs : List ℕ) → sum_over (λ x. one_if (i == x)) xs ≡ times xs i
over_one i [] = refl
over_one i (x ∷ xs) = ap₂ (λ (b : Bool) (rest : ℕ). one_if b + rest) (same_either i x) (over_one i xs)

piece_one : (m i : ℕ) (p : ReplayPiece) → sum_over (λ x. one_at m i p.shard x) p.places ≡ in_piece p m i
piece_one m i p = elim (cases_Bool (m == p.shard)) [
  | inl is ↦ (let other : (p.shard == m) ≡ true = sym (same_either m p.shard) ∙ is in rw (is, other) (over_one i p.places))
  | inr is ↦ (let other : (p.shard == m) ≡ false = sym (same_either m p.shard) ∙ is in rw (is, other) (over_none p.places))
]

of_one : (m i : ℕ) (ps : List ReplayPiece) → sum_of (one_at m i) ps ≡ in_pieces ps m i
of_one m i [] = refl
of_one m i (p ∷ others) = ap₂ (λ (a b : ℕ). a + b) (piece_one m i p) (of_one m i others)

-- and records of a shard together
added_one : (m i : ℕ) (places : List ℕ) (n x : ℕ) → in_piece (piece m (i ∷ places)) n x ≡ one_at m i n x + in_piece (piece m places) n x
added_one m i places n x = elim (cases_Bool (m == n)) [ inl is ↦ rw is refl | inr is ↦ rw is refl ]

of_piece : (m : ℕ) (places : List ℕ) (ps : List ReplayPiece) → sum_of (λ n x. in_piece (piece m places) n x) ps ≡ sum_over (λ i. in_pieces ps m i) places
of_piece m [] ps = of_same (λ n x. in_piece (piece m []) n x) (λ n x. 0) ps (λ n x. elim (cases_Bool (m == n)) [ inl is ↦ rw is refl | inr is ↦ rw is refl ]) ∙ of_none ps
of_piece m (i ∷ places) ps =
    of_same (λ n x. in_piece (piece m (i ∷ places)) n x) (λ n x. one_at m i n x + in_piece (piece m places) n x) ps (added_one m i places)
    ∙ (of_both (one_at m i) (λ n x. in_piece (piece m places) n x) ps
    ∙ ap₂ (λ (a b : ℕ). a + b) (of_one m i ps) (of_piece m places ps))

-- each of them stands there once
all_once : (f : ℕ → ℕ) (places : List ℕ) → ((i : ℕ) → 1 ≤ times places i → f i ≡ 1) → sum_over f places ≡ length places
all_once f [] once = refl
all_once f (i ∷ places) once =
    let here : f i ≡ 1 = once i (rw (eq-eqb i i refl) (omega arith)) in
    let rest = all_once f places (λ j some. once j (omega (arith, some))) in
    omega (arith, here, rest)

-- of a history

replayed_sum : (s : ReplaySetting) (h : List Entry) → IsReplay s h → sum_of (λ n x. replayed_times h n x) (first_pieces s) ≡ replayed_in h
replayed_sum s [] run = of_none (first_pieces s)
replayed_sum s (Replayed shard places m ∷ h) run =
    let first = first_pieces s in
    of_both (λ n x. in_piece (piece shard places) n x) (λ n x. replayed_times h n x) first
    ∙ ap₂ (λ (a b : ℕ). a + b)
    (of_piece shard places first
    ∙ all_once (λ i. in_pieces first shard i) places (λ i some.
    (let spent = (keeps s (Replayed shard places m ∷ h) run).spent shard i in
    let once = (first_once s shard i).once in
    let own : in_piece (piece shard places) shard i ≡ times places i = in_piece-own shard places i in
    omega (arith, spent, once, own, some))))
    (replayed_sum s h run.0)
replayed_sum s (Began lane places closing m ∷ h) run = replayed_sum s h run.0
replayed_sum s (Ended lane reply m ∷ h) run = replayed_sum s h run.0
replayed_sum s (Came shard first count m ∷ h) run = replayed_sum s h run.0
replayed_sum s (Gave by shard places f line state m ∷ h) run = replayed_sum s h run.0
replayed_sum s (Tried lane places closing tries m ∷ h) run = replayed_sum s h run.0
replayed_sum s (Closed lane window m ∷ h) run = replayed_sum s h run.0
replayed_sum s (Shut m ∷ h) run = replayed_sum s h run.0

replayed_is : (s : ReplaySetting) (h : List Entry) → IsReplay s h → replayed_in h ≡ replayed_count s h
replayed_is s h run =
    sym (passing_of (λ n i. is_replayed h n i) (first_pieces s)
    ∙ (of_same (λ n x. one_if (is_replayed h n x)) (λ n x. replayed_times h n x) (first_pieces s) (λ n x. replayed_as s h n x run)
    ∙ replayed_sum s h run))

-- the others

over_parts : (q : ℕ → Bool) (xs : List ℕ) → length (filter q xs) + length (filter (λ x. not (q x)) xs) ≡ length xs
over_parts q [] = refl
over_parts q (x ∷ xs) =
    let rest = over_parts q xs in
    elim (cases_Bool (q x)) [ inl is ↦ rw is (omega (arith, rest)) | inr fails ↦ rw fails (omega (arith, rest)) ]

parts_of : (q : ℕ → ℕ → Bool) (ps : List ReplayPiece) → count_passing q ps + count_passing (λ n i. not (q n i)) ps ≡ records_in ps
parts_of q [] = refl
parts_of q (p ∷ others) =
    let here = over_parts (q p.shard) p.places in
    let rest = parts_of q others in
    omega (arith, here, rest)

pub add_up : (s : ReplaySetting) (h : List Entry) → IsReplay s h → CountsAddUp s h
add_up s h run = record {
  replayed = replayed_is s h run;
  all = parts_of (λ n i. is_replayed h n i) (first_pieces s);
}
