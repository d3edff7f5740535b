-- How many places have a moment, and the least of those after another.
use Rattle.std.proofs.Common.{◌≡◌, ℕ, zero, suc, ◌+◌, ◌<◌, ◌≤◌, min, Bool, true, false, not, cond, List, [], ◌∷◌, length, get_or, set, refl, sym, ap, ◌∙◌, subst, inl, inr, arith, Option, Some, None}
use Rattle.std.specs.Prelude.{◌==◌, ◌&&◌, ◌-◌, count_by, sum_by, filter, nat_lt, unwrap_or, IsSome, IfSome, IfNone}
use Rattle.std.specs.Ordering.{is_gt, nat_cmp}
use Rattle.std.specs.BTreeMap.{BTreeMap, get}
use Rattle.std.specs.Cmp.{nat_cmp_is}
use Rattle.std.proofs.lemmas.Map.Keys.{le_from_not_gt}
use Rattle.esm_queue.specs.declared.moment_tree.TheConstants.{NEVER}
use Rattle.esm_queue.specs.Moments.{is_set, is_after}
use Rattle.esm_queue.specs.Counted.{times, IsNextKey}
use Rattle.std.proofs.lemmas.List.{length-set}
use Rattle.std.proofs.lemmas.List.Sums.{sum_by-set, sum_by-append, count_by-le-length}
use Rattle.std.proofs.lemmas.Option.{none-some, same_Some}
use Rattle.std.proofs.lemmas.Bool.{cases_Bool, cases_eq, and_right, or_cases, or_left, or_right, eqb-true, eq-eqb, ne_eqb, both_ways, cond-true, cond-false, and_from, and_parts, lt-ltb, ltb-true, not_from_false}
use Rattle.esm_model.specs.Entries.{holds}
use Rattle.esm_queue_model.specs.Queue.{least, least_with}

-- one where the number is v
abbrev pub one_at : ℕ → ℕ → ℕ
one_at v x = cond (x == v) 1 0

pub count_cons : (v x : ℕ) (xs : List ℕ) → count_by (λ y. y == v) (x ∷ xs) ≡ one_at v x + count_by (λ y. y == v) xs
count_cons v x xs = let e = sum_by-append (one_at v) (x ∷ []) xs in omega (arith, e)

-- a number that is not at one place is not at all of them
pub count_room : (xs : List ℕ) (i v : ℕ) → i < length xs → (get_or xs i 0 ≡ v → ⊥) → count_by (λ y. y == v) xs < length xs
count_room xs i v within other =
    let e : sum_by (one_at v) (set xs i v) + one_at v (get_or xs i 0) ≡ sum_by (one_at v) xs + one_at v v = sum_by-set (one_at v) xs i v 0 within in
    let old : one_at v (get_or xs i 0) ≡ 0 = rw (ne_eqb (get_or xs i 0) v other) refl in
    let new : one_at v v ≡ 1 = rw (eq-eqb v v refl) refl in
    let most : count_by (λ y. y == v) (set xs i v) ≤ length (set xs i v) = count_by-le-length (λ y. y == v) (set xs i v) in
    let sized : length (set xs i v) ≡ length xs = length-set xs i v in
    omega (arith, e, old, new, most, sized)

-- how often numbers stand after one place has another

one_here : (v x : ℕ) → x ≡ v → one_at v x ≡ 1
one_here v x e = cond-true (x == v) 1 0 (eq-eqb x v e)

one_apart : (v x : ℕ) → (x ≡ v → ⊥) → one_at v x ≡ 0
one_apart v x ne = cond-false (x == v) 1 0 (ne_eqb x v ne)

-- one less of a number that is set
less_one : (v old a c : ℕ) → is_set v ≡ true → c ≡ cond (is_set old && (v == old)) (a - 1) a → c ≡ a - one_at v old
less_one v old a c set' is =
    elim (cases_eq v old) [
      | inl here ↦ (let one = one_here v old (sym here) in
          let both = and_from (is_set old) (v == old) (ap is_set (sym here) ∙ set') (eq-eqb v old here) in
          let e = is ∙ cond-true (is_set old && (v == old)) (a - 1) a both in omega arith)
      | inr apart ↦ (let none = one_apart v old (λ e. apart (sym e)) in
          let e = is ∙ cond-false (is_set old && (v == old)) (a - 1) a (and_right (is_set old) (v == old) (ne_eqb v old apart)) in omega arith)
    ]

more_one : (v m a b : ℕ) → is_set v ≡ true → b ≡ cond (is_set m && (v == m)) (a + 1) a → b ≡ a + one_at v m
more_one v m a b set' is =
    elim (cases_eq v m) [
      | inl here ↦ (let one = one_here v m (sym here) in
          let both = and_from (is_set m) (v == m) (ap is_set (sym here) ∙ set') (eq-eqb v m here) in
          let e = is ∙ cond-true (is_set m && (v == m)) (a + 1) a both in omega arith)
      | inr apart ↦ (let none = one_apart v m (λ e. apart (sym e)) in
          let e = is ∙ cond-false (is_set m && (v == m)) (a + 1) a (and_right (is_set m) (v == m) (ne_eqb v m apart)) in omega arith)
    ]

-- a number that is not set is not counted
none_less : (v old a c : ℕ) → a ≡ 0 → c ≡ cond (is_set old && (v == old)) (a - 1) a → c ≡ 0
none_less v old a c nothing is = elim (cases_Bool (is_set old && (v == old))) [
  | inl here ↦ (let e = is ∙ cond-true (is_set old && (v == old)) (a - 1) a here in omega arith)
  | inr apart ↦ (let e = is ∙ cond-false (is_set old && (v == old)) (a - 1) a apart in omega arith)
]

none_more : (v m a b : ℕ) → is_set v ≡ false → a ≡ 0 → b ≡ cond (is_set m && (v == m)) (a + 1) a → b ≡ 0
none_more v m a b blank nothing is = elim (cases_Bool (is_set m && (v == m))) [
  | inl here ↦ (let parts = and_parts (is_set m) (v == m) here in
      absurd (both_ways (is_set v) blank (ap is_set (eqb-true v m parts.1) ∙ parts.0)))
  | inr apart ↦ (let e = is ∙ cond-false (is_set m && (v == m)) (a + 1) a apart in omega arith)
]

-- the counts after one place has another number
pub counted_set : (old m p v a b c : ℕ) (xs ys : List ℕ) → p < length xs → old ≡ get_or xs p 0 → ys ≡ set xs p m → a ≡ cond (is_set v) (count_by (λ y. y == v) xs) 0 → b ≡ cond (is_set m && (v == m)) (a + 1) a → c ≡ cond (is_set old && (v == old)) (b - 1) b → c ≡ cond (is_set v) (count_by (λ y. y == v) ys) 0
counted_set old m p v a b c xs ys within is_old is was more less =
    elim (cases_Bool (is_set v)) [
      | inr blank ↦
          (let nothing : a ≡ 0 = was ∙ cond-false (is_set v) (count_by (λ y. y == v) xs) 0 blank in
          none_less v old b c (none_more v m a b blank nothing more) less ∙ sym (cond-false (is_set v) (count_by (λ y. y == v) ys) 0 blank))
      | inl set' ↦
          (let n : a ≡ count_by (λ y. y == v) xs = was ∙ cond-true (is_set v) (count_by (λ y. y == v) xs) 0 set' in
          let e1 = more_one v m a b set' more in
          let e2 = less_one v old b c set' less in
          let e : count_by (λ y. y == v) (set xs p m) + one_at v (get_or xs p 0) ≡ count_by (λ y. y == v) xs + one_at v m = sum_by-set (one_at v) xs p m 0 within in
          let e3 : one_at v (get_or xs p 0) ≡ one_at v old = ap (one_at v) (sym is_old) in
          let e4 : count_by (λ y. y == v) ys ≡ count_by (λ y. y == v) (set xs p m) = ap (λ zs. count_by (λ y. y == v) zs) is in
          let here : c ≡ count_by (λ y. y == v) ys = omega arith in
          here ∙ sym (cond-true (is_set v) (count_by (λ y. y == v) ys) 0 set'))
    ]

-- a number is counted where it stands in the list
pub count_holds : (xs : List ℕ) (v : ℕ) → 0 < count_by (λ y. y == v) xs → holds xs v ≡ true
count_holds [] v some = absurd (omega arith)
count_holds (x ∷ xs) v some =
    let e = count_cons v x xs in
    elim (cases_Bool (x == v)) [
      | inl is ↦ or_left (x == v) (holds xs v) is
      | inr other ↦ (let none : one_at v x ≡ 0 = rw other refl in or_right (x == v) (holds xs v) (count_holds xs v (omega arith)))
    ]

pub holds_count : (xs : List ℕ) (v : ℕ) → holds xs v ≡ true → 0 < count_by (λ y. y == v) xs
holds_count [] v h = absurd (both_ways false refl h)
holds_count (x ∷ xs) v h =
    let e = count_cons v x xs in
    elim (or_cases (x == v) (holds xs v) h) [
      | inl is ↦ (let one : one_at v x ≡ 1 = rw is refl in omega arith)
      | inr there ↦ (let rest = holds_count xs v there in omega arith)
    ]

-- members of what passes

pub filter_holds : (p : ℕ → Bool) (xs : List ℕ) (v : ℕ) → holds (filter p xs) v ≡ true → (holds xs v ≡ true) × (p v ≡ true)
filter_holds p [] v h = absurd (both_ways false refl h)
filter_holds p (x ∷ xs) v h =
    elim (cases_Bool (p x)) [
      | inl is ↦ elim (or_cases (x == v) (holds (filter p xs) v) (rw is at h)) [
        | inl here ↦ (or_left (x == v) (holds xs v) here, ap p (sym (eqb-true x v here)) ∙ is)
        | inr there ↦ (let rest = filter_holds p xs v there in (or_right (x == v) (holds xs v) rest.0, rest.1))
      ]
      | inr fails ↦ (let there : holds (filter p xs) v ≡ true = rw fails at h in let rest = filter_holds p xs v there in (or_right (x == v) (holds xs v) rest.0, rest.1))
    ]

pub holds_filter : (p : ℕ → Bool) (xs : List ℕ) (v : ℕ) → holds xs v ≡ true → p v ≡ true → holds (filter p xs) v ≡ true
holds_filter p [] v h passes = h
holds_filter p (x ∷ xs) v h passes =
    elim (or_cases (x == v) (holds xs v) h) [
      | inl here ↦ (let is : p x ≡ true = ap p (eqb-true x v here) ∙ passes in rw is (or_left (x == v) (holds (filter p xs) v) here))
      | inr there ↦ elim (cases_Bool (p x)) [
        | inl is ↦ rw is (or_right (x == v) (holds (filter p xs) v) (holds_filter p xs v there passes))
        | inr fails ↦ rw fails (holds_filter p xs v there passes)
      ]
    ]

-- the least

least_low : (xs : List ℕ) (k : ℕ) → holds xs k ≡ true → (n : ℕ) × (least xs ≡ Some n) × (n ≤ k)
least_low [] k h = absurd (both_ways false refl h)
least_low (x ∷ xs) k h =
    elim (or_cases (x == k) (holds xs k) h) [
      | inl here ↦ (let e = eqb-true x k here in (least_with x (least xs), refl, below_first x k (least xs) e))
      | inr there ↦ (let rest = least_low xs k there in (min x rest.0, ap (λ (o : Option ℕ). Some (least_with x o)) rest.1, (let l = rest.2 in omega arith)))
    ]
  where
    below_first : (x k : ℕ) (o : Option ℕ) → x ≡ k → least_with x o ≤ k
    below_first x k None e = omega arith
    below_first x k (Some n) e = omega arith

least_high : (xs : List ℕ) (k n : ℕ) → ((v : ℕ) → holds xs v ≡ true → k ≤ v) → least xs ≡ Some n → k ≤ n
least_high [] k n low is = absurd (none-some n is)
least_high (x ∷ xs) k n low is =
    let first : k ≤ x = low x (or_left (x == x) (holds xs x) (eq-eqb x x refl)) in
    let value : least_with x (least xs) ≡ n = same_Some (least_with x (least xs)) n is in
    above x k n (least xs) first (λ m e. least_high xs k m (λ v h. low v (or_right (x == v) (holds xs v) h)) e) refl value
  where
    above : (x k n : ℕ) (o : Option ℕ) → k ≤ x → ((m : ℕ) → least xs ≡ Some m → k ≤ m) → least xs ≡ o → least_with x o ≡ n → k ≤ n
    above x k n None first rest is value = omega arith
    above x k n (Some m) first rest is value = let r = rest m is in omega arith

pub least_is : (xs : List ℕ) (k : ℕ) → holds xs k ≡ true → ((v : ℕ) → holds xs v ≡ true → k ≤ v) → least xs ≡ Some k
least_is xs k here low =
    let found = least_low xs k here in
    let high : k ≤ found.0 = least_high xs k found.0 low found.1 in
    let below = found.2 in
    let same : found.0 ≡ k = omega arith in
    found.1 ∙ ap (λ n. Some n) same

pub least_none : (xs : List ℕ) → ((v : ℕ) → holds xs v ≡ true → ⊥) → least xs ≡ None
least_none [] none = refl
least_none (x ∷ xs) none = absurd (none x (or_left (x == x) (holds xs x) (eq-eqb x x refl)))

-- by the map of counts

pub le_not_gt : (a b : ℕ) → a ≤ b → is_gt (nat_cmp a b) ≡ false
le_not_gt a b le = grind (arith, nat_cmp_is)

pub not_gt_le : (a b : ℕ) → is_gt (nat_cmp a b) ≡ false → a ≤ b
not_gt_le a b h = le_from_not_gt a b h

-- the map's key is a moment after `at` that some place has
stands_after : (counts : BTreeMap ℕ ℕ) (moments : List ℕ) (at v : ℕ) → ((w : ℕ) → times counts w ≡ cond (is_set w) (count_by (λ y. y == w) moments) 0) → (get nat_cmp counts v ≡ Some 0 → ⊥) → at < v → IsSome (get nat_cmp counts v) → holds (filter (is_after at) moments) v ≡ true
stands_after counts moments at v counted some after has =
    let positive : 0 < times counts v = has_positive (get nat_cmp counts v) has some in
    elim (cases_Bool (is_set v)) [
      | inl is ↦
          (let n : times counts v ≡ count_by (λ y. y == v) moments = counted v ∙ cond-true (is_set v) (count_by (λ y. y == v) moments) 0 is in
          let here : holds moments v ≡ true = count_holds moments v (omega arith) in
          holds_filter (is_after at) moments v here (and_from (nat_lt at v) (nat_lt v NEVER) (lt-ltb at v after) (and_parts (not (v == 0)) (nat_lt v NEVER) is).1))
      | inr not' ↦ (let none : times counts v ≡ 0 = counted v ∙ cond-false (is_set v) (count_by (λ y. y == v) moments) 0 not' in absurd (omega arith))
    ]
  where
    has_positive : (o : Option ℕ) → IsSome o → (o ≡ Some 0 → ⊥) → 0 < unwrap_or o 0
    has_positive None has never = absurd (both_ways false refl has)
    has_positive (Some zero) has never = absurd (never refl)
    has_positive (Some (suc n)) has never = omega arith

-- and each such moment is a key, of some place
pub key_of : (counts : BTreeMap ℕ ℕ) (moments : List ℕ) (at v : ℕ) → ((w : ℕ) → times counts w ≡ cond (is_set w) (count_by (λ y. y == w) moments) 0) → holds (filter (is_after at) moments) v ≡ true → (at < v) × IsSome (get nat_cmp counts v) × (get nat_cmp counts v ≡ Some 0 → ⊥)
key_of counts moments at v counted member =
    let parts = filter_holds (is_after at) moments v member in
    let both = and_parts (nat_lt at v) (nat_lt v NEVER) parts.1 in
    let after : at < v = ltb-true at v both.0 in
    let nonzero : not (v == 0) ≡ true = not_from_false (v == 0) (ne_eqb v 0 (λ e. omega arith)) in
    let is : is_set v ≡ true = and_from (not (v == 0)) (nat_lt v NEVER) nonzero both.1 in
    let n : times counts v ≡ count_by (λ y. y == v) moments = counted v ∙ cond-true (is_set v) (count_by (λ y. y == v) moments) 0 is in
    let some = holds_count moments v parts.0 in
    let positive : 0 < times counts v = omega arith in
    (after, from_positive (get nat_cmp counts v) positive, not_zero (get nat_cmp counts v) positive)
  where
    from_positive : (o : Option ℕ) → 0 < unwrap_or o 0 → IsSome o
    from_positive None l = absurd (omega arith)
    from_positive (Some n) l = refl

    not_zero : (o : Option ℕ) → 0 < unwrap_or o 0 → o ≡ Some 0 → ⊥
    not_zero o l is = let e : unwrap_or o 0 ≡ 0 = ap (λ p. unwrap_or p 0) is in omega arith

missing : (o : Option ℕ) → o ≡ None → IsSome o → ⊥
missing o is has = both_ways false refl (subst (λ p. IsSome p) is has)

pub next_none : (counts : BTreeMap ℕ ℕ) (moments : List ℕ) (at : ℕ) → ((w : ℕ) → times counts w ≡ cond (is_set w) (count_by (λ y. y == w) moments) 0) → ((q : ℕ) → at < q → get nat_cmp counts q ≡ None) → None ≡ least (filter (is_after at) moments)
next_none counts moments at counted none =
    sym (least_none (filter (is_after at) moments) (λ v member.
    let key = key_of counts moments at v counted member in
    missing (get nat_cmp counts v) (none v key.0) key.1))

pub next_some : (counts : BTreeMap ℕ ℕ) (moments : List ℕ) (at k : ℕ) → ((w : ℕ) → times counts w ≡ cond (is_set w) (count_by (λ y. y == w) moments) 0) → (get nat_cmp counts k ≡ Some 0 → ⊥) → IsNextKey counts at k → Some k ≡ least (filter (is_after at) moments)
next_some counts moments at k counted some next =
    let here = stands_after counts moments at k counted some next.after next.has in
    sym (least_is (filter (is_after at) moments) k here (λ v member.
    let key = key_of counts moments at v counted member in
    next.low v key.0 key.1))

-- a moment of no place is passed over
pub next_past : (counts : BTreeMap ℕ ℕ) (moments : List ℕ) (at blank : ℕ) (r : Option ℕ) → ((w : ℕ) → times counts w ≡ cond (is_set w) (count_by (λ y. y == w) moments) 0) → ((w : ℕ) → get nat_cmp counts w ≡ Some 0 → w ≡ blank) → get nat_cmp counts blank ≡ Some 0 → IsNextKey counts at blank
    → IfNone r ((q : ℕ) → blank < q → get nat_cmp counts q ≡ None) → IfSome r (IsNextKey counts blank) → r ≡ least (filter (is_after at) moments)
next_past counts moments at blank None counted one blank_is first none some =
    sym (least_none (filter (is_after at) moments) (λ v member.
    let key = key_of counts moments at v counted member in
    let low : blank ≤ v = first.low v key.0 key.1 in
    let other : v ≡ blank → ⊥ = λ e. key.2 (ap (get nat_cmp counts) e ∙ blank_is) in
    missing (get nat_cmp counts v) (none v (omega arith)) key.1))
next_past counts moments at blank (Some k) counted one blank_is first none next =
    let after = first.after in
    let beyond = next.after in
    let here = stands_after counts moments at k counted (λ is. let e : k ≡ blank = one k is in omega arith) (omega arith) next.has in
    sym (least_is (filter (is_after at) moments) k here (λ v member.
    let key = key_of counts moments at v counted member in
    let low : blank ≤ v = first.low v key.0 key.1 in
    let other : v ≡ blank → ⊥ = λ e. key.2 (ap (get nat_cmp counts) e ∙ blank_is) in
    next.low v (omega arith) key.1))

-- the moment that is ready after a place has another one

pub still_some : (ready old v now : ℕ) → now ≡ cond (ready == old) 0 ready → v ≡ ready → ready < NEVER → (is_set old ≡ true → v ≡ old → ⊥) → v ≡ now
still_some ready old v now after is early gone =
    elim (cases_eq ready old) [
      | inl same ↦ elim (cases_eq v 0) [
        | inl nothing ↦ nothing ∙ sym (after ∙ cond-true (ready == old) 0 ready (eq-eqb ready old same))
        | inr nonzero ↦ absurd (gone (ap is_set (sym (is ∙ same)) ∙ and_from (not (v == 0)) (nat_lt v NEVER) (not_from_false (v == 0) (ne_eqb v 0 nonzero)) (lt-ltb v NEVER (omega arith))) (is ∙ same))
      ]
      | inr apart ↦ is ∙ sym (after ∙ cond-false (ready == old) 0 ready (ne_eqb ready old apart))
    ]

pub still_key : (counts : BTreeMap ℕ ℕ) (ready old now : ℕ) → now ≡ cond (ready == old) 0 ready → (is_set ready ≡ true → (ready ≡ old → ⊥) → IsSome (get nat_cmp counts ready)) → is_set now ≡ true → IsSome (get nat_cmp counts now)
still_key counts ready old now after key set' =
    elim (cases_eq ready old) [
      | inl same ↦ absurd (both_ways false refl (ap is_set (sym (after ∙ cond-true (ready == old) 0 ready (eq-eqb ready old same))) ∙ set'))
      | inr apart ↦
          (let e : now ≡ ready = after ∙ cond-false (ready == old) 0 ready (ne_eqb ready old apart) in
          subst (λ v. IsSome (get nat_cmp counts v)) (sym e) (key (ap is_set (sym e) ∙ set') apart))
    ]

pub still_early : (ready old now : ℕ) → now ≡ cond (ready == old) 0 ready → ready < NEVER → now < NEVER
still_early ready old now after early =
    elim (cases_Bool (ready == old)) [
      | inl same ↦ (let e = after ∙ cond-true (ready == old) 0 ready same in omega arith)
      | inr apart ↦ (let e = after ∙ cond-false (ready == old) 0 ready apart in omega arith)
    ]
