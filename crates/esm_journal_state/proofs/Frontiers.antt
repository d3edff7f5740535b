-- Numbers of shards that one pass over the fates finds, in the order of the fates.
use Rattle.std.proofs.Common.{◌≡◌, ◌≢◌, ℕ, ◌+◌, ◌<◌, ◌^◌, ◌&&◌, Bool, true, false, cond, eqb, List, [], ◌∷◌, length, Option, Some, None, refl, sym, ap, subst, ◌∙◌, arith, inl, inr}
use Rattle.std.specs.Prelude.{map, is_some, unwrap_or}
use Rattle.std.specs.List.{list_any, AllByRecursion}
use Rattle.std.specs.List.Sorted.{IsStrictlySortedBy}
use Rattle.std.specs.declared.cmp.Ordering.{Ordering}
use Rattle.std.specs.declared.cmp.Ordering.TheVariants.{Less, Equal, Greater}
use Rattle.std.specs.Ordering.{nat_cmp, is_eq, ordering_then}
use Rattle.std.specs.Map.{lookup, keys_of}
use Rattle.std.specs.BTreeMap.{is_at}
use Rattle.std.proofs.lemmas.Bool.{cases_eq, cases_Bool, eq-eqb, ne_eqb, le-ltb, and_parts, and_left, and_right, or_left, or_right}
use Rattle.std.proofs.lemmas.List.{length-map}
use Rattle.std.proofs.lemmas.Map.Keys.{sorted_head, sorted_tail}
use Rattle.std.proofs.lemmas.Map.Lookups.{exact_pairs, exact_unsigned}
use Rattle.std.proofs.lemmas.Map.Steps.{le-length_from_below}
use Rattle.esm_journal_state.specs.declared.kept.KeptFate.{KeptFate}
use Rattle.esm_journal_state.specs.SaidLists.{pair_cmp}
use Rattle.esm_journal_state.proofs.Pairs.{is_eq-nat, same_pair}
use Rattle.esm_journal_state.proofs.Finding.{at_pair, eqb-flip}

-- the number at hand

counted_once : (b : Bool) (number : ℕ) (old : Option ℕ) → unwrap_or (cond b (Some number) old) 0 ≡ cond b number (unwrap_or old 0)
counted_once true number old = refl
counted_once false number old = refl

-- the numbers by shard, after one was put
pub count_updated : (shard n number : ℕ) (old new : Option ℕ) → new ≡ cond (is_eq (nat_cmp shard n)) (Some number) old → unwrap_or new 0 ≡ cond (eqb shard n) number (unwrap_or old 0)
count_updated shard n number old new e =
    ap (λ o. unwrap_or o 0) (e ∙ ap (λ b. cond b (Some number) old) (is_eq-nat shard n)) ∙ counted_once (eqb shard n) number old

raise_at : (b : Bool) (number other : ℕ) → cond b (number + 1) other ≡ cond b (number + 1) (cond b number other)
raise_at true number other = refl
raise_at false number other = refl

-- the number at hand is one more, which no other shard's is
pub raised : (shard at number other n before : ℕ) → at ≡ shard → before ≡ cond (eqb at n) number other → cond (eqb at n) (number + 1) other ≡ cond (eqb shard n) (number + 1) before
raised shard at number other n before same was =
    raise_at (eqb at n) number other ∙ ap (λ x. cond (eqb at n) (number + 1) x) (sym was) ∙ ap (λ s. cond (eqb s n) (number + 1) before) same

-- and that of its shard
pub at_hand : (shard at number other before : ℕ) → at ≡ shard → before ≡ cond (eqb at shard) number other → number ≡ before
at_hand shard at number other before same was = sym (was ∙ ap (λ b. cond b number other) (eq-eqb at shard same))

-- places in a row

key_listed : (es : List ((ℕ × ℕ) × KeptFate)) (n q : ℕ) → is_some (lookup (is_at (pair_cmp (n, q))) es) ≡ true → list_any (eqb q) (map (λ e. e.0.1) es) ≡ true
key_listed [] n q found = absurd cc
key_listed (e ∷ es) n q found =
    elim (cases_Bool (is_eq (pair_cmp (n, q) e.0))) [
      | inl here ↦
          (let both : (eqb e.0.0 n && eqb e.0.1 q) ≡ true = at_pair n q e.0.0 e.0.1 ∙ here in
          or_left (eqb q e.0.1) (list_any (eqb q) (map (λ e. e.0.1) es)) (eqb-flip q e.0.1 ∙ (and_parts (eqb e.0.0 n) (eqb e.0.1 q) both).1))
      | inr apart ↦
          (let others : is_some (lookup (is_at (pair_cmp (n, q))) es) ≡ true = sym (ap (λ b. is_some (cond b (Some e.1) (lookup (is_at (pair_cmp (n, q))) es))) apart) ∙ found in
          or_right (eqb q e.0.1) (list_any (eqb q) (map (λ e. e.0.1) es)) (key_listed es n q others))
    ]

-- as many places from 0 that all have a fate are not more than the fates
pub front_small : (es : List ((ℕ × ℕ) × KeptFate)) (n place : ℕ) → length es < 2 ^ 32 → ((i : ℕ) → i < place → is_some (lookup (is_at (pair_cmp (n, i))) es) ≡ true)
    → is_some (lookup (is_at (pair_cmp (n, place))) es) ≡ true → place + 1 < 2 ^ 32
front_small es n place few below here =
    let all : (q : ℕ) → q < place + 1 → is_some (lookup (is_at (pair_cmp (n, q))) es) ≡ true =
    λ q lt. elim (cases_eq q place) [ inl same ↦ rw same here | inr apart ↦ below q (omega arith) ] in
    let listed : (q : ℕ) → q < place + 1 → list_any (eqb q) (map (λ e. e.0.1) es) ≡ true = λ q lt. key_listed es n q (all q lt) in
    omega (arith, le-length_from_below (map (λ e. e.0.1) es) (place + 1) listed, length-map es (λ e. e.0.1), few)

-- the map has the key
abbrev pub has : List ((ℕ × ℕ) × KeptFate) → ℕ × ℕ → Bool
has es q = is_some (lookup (is_at (pair_cmp q)) es)

-- what is left of fates in order: those that are not left stand below all that are
pub record AreLeft (fates left : List ((ℕ × ℕ) × KeptFate)) : Type 0 where
  pub sorted : IsStrictlySortedBy pair_cmp (keys_of left)
  pub among : (q : ℕ × ℕ) → has left q ≡ true → has fates q ≡ true
  pub passed : (q : ℕ × ℕ) → has fates q ≡ true → has left q ≡ false → AllByRecursion (λ y. pair_cmp q y ≡ Less) (keys_of left)

equal_from : (o : Ordering) → is_eq o ≡ true → o ≡ Equal
equal_from Less e = absurd cc
equal_from Equal e = refl
equal_from Greater e = absurd cc

same_key : (q k : ℕ × ℕ) → is_eq (pair_cmp q k) ≡ true → q ≡ k
same_key q k e = exact_pairs nat_cmp nat_cmp exact_unsigned exact_unsigned q k (equal_from (pair_cmp q k) e)

some_either : {A : Type 0} (b : Bool) (x : A) (o : Option A) → is_some o ≡ true → is_some (cond b (Some x) o) ≡ true
some_either true x o found = refl
some_either false x o found = found

some_first : {A : Type 0} (b : Bool) (x : A) (o : Option A) → b ≡ true → is_some (cond b (Some x) o) ≡ true
some_first b x o e = ap (λ t. is_some (cond t (Some x) o)) e

-- a key that is not the first
past_first : (q k : ℕ × ℕ) (v : KeptFate) (rest : List ((ℕ × ℕ) × KeptFate)) → is_eq (pair_cmp q k) ≡ false → has ((k, v) ∷ rest) q ≡ has rest q
past_first q k v rest apart = ap (λ b. is_some (cond b (Some v) (lookup (is_at (pair_cmp q)) rest))) apart

left_more : (fates rest : List ((ℕ × ℕ) × KeptFate)) (k : ℕ × ℕ) (v : KeptFate) → AreLeft fates ((k, v) ∷ rest) → AreLeft fates rest
left_more fates rest k v was = record {
  sorted = sorted_tail pair_cmp k (keys_of rest) was.sorted;
  among = λ q found. was.among q (some_either (is_eq (pair_cmp q k)) v (lookup (is_at (pair_cmp q)) rest) found);
  passed = λ q here gone. elim (cases_Bool (is_eq (pair_cmp q k))) [
    | inl same ↦ subst (λ p. AllByRecursion (λ y. pair_cmp p y ≡ Less) (keys_of rest)) (sym (same_key q k same)) (sorted_head pair_cmp k (keys_of rest) was.sorted)
    | inr apart ↦ (was.passed q here (past_first q k v rest apart ∙ gone)).1
  ];
}

key_equal : (k : ℕ × ℕ) → is_eq (pair_cmp k k) ≡ true
key_equal k = same_pair k.0 k.1 k.0 k.1 ∙ ap (λ b. b && eqb k.1 k.1) (eq-eqb k.0 k.0 refl) ∙ eq-eqb k.1 k.1 refl

-- the next place of the shard is not below
place_above : (n i : ℕ) → pair_cmp (n, i + 1) (n, i) ≡ Greater
place_above n i =
    ap (λ o. ordering_then o (nat_cmp (i + 1) i)) (equal_from (nat_cmp n n) (is_eq-nat n n ∙ eq-eqb n n refl))
    ∙ ap (λ b. cond b Less (cond (eqb (i + 1) i) Equal Greater)) (le-ltb (i + 1) i (omega arith))
    ∙ ap (λ b. cond b Equal Greater) (ne_eqb (i + 1) i (λ e. omega (arith, e)))

-- where the first of those that are left has a place, and the fates have the next, that one is left too
next_left : (fates rest : List ((ℕ × ℕ) × KeptFate)) (k : ℕ × ℕ) (v : KeptFate) → AreLeft fates ((k, v) ∷ rest) → has fates (k.0, k.1 + 1) ≡ true → has rest (k.0, k.1 + 1) ≡ true
next_left fates rest k v was found =
    elim (cases_Bool (has rest (k.0, k.1 + 1))) [
      | inl there ↦ there
      | inr gone ↦
          (let apart : is_eq (pair_cmp (k.0, k.1 + 1) k) ≡ false = ap is_eq (place_above k.0 k.1) in
          let below : pair_cmp (k.0, k.1 + 1) k ≡ Less = (was.passed (k.0, k.1 + 1) found (past_first (k.0, k.1 + 1) k v rest apart ∙ gone)).0 in
          let bad : Greater ≡ Less = sym (place_above k.0 k.1) ∙ below in
          absurd cc)
    ]

-- of each shard the number of places from 0 on that have been passed in a row; the place after them is left, or has no fate
pub record AreFrontiers (fates left : List ((ℕ × ℕ) × KeptFate)) (frontier : ℕ → ℕ) : Type 0 where
  pub those : AreLeft fates left
  pub below : (n i : ℕ) → i < frontier n → has fates (n, i) ≡ true
  pub end : (n : ℕ) → has fates (n, frontier n) ≡ true → has left (n, frontier n) ≡ true

pub frontiers_start : (fates : List ((ℕ × ℕ) × KeptFate)) (frontier : ℕ → ℕ) → IsStrictlySortedBy pair_cmp (keys_of fates) → ((n : ℕ) → frontier n ≡ 0) → AreFrontiers fates fates frontier
frontiers_start fates frontier order none = record {
  those = record {
    sorted = order;
    among = λ q found. found;
    passed = λ q here gone. (let bad : true ≡ false = sym here ∙ gone in absurd cc);
  };
  below = λ n i lt. absurd (omega (arith, lt, none n));
  end = λ n found. found;
}

still_left : (k : ℕ × ℕ) (v : KeptFate) (rest : List ((ℕ × ℕ) × KeptFate)) (n i : ℕ) → (eqb k.0 n && eqb k.1 i) ≡ false → has ((k, v) ∷ rest) (n, i) ≡ true → has rest (n, i) ≡ true
still_left k v rest n i apart found = sym (past_first (n, i) k v rest (sym (at_pair n i k.0 k.1) ∙ apart)) ∙ found

-- one that does not follow those in a row
pub frontiers_passed : (fates rest : List ((ℕ × ℕ) × KeptFate)) (k : ℕ × ℕ) (v : KeptFate) (before after : ℕ → ℕ) → AreFrontiers fates ((k, v) ∷ rest) before → k.1 ≢ before k.0
    → ((n : ℕ) → after n ≡ before n) → AreFrontiers fates rest after
frontiers_passed fates rest k v before after was apart same = record {
  those = left_more fates rest k v was.those;
  below = λ n i lt. was.below n i (subst (λ f. i < f) (same n) lt);
  end = λ n found.
      let other : (eqb k.0 n && eqb k.1 (before n)) ≡ false =
      elim (cases_eq k.0 n) [
        | inl here ↦ and_right (eqb k.0 n) (eqb k.1 (before n)) (ne_eqb k.1 (before n) (λ e. apart (e ∙ ap before (sym here))))
        | inr there ↦ and_left (eqb k.0 n) (eqb k.1 (before n)) (ne_eqb k.0 n there)
      ] in
      subst (λ f. has rest (n, f) ≡ true) (sym (same n)) (still_left k v rest n (before n) other (was.end n (subst (λ f. has fates (n, f) ≡ true) (same n) found)));
}

first_here : (fates rest : List ((ℕ × ℕ) × KeptFate)) (k : ℕ × ℕ) (v : KeptFate) → AreLeft fates ((k, v) ∷ rest) → has fates k ≡ true
first_here fates rest k v was = was.among k (some_first (is_eq (pair_cmp k k)) v (lookup (is_at (pair_cmp k)) rest) (key_equal k))

-- one that follows them
pub frontiers_more : (fates rest : List ((ℕ × ℕ) × KeptFate)) (k : ℕ × ℕ) (v : KeptFate) (before after : ℕ → ℕ) → AreFrontiers fates ((k, v) ∷ rest) before → k.1 ≡ before k.0
    → ((n : ℕ) → after n ≡ cond (eqb k.0 n) (k.1 + 1) (before n)) → AreFrontiers fates rest after
frontiers_more fates rest k v before after was follows changed =
    let here : (n : ℕ) → k.0 ≡ n → after n ≡ k.1 + 1 = λ n same. changed n ∙ ap (λ b. cond b (k.1 + 1) (before n)) (eq-eqb k.0 n same) in
    let others : (n : ℕ) → k.0 ≢ n → after n ≡ before n = λ n apart. changed n ∙ ap (λ b. cond b (k.1 + 1) (before n)) (ne_eqb k.0 n apart) in
    record {
      those = left_more fates rest k v was.those;
      below = λ n i lt. elim (cases_eq k.0 n) [
        | inl same ↦
            (elim (cases_eq k.1 i) [
              | inl at ↦ subst (λ m. has fates (m, i) ≡ true) same (subst (λ j. has fates (k.0, j) ≡ true) at (first_here fates rest k v was.those))
              | inr apart ↦ subst (λ m. has fates (m, i) ≡ true) same (was.below k.0 i (omega (arith, lt, here n same, follows, apart)))
            ])
        | inr apart ↦ was.below n i (subst (λ f. i < f) (others n apart) lt)
      ];
      end = λ n found. elim (cases_eq k.0 n) [
        | inl same ↦
            (let there : has fates (k.0, k.1 + 1) ≡ true = subst (λ m. has fates (m, k.1 + 1) ≡ true) (sym same) (subst (λ f. has fates (n, f) ≡ true) (here n same) found) in
            let stays : has rest (n, k.1 + 1) ≡ true = subst (λ m. has rest (m, k.1 + 1) ≡ true) same (next_left fates rest k v was.those there) in
            subst (λ f. has rest (n, f) ≡ true) (sym (here n same)) stays)
        | inr apart ↦
            (let other : (eqb k.0 n && eqb k.1 (before n)) ≡ false = and_left (eqb k.0 n) (eqb k.1 (before n)) (ne_eqb k.0 n apart) in
            subst (λ f. has rest (n, f) ≡ true) (sym (others n apart)) (still_left k v rest n (before n) other (was.end n (subst (λ f. has fates (n, f) ≡ true) (others n apart) found))))
      ];
    }

-- places in a row are not more than the fates
pub frontier_fits : (fates left rest : List ((ℕ × ℕ) × KeptFate)) (k : ℕ × ℕ) (v : KeptFate) (before : ℕ → ℕ) → length fates < 2 ^ 32 → left ≡ (k, v) ∷ rest → AreFrontiers fates left before → k.1 ≡ before k.0
    → k.1 + 1 < 2 ^ 32
frontier_fits fates left rest k v before few e was follows =
    let now : AreFrontiers fates ((k, v) ∷ rest) before = subst (λ es. AreFrontiers fates es before) e was in
    front_small fates k.0 k.1 few (λ i lt. now.below k.0 i (subst (λ f. i < f) follows lt)) (first_here fates rest k v now.those)

none_left : {A : Type 0} (o : Option A) → (is_some o ≡ true → false ≡ true) → o ≡ None
none_left None bad = refl
none_left (Some x) bad = (let e : false ≡ true = bad refl in absurd cc)

pub frontiers_below : (fates : List ((ℕ × ℕ) × KeptFate)) (before after : ℕ → ℕ) → AreFrontiers fates [] before → ((n : ℕ) → after n ≡ before n) → (n i : ℕ) → i < after n → has fates (n, i) ≡ true
frontiers_below fates before after was same n i lt = was.below n i (subst (λ f. i < f) (same n) lt)

pub frontiers_end : (fates : List ((ℕ × ℕ) × KeptFate)) (before after : ℕ → ℕ) → AreFrontiers fates [] before → ((n : ℕ) → after n ≡ before n) → (n : ℕ) → lookup (is_at (pair_cmp (n, after n))) fates ≡ None
frontiers_end fates before after was same n =
    none_left (lookup (is_at (pair_cmp (n, after n))) fates) (λ found. was.end n (subst (λ f. has fates (n, f) ≡ true) (same n) found))
