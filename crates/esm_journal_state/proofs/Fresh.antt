-- Places that rise, none of which was named before.
use Rattle.std.proofs.Common.{◌≡◌, ℕ, suc, ◌-◌, ◌≤◌, ◌||◌, Bool, true, false, List, [], ◌∷◌, length, get_or, None, refl, sym, ap, subst, ◌∙◌, arith, inl, inr}
use Rattle.std.specs.Prelude.{is_some, nat_le}
use Rattle.std.specs.Option.{option_or}
use Rattle.std.specs.List.{AllByRecursion}
use Rattle.std.specs.Ordering.{nat_cmp, is_gt, ordering_then}
use Rattle.std.specs.declared.cmp.Ordering.TheVariants.{Equal}
use Rattle.std.specs.Map.{lookup}
use Rattle.std.proofs.lemmas.Bool.{and_parts, leb-true, cases_order, eq-eqb, lt-ltb, le-ltb}
use Rattle.esm_journal_record.specs.Payload.{rises_from, rises}
use Rattle.esm_journal_state.specs.SaidLists.{pair_cmp}
use Rattle.esm_journal_state.specs.Meaning.{Known, any_named, is_spent, differs, fate_text, tries_text}

-- order of places of one shard

pub same_number : (n : ℕ) → nat_cmp n n ≡ Equal
same_number n = rw (le-ltb n n (omega arith), eq-eqb n n refl) refl

not_above : (i j : ℕ) → i ≤ j → is_gt (nat_cmp i j) ≡ false
not_above i j le =
    elim (cases_order i j) [
      | inl same ↦ rw (le-ltb i j (omega (arith, same)), eq-eqb i j same) refl
      | inr apart ↦ (elim apart [
        | inl below ↦ rw (lt-ltb i j below) refl
        | inr above ↦ absurd (omega (arith, le, above))
      ])
    ]

pub in_shard : (n i j : ℕ) → i ≤ j → is_gt (pair_cmp (n, i) (n, j)) ≡ false
in_shard n i j le = ap (λ o. is_gt (ordering_then o (nat_cmp i j))) (same_number n) ∙ not_above i j le

-- the greatest of numbers that rise is the last

-- each of the numbers is from low to high
abbrev pub AreBetween : ℕ → ℕ → List ℕ → Type 0
AreBetween low high ns = AllByRecursion (λ n. (low ≤ n) × (n ≤ high)) ns

rising_between : (low next n : ℕ) (ns : List ℕ) → low ≤ next → rises_from next (n ∷ ns) ≡ true
    → (low ≤ n) × (n ≤ get_or (n ∷ ns) (length ns) 0) × AreBetween low (get_or (n ∷ ns) (length ns) 0) ns
rising_between low next n [] le rising =
    let parts = and_parts (nat_le next n) true rising in
    (omega (arith, le, leb-true next n parts.0), omega arith, tt)
rising_between low next n (m ∷ ns) le rising =
    let parts = and_parts (nat_le next n) (rises_from (suc n) (m ∷ ns)) rising in
    let here : next ≤ n = leb-true next n parts.0 in
    let above : suc n ≤ m = leb-true (suc n) m (and_parts (nat_le (suc n) m) (rises_from (suc m) ns) parts.1).0 in
    let rest = rising_between low (suc n) m ns (omega (arith, le, here)) parts.1 in
    (omega (arith, le, here), omega (arith, above, rest.1), ((rest.0, rest.1), rest.2))

-- from the first
pub bounds : (n : ℕ) (ns : List ℕ) → rises (n ∷ ns) ≡ true → AreBetween n (get_or (n ∷ ns) (length ns) 0) (n ∷ ns)
bounds n [] rising = ((omega arith, omega arith), tt)
bounds n (m ∷ ns) rising =
    let after = (and_parts (nat_le 0 n) (rises_from (suc n) (m ∷ ns)) rising).1 in
    let rest = rising_between n (suc n) m ns (omega arith) after in
    ((omega arith, omega (arith, rest.0, rest.1)), ((rest.0, rest.1), rest.2))

pub last_place : (n : ℕ) (ns : List ℕ) → length (n ∷ ns) - 1 ≡ length ns
last_place n ns = omega arith

pub first_to_last : (places : List ℕ) → 2 ≤ length places → rises places ≡ true → get_or places 0 0 ≤ get_or places (length places - 1) 0
first_to_last [] many rising = absurd (omega (arith, many))
first_to_last (n ∷ ns) many rising =
    let last = rising_between 0 0 n ns (omega arith) rising in
    subst (λ k. n ≤ get_or (n ∷ ns) k 0) (sym (last_place n ns)) last.1

-- maps

pub empty_lookup : {K X : Type 0} (test : K → Bool) (es : List (K × X)) → length es ≡ 0 → lookup test es ≡ None
empty_lookup test [] none = refl
empty_lookup test (e ∷ es) none = absurd (omega (arith, none))

-- tests

unspent : (k : Known) (shard : ℕ) (low high : ℕ) (places : List ℕ) (texts : List (List ℕ)) → AreBetween low high places
    → ((i : ℕ) → low ≤ i → i ≤ high → k.fates shard i ≡ None) → ((i : ℕ) → k.tries shard i ≡ None) → any_named (is_spent k shard) places texts ≡ false
unspent k shard low high [] texts within fates tries = refl
unspent k shard low high (place ∷ places) [] within fates tries = refl
unspent k shard low high (place ∷ places) (text ∷ texts) within fates tries =
    let here : is_spent k shard place text ≡ false =
    ap (λ o. is_some o || differs (option_or (fate_text o) (tries_text (k.tries shard place))) text) (fates place within.0.0 within.0.1)
    ∙ ap (λ o. differs (tries_text o) text) (tries place) in
    ap (λ b. b || any_named (is_spent k shard) places texts) here ∙ unspent k shard low high places texts within.1 fates tries

-- no fate from the first place to the last, and no tries
pub none_spent : (k : Known) (shard : ℕ) (places : List ℕ) (texts : List (List ℕ)) → 2 ≤ length places → rises places ≡ true
    → ((i : ℕ) → get_or places 0 0 ≤ i → i ≤ get_or places (length places - 1) 0 → k.fates shard i ≡ None) → ((i : ℕ) → k.tries shard i ≡ None)
    → any_named (is_spent k shard) places texts ≡ false
none_spent k shard [] texts many rising fates tries = refl
none_spent k shard (n ∷ ns) texts many rising fates tries =
    let high = get_or (n ∷ ns) (length ns) 0 in
    let within : AreBetween n high (n ∷ ns) = bounds n ns rising in
    unspent k shard n high (n ∷ ns) texts within (subst (λ j. (i : ℕ) → n ≤ i → i ≤ get_or (n ∷ ns) j 0 → k.fates shard i ≡ None) (last_place n ns) fates) tries
