-- Looking up entries that stand in the order of their keys: at a place where the key stands, and by binary search.
use Rattle.std.proofs.Common.{◌≡◌, ℕ, zero, suc, ◌≤◌, ◌<◌, true, List, [], ◌∷◌, length, get_or, Some, None, slice_get, refl, sym, ap, subst, ◌∙◌, arith}
use Rattle.std.specs.Prelude.{map, unwrap_or}
use Rattle.std.specs.List.{AllByRecursion}
use Rattle.std.specs.List.Sorted.{IsStrictlySortedBy, IsNonDecreasingBy, IsPartitionPoint}
use Rattle.std.specs.Ordering.{nat_cmp, is_eq, ordering_index, ordering_reverse, ordering_then}
use Rattle.std.specs.declared.cmp.Ordering.{Ordering}
use Rattle.std.specs.declared.cmp.Ordering.TheVariants.{Less, Equal, Greater}
use Rattle.std.specs.Map.{lookup, keys_of}
use Rattle.std.specs.BTreeMap.{is_at}
use Rattle.std.proofs.lemmas.Map.Entries.{lookup_head, lookup_tail, lookup_at_gap}
use Rattle.std.proofs.lemmas.Map.Keys.{sorted_head, sorted_tail}
use Rattle.std.proofs.lemmas.Option.{slice_get_within, get_or_from_slice_get}
use Rattle.esm_model.specs.declared.setup.FoundFate.{FoundFate}
use Rattle.esm_journal_state.specs.declared.kept.KeptFate.{KeptFate}
use Rattle.esm_journal_state.specs.SaidLists.{pair_cmp}
use Rattle.esm_journal_state.specs.View.{found_fate}
use Rattle.esm_journal_state.proofs.Determined.{pairs_total}
use Rattle.esm_journal_state.proofs.Finding.{keys-made}
use Rattle.esm_journal_state.proofs.Fresh.{same_number}

-- an entry
abbrev Row : Type 0
Row = (ℕ × ℕ) × KeptFate

-- the keys of the entries are those of the fates that are told
pub keys_in_order : (es : List Row) → IsStrictlySortedBy pair_cmp (map (λ (f : FoundFate). (f.shard, f.place)) (map found_fate es)) → IsStrictlySortedBy pair_cmp (keys_of es)
keys_in_order es order = subst (λ ks. IsStrictlySortedBy pair_cmp ks) (keys-made found_fate (λ (f : FoundFate). (f.shard, f.place)) (λ k. k.0) (λ k. refl) es) order

-- the key is that of the shard's place
pub at_place : (k : ℕ × ℕ) (n i : ℕ) → k.0 ≡ n → k.1 ≡ i → pair_cmp k (n, i) ≡ Equal
at_place k n i p q =
    ap (λ m. ordering_then (nat_cmp m n) (nat_cmp k.1 i)) p
    ∙ ap (λ o. ordering_then o (nat_cmp k.1 i)) (same_number n)
    ∙ ap (λ j. nat_cmp j i) q ∙ same_number i

-- what is below a key is below what is equal to it
below_equal : (x y q : ℕ × ℕ) → pair_cmp x y ≡ Less → pair_cmp y q ≡ Equal → pair_cmp x q ≡ Less
below_equal x y q less same =
    pairs_total.antisymm x q ∙ ap ordering_reverse (sym (pairs_total.congr y q x same)) ∙ sym (pairs_total.antisymm x y) ∙ less

-- a key of the entries behind one that is below them all
after : (k : ℕ × ℕ) (es : List Row) (i : ℕ) (e : Row) → AllByRecursion (λ y. pair_cmp k y ≡ Less) (keys_of es) → slice_get es i ≡ Some e → pair_cmp k e.0 ≡ Less
after k [] i e all got = absurd cc
after k (x ∷ es) zero e all got = ap (λ o. pair_cmp k (unwrap_or o x).0) (sym got) ∙ all.0
after k (x ∷ es) (suc i) e all got = after k es i e all.1 got

-- ---- where the key stands

pub found_at : (es : List Row) (q : ℕ × ℕ) (i : ℕ) (e : Row) → IsStrictlySortedBy pair_cmp (keys_of es) → slice_get es i ≡ Some e → pair_cmp e.0 q ≡ Equal → lookup (is_at (pair_cmp q)) es ≡ Some e.1
found_at [] q i e sorted got same = absurd cc
found_at (x ∷ es) q zero e sorted got same =
    let is : x ≡ e = ap (λ o. unwrap_or o x) got in
    let test : is_eq (pair_cmp q x.0) ≡ true = ap is_eq (pairs_total.antisymm q x.0 ∙ ap (λ (k : Row). ordering_reverse (pair_cmp k.0 q)) is ∙ ap ordering_reverse same) in
    lookup_head (is_at (pair_cmp q)) x es test ∙ ap (λ (k : Row). Some k.1) is
found_at (x ∷ es) q (suc i) e sorted got same =
    let less : pair_cmp x.0 q ≡ Less = below_equal x.0 e.0 q (after x.0 es i e (sorted_head pair_cmp x.0 (keys_of es) sorted) got) same in
    lookup_tail (is_at (pair_cmp q)) x es (ap is_eq (pairs_total.antisymm q x.0 ∙ ap ordering_reverse less))
    ∙ found_at es q i e (sorted_tail pair_cmp x.0 (keys_of es) sorted) got same

-- ---- by binary search

higher : (o p : Ordering) → (p ≡ Less → o ≡ Less) → (p ≡ Equal → o ≡ Less) → ordering_index o ≤ ordering_index p
higher o Less below same = rw (below refl) (omega arith)
higher o Equal below same = rw (same refl) (omega arith)
higher Less Greater below same = omega arith
higher Equal Greater below same = omega arith
higher Greater Greater below same = omega arith

ranks_rise : (x y q : ℕ × ℕ) → pair_cmp x y ≡ Less → ordering_index (pair_cmp x q) ≤ ordering_index (pair_cmp y q)
ranks_rise x y q less = higher (pair_cmp x q) (pair_cmp y q) (λ e. pairs_total.trans x y q less e) (λ e. below_equal x y q less e)

key_after : (k : ℕ × ℕ) (es : List Row) (i : ℕ) (d : Row) → AllByRecursion (λ y. pair_cmp k y ≡ Less) (keys_of es) → i < length es → pair_cmp k (get_or es i d).0 ≡ Less
key_after k [] i d all lt = absurd (omega (arith, lt))
key_after k (x ∷ es) zero d all lt = all.0
key_after k (x ∷ es) (suc i) d all lt = key_after k es i d all.1 (omega (arith, lt))

comparisons_rise : (es : List Row) (q : ℕ × ℕ) → IsStrictlySortedBy pair_cmp (keys_of es) → IsNonDecreasingBy (λ (e : Row). ordering_index (pair_cmp e.0 q)) es
comparisons_rise [] q sorted i j d le lt = absurd (omega (arith, lt))
comparisons_rise (x ∷ es) q sorted zero zero d le lt = omega arith
comparisons_rise (x ∷ es) q sorted zero (suc j) d le lt = ranks_rise x.0 (get_or es j d).0 q (key_after x.0 es j d (sorted_head pair_cmp x.0 (keys_of es) sorted) (omega (arith, lt)))
comparisons_rise (x ∷ es) q sorted (suc i) zero d le lt = absurd (omega (arith, le))
comparisons_rise (x ∷ es) q sorted (suc i) (suc j) d le lt = comparisons_rise es q (sorted_tail pair_cmp x.0 (keys_of es) sorted) i j d (omega (arith, le)) (omega (arith, lt))

-- the search found the key
pub searched : (es : List Row) (q : ℕ × ℕ) (i : ℕ) (e : Row) → IsStrictlySortedBy pair_cmp (keys_of es) → slice_get es i ≡ Some e → ((d : Row) → pair_cmp (get_or es i d).0 q ≡ Equal) → lookup (is_at (pair_cmp q)) es ≡ Some e.1
searched es q i e sorted got equal = found_at es q i e sorted got (sym (ap (λ (x : Row). pair_cmp x.0 q) (get_or_from_slice_get es i e e got)) ∙ equal e)

-- the search ended between the keys below and those above
pub not_searched : (es : List Row) (q : ℕ × ℕ) (i : ℕ) → IsStrictlySortedBy pair_cmp (keys_of es)
    → (IsNonDecreasingBy (λ (e : Row). ordering_index (pair_cmp e.0 q)) es → IsPartitionPoint (λ (e : Row). pair_cmp e.0 q ≡ Less) (λ (e : Row). pair_cmp e.0 q ≡ Greater) es i)
    → lookup (is_at (pair_cmp q)) es ≡ None
not_searched es q i sorted parts =
    let parted = parts (comparisons_rise es q sorted) in
    lookup_at_gap pairs_total q es i sorted
    (λ j e lt got. pairs_total.antisymm q e.0 ∙ ap ordering_reverse (sym (ap (λ (x : Row). pair_cmp x.0 q) (get_or_from_slice_get es j e e got)) ∙ parted.0 j e (omega arith) lt))
    (λ e got. pairs_total.antisymm q e.0 ∙ ap ordering_reverse (sym (ap (λ (x : Row). pair_cmp x.0 q) (get_or_from_slice_get es i e e got)) ∙ parted.1 i e (omega arith) (slice_get_within es i e got)))
