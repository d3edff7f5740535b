-- The index of the mappings: what it finds, and how it stays one when a mapping comes, goes or changes.
use Rattle.std.proofs.Common.{◌≡◌, ◌∙◌, ℕ, List, [], ◌∷◌, Bool, true, false, cond, map, Some, None, refl, sym, ap, subst, inl, inr}
use Rattle.std.specs.BTreeMap.{BTreeMap, get, is_at}
use Rattle.std.specs.Map.{lookup, values_of, keys_of}
use Rattle.std.specs.Ordering.{nat_cmp, is_eq}
use Rattle.std.specs.List.{All, AllByRecursion, IsDistinct}
use Rattle.std.specs.List.Sorted.{IsStrictlySortedBy}
use Rattle.std.specs.declared.cmp.Ordering.TheVariants.{Less}
use Rattle.std.specs.Str.{bytes_eq}
use Rattle.std.proofs.lemmas.Bool.{cases_Bool, both_ways, false_from_ne_true, cond-true, cond-false}
use Rattle.std.proofs.lemmas.Cmp.{nat_cmp_total, tied_itself, eq_by_cmp_equiv}
use Rattle.std.proofs.lemmas.Map.{lookup-none}
use Rattle.std.proofs.lemmas.Map.Entries.{none_past_head}
use Rattle.std.proofs.lemmas.Map.Keys.{IsDistinct-from_sorted, sorted_head, sorted_tail}
use Rattle.std.proofs.lemmas.List.Elements.{All-from_recursion}
use Rattle.std.proofs.lemmas.Slice.Eq.{bytes_eq-Decides}
use Rattle.esm_config.specs.Given.{IsGiven}
use Rattle.esm_registry.specs.declared.mapping.Mapping.{Mapping}
use Rattle.esm_registry.specs.Lists.{has_id, mapping_at}
use Rattle.esm_registry.specs.Places.{id_cmp, list_of, IsPlaced, ArePlaced, IsIndex}
use Rattle.esm_registry.proofs.ListFacts.{Agree, Once, find-values}

pub at_itself : (n : ℕ) → is_at (nat_cmp n) n ≡ true
at_itself n = ap is_eq (tied_itself nat_cmp_total n)

pub has_its_id : (id : List ℕ) (m : Mapping) → m.id ≡ id → has_id id m ≡ true
has_its_id id m same = (bytes_eq-Decides m.id id).1 same

-- keys in order: behind a key that passes there is no other
pub once_sorted : {X : Type 0} (place : ℕ) (es : List (ℕ × X)) → IsStrictlySortedBy nat_cmp (keys_of es) → Once (is_at (nat_cmp place)) es
once_sorted place [] sorted = tt
once_sorted place (e ∷ es) sorted = (
  (λ is. lookup-none (is_at (nat_cmp place)) es
      (none_past_head (eq_by_cmp_equiv nat_cmp_total) place e es (IsDistinct-from_sorted nat_cmp (keys_of (e ∷ es)) sorted) is)),
  once_sorted place es (sorted_tail nat_cmp e.0 (keys_of es) sorted),
)

-- a mapping with the UUID that the index leads to a place from stands at that place
at_place : (places : BTreeMap (List ℕ) ℕ) (id : List ℕ) (place next : ℕ) (e : ℕ × Mapping) → get id_cmp places id ≡ Some place
    → IsPlaced places next e.0 e.1 → has_id id e.1 ≡ true → is_at (nat_cmp place) e.0 ≡ true
at_place places id place next e there placed is =
    let same : e.1.id ≡ id = (bytes_eq-Decides e.1.id id).0 is in
    let its : get id_cmp places id ≡ Some e.0 = subst (λ i. get id_cmp places i ≡ Some e.0) same placed.found in
    let equal : e.0 ≡ place = cc in
    subst (λ k. is_at (nat_cmp k) e.0 ≡ true) equal (at_itself e.0)

past_head : {X : Type 0} (t : ℕ → Bool) (e : ℕ × X) (es : List (ℕ × X)) → cond (t e.0) (Some e.1) (lookup t es) ≡ None → t e.0 ≡ false
past_head t e es h = elim (t e.0) as (λ b. cond b (Some e.1) (lookup t es) ≡ None → b ≡ false) [ true ↦ λ is. cc | false ↦ λ is. refl ] h

past_tail : {X : Type 0} (t : ℕ → Bool) (e : ℕ × X) (es : List (ℕ × X)) → cond (t e.0) (Some e.1) (lookup t es) ≡ None → lookup t es ≡ None
past_tail t e es h = elim (t e.0) as (λ b. cond b (Some e.1) (lookup t es) ≡ None → lookup t es ≡ None) [ true ↦ λ is. cc | false ↦ λ is. is ] h

agree_past : (places : BTreeMap (List ℕ) ℕ) (id : List ℕ) (place next : ℕ) (es : List (ℕ × Mapping)) → get id_cmp places id ≡ Some place
    → ArePlaced places next es → lookup (is_at (nat_cmp place)) es ≡ None → Agree (has_id id) (is_at (nat_cmp place)) es
agree_past places id place next [] there placed none = tt
agree_past places id place next (e ∷ es) there placed none =
    let away : is_at (nat_cmp place) e.0 ≡ false = past_head (is_at (nat_cmp place)) e es none in
    let other : has_id id e.1 ≡ false =
    false_from_ne_true _ (λ is. both_ways _ away (at_place places id place next e there placed.0 is)) in
    (other ∙ sym away, agree_past places id place next es there placed.1 (past_tail (is_at (nat_cmp place)) e es none))

-- the UUID of the mapping at a place, and the place, are found together: the two tests agree on every entry
pub agree : (places : BTreeMap (List ℕ) ℕ) (id : List ℕ) (place next : ℕ) (m : Mapping) (es : List (ℕ × Mapping)) → get id_cmp places id ≡ Some place
    → ArePlaced places next es → Once (is_at (nat_cmp place)) es → lookup (is_at (nat_cmp place)) es ≡ Some m → m.id ≡ id
    → Agree (has_id id) (is_at (nat_cmp place)) es
agree places id place next m [] there placed once found its = tt
agree places id place next m (e ∷ es) there placed once found its =
    elim (cases_Bool (is_at (nat_cmp place) e.0)) [
      | inl is ↦
          let here : Some e.1 ≡ Some m = sym (cond-true (is_at (nat_cmp place) e.0) (Some e.1) (lookup (is_at (nat_cmp place)) es) is) ∙ found in
          let same : e.1 ≡ m = cc in
          (has_its_id id e.1 (ap (λ x. x.id) same ∙ its) ∙ sym is, agree_past places id place next es there placed.1 (once.0 is))
      | inr away ↦
          let other : has_id id e.1 ≡ false =
          false_from_ne_true _ (λ is. both_ways _ away (at_place places id place next e there placed.0 is)) in
          let later : lookup (is_at (nat_cmp place)) es ≡ Some m =
          sym (cond-false (is_at (nat_cmp place) e.0) (Some e.1) (lookup (is_at (nat_cmp place)) es) away) ∙ found in
          (other ∙ sym away, agree places id place next m es there placed.1 once.1 later its)
    ]

-- what the index leads to

pub agrees : (mappings : BTreeMap ℕ Mapping) (places : BTreeMap (List ℕ) ℕ) (next : ℕ) (id : List ℕ) (place : ℕ) → IsIndex mappings places next
    → get id_cmp places id ≡ Some place → Agree (has_id id) (is_at (nat_cmp place)) mappings.entries
agrees mappings places next id place index there =
    let h = index.found id place there in
    agree places id place next h.mapping mappings.entries there index.placed (once_sorted place mappings.entries index.ordered) h.there h.its_id

pub found_same : (mappings : BTreeMap ℕ Mapping) (places : BTreeMap (List ℕ) ℕ) (next : ℕ) (id : List ℕ) (place : ℕ) → IsIndex mappings places next
    → get id_cmp places id ≡ Some place → mapping_at id (list_of mappings) ≡ get nat_cmp mappings place
found_same mappings places next id place index there =
    find-values (has_id id) (is_at (nat_cmp place)) mappings.entries (agrees mappings places next id place index there)

pub found_none : (places : BTreeMap (List ℕ) ℕ) (next : ℕ) (id : List ℕ) (es : List (ℕ × Mapping)) → ArePlaced places next es
    → get id_cmp places id ≡ None → mapping_at id (values_of es) ≡ None
found_none places next id [] placed none = refl
found_none places next id (e ∷ es) placed none =
    let other : has_id id e.1 ≡ false = false_from_ne_true _ (λ is.
    let same : e.1.id ≡ id = (bytes_eq-Decides e.1.id id).0 is in
    let its : get id_cmp places id ≡ Some e.0 = subst (λ i. get id_cmp places i ≡ Some e.0) same placed.0.found in
    (cc)) in
    cond-false (has_id id e.1) (Some e.1) (mapping_at id (values_of es)) other ∙ found_none places next id es placed.1 none

-- no two mappings have one UUID

apart_from : (places : BTreeMap (List ℕ) ℕ) (next place : ℕ) (m : Mapping) (es : List (ℕ × Mapping)) → IsPlaced places next place m
    → ArePlaced places next es → AllByRecursion (λ k. nat_cmp place k ≡ Less) (keys_of es)
    → AllByRecursion (λ id. bytes_eq m.id id ≡ false) (map (λ x. x.id) (values_of es))
apart_from places next place m [] its placed above = tt
apart_from places next place m (e ∷ es) its placed above = (
  false_from_ne_true _ (λ is.
      let same : m.id ≡ e.1.id = (bytes_eq-Decides m.id e.1.id).0 is in
      let at : get id_cmp places e.1.id ≡ Some place = subst (λ i. get id_cmp places i ≡ Some place) same its.found in
      let also = placed.0.found in
      let equal : e.0 ≡ place = cc in
      let less : nat_cmp place place ≡ Less = subst (λ k. nat_cmp place k ≡ Less) equal above.0 in
      let tied = tied_itself nat_cmp_total place in
      (cc)),
  apart_from places next place m es its placed.1 above.1,
)

pub ids_distinct : (places : BTreeMap (List ℕ) ℕ) (next : ℕ) (es : List (ℕ × Mapping)) → ArePlaced places next es
    → IsStrictlySortedBy nat_cmp (keys_of es) → IsDistinct bytes_eq (map (λ x. x.id) (values_of es))
unfolding IsDistinct
ids_distinct places next [] placed sorted = tt
ids_distinct places next (e ∷ es) placed sorted = (
  apart_from places next e.0 e.1 es placed.0 placed.1 (sorted_head nat_cmp e.0 (keys_of es) sorted),
  ids_distinct places next es placed.1 (sorted_tail nat_cmp e.0 (keys_of es) sorted),
)

pub all_given : (places : BTreeMap (List ℕ) ℕ) (next : ℕ) (es : List (ℕ × Mapping)) → ArePlaced places next es → All (λ m. IsGiven m.config) (values_of es)
all_given places next es placed = All-from_recursion (λ m. IsGiven m.config) (values_of es) (go es placed)
  where
    go : (es : List (ℕ × Mapping)) → ArePlaced places next es → AllByRecursion (λ m. IsGiven m.config) (values_of es)
    go [] placed = tt
    go (e ∷ es) placed = (placed.0.given, go es placed.1)
