-- The index under changes that leave it as it was, and the counts of sources and functions in its list.
use Rattle.std.proofs.Common.{◌≡◌, ◌∙◌, ◌+◌, ℕ, List, [], ◌∷◌, Some, None, refl, sym, ap, subst, inl, inr}
use Rattle.std.specs.BTreeMap.{BTreeMap, get, is_at, UpdatesBy, Updates}
use Rattle.std.specs.Map.{lookup, keys_of}
use Rattle.std.specs.Ordering.{nat_cmp}
use Rattle.std.specs.List.Sorted.{IsStrictlySortedBy}
use Rattle.std.proofs.lemmas.Bool.{cases_Bool, cond-true, cond-false}
use Rattle.esm_registry.specs.declared.mapping.Mapping.{Mapping}
use Rattle.esm_registry.specs.Index.{Arns, arns_of, one_of, count_in}
use Rattle.esm_registry.specs.Lists.{has_id, mapping_at, without, replaced}
use Rattle.esm_registry.specs.Places.{id_cmp, list_of, ArePlaced, IsIndex}
use Rattle.esm_registry.proofs.Counting.{count_in-remove, count_in-set}
use Rattle.esm_registry.proofs.ListFacts.{without-values, replaced-values}
use Rattle.esm_registry.proofs.IndexFacts.{agrees, found_none, found_same, once_sorted}
use Rattle.esm_registry.proofs.IndexChanges.{id_same}

like_placed : (places places' : BTreeMap (List ℕ) ℕ) (next : ℕ) → ((q : List ℕ) → get id_cmp places' q ≡ get id_cmp places q)
    → (es : List (ℕ × Mapping)) → ArePlaced places next es → ArePlaced places' next es
like_placed places places' next moved [] placed = tt
like_placed places places' next moved (e ∷ es) placed = (
  record { found = moved e.1.id ∙ placed.0.found; below = placed.0.below; given = placed.0.given },
  like_placed places places' next moved es placed.1,
)

-- maps with the same entries, and the same places
pub index_like : (mappings mappings' : BTreeMap ℕ Mapping) (places places' : BTreeMap (List ℕ) ℕ) (next : ℕ) → IsIndex mappings places next
    → mappings'.entries ≡ mappings.entries → ((q : List ℕ) → get id_cmp places' q ≡ get id_cmp places q) → IsIndex mappings' places' next
index_like mappings mappings' places places' next index same moved = record {
  ordered = subst (λ (es : List (ℕ × Mapping)). IsStrictlySortedBy nat_cmp (keys_of es)) (sym same) index.ordered;
  placed = subst (ArePlaced places' next) (sym same) (like_placed places places' next moved mappings.entries index.placed);
  found = λ id place there.
      let h = index.found id place (sym (moved id) ∙ there) in
      record { mapping = h.mapping; there = ap (lookup (is_at (nat_cmp place))) same ∙ h.there; its_id = h.its_id };
}

-- the index leads nowhere from a UUID that no mapping has
pub absent : (mappings : BTreeMap ℕ Mapping) (places : BTreeMap (List ℕ) ℕ) (next : ℕ) (id : List ℕ) → IsIndex mappings places next
    → mapping_at id (list_of mappings) ≡ None → get id_cmp places id ≡ None
absent mappings places next id index none =
    elim (get id_cmp places id) as (λ o. get id_cmp places id ≡ o → o ≡ None) [
      | None ↦ λ e. refl
      | Some place ↦ λ e.
          let h = index.found id place e in
          let at : Some h.mapping ≡ None = sym h.there ∙ sym (found_same mappings places next id place index e) ∙ none in
          (cc)
    ] refl

-- a place that was noted and is taken away again
pub restored : (places with back : BTreeMap (List ℕ) ℕ) (id : List ℕ) (place : ℕ) → get id_cmp places id ≡ None → Updates id_cmp places with id (Some place)
    → UpdatesBy id_cmp (id_cmp id) with back None → (q : List ℕ) → get id_cmp back q ≡ get id_cmp places q
restored places with back id place none noted gone q =
    elim (cases_Bool (is_at (id_cmp id) q)) [
      | inl is ↦
          gone.0 q ∙ cond-true (is_at (id_cmp id) q) None (get id_cmp with q) is
          ∙ sym (subst (λ i. get id_cmp places i ≡ None) (id_same id q is) none)
      | inr away ↦
          gone.0 q ∙ cond-false (is_at (id_cmp id) q) None (get id_cmp with q) away
          ∙ noted.0 q ∙ cond-false (is_at (id_cmp id) q) (Some place) (get id_cmp places q) away
    ]

-- counts

pub count_without : (mappings : BTreeMap ℕ Mapping) (places : BTreeMap (List ℕ) ℕ) (next : ℕ) (id : List ℕ) (m : Mapping) → IsIndex mappings places next
    → mapping_at id (list_of mappings) ≡ Some m → (p : Arns)
    → count_in p (without id (list_of mappings)) + one_of p (arns_of m.config) ≡ count_in p (list_of mappings)
count_without mappings places next id m index there p =
    elim (get id_cmp places id) as (λ o. get id_cmp places id ≡ o
    → count_in p (without id (list_of mappings)) + one_of p (arns_of m.config) ≡ count_in p (list_of mappings)) [
      | None ↦ λ e.
          let at : Some m ≡ None = sym there ∙ found_none places next id mappings.entries index.placed e in
          (cc)
      | Some place ↦ λ e.
          let t = is_at (nat_cmp place) in
          let found : lookup t mappings.entries ≡ Some m = sym (found_same mappings places next id place index e) ∙ there in
          ap (λ xs. count_in p xs + one_of p (arns_of m.config))
          (without-values (has_id id) t mappings.entries (agrees mappings places next id place index e) (once_sorted place mappings.entries index.ordered))
          ∙ count_in-remove p t mappings.entries m found
    ] refl

pub count_replaced : (mappings : BTreeMap ℕ Mapping) (places : BTreeMap (List ℕ) ℕ) (next : ℕ) (id : List ℕ) (m w : Mapping) → IsIndex mappings places next
    → mapping_at id (list_of mappings) ≡ Some m → (p : Arns)
    → count_in p (replaced id w (list_of mappings)) + one_of p (arns_of m.config) ≡ count_in p (list_of mappings) + one_of p (arns_of w.config)
count_replaced mappings places next id m w index there p =
    elim (get id_cmp places id) as (λ o. get id_cmp places id ≡ o
    → count_in p (replaced id w (list_of mappings)) + one_of p (arns_of m.config) ≡ count_in p (list_of mappings) + one_of p (arns_of w.config)) [
      | None ↦ λ e.
          let at : Some m ≡ None = sym there ∙ found_none places next id mappings.entries index.placed e in
          (cc)
      | Some place ↦ λ e.
          let t = is_at (nat_cmp place) in
          let found : lookup t mappings.entries ≡ Some m = sym (found_same mappings places next id place index e) ∙ there in
          ap (λ xs. count_in p xs + one_of p (arns_of m.config))
          (replaced-values (has_id id) t w mappings.entries (agrees mappings places next id place index e) (once_sorted place mappings.entries index.ordered))
          ∙ count_in-set p t mappings.entries m w found
    ] refl
