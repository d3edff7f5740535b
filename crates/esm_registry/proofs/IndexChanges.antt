-- The index of the mappings stays one when a mapping comes, goes or is changed.
use Rattle.std.proofs.Common.{◌≡◌, ◌∙◌, ◌+◌, ◌<◌, ◌++◌, ℕ, List, [], ◌∷◌, Bool, true, false, cond, not, filter, find, Option, Some, None, nat_lt, nat_eq, refl, sym, ap, subst, arith, inl, inr}
use Rattle.std.specs.BTreeMap.{BTreeMap, get, is_at, insert_entry, IsOrdered, UpdatesBy, Updates}
use Rattle.std.specs.Map.{lookup, remove_entry, set_value, values_of}
use Rattle.std.specs.Ordering.{nat_cmp, is_eq, match_ordering}
use Rattle.std.specs.declared.cmp.Ordering.TheVariants.{Less, Equal, Greater}
use Rattle.std.proofs.lemmas.Bool.{cases_Bool, cases_eq, both_ways, false_from_ne_true, cond-true, cond-false, le-ltb, ne_eqb}
use Rattle.std.proofs.lemmas.Map.Text.{is_eq-slice_cmp}
use Rattle.std.proofs.lemmas.Slice.Eq.{bytes_eq-Decides}
use Rattle.esm_config.specs.Given.{IsGiven}
use Rattle.esm_registry.specs.declared.mapping.Mapping.{Mapping}
use Rattle.esm_registry.specs.Lists.{has_id, mapping_at, without, replaced}
use Rattle.esm_registry.specs.Places.{id_cmp, list_of, IsPlaced, ArePlaced, IsIndex}
use Rattle.esm_registry.proofs.ListFacts.{Agree, without-values, replaced-values}
use Rattle.esm_registry.proofs.IndexFacts.{has_its_id, once_sorted, agrees}

-- keys

nat_apart : (a b : ℕ) → (a ≡ b → ⊥) → is_at (nat_cmp a) b ≡ false
nat_apart a b apart =
    ap (λ t. is_eq (cond (nat_lt a b) Less (cond t Equal Greater))) (ne_eqb a b apart)
    ∙ elim (nat_lt a b) as (λ t. is_eq (cond t Less Greater) ≡ false) [ true ↦ refl | false ↦ refl ]

nat_after : (a b : ℕ) → a < b → nat_cmp b a ≡ Greater
nat_after a b before =
    ap (λ t. cond t Less (cond (nat_eq b a) Equal Greater)) (le-ltb b a (omega arith))
    ∙ ap (λ t. cond t Equal Greater) (ne_eqb b a (λ e. omega arith))

id_itself : (id : List ℕ) → is_at (id_cmp id) id ≡ true
id_itself id = is_eq-slice_cmp id id ∙ (bytes_eq-Decides id id).1 refl

pub id_same : (id q : List ℕ) → is_at (id_cmp id) q ≡ true → id ≡ q
id_same id q is = (bytes_eq-Decides id q).0 (sym (is_eq-slice_cmp id q) ∙ is)

id_apart : (id q : List ℕ) → (id ≡ q → ⊥) → is_at (id_cmp id) q ≡ false
id_apart id q apart = false_from_ne_true _ (λ is. apart (id_same id q is))

-- entries

find_head : {X : Type 0} (p : X → Bool) (x : X) (xs : List X) → cond (p x) (Some x) (find p xs) ≡ None → p x ≡ false
find_head p x xs h = elim (p x) as (λ b. cond b (Some x) (find p xs) ≡ None → b ≡ false) [ true ↦ λ is. cc | false ↦ λ is. refl ] h

find_tail : {X : Type 0} (p : X → Bool) (x : X) (xs : List X) → cond (p x) (Some x) (find p xs) ≡ None → find p xs ≡ None
find_tail p x xs h = elim (p x) as (λ b. cond b (Some x) (find p xs) ≡ None → find p xs ≡ None) [ true ↦ λ is. cc | false ↦ λ is. is ] h

find-without : {X : Type 0} (p : X → Bool) (xs : List X) → find p (filter (λ x. not (p x)) xs) ≡ None
find-without p [] = refl
find-without p (x ∷ xs) =
    elim (cases_Bool (p x)) [
      | inl is ↦ ap (λ b. find p (cond (not b) (x ∷ filter (λ y. not (p y)) xs) (filter (λ y. not (p y)) xs))) is ∙ find-without p xs
      | inr away ↦
          ap (λ b. find p (cond (not b) (x ∷ filter (λ y. not (p y)) xs) (filter (λ y. not (p y)) xs))) away
          ∙ cond-false (p x) (Some x) (find p (filter (λ y. not (p y)) xs)) away ∙ find-without p xs
    ]

-- a change of the index at one UUID moves no mapping that has another
placed_apart : (places places' : BTreeMap (List ℕ) ℕ) (next : ℕ) (id : List ℕ) (w : Option ℕ) (es : List (ℕ × Mapping)) → ArePlaced places next es
    → mapping_at id (values_of es) ≡ None → UpdatesBy id_cmp (id_cmp id) places places' w → ArePlaced places' next es
placed_apart places places' next id w [] placed none updates = tt
placed_apart places places' next id w (e ∷ es) placed none updates =
    let other : has_id id e.1 ≡ false = find_head (has_id id) e.1 (values_of es) none in
    let apart : is_at (id_cmp id) e.1.id ≡ false =
    id_apart id e.1.id (λ same. both_ways _ other (has_its_id id e.1 (sym same))) in (
      record { found = updates.0 e.1.id ∙ cond-false (is_at (id_cmp id) e.1.id) w (get id_cmp places e.1.id) apart ∙ placed.0.found; below = placed.0.below; given = placed.0.given },
      placed_apart places places' next id w es placed.1 (find_tail (has_id id) e.1 (values_of es) none) updates,
    )

placed_later : (places : BTreeMap (List ℕ) ℕ) (next : ℕ) (es : List (ℕ × Mapping)) → ArePlaced places next es → ArePlaced places (next + 1) es
placed_later places next [] placed = tt
placed_later places next (e ∷ es) placed = (
  record { found = placed.0.found; below = before placed.0.below; given = placed.0.given },
  placed_later places next es placed.1,
)
  where
    before : {k : ℕ} → k < next → k < next + 1
    before h = omega arith

placed_push : (places : BTreeMap (List ℕ) ℕ) (next place : ℕ) (m : Mapping) (es : List (ℕ × Mapping)) → ArePlaced places next es → IsPlaced places next place m
    → ArePlaced places next (es ++ (place, m) ∷ [])
placed_push places next place m [] placed its = (its, tt)
placed_push places next place m (e ∷ es) placed its = (placed.0, placed_push places next place m es placed.1 its)

placed_removed : (places : BTreeMap (List ℕ) ℕ) (next : ℕ) (t : ℕ → Bool) (es : List (ℕ × Mapping)) → ArePlaced places next es
    → ArePlaced places next (remove_entry t es)
placed_removed places next t [] placed = tt
placed_removed places next t (e ∷ es) placed =
    elim (t e.0) as (λ b. ArePlaced places next (cond b es (e ∷ remove_entry t es)))
    [ true ↦ placed.1 | false ↦ (placed.0, placed_removed places next t es placed.1) ]

placed_set : (places : BTreeMap (List ℕ) ℕ) (next : ℕ) (t : ℕ → Bool) (w : Mapping) (es : List (ℕ × Mapping)) → ArePlaced places next es
    → Agree (has_id w.id) t es → IsGiven w.config → ArePlaced places next (set_value t es w)
placed_set places next t w [] placed agree given = tt
placed_set places next t w (e ∷ es) placed agree given =
    elim (cases_Bool (t e.0)) [
      | inl is ↦
          let same : e.1.id ≡ w.id = (bytes_eq-Decides e.1.id w.id).0 (agree.0 ∙ is) in
          subst (λ b. ArePlaced places next (cond b ((e.0, w) ∷ es) (e ∷ set_value t es w))) (sym is)
          (record { found = subst (λ i. get id_cmp places i ≡ Some e.0) same placed.0.found; below = placed.0.below; given = given }, placed.1)
      | inr away ↦
          subst (λ b. ArePlaced places next (cond b ((e.0, w) ∷ es) (e ∷ set_value t es w))) (sym away)
          (placed.0, placed_set places next t w es placed.1 agree.1 given)
    ]

-- no mapping stands at the next place, and one that is put there is the last
none_next : (places : BTreeMap (List ℕ) ℕ) (next : ℕ) (es : List (ℕ × Mapping)) → ArePlaced places next es → lookup (is_at (nat_cmp next)) es ≡ None
none_next places next [] placed = refl
none_next places next (e ∷ es) placed =
    cond-false (is_at (nat_cmp next) e.0) (Some e.1) (lookup (is_at (nat_cmp next)) es) (ap is_eq (nat_after e.0 next placed.0.below))
    ∙ none_next places next es placed.1

insert_next : (places : BTreeMap (List ℕ) ℕ) (next : ℕ) (m : Mapping) (es : List (ℕ × Mapping)) → ArePlaced places next es
    → insert_entry nat_cmp es next m ≡ es ++ (next, m) ∷ []
insert_next places next m [] placed = refl
insert_next places next m (e ∷ es) placed =
    ap (λ o. match_ordering o ((next, m) ∷ e ∷ es) ((e.0, m) ∷ es) (e ∷ insert_entry nat_cmp es next m)) (nat_after e.0 next placed.0.below)
    ∙ ap (λ fs. e ∷ fs) (insert_next places next m es placed.1)

values-push : (place : ℕ) (m : Mapping) (es : List (ℕ × Mapping)) → values_of (es ++ (place, m) ∷ []) ≡ values_of es ++ m ∷ []
values-push place m [] = refl
values-push place m (e ∷ es) = ap (λ ms. e.1 ∷ ms) (values-push place m es)

-- a mapping comes

pub list_added : (mappings mappings' : BTreeMap ℕ Mapping) (places : BTreeMap (List ℕ) ℕ) (next : ℕ) (m : Mapping) → IsIndex mappings places next
    → mappings'.entries ≡ insert_entry nat_cmp mappings.entries next m → list_of mappings' ≡ list_of mappings ++ m ∷ []
list_added mappings mappings' places next m index entries =
    ap values_of (entries ∙ insert_next places next m mappings.entries index.placed) ∙ values-push next m mappings.entries

pub index_added : (mappings mappings' : BTreeMap ℕ Mapping) (places places' : BTreeMap (List ℕ) ℕ) (next : ℕ) (m : Mapping) → IsIndex mappings places next
    → mapping_at m.id (list_of mappings) ≡ None → IsGiven m.config
    → Updates id_cmp places places' m.id (Some next) → mappings'.entries ≡ insert_entry nat_cmp mappings.entries next m
    → Updates nat_cmp mappings mappings' next (Some m) → IsOrdered nat_cmp mappings' → IsIndex mappings' places' (next + 1)
index_added mappings mappings' places places' next m index none given moved entries updates ordered = record {
  ordered = ordered;
  placed =
      subst (ArePlaced places' (next + 1)) (sym (entries ∙ insert_next places next m mappings.entries index.placed))
      (placed_push places' (next + 1) next m mappings.entries
      (placed_later places' next mappings.entries (placed_apart places places' next m.id (Some next) mappings.entries index.placed none moved))
      (record { found = moved.1; below = omega arith; given = given }));
  found = λ id place there. elim (cases_Bool (is_at (id_cmp m.id) id)) [
    | inl is ↦
        let at : Some next ≡ Some place = sym (moved.0 id ∙ cond-true (is_at (id_cmp m.id) id) (Some next) (get id_cmp places id) is) ∙ there in
        let equal : next ≡ place = cc in
        record { mapping = m; there = subst (λ k. get nat_cmp mappings' k ≡ Some m) equal updates.1; its_id = id_same m.id id is }
    | inr away ↦
        let was : get id_cmp places id ≡ Some place = sym (moved.0 id ∙ cond-false (is_at (id_cmp m.id) id) (Some next) (get id_cmp places id) away) ∙ there in
        let h = index.found id place was in
        let apart : next ≡ place → ⊥ = λ e.
        let here : get nat_cmp mappings next ≡ Some h.mapping = subst (λ k. get nat_cmp mappings k ≡ Some h.mapping) (sym e) h.there in
        let empty = none_next places next mappings.entries index.placed in
        (cc) in
        record {
          mapping = h.mapping;
          there = updates.0 place ∙ cond-false (is_at (nat_cmp next) place) (Some m) (get nat_cmp mappings place) (nat_apart next place apart) ∙ h.there;
          its_id = h.its_id;
        }
  ];
}

-- a mapping goes

-- the mapping at a place has one UUID
one_id : (mappings : BTreeMap ℕ Mapping) (places : BTreeMap (List ℕ) ℕ) (next : ℕ) (id q : List ℕ) (place : ℕ) → IsIndex mappings places next
    → get id_cmp places id ≡ Some place → get id_cmp places q ≡ Some place → id ≡ q
one_id mappings places next id q place index there also =
    let one = index.found id place there in
    let other = index.found q place also in
    let at = one.there in
    let at' = other.there in
    let same : one.mapping ≡ other.mapping = cc in
    sym one.its_id ∙ ap (λ m. m.id) same ∙ other.its_id

pub list_removed : (mappings mappings' : BTreeMap ℕ Mapping) (places : BTreeMap (List ℕ) ℕ) (next : ℕ) (id : List ℕ) (place : ℕ) → IsIndex mappings places next
    → get id_cmp places id ≡ Some place → mappings'.entries ≡ remove_entry (is_at (nat_cmp place)) mappings.entries
    → list_of mappings' ≡ without id (list_of mappings)
list_removed mappings mappings' places next id place index there entries =
    ap values_of entries ∙ sym (without-values (has_id id) (is_at (nat_cmp place)) mappings.entries (agrees mappings places next id place index there)
    (once_sorted place mappings.entries index.ordered))

pub index_removed : (mappings mappings' : BTreeMap ℕ Mapping) (places places' : BTreeMap (List ℕ) ℕ) (next : ℕ) (id : List ℕ) (place : ℕ) → IsIndex mappings places next
    → get id_cmp places id ≡ Some place → UpdatesBy id_cmp (id_cmp id) places places' None
    → mappings'.entries ≡ remove_entry (is_at (nat_cmp place)) mappings.entries
    → UpdatesBy nat_cmp (nat_cmp place) mappings mappings' None → IsOrdered nat_cmp mappings' → IsIndex mappings' places' next
index_removed mappings mappings' places places' next id place index there moved entries updates ordered = record {
  ordered = ordered;
  placed =
      placed_apart places places' next id None mappings'.entries
      (subst (ArePlaced places next) (sym entries) (placed_removed places next (is_at (nat_cmp place)) mappings.entries index.placed))
      (ap (mapping_at id) (list_removed mappings mappings' places next id place index there entries) ∙ find-without (has_id id) (list_of mappings)) moved;
  found = λ q k at. elim (cases_Bool (is_at (id_cmp id) q)) [
    | inl is ↦
        let gone : None ≡ Some k = sym (moved.0 q ∙ cond-true (is_at (id_cmp id) q) None (get id_cmp places q) is) ∙ at in
        (cc)
    | inr away ↦
        let was : get id_cmp places q ≡ Some k = sym (moved.0 q ∙ cond-false (is_at (id_cmp id) q) None (get id_cmp places q) away) ∙ at in
        let h = index.found q k was in
        let apart : place ≡ k → ⊥ = λ e.
        both_ways _ away (subst (λ r. is_at (id_cmp id) r ≡ true)
        (one_id mappings places next id q place index there (subst (λ j. get id_cmp places q ≡ Some j) (sym e) was)) (id_itself id)) in
        record {
          mapping = h.mapping;
          there = updates.0 k ∙ cond-false (is_at (nat_cmp place) k) None (get nat_cmp mappings k) (nat_apart place k apart) ∙ h.there;
          its_id = h.its_id;
        }
  ];
}

-- a mapping is changed

pub list_replaced : (mappings mappings' : BTreeMap ℕ Mapping) (places : BTreeMap (List ℕ) ℕ) (next : ℕ) (id : List ℕ) (place : ℕ) (w : Mapping) → IsIndex mappings places next
    → get id_cmp places id ≡ Some place → mappings'.entries ≡ set_value (is_at (nat_cmp place)) mappings.entries w
    → list_of mappings' ≡ replaced id w (list_of mappings)
list_replaced mappings mappings' places next id place w index there entries =
    ap values_of entries ∙ sym (replaced-values (has_id id) (is_at (nat_cmp place)) w mappings.entries (agrees mappings places next id place index there)
    (once_sorted place mappings.entries index.ordered))

pub index_replaced : (mappings mappings' : BTreeMap ℕ Mapping) (places : BTreeMap (List ℕ) ℕ) (next place : ℕ) (w : Mapping) → IsIndex mappings places next
    → get id_cmp places w.id ≡ Some place → IsGiven w.config
    → mappings'.entries ≡ set_value (is_at (nat_cmp place)) mappings.entries w
    → UpdatesBy nat_cmp (nat_cmp place) mappings mappings' (Some w) → IsOrdered nat_cmp mappings' → IsIndex mappings' places next
index_replaced mappings mappings' places next place w index there given entries updates ordered = record {
  ordered = ordered;
  placed =
      subst (ArePlaced places next) (sym entries)
      (placed_set places next (is_at (nat_cmp place)) w mappings.entries index.placed (agrees mappings places next w.id place index there) given);
  found = λ q k at.
      let h = index.found q k at in
      elim (cases_eq place k) [
        | inl equal ↦ record {
          mapping = w;
          there = subst (λ j. get nat_cmp mappings' j ≡ Some w) equal updates.1;
          its_id = one_id mappings places next w.id q place index there (subst (λ j. get id_cmp places q ≡ Some j) (sym equal) at);
        }
        | inr apart ↦ record {
          mapping = h.mapping;
          there = updates.0 k ∙ cond-false (is_at (nat_cmp place) k) (Some w) (get nat_cmp mappings k) (nat_apart place k apart) ∙ h.there;
          its_id = h.its_id;
        }
      ];
}
