-- The leaves of a value, as the program goes over them.
use Rattle.std.proofs.Common.{◌≡◌, List, [], ◌∷◌, map, filter, length, ◌==◌, Bool, true, false, cond, if◌then◌else◌, not, ◌&&◌, ◌||◌, Some, None, rules, refl, ap, ◌∙◌, sym}
use Rattle.std.specs.List.{list_any}
use Rattle.serde_json.specs.Data.{Data, null, boolean, number, string, array, object, Items}
use Rattle.serde_json.specs.Find.{as_array}
use Rattle.esm_model.specs.Leaves.{is_leaf, leaves, items_list, leaf_passes, is_absence, test_passes, tests_pass}
use Rattle.esm_model.specs.Pattern as spec
use Rattle.esm_filter.specs.Found.{found_view, items_view}
use Rattle.esm_filter.specs.declared.found.Found.{Found}
use Rattle.esm_filter.specs.View.{test_view}
use Rattle.esm_filter.specs.declared.pattern.Test.{Test}
use Rattle.esm_filter.proofs.ViewLemmas.{any_view}

or_false : (b : Bool) → b ≡ (b || false)
or_false true = refl
or_false false = refl

-- a value that is no list is its own leaf, or has none
pub alone : (p : Data → Bool) (d : Data) (r : Bool) → None ≡ as_array d → r ≡ (is_leaf d && p d) → r ≡ list_any p (leaves (Some d))
alone p null r none h = h ∙ or_false (p null)
alone p (boolean b) r none h = h ∙ or_false (p (boolean b))
alone p (number n) r none h = h ∙ or_false (p (number n))
alone p (string s) r none h = h ∙ or_false (p (string s))
alone p (array ds) r none h = absurd (cc)
alone p (object ms) r none h = h

kept : (p : Data → Bool) (b : Bool) (d : Data) (ds : List Data) → ((b && p d) || list_any p ds) ≡ list_any p (cond b (d ∷ ds) ds)
kept p true d ds = refl
kept p false d ds = refl

any_leaf : (p : Data → Bool) (vs : List Found) → list_any (λ v. is_leaf (found_view v) && p (found_view v)) vs ≡ list_any p (filter is_leaf (items_list (items_view vs)))
any_leaf p [] = refl
any_leaf p (v ∷ vs) = ap (λ b. (is_leaf (found_view v) && p (found_view v)) || b) (any_leaf p vs) ∙ kept p (is_leaf (found_view v)) (found_view v) (filter is_leaf (items_list (items_view vs)))

listed : (p : Data → Bool) (ds : Items) (d : Data) → Some ds ≡ as_array d → list_any p (filter is_leaf (items_list ds)) ≡ list_any p (leaves (Some d))
listed p ds null h = absurd (cc)
listed p ds (boolean b) h = absurd (cc)
listed p ds (number n) h = absurd (cc)
listed p ds (string s) h = absurd (cc)
listed p ds (array es) h = let same : ds ≡ es = cc in ap (λ xs. list_any p (filter is_leaf (items_list xs))) same
listed p ds (object ms) h = absurd (cc)

pub among : (p : Data → Bool) (d : Data) (vs : List Found) (r : Bool) → Some (items_view vs) ≡ as_array d → r ≡ list_any (λ v. is_leaf (found_view v) && p (found_view v)) vs → r ≡ list_any p (leaves (Some d))
among p d vs r h e = e ∙ any_leaf p vs ∙ listed p (items_view vs) d h

-- no leaf
pub absent : (ds : List Data) → not (list_any (λ d. true) ds) ≡ (length ds == 0)
absent [] = refl
absent (d ∷ ds) = search rules

by_absence : (b : Bool) (ds : List Data) (t : spec.Test) → is_absence t ≡ b → (if b then length ds == 0 else list_any (leaf_passes t) ds) ≡ test_passes ds t
by_absence b ds t e = ap (λ c. if c then length ds == 0 else list_any (leaf_passes t) ds) (sym e)

pub absence : (ds : List Data) (t : spec.Test) (r a : Bool) → a ≡ is_absence t → a ≡ true → r ≡ list_any (leaf_passes (spec.exists true)) ds → not r ≡ test_passes ds t
absence ds t r a is holds h = ap not h ∙ absent ds ∙ by_absence true ds t (sym is ∙ holds)

pub presence : (ds : List Data) (t : spec.Test) (r a : Bool) → a ≡ is_absence t → a ≡ false → r ≡ list_any (leaf_passes t) ds → r ≡ test_passes ds t
presence ds t r a is no' h = h ∙ by_absence false ds t (sym is ∙ no')

pub one_absent : (d : Data) (t : spec.Test) (a : Bool) → a ≡ is_absence t → a ≡ true → false ≡ test_passes (d ∷ []) t
one_absent d t a is holds = by_absence true (d ∷ []) t (sym is ∙ holds)

pub one_present : (d : Data) (t : spec.Test) (r a : Bool) → a ≡ is_absence t → a ≡ false → r ≡ leaf_passes t d → r ≡ test_passes (d ∷ []) t
one_present d t r a is no' h = presence (d ∷ []) t r a is no' (h ∙ or_false (leaf_passes t d))

pub tests_over : (ds : List Data) (ts : List Test) (r : Bool) → r ≡ list_any (λ t. test_passes ds (test_view t)) ts → r ≡ tests_pass (map test_view ts) ds
tests_over ds ts r h = h ∙ sym (any_view (test_passes ds) test_view ts)
