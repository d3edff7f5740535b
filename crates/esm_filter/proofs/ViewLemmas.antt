-- Tests over what the program's tree stands for.
use Rattle.std.proofs.Common.{◌≡◌, ℤ, List, [], ◌∷◌, map, Bool, true, false, not, Option, Some, None, refl, ap, ◌∙◌, sym}
use Rattle.std.specs.List.{list_any, list_all}
use Rattle.serde_json.specs.Data.{Data, Num, boolean, null, number}
use Rattle.serde_json.specs.Find.{as_i64}
use Rattle.esm_model.specs.Pattern as spec
use Rattle.esm_model.specs.Leaves.{is_scalar, leaf_passes, meets, some_passes}
use Rattle.esm_filter.specs.View.{scalar_view, bound_view}
use Rattle.esm_filter.specs.declared.pattern.Scalar.{Scalar}
use Rattle.esm_filter.specs.declared.pattern.Bound.{Bound}

pub any_view : {X Y : Type 0} (p : Y → Bool) (f : X → Y) (xs : List X) → list_any p (map f xs) ≡ list_any (λ x. p (f x)) xs
any_view p f [] = refl
any_view p f (x ∷ xs) = rw (any_view p f xs)

pub all_view : {X Y : Type 0} (p : Y → Bool) (f : X → Y) (xs : List X) → list_all p (map f xs) ≡ list_all (λ x. p (f x)) xs
all_view p f [] = refl
all_view p f (x ∷ xs) = rw (all_view p f xs)

-- neither null nor a truth value equals a scalar
null_differs : (xs : List spec.Scalar) → list_any (is_scalar null) xs ≡ false
null_differs [] = refl
null_differs (spec.text s ∷ xs) = null_differs xs
null_differs (spec.whole z ∷ xs) = null_differs xs

truth_differs : (b : Bool) (xs : List spec.Scalar) → list_any (is_scalar (boolean b)) xs ≡ false
truth_differs b [] = refl
truth_differs b (spec.text s ∷ xs) = truth_differs b xs
truth_differs b (spec.whole z ∷ xs) = truth_differs b xs

pub null_but : (xs : List Scalar) → true ≡ leaf_passes (spec.anything_but (map scalar_view xs)) null
null_but xs = ap not (sym (null_differs (map scalar_view xs)))

pub truth_but : (b : Bool) (xs : List Scalar) → true ≡ leaf_passes (spec.anything_but (map scalar_view xs)) (boolean b)
truth_but b xs = ap not (sym (truth_differs b (map scalar_view xs)))

pub but_passes : (d : Data) (xs ys : List Scalar) (r : Bool) → ys ≡ xs → r ≡ list_any (λ s. is_scalar d (scalar_view s)) ys
    → not r ≡ leaf_passes (spec.anything_but (map scalar_view xs)) d
but_passes d xs ys r same h = ap not (h ∙ ap (list_any (λ s. is_scalar d (scalar_view s))) same ∙ sym (any_view (is_scalar d) scalar_view xs))

meets_all : (o : Option ℤ) (xs : List Bound) → some_passes (λ z. list_all (λ b. meets z (bound_view b)) xs) o ≡ some_passes (λ z. list_all (meets z) (map bound_view xs)) o
meets_all None xs = refl
meets_all (Some z) xs = sym (all_view (meets z) bound_view xs)

pub meets_passes : (n : Num) (xs ys : List Bound) (r : Bool) → ys ≡ xs → r ≡ some_passes (λ z. list_all (λ b. meets z (bound_view b)) ys) (as_i64 n)
    → r ≡ leaf_passes (spec.numeric (map bound_view xs)) (number n)
meets_passes n xs ys r same h = h ∙ ap (λ bs. some_passes (λ z. list_all (λ b. meets z (bound_view b)) bs) (as_i64 n)) same ∙ meets_all (as_i64 n) xs
