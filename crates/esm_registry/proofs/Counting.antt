-- How many mappings have a source and a function, under the changes of the list.
use Rattle.std.proofs.Common.{◌≡◌, ◌∙◌, ◌+◌, ◌++◌, ℕ, List, [], ◌∷◌, Bool, true, false, cond, Some, ◌||◌, refl, ap, arith, nat_lt}
use Rattle.std.specs.Map.{lookup, remove_entry, set_value, values_of}
use Rattle.esm_model.specs.declared.config.Config.{Config}
use Rattle.esm_registry.specs.declared.mapping.Mapping.{Mapping}
use Rattle.esm_registry.specs.Index.{Arns, arns_of, one_of, count_in}
use Rattle.esm_registry.specs.Lists.{is_taken, is_alike}

pub count_in-push : (p : Arns) (xs : List Mapping) (m : Mapping) → count_in p (xs ++ m ∷ []) ≡ count_in p xs + one_of p (arns_of m.config)
count_in-push p [] m = omega arith
count_in-push p (x ∷ xs) m = omega (arith, count_in-push p xs m)

pub count_in-remove : (p : Arns) (t : ℕ → Bool) (es : List (ℕ × Mapping)) (m : Mapping) → lookup t es ≡ Some m
    → count_in p (values_of (remove_entry t es)) + one_of p (arns_of m.config) ≡ count_in p (values_of es)
count_in-remove p t [] m h = cc
count_in-remove p t (e ∷ es) m h =
    elim (t e.0) as (λ b. cond b (Some e.1) (lookup t es) ≡ Some m
    → count_in p (values_of (cond b es (e ∷ remove_entry t es))) + one_of p (arns_of m.config) ≡ one_of p (arns_of e.1.config) + count_in p (values_of es)) [
      | true ↦ λ is. let same : e.1 ≡ m = cc in rw (← same) (omega arith)
      | false ↦ λ is. omega (arith, count_in-remove p t es m is)
    ] h

pub count_in-set : (p : Arns) (t : ℕ → Bool) (es : List (ℕ × Mapping)) (m w : Mapping) → lookup t es ≡ Some m
    → count_in p (values_of (set_value t es w)) + one_of p (arns_of m.config) ≡ count_in p (values_of es) + one_of p (arns_of w.config)
count_in-set p t [] m w h = cc
count_in-set p t (e ∷ es) m w h =
    elim (t e.0) as (λ b. cond b (Some e.1) (lookup t es) ≡ Some m
    → count_in p (values_of (cond b ((e.0, w) ∷ es) (e ∷ set_value t es w))) + one_of p (arns_of m.config) ≡ one_of p (arns_of e.1.config) + count_in p (values_of es) + one_of p (arns_of w.config)) [
      | true ↦ λ is. let same : e.1 ≡ m = cc in rw (← same) (omega arith)
      | false ↦ λ is. omega (arith, count_in-set p t es m w is)
    ] h

-- a mapping of the same source and function is there exactly where the count is above 0
pub taken_is : (c : Config) (xs : List Mapping) → is_taken c xs ≡ nat_lt 0 (count_in (arns_of c) xs)
unfolding one_of
taken_is c [] = refl
taken_is c (x ∷ xs) =
    elim (is_alike c x) as (λ b. (b || is_taken c xs) ≡ nat_lt 0 (cond b 1 0 + count_in (arns_of c) xs))
    [ true ↦ grind arith | false ↦ taken_is c xs ∙ ap (nat_lt 0) (omega arith) ]
