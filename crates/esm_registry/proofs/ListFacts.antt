-- Lists that are changed at the one element which a test finds, and the same of the values of a map's entries.
use Rattle.std.proofs.Common.{◌≡◌, ◌∙◌, ◌++◌, List, [], ◌∷◌, Bool, true, false, cond, not, map, filter, find, Some, None, refl, ap}
use Rattle.std.specs.Map.{lookup, remove_entry, set_value, values_of}

-- elements of which none passes

pub without_none : {X : Type 0} (p : X → Bool) (xs : List X) → find p xs ≡ None → filter (λ x. not (p x)) xs ≡ xs
without_none p [] h = refl
without_none p (x ∷ xs) h =
    elim (p x) as (λ b. cond b (Some x) (find p xs) ≡ None → cond (not b) (x ∷ filter (λ y. not (p y)) xs) (filter (λ y. not (p y)) xs) ≡ x ∷ xs)
    [ true ↦ λ e. cc | false ↦ λ e. ap (λ ys. x ∷ ys) (without_none p xs e) ] h

pub replaced_none : {X : Type 0} (p : X → Bool) (w : X) (xs : List X) → find p xs ≡ None → map (λ x. cond (p x) w x) xs ≡ xs
replaced_none p w [] h = refl
replaced_none p w (x ∷ xs) h =
    elim (p x) as (λ b. cond b (Some x) (find p xs) ≡ None → cond b w x ∷ map (λ y. cond (p y) w y) xs ≡ x ∷ xs)
    [ true ↦ λ e. cc | false ↦ λ e. ap (λ ys. x ∷ ys) (replaced_none p w xs e) ] h

-- one more element at the end, which is the one that passes

pub without_last : {X : Type 0} (p : X → Bool) (xs : List X) (y : X) → find p xs ≡ None → p y ≡ true → filter (λ x. not (p x)) (xs ++ y ∷ []) ≡ xs
without_last p [] y h is = rw is refl
without_last p (x ∷ xs) y h is =
    elim (p x) as (λ b. cond b (Some x) (find p xs) ≡ None
    → cond (not b) (x ∷ filter (λ z. not (p z)) (xs ++ y ∷ [])) (filter (λ z. not (p z)) (xs ++ y ∷ [])) ≡ x ∷ xs)
    [ true ↦ λ e. cc | false ↦ λ e. ap (λ ys. x ∷ ys) (without_last p xs y e is) ] h

-- entries: a test p of the values and a test t of the keys that agree

abbrev pub Agree : {K X : Type 0} → (X → Bool) → (K → Bool) → List (K × X) → Type 0
Agree p t [] = Unit {0}
Agree p t (e ∷ es) = (p e.1 ≡ t e.0) × Agree p t es

-- behind an entry whose key passes there is no other
abbrev pub Once : {K X : Type 0} → (K → Bool) → List (K × X) → Type 0
Once t [] = Unit {0}
Once t (e ∷ es) = (t e.0 ≡ true → lookup t es ≡ None) × Once t es

pub find-values : {K X : Type 0} (p : X → Bool) (t : K → Bool) (es : List (K × X)) → Agree p t es → find p (values_of es) ≡ lookup t es
find-values p t [] agree = refl
find-values p t (e ∷ es) agree =
    ap (λ b. cond b (Some e.1) (find p (values_of es))) agree.0 ∙ ap (λ o. cond (t e.0) (Some e.1) o) (find-values p t es agree.1)

pub without-values : {K X : Type 0} (p : X → Bool) (t : K → Bool) (es : List (K × X)) → Agree p t es → Once t es
    → filter (λ x. not (p x)) (values_of es) ≡ values_of (remove_entry t es)
without-values p t [] agree once = refl
without-values {K} {X} p t (e ∷ es) agree once =
    ap (λ b. cond (not b) (e.1 ∷ filter (λ x. not (p x)) (values_of es)) (filter (λ x. not (p x)) (values_of es))) agree.0
    ∙ elim (t e.0) as (λ b. (b ≡ true → lookup t es ≡ None) →
    cond (not b) (e.1 ∷ filter (λ x. not (p x)) (values_of es)) (filter (λ x. not (p x)) (values_of es)) ≡ values_of (cond b es (e ∷ remove_entry t es))) [
      | true ↦ λ one. without_none p (values_of es) (find-values p t es agree.1 ∙ one refl)
      | false ↦ λ one. ap (λ ys. e.1 ∷ ys) (without-values p t es agree.1 once.1)
    ] once.0

pub replaced-values : {K X : Type 0} (p : X → Bool) (t : K → Bool) (w : X) (es : List (K × X)) → Agree p t es → Once t es
    → map (λ x. cond (p x) w x) (values_of es) ≡ values_of (set_value t es w)
replaced-values p t w [] agree once = refl
replaced-values {K} {X} p t w (e ∷ es) agree once =
    ap (λ b. cond b w e.1 ∷ map (λ x. cond (p x) w x) (values_of es)) agree.0
    ∙ elim (t e.0) as (λ b. (b ≡ true → lookup t es ≡ None) →
    cond b w e.1 ∷ map (λ x. cond (p x) w x) (values_of es) ≡ values_of (cond b ((e.0, w) ∷ es) (e ∷ set_value t es w))) [
      | true ↦ λ one. ap (λ ys. w ∷ ys) (replaced_none p w (values_of es) (find-values p t es agree.1 ∙ one refl))
      | false ↦ λ one. ap (λ ys. e.1 ∷ ys) (replaced-values p t w es agree.1 once.1)
    ] once.0
