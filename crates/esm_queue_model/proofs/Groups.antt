-- Messages by place, and message groups.
use Rattle.std.proofs.Common.{◌≡◌, ℕ, zero, suc, ◌<◌, Bool, true, false, List, [], ◌∷◌, take, refl, sym, ap, ◌∙◌, inl, inr, arith, Option, Some, None}
use Rattle.std.specs.Prelude.{slice_get}
use Rattle.std.specs.List.{list_any}
use Rattle.std.specs.Str.{bytes_eq}
use Rattle.std.proofs.lemmas.Bool.{or_cases, or_left, or_right, both_ways}
use Rattle.std.proofs.lemmas.Option.{none-some, same_Some}
use Rattle.std.proofs.lemmas.Slice.Eq.{bytes_eq-Decides}
use Rattle.esm_queue_model.specs.Queue.{is_group}

-- an element that passes
pub any_at : {X : Type 0} (p : X → Bool) (xs : List X) (j : ℕ) (y : X) → slice_get xs j ≡ Some y → p y ≡ true → list_any p xs ≡ true
any_at p [] j y at h = absurd (none-some y at)
any_at p (x ∷ xs) zero y at h = or_left (p x) (list_any p xs) (ap p (same_Some x y at) ∙ h)
any_at p (x ∷ xs) (suc j) y at h = or_right (p x) (list_any p xs) (any_at p xs j y at h)

pub at_any : {X : Type 0} (p : X → Bool) (xs : List X) → list_any p xs ≡ true → (j : ℕ) × (y : X) × (slice_get xs j ≡ Some y) × (p y ≡ true)
at_any p [] h = absurd (both_ways false refl h)
at_any p (x ∷ xs) h =
    elim (or_cases (p x) (list_any p xs) h) [
      | inl here ↦ (0, x, refl, here)
      | inr there ↦ (let found = at_any p xs there in (suc found.0, found.1, found.2, found.3))
    ]

-- an element of a front
pub take_at : {X : Type 0} (i : ℕ) (xs : List X) (j : ℕ) (y : X) → slice_get (take i xs) j ≡ Some y → (j < i) × (slice_get xs j ≡ Some y)
take_at zero xs j y at = absurd (none-some y at)
take_at (suc i) [] j y at = absurd (none-some y at)
take_at (suc i) (x ∷ xs) zero y at = (omega arith, at)
take_at (suc i) (x ∷ xs) (suc j) y at = let rest = take_at i xs j y at in (let l : j < i = rest.0 in omega arith, rest.1)

pub at_take : {X : Type 0} (i : ℕ) (xs : List X) (j : ℕ) (y : X) → j < i → slice_get xs j ≡ Some y → slice_get (take i xs) j ≡ Some y
at_take zero xs j y l at = absurd (omega arith)
at_take (suc i) [] j y l at = at
at_take (suc i) (x ∷ xs) zero y l at = at
at_take (suc i) (x ∷ xs) (suc j) y l at = at_take i xs j y (omega arith) at

-- equal texts
pub bytes_eq-true : (a b : List ℕ) → bytes_eq a b ≡ true → a ≡ b
bytes_eq-true a b h = (bytes_eq-Decides a b).0 h

pub bytes_eq-refl : (a : List ℕ) → bytes_eq a a ≡ true
bytes_eq-refl a = (bytes_eq-Decides a a).1 refl

-- two messages of one group have its name
pub group_is : (g h : Option (List ℕ)) → is_group g h ≡ true → (a : List ℕ) × (g ≡ Some a) × (h ≡ Some a)
group_is None h e = absurd (both_ways false refl e)
group_is (Some a) None e = absurd (both_ways false refl e)
group_is (Some a) (Some b) e = (b, ap Some (bytes_eq-true a b e), refl)

pub is_group_of : (g h : Option (List ℕ)) (a : List ℕ) → g ≡ Some a → h ≡ Some a → is_group g h ≡ true
is_group_of g h a ge he = rw (ge, he) (bytes_eq-refl a)

pub is_group-trans : (f g h : Option (List ℕ)) → is_group f g ≡ true → is_group g h ≡ true → is_group f h ≡ true
is_group-trans f g h fg gh =
    let a = group_is f g fg in
    let b = group_is g h gh in
    let same : b.0 ≡ a.0 = same_Some b.0 a.0 (sym b.1 ∙ a.2) in
    is_group_of f h a.0 a.1 (b.2 ∙ ap Some same)
