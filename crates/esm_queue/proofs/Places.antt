-- Messages by their places: which are there and not deleted, and of which group they are.
use Rattle.std.proofs.Common.{◌≡◌, ℕ, zero, suc, ◌<◌, Bool, true, false, not, List, [], ◌∷◌, ◌++◌, length, length-append, set, refl, sym, ap, ◌∙◌, inl, inr, ◌⊎◌, arith, Option, Some, None}
use Rattle.std.specs.Prelude.{slice_get, option_map, unwrap_or}
use Rattle.std.specs.Str.{bytes_eq}
use Rattle.std.proofs.lemmas.Bool.{cases_Bool, cases_lt, cases_eq, both_ways, not_from_false, false_from_ne_true}
use Rattle.std.proofs.lemmas.List.{length-set}
use Rattle.std.proofs.lemmas.Option.{slice_get_cases, none-some}
use Rattle.std.proofs.lemmas.Slice.Eq.{bytes_eq-Decides}
use Rattle.esm_queue_model.specs.declared.stored.Stored.{Stored}
use Rattle.esm_queue_model.specs.Queue.{is_group, deleted_once}
use Rattle.esm_queue.specs.Links.{alive_at, group_in, group_at}

-- elements of a list that grows or changes

pub get_push_old : {X : Type 0} (xs : List X) (x : X) (i : ℕ) → i < length xs → slice_get (xs ++ x ∷ []) i ≡ slice_get xs i
get_push_old [] x i within = absurd (omega arith)
get_push_old (y ∷ xs) x zero within = refl
get_push_old (y ∷ xs) x (suc i) within = get_push_old xs x i (omega arith)

pub get_push_new : {X : Type 0} (xs : List X) (x : X) → slice_get (xs ++ x ∷ []) (length xs) ≡ Some x
get_push_new [] x = refl
get_push_new (y ∷ xs) x = get_push_new xs x

pub get_set_same : {X : Type 0} (xs : List X) (i : ℕ) (x : X) → i < length xs → slice_get (set xs i x) i ≡ Some x
get_set_same [] i x within = absurd (omega arith)
get_set_same (y ∷ xs) zero x within = refl
get_set_same (y ∷ xs) (suc i) x within = get_set_same xs i x (omega arith)

pub get_set_other : {X : Type 0} (xs : List X) (i k : ℕ) (x : X) → (k ≡ i → ⊥) → slice_get (set xs i x) k ≡ slice_get xs k
get_set_other [] i k x ne = refl
get_set_other (y ∷ xs) zero zero x ne = absurd (ne refl)
get_set_other (y ∷ xs) zero (suc k) x ne = refl
get_set_other (y ∷ xs) (suc i) zero x ne = refl
get_set_other (y ∷ xs) (suc i) (suc k) x ne = get_set_other xs i k x (λ e. ne (omega arith))

-- messages that are not deleted

abbrev pub alive_in : Option Stored → Bool
alive_in o = unwrap_or (option_map (λ (x : Stored). not x.deleted) o) false

pub alive_within : (xs : List Stored) (i : ℕ) → alive_at xs i ≡ true → i < length xs
alive_within xs i is =
    elim (slice_get_cases xs i).1 [
      | inl there ↦ there.1
      | inr past ↦ absurd (both_ways (alive_at xs i) (ap alive_in past.1) is)
    ]

pub alive_old : (xs : List Stored) (x : Stored) (i : ℕ) → alive_at xs i ≡ true → alive_at (xs ++ x ∷ []) i ≡ true
alive_old xs x i is = ap alive_in (get_push_old xs x i (alive_within xs i is)) ∙ is

pub alive_new : (xs : List Stored) (x : Stored) → x.deleted ≡ false → alive_at (xs ++ x ∷ []) (length xs) ≡ true
alive_new xs x fresh = ap alive_in (get_push_new xs x) ∙ not_from_false x.deleted fresh

pub alive_split : (xs : List Stored) (x : Stored) (i : ℕ) → alive_at (xs ++ x ∷ []) i ≡ true → ((i < length xs) × (alive_at xs i ≡ true)) ⊎ (i ≡ length xs)
alive_split xs x i is =
    let within = alive_within (xs ++ x ∷ []) i is in
    let sized = length-append xs (x ∷ []) in
    elim (cases_lt i (length xs)) [
      | inl low ↦ inl (low, sym (ap alive_in (get_push_old xs x i low)) ∙ is)
      | inr high ↦ inr (omega arith)
    ]

pub alive_kept : (xs : List Stored) (p k : ℕ) (x : Stored) → (k ≡ p → ⊥) → alive_at xs k ≡ true → alive_at (set xs p (deleted_once x)) k ≡ true
alive_kept xs p k x ne is = ap alive_in (get_set_other xs p k (deleted_once x) ne) ∙ is

pub alive_left : (xs : List Stored) (p k : ℕ) (x : Stored) → alive_at (set xs p (deleted_once x)) k ≡ true → (alive_at xs k ≡ true) × (k ≡ p → ⊥)
alive_left xs p k x is =
    let low = alive_within (set xs p (deleted_once x)) k is in
    let sized = length-set xs p (deleted_once x) in
    let other : k ≡ p → ⊥ = λ e. (let at = get_set_same xs p (deleted_once x) (omega arith) in
    both_ways (alive_at (set xs p (deleted_once x)) k) (ap (λ i. alive_at (set xs p (deleted_once x)) i) e ∙ ap alive_in at) is) in
    (sym (ap alive_in (get_set_other xs p k (deleted_once x) other)) ∙ is, other)

-- groups

pub group_old : (xs : List Stored) (x : Stored) (i : ℕ) → i < length xs → group_at (xs ++ x ∷ []) i ≡ group_at xs i
group_old xs x i low = ap group_in (get_push_old xs x i low)

pub group_new : (xs : List Stored) (x : Stored) → group_at (xs ++ x ∷ []) (length xs) ≡ x.message.group
group_new xs x = ap group_in (get_push_new xs x)

pub group_kept : (xs : List Stored) (p k : ℕ) (x : Stored) → slice_get xs p ≡ Some x → group_at (set xs p (deleted_once x)) k ≡ group_at xs k
group_kept xs p k x at =
    elim (cases_eq k p) [
      | inl here ↦ elim (slice_get_cases xs p).1 [
        | inl there ↦ (let low = there.1 in ap (λ i. group_at (set xs p (deleted_once x)) i) here ∙ (ap group_in (get_set_same xs p (deleted_once x) low) ∙ (ap group_in (sym at) ∙ ap (λ i. group_at xs i) (sym here))))
        | inr past ↦ absurd (none-some x (sym past.1 ∙ at))
      ]
      | inr other ↦ ap group_in (get_set_other xs p k (deleted_once x) other)
    ]

pub group_same : (g h : Option (List ℕ)) → is_group g h ≡ true → g ≡ h
group_same None h e = absurd (both_ways false refl e)
group_same (Some a) None e = absurd (both_ways false refl e)
group_same (Some a) (Some b) e = ap Some ((bytes_eq-Decides a b).0 e)

pub group_swap : (g h : Option (List ℕ)) → is_group g h ≡ is_group h g
group_swap None None = refl
group_swap None (Some b) = refl
group_swap (Some a) None = refl
group_swap (Some a) (Some b) =
    elim (cases_Bool (bytes_eq a b)) [
      | inl is ↦ is ∙ sym ((bytes_eq-Decides b a).1 (sym ((bytes_eq-Decides a b).0 is)))
      | inr not' ↦ not' ∙ sym (false_from_ne_true (bytes_eq b a) (λ is. both_ways (bytes_eq a b) not' ((bytes_eq-Decides a b).1 (sym ((bytes_eq-Decides b a).0 is)))))
    ]
