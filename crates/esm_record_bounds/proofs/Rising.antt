-- Lists of places that rise.
use Rattle.std.proofs.Common.{◌≡◌, ℕ, zero, suc, ◌+◌, ◌<◌, ◌≤◌, ◌^◌, Bool, true, List, [], ◌∷◌, ◌++◌, length, take, drop, refl, subst, inl, inr, arith}
use Rattle.std.specs.Prelude.{filter, nat_le}
use Rattle.std.specs.List.{list_all}
use Rattle.std.proofs.lemmas.Bool.{cases_Bool, and_from, le-leb, lt-ltb}
use Rattle.esm_model.specs.Fates.{below}
use Rattle.esm_model.proofs.Lists.{In, IsFront, In-here, In-there, In-below}
use Rattle.esm_journal_record.specs.Payload.{is_place, rises_from}

-- each place is at least the bound and above those before it
abbrev pub IsRisingFrom : ℕ → List ℕ → Type 0
IsRisingFrom low [] = Unit {0}
IsRisingFrom low (i ∷ places) = (low ≤ i) × IsRisingFrom (i + 1) places

pub rising_lower : (a b : ℕ) (xs : List ℕ) → a ≤ b → IsRisingFrom b xs → IsRisingFrom a xs
rising_lower a b [] le rising = tt
rising_lower a b (x ∷ xs) le rising = (let l : b ≤ x = rising.0 in omega arith, rising.1)

-- parts of a list that rises

pub rising-filter : (p : ℕ → Bool) (low : ℕ) (xs : List ℕ) → IsRisingFrom low xs → IsRisingFrom low (filter p xs)
rising-filter p low [] rising = tt
rising-filter p low (x ∷ xs) rising =
    elim (cases_Bool (p x)) [
      | inl is ↦ rw is (rising.0, rising-filter p (x + 1) xs rising.1)
      | inr fails ↦ rw fails (rising_lower low (x + 1) (filter p xs) (let l : low ≤ x = rising.0 in omega arith) (rising-filter p (x + 1) xs rising.1))
    ]

pub rising-take : (k low : ℕ) (xs : List ℕ) → IsRisingFrom low xs → IsRisingFrom low (take k xs)
rising-take zero low xs rising = tt
rising-take (suc k) low [] rising = tt
rising-take (suc k) low (x ∷ xs) rising = (rising.0, rising-take k (x + 1) xs rising.1)

pub rising-drop : (k low : ℕ) (xs : List ℕ) → IsRisingFrom low xs → IsRisingFrom low (drop k xs)
rising-drop zero low xs rising = rising
rising-drop (suc k) low [] rising = tt
rising-drop (suc k) low (x ∷ xs) rising = rising_lower low (x + 1) (drop k xs) (let l : low ≤ x = rising.0 in omega arith) (rising-drop k (x + 1) xs rising.1)

rising-left : (low : ℕ) (xs ys : List ℕ) → IsRisingFrom low (xs ++ ys) → IsRisingFrom low xs
rising-left low [] ys rising = tt
rising-left low (x ∷ xs) ys rising = (rising.0, rising-left (x + 1) xs ys rising.1)

pub rising-front : (xs ys : List ℕ) → IsFront xs ys → IsRisingFrom 0 ys → IsRisingFrom 0 xs
rising-front xs ys front rising = rising-left 0 xs front.0 (subst (IsRisingFrom 0) front.1 rising)

-- the numbers below a bound

rising-push : (low : ℕ) (xs : List ℕ) (n : ℕ) → low ≤ n → ((i : ℕ) → In xs i → i < n) → IsRisingFrom low xs → IsRisingFrom low (xs ++ n ∷ [])
rising-push low [] n le each rising = (le, tt)
rising-push low (x ∷ xs) n le each rising =
    let less : x < n = each x (In-here x xs x refl) in
    (rising.0, rising-push (x + 1) xs n (omega arith) (λ i member. each i (In-there x xs i member)) rising.1)

rising-below : (n : ℕ) → IsRisingFrom 0 (below n)
rising-below zero = tt
rising-below (suc n) = rising-push 0 (below n) n (omega arith) (In-below n) (rising-below n)

-- those that pass a test
pub rising-passing : (p : ℕ → Bool) (n : ℕ) → IsRisingFrom 0 (filter p (below n))
rising-passing p n = rising-filter p 0 (below n) (rising-below n)

-- what is said of places

-- places below a bound that rise are no more than there are numbers below it
pub rising_few : (low : ℕ) (xs : List ℕ) (n : ℕ) → low ≤ n → IsRisingFrom low xs → ((i : ℕ) → In xs i → i < n) → low + length xs ≤ n
rising_few low [] n le rising each = omega arith
rising_few low (x ∷ xs) n le rising each =
    let less : x < n = each x (In-here x xs x refl) in
    let above : low ≤ x = rising.0 in
    let rest : x + 1 + length xs ≤ n = rising_few (x + 1) xs n (omega arith) rising.1 (λ i member. each i (In-there x xs i member)) in
    omega arith

pub rises_is : (low : ℕ) (xs : List ℕ) → IsRisingFrom low xs → rises_from low xs ≡ true
rises_is low [] rising = refl
rises_is low (x ∷ xs) rising =
    let e : x + 1 ≡ suc x = omega arith in
    and_from (nat_le low x) (rises_from (suc x) xs) (le-leb low x rising.0) (subst (λ n. rises_from n xs ≡ true) e (rises_is (x + 1) xs rising.1))

pub all_places : (n : ℕ) (xs : List ℕ) → n ≤ 2 ^ 32 → ((i : ℕ) → In xs i → i < n) → list_all is_place xs ≡ true
all_places n [] few each = refl
all_places n (x ∷ xs) few each =
    let less : x < n = each x (In-here x xs x refl) in
    and_from (is_place x) (list_all is_place xs) (lt-ltb x (2 ^ 32) (omega arith)) (all_places n xs few (λ i member. each i (In-there x xs i member)))
