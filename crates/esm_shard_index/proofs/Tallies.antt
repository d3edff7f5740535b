-- What one more record and one more fate do to a tally.
use Rattle.std.proofs.Common.{◌≡◌, ℕ, zero, suc, ◌+◌, ◌<◌, ◌≤◌, Bool, true, false, List, [], ◌∷◌, ◌++◌, length, get_or, slice_set, drop, refl, ap, Option, Some, None, arith}
use Rattle.std.proofs.lemmas.List.Sums.{take_while-cons}
use Rattle.std.specs.Prelude.{filter, is_some}
use Rattle.esm_model.specs.declared.entry.Fate.{Fate}
use Rattle.esm_model.specs.declared.entry.Fate.TheVariants.{Succeeded, Filtered, Expired, Exhausted}
use Rattle.esm_model.specs.Fates.{same_fate, is_fate}
use Rattle.esm_shard_index.specs.declared.progress.FateCounts.{FateCounts}
use Rattle.esm_shard_index.specs.FateCounts.{count_in, total, with_one, counted}
use Rattle.esm_shard_index.specs.Progress.{number_of, front_of, past_of}

-- counts

pub total_none : (c : FateCounts) → ((f : Fate) → count_in c f ≡ 0) → total c ≡ 0
total_none c none = omega (arith, none Succeeded, none Filtered, none Expired, none Exhausted)

pub total-with_one : (c : FateCounts) (f : Fate) → total (with_one c f) ≡ total c + 1
total-with_one c Succeeded = omega arith
total-with_one c Filtered = omega arith
total-with_one c Expired = omega arith
total-with_one c Exhausted = omega arith

pub count-with_one : (c : FateCounts) (f : Fate) → count_in (with_one c f) f ≡ count_in c f + 1
count-with_one c Succeeded = refl
count-with_one c Filtered = refl
count-with_one c Expired = refl
count-with_one c Exhausted = refl

pub count-with_other : (c : FateCounts) (f g : Fate) → same_fate g f ≡ false → count_in (with_one c f) g ≡ count_in c g
count-with_other c Succeeded Succeeded other = cc
count-with_other c Succeeded Filtered other = refl
count-with_other c Succeeded Expired other = refl
count-with_other c Succeeded Exhausted other = refl
count-with_other c Filtered Succeeded other = refl
count-with_other c Filtered Filtered other = cc
count-with_other c Filtered Expired other = refl
count-with_other c Filtered Exhausted other = refl
count-with_other c Expired Succeeded other = refl
count-with_other c Expired Filtered other = refl
count-with_other c Expired Expired other = cc
count-with_other c Expired Exhausted other = refl
count-with_other c Exhausted Succeeded other = refl
count-with_other c Exhausted Filtered other = refl
count-with_other c Exhausted Expired other = refl
count-with_other c Exhausted Exhausted other = cc

-- one more record counts where it has the fate
pub count-counted : (c : FateCounts) (o : Option Fate) (g : Fate) → count_in (counted c o) g ≡ count_in c g + length (filter (is_fate g) (o ∷ []))
count-counted c None g = omega arith
count-counted c (Some Succeeded) Succeeded = refl
count-counted c (Some Succeeded) Filtered = omega arith
count-counted c (Some Succeeded) Expired = omega arith
count-counted c (Some Succeeded) Exhausted = omega arith
count-counted c (Some Filtered) Succeeded = omega arith
count-counted c (Some Filtered) Filtered = refl
count-counted c (Some Filtered) Expired = omega arith
count-counted c (Some Filtered) Exhausted = omega arith
count-counted c (Some Expired) Succeeded = omega arith
count-counted c (Some Expired) Filtered = omega arith
count-counted c (Some Expired) Expired = refl
count-counted c (Some Expired) Exhausted = omega arith
count-counted c (Some Exhausted) Succeeded = omega arith
count-counted c (Some Exhausted) Filtered = omega arith
count-counted c (Some Exhausted) Expired = omega arith
count-counted c (Some Exhausted) Exhausted = refl

-- fronts

pub front_yes : (bs : List Bool) → front_of (true ∷ bs) ≡ suc (front_of bs)
front_yes bs = ap length (take_while-cons (λ b. b) true bs)

pub front_within : (bs : List Bool) → front_of bs ≤ length bs
front_within [] = omega arith
front_within (true ∷ bs) = omega (arith, front_yes bs, front_within bs)
front_within (false ∷ bs) = omega arith

pub number_within : (bs : List Bool) → number_of bs ≤ length bs
number_within [] = omega arith
number_within (true ∷ bs) = omega (arith, number_within bs)
number_within (false ∷ bs) = omega (arith, number_within bs)

-- those with a fate stand in the front or past it
pub number_split : (bs : List Bool) → number_of bs ≡ front_of bs + past_of bs
number_split [] = refl
number_split (true ∷ bs) =
    let past : past_of (true ∷ bs) ≡ past_of bs = ap (λ k. number_of (drop k (true ∷ bs))) (front_yes bs) in
    omega (arith, front_yes bs, past, number_split bs)
number_split (false ∷ bs) = omega arith

pub front_more : (bs : List Bool) (k : ℕ) → k ≤ front_of bs → get_or bs k false ≡ true → k + 1 ≤ front_of bs
front_more [] zero low is = cc
front_more [] (suc k) low is = absurd (omega arith)
front_more (true ∷ bs) zero low is = omega (arith, front_yes bs)
front_more (true ∷ bs) (suc k) low is = (let rest : k + 1 ≤ front_of bs = front_more bs k (omega (arith, front_yes bs)) is in omega (arith, front_yes bs))
front_more (false ∷ bs) zero low is = cc
front_more (false ∷ bs) (suc k) low is = absurd (omega arith)

pub front_ends : (bs : List Bool) (k : ℕ) → k ≤ front_of bs → get_or bs k false ≡ false → k ≡ front_of bs
front_ends [] k low not' = omega arith
front_ends (true ∷ bs) zero low not' = cc
front_ends (true ∷ bs) (suc k) low not' = (let rest : k ≡ front_of bs = front_ends bs k (omega (arith, front_yes bs)) not' in omega (arith, front_yes bs))
front_ends (false ∷ bs) k low not' = omega arith

-- one more record

pub front-push : (bs : List Bool) (b : Bool) → front_of bs ≤ front_of (bs ++ b ∷ [])
front-push [] b = omega arith
front-push (true ∷ bs) b = omega (arith, front_yes bs, front_yes (bs ++ b ∷ []), front-push bs b)
front-push (false ∷ bs) b = omega arith

pub number-push : (bs : List Bool) (c : FateCounts) (o : Option Fate) → total c ≡ number_of bs → total (counted c o) ≡ number_of (bs ++ is_some o ∷ [])
number-push [] c None all = all
number-push [] c (Some f) all = omega (arith, total-with_one c f)
number-push (true ∷ bs) c None all = (let rest : number_of bs ≡ number_of (bs ++ false ∷ []) = number_stays bs in omega arith)
  where
    number_stays : (bs : List Bool) → number_of bs ≡ number_of (bs ++ false ∷ [])
    number_stays [] = refl
    number_stays (true ∷ bs) = ap suc (number_stays bs)
    number_stays (false ∷ bs) = number_stays bs
number-push (false ∷ bs) c None all = number-push bs c None all
number-push (true ∷ bs) c (Some f) all = (let rest : number_of (bs ++ true ∷ []) ≡ number_of bs + 1 = number_grows bs in omega (arith, total-with_one c f))
  where
    number_grows : (bs : List Bool) → number_of (bs ++ true ∷ []) ≡ number_of bs + 1
    number_grows [] = refl
    number_grows (true ∷ bs) = omega (arith, number_grows bs)
    number_grows (false ∷ bs) = number_grows bs
number-push (false ∷ bs) c (Some f) all = number-push bs c (Some f) all

-- one more fate

pub front-set : (bs : List Bool) (i : ℕ) → front_of bs ≤ front_of (slice_set bs i true)
front-set [] i = omega arith
front-set (true ∷ bs) zero = omega arith
front-set (true ∷ bs) (suc i) = omega (arith, front_yes bs, front_yes (slice_set bs i true), front-set bs i)
front-set (false ∷ bs) i = omega arith

pub number-set : (bs : List Bool) (i : ℕ) → i < length bs → get_or bs i false ≡ false → number_of (slice_set bs i true) ≡ number_of bs + 1
number-set [] i low not' = absurd (omega arith)
number-set (true ∷ bs) zero low not' = cc
number-set (true ∷ bs) (suc i) low not' = (let rest : number_of (slice_set bs i true) ≡ number_of bs + 1 = number-set bs i (omega arith) not' in omega arith)
number-set (false ∷ bs) zero low not' = omega arith
number-set (false ∷ bs) (suc i) low not' = number-set bs i (omega arith) not'

-- a place without a fate leaves room for one more
pub number_short : (bs : List Bool) (i : ℕ) → i < length bs → get_or bs i false ≡ false → number_of bs < length bs
number_short [] i low not' = absurd (omega arith)
number_short (true ∷ bs) zero low not' = cc
number_short (true ∷ bs) (suc i) low not' = (let rest : number_of bs < length bs = number_short bs i (omega arith) not' in omega arith)
number_short (false ∷ bs) i low not' = omega (arith, number_within bs)
