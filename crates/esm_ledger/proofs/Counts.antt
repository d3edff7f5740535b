-- How many of the records that come come to each lane.
use Rattle.std.proofs.Common.{◌≡◌, ℕ, ◌<◌, ◌≤◌, List, [], ◌∷◌, length, take, get_or, inl, inr, Option, arith}
use Rattle.std.proofs.lemmas.Bool.{cases_Bool}
use Rattle.std.proofs.lemmas.List.{length-take}
use Rattle.esm_ledger.specs.declared.arriving.Landing.{Landing}
use Rattle.esm_ledger.specs.Arriving.{landing_count, lands_in}

count_few : (ls : List (Option Landing)) (k : ℕ) → landing_count k ls ≤ length ls
count_few [] k = omega arith
count_few (l ∷ ls) k =
    let rest = count_few ls k in
    elim (cases_Bool (lands_in k l)) [
      | inl here ↦ rw here (omega (arith, rest))
      | inr off ↦ rw off (omega (arith, rest))
    ]

-- each is below the number of the records
pub counted_few : (counts : List ℕ) (ls : List (Option Landing)) (i lanes k : ℕ) → length counts ≡ lanes → ((j : ℕ) → j < lanes → get_or counts j 0 ≡ landing_count j (take i ls)) → i < length ls → k < length counts → get_or counts k 0 < length ls
counted_few counts ls i lanes k size each low here =
    let is : get_or counts k 0 ≡ landing_count k (take i ls) = each k (omega (arith, size, here)) in
    let few = count_few (take i ls) k in
    let front : length (take i ls) ≤ i = simp length-take (omega arith) in
    omega (arith, is, few, front, low)
