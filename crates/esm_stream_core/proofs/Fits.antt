-- Records that find places of 32 bits.
use Rattle.std.proofs.Common.{◌≡◌, ℕ, ◌+◌, ◌<◌, ◌≤◌, List, [], ◌∷◌, ◌++◌, length, take, sym, subst, inl, inr, arith}
use Rattle.std.specs.Prelude.{◌==◌, ⊤}
use Rattle.std.proofs.lemmas.Bool.{cases_Bool, eqb-true}
use Rattle.std.proofs.Common.{get_or}
use Rattle.std.proofs.lemmas.List.{take_more, take_all}
use Rattle.esm_model.specs.Records.{Record}
use Rattle.esm_model.specs.declared.entry.Entry.{Entry}
use Rattle.esm_model.specs.Entries.{came_count}
use Rattle.esm_ingest.specs.Coming.{count_of, FitPlaces}

-- with so many more of its shard each of the records finds its place
abbrev pub FindPlaces : List Entry → ℕ → List Record → Type 0
FindPlaces h count [] = ⊤
FindPlaces h count (r ∷ rs) = (came_count h r.shard + count < 4294967296) × FindPlaces h count rs

count_low : (n : ℕ) (rs : List Record) → count_of n rs ≤ length rs
count_low n [] = omega arith
count_low n (r ∷ rs) =
    let low = count_low n rs in
    elim (cases_Bool (r.shard == n)) [
      | inl same ↦ rw same (omega (arith, low))
      | inr other ↦ rw other (omega (arith, low))
    ]

each_fits : (h : List Entry) (count n : ℕ) (rs : List Record) → length rs ≤ count → came_count h n < 4294967296 → FindPlaces h count rs → came_count h n + count_of n rs < 4294967296
each_fits h count n [] few low find = omega (arith, low)
each_fits h count n (r ∷ rs) few low find = elim (cases_Bool (r.shard == n)) [
  | inl same ↦ (
      let is : r.shard ≡ n = eqb-true r.shard n same in
      let fits : came_count h n + count < 4294967296 = subst (λ (k : ℕ). came_count h k + count < 4294967296) is find.0 in
      let more = count_low n rs in
      rw same (omega (arith, fits, more, few)))
  | inr other ↦ rw other (each_fits h count n rs (omega (arith, few)) low find.1)
]

find_push : (h : List Entry) (count : ℕ) (rs : List Record) (r : Record) → FindPlaces h count rs → came_count h r.shard + count < 4294967296 → FindPlaces h count (rs ++ r ∷ [])
find_push h count [] r find fits = (fits, tt)
find_push h count (x ∷ rs) r find fits = (find.0, find_push h count rs r find.1 fits)

-- one more of the list
pub find_more : (h : List Entry) (count : ℕ) (rs : List Record) (i : ℕ) (r : Record) → i < length rs → r ≡ get_or rs i r → FindPlaces h count (take i rs) → came_count h r.shard + count < 4294967296 → FindPlaces h count (take (i + 1) rs)
find_more h count rs i r low is find fits =
    subst (FindPlaces h count) (sym (take_more rs i r low)) (subst (λ (x : Record). FindPlaces h count (take i rs ++ x ∷ [])) is (find_push h count (take i rs) r find fits))

pub fit_places : (h : List Entry) (rs : List Record) (i : ℕ) → length rs ≤ i → ((n : ℕ) → came_count h n < 4294967296) → FindPlaces h (length rs) (take i rs) → FitPlaces h rs
fit_places h rs i all low find n = each_fits h (length rs) n rs (omega arith) (low n) (subst (FindPlaces h (length rs)) (take_all i rs all) find)
