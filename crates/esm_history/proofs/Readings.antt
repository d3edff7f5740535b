-- Which rulings an answer leads to. Only this crate's proofs cite this.
use Rattle.std.proofs.Common.{◌≡◌, ℕ, zero, suc, ◌+◌, ◌-◌, ◌/◌, ◌<◌, ◌≤◌, Bool, true, false, not, ◌&&◌, ◌||◌, List, [], ◌∷◌, length, refl, inl, inr, arith, Option, Some, None}
use Rattle.std.specs.Prelude.{◌==◌, ⊤, nat_lt, if◌then◌else◌}
use Rattle.std.specs.List.{fold}
use Rattle.std.proofs.lemmas.Bool.{cases_Bool, and_parts, ltb-true, ltb-false}
use Rattle.serde_json.specs.Data.{Data, null, array, object}
use Rattle.serde_json.specs.Find.{get_member}
use Rattle.std.specs.Prelude.{codes, min}
use Rattle.esm_model.specs.Json.{read_json}
use Rattle.esm_model.specs.declared.config.Config.{Config}
use Rattle.esm_model.specs.declared.entry.Reply.{Reply}
use Rattle.esm_model.specs.declared.entry.Reply.TheVariants.{Answered, Garbled, Lost}
use Rattle.esm_model.specs.declared.verdict.Reading.{Reading}
use Rattle.esm_model.specs.declared.verdict.Reading.TheVariants.{Whole, NotRun, Failed, UpTo}
use Rattle.esm_model.specs.declared.verdict.Rest.{Rest}
use Rattle.esm_model.specs.declared.verdict.Rest.TheVariants as rest
use Rattle.esm_model.specs.Reading.{reading, run_reading, item_reading, body_reading, failures_reading, least_reading, all_reported, reading_before, has_bad_state}
use Rattle.esm_model.specs.Ruling.{ruling, after_try, verdict}
use Rattle.esm_model.specs.CallBound.{is_not_run}
use Rattle.esm_history.proofs.Spent.{outcome}

-- a reading that tells of records that succeeded tells of one at least
abbrev pub IsProper : Reading → Type 0
IsProper (UpTo zero) = ⊥
IsProper (UpTo (suc p)) = ⊤
IsProper Whole = ⊤
IsProper NotRun = ⊤
IsProper Failed = ⊤

before_proper : (p : ℕ) → IsProper (reading_before p)
before_proper zero = tt
before_proper (suc p) = tt

least_proper : (o : Option (List ℕ)) → IsProper (least_reading o)
least_proper None = tt
least_proper (Some []) = tt
least_proper (Some (p ∷ ps)) = before_proper (fold min p ps)

failures_proper : (ids : List (List ℕ)) (o : Option Data) → IsProper (failures_reading ids o)
failures_proper ids None = tt
failures_proper ids (Some (array ds)) = least_proper (all_reported ids ds)
failures_proper ids (Some null) = tt
failures_proper ids (Some other) = tt

body_proper : (ids : List (List ℕ)) (o : Option Data) → IsProper (body_reading ids o)
body_proper ids (Some (object ms)) = failures_proper ids (get_member (codes "batchItemFailures") ms)
body_proper ids (Some null) = tt
body_proper ids None = tt
body_proper ids (Some other) = tt

item_proper : (ids : List (List ℕ)) (body : List ℕ) → IsProper (item_reading ids body)
unfolding item_reading
item_proper ids [] = tt
item_proper ids (x ∷ xs) = body_proper ids (read_json (x ∷ xs))

either_proper : (b : Bool) (x y : Reading) → IsProper x → IsProper y → IsProper (if b then x else y)
either_proper true x y p q = p
either_proper false x y p q = q

pub reading_proper : (c : Config) (ids : List (List ℕ)) (closing : Bool) (reply : Reply) → IsProper (reading c ids closing reply)
reading_proper c ids closing Lost = tt
reading_proper c ids closing (Garbled bytes) = tt
reading_proper c ids closing (Answered status error body) =
    either_proper (not (status == 200)) NotRun (if error then Failed else run_reading c ids closing body) tt
    (either_proper error Failed (run_reading c ids closing body) tt
    (either_proper (has_bad_state c body) Failed (if not c.item_failures || closing then Whole else item_reading ids body) tt
    (either_proper (not c.item_failures || closing) Whole (item_reading ids body) tt (item_proper ids body))))

-- what a ruling on a batch says of its records, tries and retry attempts
abbrev pub Follows : (limit count tries : ℕ) → ℕ → Rest → Type 0
Follows limit count tries zero rest.Nothing = count ≡ 0
Follows limit count tries zero (rest.Split k) = (1 ≤ k) × (k < count)
Follows limit count tries zero rest.Counted = tries + 1 ≤ limit
Follows limit count tries zero rest.Again = ⊤
Follows limit count tries zero rest.Exhausted = ⊤
Follows limit count tries (suc p) left = ⊤

whole_follows : (limit count tries : ℕ) → Follows limit count tries count rest.Nothing
whole_follows limit zero tries = refl
whole_follows limit (suc count) tries = tt

try_follows : (limit count tries : ℕ) → Follows limit count tries 0 (after_try (Some limit) tries)
try_follows limit count tries =
    elim (cases_Bool (nat_lt limit (tries + 1))) [
      | inl over ↦ rw over tt
      | inr within ↦ rw within (ltb-false limit (tries + 1) within)
    ]

failed_follows : (c : Config) (limit count tries : ℕ) → c.retries ≡ Some limit → Follows limit count tries (ruling c count tries Failed).succeeded (ruling c count tries Failed).rest
failed_follows c limit count tries finite =
    elim (cases_Bool (c.bisect && nat_lt 1 count)) [
      | inl split ↦ (
          let more : 1 < count = ltb-true 1 count (and_parts c.bisect (nat_lt 1 count) split).1 in
          rw split (omega (arith, more), omega (arith, more)))
      | inr whole ↦ rw (whole, finite) (try_follows limit count tries)
    ]

up_to_follows : (c : Config) (limit count tries p : ℕ) → Follows limit count tries (ruling c count tries (UpTo (suc p))).succeeded (ruling c count tries (UpTo (suc p))).rest
up_to_follows c limit count tries p = elim (cases_Bool c.bisect) [ inl split ↦ rw split tt | inr whole ↦ rw whole tt ]

pub ruling_follows : (c : Config) (limit count tries : ℕ) (r : Reading) → c.retries ≡ Some limit → IsProper r → Follows limit count tries (ruling c count tries r).succeeded (ruling c count tries r).rest
ruling_follows c limit count tries Whole finite proper = whole_follows limit count tries
ruling_follows c limit count tries NotRun finite proper = tt
ruling_follows c limit count tries Failed finite proper = failed_follows c limit count tries finite
ruling_follows c limit count tries (UpTo zero) finite proper = absurd proper
ruling_follows c limit count tries (UpTo (suc p)) finite proper = up_to_follows c limit count tries p

-- an end that was run spends one slot, and one that was not spends none

try_spends : (o : Option ℕ) (r n tries : ℕ) (places : List ℕ) (p : ℕ) → length (outcome r n places tries (verdict p (after_try o tries))) ≡ 1
try_spends None r n tries places zero = refl
try_spends None r n tries places (suc p) = refl
try_spends (Some limit) r n tries places zero = elim (cases_Bool (nat_lt limit (tries + 1))) [ inl over ↦ rw over refl | inr within ↦ rw within refl ]
try_spends (Some limit) r n tries places (suc p) = refl

split_spends : (r n tries : ℕ) (places : List ℕ) (p k : ℕ) → length (outcome r n places tries (verdict p (rest.Split k))) ≡ 1
split_spends r n tries places zero k = refl
split_spends r n tries places (suc p) k = refl

whole_spends : (r n tries : ℕ) (places : List ℕ) (count : ℕ) → length (outcome r n places tries (verdict count rest.Nothing)) ≡ 1
whole_spends r n tries places zero = refl
whole_spends r n tries places (suc count) = refl

pub end_spends : (c : Config) (r n count tries : ℕ) (places : List ℕ) (x : Reading) → length (outcome r n places tries (ruling c count tries x)) + (if is_not_run x then 1 else 0) ≡ 1
end_spends c r n count tries places Whole = (let one : length (outcome r n places tries (verdict count rest.Nothing)) ≡ 1 = whole_spends r n tries places count in omega (arith, one))
end_spends c r n count tries places NotRun = refl
end_spends c r n count tries places Failed =
    elim (cases_Bool (c.bisect && nat_lt 1 count)) [
      | inl split ↦ rw split (let one : length (outcome r n places tries (verdict 0 (rest.Split (count - count / 2)))) ≡ 1 = split_spends r n tries places 0 (count - count / 2) in omega (arith, one))
      | inr whole ↦ rw whole (let one : length (outcome r n places tries (verdict 0 (after_try c.retries tries))) ≡ 1 = try_spends c.retries r n tries places 0 in omega (arith, one))
    ]
end_spends c r n count tries places (UpTo p) =
    elim (cases_Bool c.bisect) [
      | inl split ↦ rw split (let one : length (outcome r n places tries (verdict p (rest.Split (count - p)))) ≡ 1 = split_spends r n tries places p (count - p) in omega (arith, one))
      | inr whole ↦ rw whole (let one : length (outcome r n places tries (verdict p (after_try c.retries tries))) ≡ 1 = try_spends c.retries r n tries places p in omega (arith, one))
    ]

-- final calls

-- a final call is run whole, or not at all
abbrev pub IsOfFinal : Reading → Type 0
IsOfFinal (UpTo p) = ⊥
IsOfFinal Whole = ⊤
IsOfFinal NotRun = ⊤
IsOfFinal Failed = ⊤

either_final : (b : Bool) (x y : Reading) → IsOfFinal x → IsOfFinal y → IsOfFinal (if b then x else y)
either_final true x y p q = p
either_final false x y p q = q

always : (b : Bool) → (b || true) ≡ true
always true = refl
always false = refl

pub reading_final : (c : Config) (ids : List (List ℕ)) (reply : Reply) → IsOfFinal (reading c ids true reply)
reading_final c ids Lost = tt
reading_final c ids (Garbled bytes) = tt
reading_final c ids (Answered status error body) =
    either_final (not (status == 200)) NotRun (if error then Failed else run_reading c ids true body) tt
    (either_final error Failed (run_reading c ids true body) tt
    (either_final (has_bad_state c body) Failed (if not c.item_failures || true then Whole else item_reading ids body) tt
    (rw (always (not c.item_failures)) tt)))

abbrev pub FollowsFinal : (limit tries : ℕ) → Rest → Type 0
FollowsFinal limit tries rest.Nothing = ⊤
FollowsFinal limit tries rest.Again = ⊤
FollowsFinal limit tries (rest.Split k) = ⊥
FollowsFinal limit tries rest.Counted = tries + 1 ≤ limit
FollowsFinal limit tries rest.Exhausted = ⊤

nothing_split : (b : Bool) → (b && nat_lt 1 0) ≡ false
nothing_split true = refl
nothing_split false = refl

pub final_follows : (c : Config) (limit tries : ℕ) (x : Reading) → c.retries ≡ Some limit → IsOfFinal x → FollowsFinal limit tries (ruling c 0 tries x).rest
final_follows c limit tries Whole finite is = tt
final_follows c limit tries NotRun finite is = tt
final_follows c limit tries (UpTo p) finite is = absurd is
final_follows c limit tries Failed finite is =
    rw (nothing_split c.bisect, finite)
    (elim (cases_Bool (nat_lt limit (tries + 1))) [
      | inl over ↦ rw over tt
      | inr within ↦ rw within (ltb-false limit (tries + 1) within)
    ])
