-- What a stream's answer reports lies within its batch.
use Rattle.std.proofs.Common.{◌≡◌, ℕ, zero, suc, ◌<◌, min, List, [], ◌∷◌, length, Option, Some, None, option_map, codes, refl, sym, subst, arith}
use Rattle.std.specs.Option.{option_and_then}
use Rattle.std.specs.List.{fold, position}
use Rattle.std.specs.Str.{bytes_eq}
use Rattle.std.proofs.lemmas.List.Quantifiers.{position-Some}
use Rattle.serde_json.specs.Data.{Data, null, boolean, number, string, array, object, Items, no_items, item}
use Rattle.serde_json.specs.Find.{get, get_member, as_str}
use Rattle.esm_model.specs.Json.{read_json}
use Rattle.esm_model.specs.Reading.{reported, all_reported, reading_before, least_reading, failures_reading, body_reading, item_reading}
use Rattle.esm_model.specs.declared.verdict.Reading.{Reading}
use Rattle.esm_verdict.specs.Readings.{IsWithin}

-- ---- the least position

least_within : (n p : ℕ) (ps : List ℕ) → p < n → fold min p ps < n
least_within n p [] h = h
least_within n p (q ∷ ps) h = least_within n (min p q) ps (omega arith)

before_within : (n q : ℕ) → q < n → IsWithin n (reading_before q)
before_within n zero h = tt
before_within n (suc p) h = (omega arith, h)

-- a position that is found is one of the list
found_within : (ids : List (List ℕ)) (id : List ℕ) (p : ℕ) → position (λ i. bytes_eq i id) ids ≡ Some p → p < length ids
found_within ids id p e = (position-Some (λ i. bytes_eq i id) ids p [] e).0

id_within : (ids : List (List ℕ)) (o : Option (List ℕ)) (p : ℕ) → option_and_then (λ id. position (λ i. bytes_eq i id) ids) o ≡ Some p → p < length ids
id_within ids None p e = cc
id_within ids (Some id) p e = found_within ids id p e

more_within : (ids : List (List ℕ)) (more : Option (List ℕ)) (q p : ℕ) (ps : List ℕ) → q < length ids → option_map (λ rs. q ∷ rs) more ≡ Some (p ∷ ps) → p < length ids
more_within ids None q p ps h e = cc
more_within ids (Some rs) q p ps h e = let same : q ≡ p = cc in omega arith

first_within : (ids : List (List ℕ)) (o : Option ℕ) (more : Option (List ℕ)) (p : ℕ) (ps : List ℕ) → ((q : ℕ) → o ≡ Some q → q < length ids)
    → option_and_then (λ q. option_map (λ rs. q ∷ rs) more) o ≡ Some (p ∷ ps) → p < length ids
first_within ids None more p ps h e = cc
first_within ids (Some q) more p ps h e = more_within ids more q p ps (h q refl) e

all_within : (ids : List (List ℕ)) (ds : Items) (p : ℕ) (ps : List ℕ) → all_reported ids ds ≡ Some (p ∷ ps) → p < length ids
all_within ids no_items p ps e = cc
all_within ids (item d ds) p ps e =
    first_within ids (reported ids d) (all_reported ids ds) p ps (λ q h. id_within ids (option_and_then as_str (get (codes "itemIdentifier") d)) q h) e

reported_within : (ids : List (List ℕ)) (ds : Items) (o : Option (List ℕ)) → all_reported ids ds ≡ o → IsWithin (length ids) (least_reading o)
reported_within ids ds None e = tt
reported_within ids ds (Some []) e = tt
reported_within ids ds (Some (p ∷ ps)) e = before_within (length ids) (fold min p ps) (least_within (length ids) p ps (all_within ids ds p ps e))

-- ---- the reading of a body

failures_within : (ids : List (List ℕ)) (value : Option Data) → IsWithin (length ids) (failures_reading ids value)
failures_within ids None = tt
failures_within ids (Some null) = tt
failures_within ids (Some (boolean b)) = tt
failures_within ids (Some (number n)) = tt
failures_within ids (Some (string s)) = tt
failures_within ids (Some (array ds)) = reported_within ids ds (all_reported ids ds) refl
failures_within ids (Some (object ms)) = tt

body_within : (ids : List (List ℕ)) (d : Option Data) → IsWithin (length ids) (body_reading ids d)
body_within ids None = tt
body_within ids (Some null) = tt
body_within ids (Some (boolean b)) = tt
body_within ids (Some (number n)) = tt
body_within ids (Some (string s)) = tt
body_within ids (Some (array ds)) = tt
body_within ids (Some (object ms)) = failures_within ids (get_member (codes "batchItemFailures") ms)

item_within : (ids : List (List ℕ)) (body : List ℕ) → IsWithin (length ids) (item_reading ids body)
unfolding item_reading
item_within ids [] = tt
item_within ids (x ∷ xs) = body_within ids (read_json (x ∷ xs))

pub read_within : (ids : List (List ℕ)) (body : List ℕ) (r : Reading) → r ≡ item_reading ids body → IsWithin (length ids) r
read_within ids body r e = let P : Reading → Type 0 = IsWithin (length ids) in subst P (sym e) (item_within ids body)
