-- The payloads of a registry, taken in one by one.
use Rattle.std.proofs.Common.{◌≡◌, ◌∙◌, ◌+◌, ◌++◌, ℕ, List, [], ◌∷◌, Some, None, is_some, take, ap, option_and_then}
use Rattle.std.proofs.lemmas.List.{reverse-append}
use Rattle.esm_registry.specs.Index.{TableState}
use Rattle.esm_registry.specs.Lists.{Mappings}
use Rattle.esm_registry.specs.Payload.{after_payload, mappings_of, told}
use Rattle.esm_registry.specs.State.{IsFirstBad}
use Rattle.esm_registry.proofs.Commands.{mappings_of-push}

mappings_of-bad : (payloads : List (List ℕ)) (payload : List ℕ) (s : Mappings) → mappings_of payloads ≡ Some s → after_payload payload s ≡ None
    → mappings_of (payloads ++ payload ∷ []) ≡ None
mappings_of-bad payloads payload s before bad =
    ap told (reverse-append payloads (payload ∷ [])) ∙ ap (option_and_then (after_payload payload)) before ∙ bad

-- so many payloads say the mappings
pub record HasTaken (payloads : List (List ℕ)) (count : ℕ) (table : TableState) : Type 0 where
  pub said : mappings_of (take count payloads) ≡ Some table.mappings
  pub free : table.promised ≡ None

pub taken_more : (payloads : List (List ℕ)) (count : ℕ) (payload : List ℕ) (table table' : TableState) → HasTaken payloads count table
    → take (count + 1) payloads ≡ take count payloads ++ payload ∷ [] → after_payload payload table.mappings ≡ Some table'.mappings → table'.promised ≡ None
    → HasTaken payloads (count + 1) table'
taken_more payloads count payload table table' taken more after free = record {
  said = ap mappings_of more ∙ mappings_of-push (take count payloads) payload table.mappings table'.mappings taken.said after;
  free = free;
}

pub first_bad : (payloads : List (List ℕ)) (count : ℕ) (payload : List ℕ) (table : TableState) → HasTaken payloads count table
    → take (count + 1) payloads ≡ take count payloads ++ payload ∷ [] → after_payload payload table.mappings ≡ None → IsFirstBad payloads count
first_bad payloads count payload table taken more bad =
    (ap is_some taken.said, ap mappings_of more ∙ mappings_of-bad (take count payloads) payload table.mappings taken.said bad)
