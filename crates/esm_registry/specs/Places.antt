-- The index of the mappings in memory, by place and by UUID. Only this crate's proofs cite this.
use Rattle.std.specs.Prelude.{◌≡◌, ℕ, ◌<◌, List, [], ◌∷◌, Some}
use Rattle.std.specs.Ordering.{nat_cmp}
use Rattle.std.specs.Cmp.Lexicographic.{slice_cmp}
use Rattle.std.specs.declared.cmp.Ordering.{Ordering}
use Rattle.std.specs.Map.{values_of}
use Rattle.std.specs.BTreeMap.{BTreeMap, get, IsOrdered}
use Rattle.esm_config.specs.Given.{IsGiven}
use Rattle.esm_registry.specs.declared.mapping.Mapping.{Mapping}

abbrev pub id_cmp : List ℕ → List ℕ → Ordering
id_cmp = slice_cmp nat_cmp

abbrev pub list_of : BTreeMap ℕ Mapping → List Mapping
list_of mappings = values_of mappings.entries

-- a mapping at its place: its UUID leads there, the place is below the next one, and its configuration is a valid one
pub record IsPlaced (places : BTreeMap (List ℕ) ℕ) (next place : ℕ) (m : Mapping) : Type 0 where
  pub found : get id_cmp places m.id ≡ Some place
  pub below : place < next
  pub given : IsGiven m.config

abbrev pub ArePlaced : BTreeMap (List ℕ) ℕ → ℕ → List (ℕ × Mapping) → Type 0
ArePlaced places next [] = Unit {0}
ArePlaced places next (e ∷ es) = IsPlaced places next e.0 e.1 × ArePlaced places next es

-- the mapping at the place that the index has for a UUID
pub record HasMapping (mappings : BTreeMap ℕ Mapping) (id : List ℕ) (place : ℕ) : Type 0 where
  pub mapping : Mapping
  pub there : get nat_cmp mappings place ≡ Some mapping
  pub its_id : mapping.id ≡ id

-- The mappings are in the order of their places, and the index leads from each UUID to its mapping and has no other
-- UUIDs.
pub record IsIndex (mappings : BTreeMap ℕ Mapping) (places : BTreeMap (List ℕ) ℕ) (next : ℕ) : Type 0 where
  pub ordered : IsOrdered nat_cmp mappings
  pub placed : ArePlaced places next mappings.entries
  pub found : (id : List ℕ) (place : ℕ) → get id_cmp places id ≡ Some place → HasMapping mappings id place
