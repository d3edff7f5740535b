-- What contracts see of the mappings in memory. Only this crate's proofs cite this.
use Rattle.std.specs.Prelude.{◌≡◌, ℕ, ◌+◌, Bool, ◌&&◌, List, [], ◌∷◌, Option, Some, None, if◌then◌else◌}
use Rattle.std.specs.Str.{bytes_eq}
use Rattle.esm_model.specs.declared.config.Config.{Config}
use Rattle.esm_registry.specs.declared.mapping.Mapping.{Mapping}
use Rattle.esm_registry.specs.Lists.{Mappings, mapping_at}

-- the ARNs of a source and of a function
pub record Arns : Type 0 where
  pub source : List ℕ
  pub function : List ℕ

abbrev pub arns_of : Config → Arns
arns_of c = record { source = c.source_arn; function = c.function_arn }

-- whether they are the same
abbrev pub is_same : Arns → Arns → Bool
is_same p q = bytes_eq q.source p.source && bytes_eq q.function p.function

-- 1 where they are, and 0 elsewhere
unfoldable pub one_of : Arns → Arns → ℕ
one_of p q = if is_same p q then 1 else 0

-- the mappings, and the source and function for which a count is held ready, so that a mapping can get them without
-- memory
pub record TableState : Type 0 where
  pub mappings : Mappings
  pub promised : Option Arns

-- how many mappings have this source and function
abbrev pub count_in : Arns → List Mapping → ℕ
count_in p [] = 0
count_in p (m ∷ ms) = one_of p (arns_of m.config) + count_in p ms

abbrev pub count_promised : Arns → Option Arns → ℕ
count_promised p None = 0
count_promised p (Some q) = one_of p q

-- there is a mapping with the UUID, and it has this source and function
pub record HasPair (list : List Mapping) (id : List ℕ) (p : Arns) : Type 0 where
  pub mapping : Mapping
  pub there : mapping_at id list ≡ Some mapping
  pub pair : p ≡ arns_of mapping.config
