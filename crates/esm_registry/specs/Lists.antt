-- The list of mappings in order of creation, how a mapping is found and named, and when two of them conflict. Source: the
-- Lambda API reference, `CreateEventSourceMapping` (one mapping for a source and a function); RFC 9562, section 5.3, for
-- the UUID; the name in it is this product's own.
use Rattle.std.specs.Prelude.{ℕ, ◌+◌, Bool, not, ◌&&◌, List, [], ◌∷◌, ◌++◌, map, filter, find, Option, decimal, if◌then◌else◌}
use Rattle.std.specs.List.{list_any}
use Rattle.std.specs.Str.{bytes_eq}
use Rattle.md5.specs.Md5.{md5}
use Rattle.uuid.specs.Uuid.{namespace_url}
use Rattle.uuid.specs.Parts.{with_variant, with_version}
use Rattle.uuid.specs.declared.Variant.TheVariants.{RFC4122}
use Rattle.uuid.specs.declared.Version.TheVariants.{Md5}
use Rattle.esm_model.specs.declared.config.Config.{Config}
use Rattle.esm_registry.specs.declared.mapping.Mapping.{Mapping}

-- the mappings, oldest first, and how many were ever created
pub record Mappings : Type 0 where
  pub list : List Mapping
  pub created : ℕ

abbrev pub no_mappings : Mappings
no_mappings = record { list = []; created = 0 }

abbrev pub has_id : List ℕ → Mapping → Bool
has_id id m = bytes_eq m.id id

-- the mapping with this UUID
abbrev pub mapping_at : List ℕ → List Mapping → Option Mapping
mapping_at id list = find (has_id id) list

-- the other mappings
abbrev pub without : List ℕ → List Mapping → List Mapping
without id list = filter (λ m. not (has_id id m)) list

-- the list with this mapping in the place of the one with the UUID
abbrev pub replaced : List ℕ → Mapping → List Mapping → List Mapping
replaced id new list = map (λ m. if has_id id m then new else m) list

-- the mapping has the source and the function of the configuration
abbrev pub is_alike : Config → Mapping → Bool
is_alike c m = bytes_eq m.config.source_arn c.source_arn && bytes_eq m.config.function_arn c.function_arn

abbrev pub is_taken : Config → List Mapping → Bool
is_taken c list = list_any (is_alike c) list

-- the source's ARN, the function's and the creation number, separated by line feeds
abbrev pub uuid_name : Config → ℕ → List ℕ
uuid_name c number = c.source_arn ++ (10 ∷ (c.function_arn ++ (10 ∷ decimal number)))

-- the UUID of version 3 of that name, in the namespace of URLs
unfoldable pub uuid_of : Config → ℕ → List ℕ
uuid_of c number = with_version (with_variant (md5 (namespace_url ++ uuid_name c number)) RFC4122) Md5

-- the mapping that a creation adds
abbrev pub new_mapping : Mappings → Config → ℕ → Mapping
new_mapping s c moment = record { id = uuid_of c (s.created + 1); config = c; created = moment; modified = moment }

-- the mapping with this configuration in place of its own
abbrev pub changed : Mapping → Config → ℕ → Mapping
changed m c moment = record { id = m.id; config = c; created = m.created; modified = moment }
