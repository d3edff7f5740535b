-- What the payloads of a registry's journal say. The format is this product's own: a kind byte, the sixteen bytes of a
-- UUID, a moment in eight bytes, big-endian, and for kinds 1 and 2 the text of a configuration.
use Rattle.std.specs.Prelude.{ℕ, ◌+◌, ◌==◌, nat_lt, List, [], ◌∷◌, ◌++◌, length, take, drop, reverse, Option, Some, None, option_map, option_and_then, if◌then◌else◌}
use Rattle.std.specs.Int.{w64, to_be_bytes, from_be_bytes}
use Rattle.std.specs.Result.{result_ok}
use Rattle.std.specs.Str.{bytes_eq}
use Rattle.serde_json.specs.Data.{Data}
use Rattle.esm_model.specs.Json.{read_json}
use Rattle.esm_model.specs.declared.moment.TheConstants.{MAX_MOMENT}
use Rattle.esm_model.specs.declared.config.Config.{Config}
use Rattle.esm_registry.specs.declared.change.Change.{Change}
use Rattle.esm_registry.specs.declared.change.Change.TheVariants.{Created, Updated, Deleted}
use Rattle.esm_registry.specs.declared.mapping.Mapping.{Mapping}
use Rattle.esm_registry.specs.Configs.{config_judged, canonical_text}
use Rattle.esm_registry.specs.Lists.{Mappings, no_mappings, mapping_at, without, replaced, changed}

-- the bytes of a payload

abbrev pub head_of : ℕ → List ℕ → ℕ → List ℕ
head_of kind id moment = kind ∷ [] ++ id ++ to_be_bytes w64 moment

unfoldable pub payload_of : Change → List ℕ
payload_of (Created id moment config) = head_of 1 id moment ++ canonical_text config
payload_of (Updated id moment config) = head_of 2 id moment ++ canonical_text config
payload_of (Deleted id moment) = head_of 3 id moment

-- what a payload says

-- only if the text is the canonical one
abbrev pub if_canonical : List ℕ → Option Config → Option Config
if_canonical text None = None
if_canonical text (Some config) = if bytes_eq (canonical_text config) text then Some config else None

abbrev pub config_given : Data → Option Config
config_given d = result_ok (config_judged d)

-- the configuration of which this is the canonical text
unfoldable pub config_in : List ℕ → Option Config
config_in text = if_canonical text (option_and_then config_given (read_json text))

-- the change that these parts of a payload state
abbrev pub change_at : ℕ → List ℕ → ℕ → List ℕ → Option Change
change_at kind id moment text =
    if kind == 1 then option_map (Created id moment) (config_in text)
    else if kind == 2 then option_map (Updated id moment) (config_in text)
    else if kind == 3 then (if length text == 0 then Some (Deleted id moment) else None)
    else None

abbrev pub moment_in : List ℕ → ℕ
moment_in bytes = from_be_bytes w64 (take 8 bytes)

-- the change that the bytes behind the kind byte state; there is none with a moment above the greatest
abbrev pub change_behind : ℕ → List ℕ → Option Change
change_behind kind bytes =
    if nat_lt (length bytes) 24 then None
    else if nat_lt MAX_MOMENT (moment_in (drop 16 bytes)) then None
    else change_at kind (take 16 bytes) (moment_in (drop 16 bytes)) (drop 24 bytes)

unfoldable pub change_of : List ℕ → Option Change
change_of [] = None
change_of (kind ∷ bytes) = change_behind kind bytes

-- what a list of payloads says

-- a mapping is created under a UUID that no mapping has
abbrev pub after_created : Mappings → List ℕ → ℕ → Config → Option Mapping → Option Mappings
after_created s id moment config (Some m) = None
after_created s id moment config None =
    Some (record { list = s.list ++ record { id = id; config = config; created = moment; modified = moment } ∷ []; created = s.created + 1 })

-- it is updated or deleted only if a mapping has the UUID
abbrev pub after_updated : Mappings → List ℕ → ℕ → Config → Option Mapping → Option Mappings
after_updated s id moment config None = None
after_updated s id moment config (Some m) = Some (record { list = replaced id (changed m config moment) s.list; created = s.created })

abbrev pub after_deleted : Mappings → List ℕ → Option Mapping → Option Mappings
after_deleted s id None = None
after_deleted s id (Some m) = Some (record { list = without id s.list; created = s.created })

-- the mappings after a change, if it can follow
abbrev pub after_change : Mappings → Change → Option Mappings
after_change s (Created id moment config) = after_created s id moment config (mapping_at id s.list)
after_change s (Updated id moment config) = after_updated s id moment config (mapping_at id s.list)
after_change s (Deleted id moment) = after_deleted s id (mapping_at id s.list)

abbrev pub after_payload : List ℕ → Mappings → Option Mappings
after_payload payload s = option_and_then (after_change s) (change_of payload)

-- the payloads are here newest first
abbrev pub told : List (List ℕ) → Option Mappings
told [] = Some no_mappings
told (payload ∷ before) = option_and_then (after_payload payload) (told before)

-- the mappings that a list of payloads says; `None` where one of them is no payload of a registry
abbrev pub mappings_of : List (List ℕ) → Option Mappings
mappings_of payloads = told (reverse payloads)
