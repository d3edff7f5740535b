-- The JSON texts of mappings. Source: the Lambda API reference, `GetEventSourceMapping` and `ListEventSourceMappings`;
-- the order of the members, and moments in whole seconds, are this product's own.
use Rattle.std.specs.Prelude.{ℕ, ◌/◌, Bool, List, ◌++◌, map, codes, if◌then◌else◌}
use Rattle.std.specs.List.{join_with_byte}
use Rattle.serde_json.specs.Data.{Data, number, string, object, unsigned, Members, no_members, member}
use Rattle.serde_json.specs.Written.{compact_text}
use Rattle.uuid.specs.Text.{hyphenated_text, lower}
use Rattle.esm_config.specs.Member.{and_members}
use Rattle.esm_config.specs.Text.{settings_of}
use Rattle.esm_registry.specs.declared.mapping.Mapping.{Mapping}

-- the whole seconds of a moment in milliseconds
abbrev pub seconds_of : ℕ → ℕ
seconds_of moment = moment / 1000

abbrev pub state_text : Bool → List ℕ
state_text enabled = if enabled then codes "Enabled" else codes "Disabled"

-- the members before a mapping's settings
unfoldable pub first_members : Mapping → Members
first_members m =
    member (codes "UUID") (string (hyphenated_text lower m.id))
    (member (codes "EventSourceArn") (string m.config.source_arn)
    (member (codes "FunctionArn") (string m.config.function_arn)
    (member (codes "State") (string (state_text m.config.enabled))
    (member (codes "LastModified") (number (unsigned (seconds_of m.modified)))
    no_members))))

-- the JSON object of a mapping, with its settings from `BatchSize` on
abbrev pub mapping_data : Mapping → Data
mapping_data m = object (and_members (first_members m) (settings_of m.config))

unfoldable pub mapping_text : Mapping → List ℕ
mapping_text m = compact_text (mapping_data m)

unfoldable pub list_text : List Mapping → List ℕ
list_text list = codes "{\"EventSourceMappings\":[" ++ join_with_byte 44 (map mapping_text list) ++ codes "]}"
