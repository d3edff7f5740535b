-- The field that is refused of a mapping given as a text. Source: the Lambda API reference, `CreateEventSourceMapping`. This
-- product's own: a text that is no JSON is refused as the body; after all fields, first a mapping of another kind than
-- expected is refused, and then a `LATEST`, since such a mapping was never created.
use Rattle.std.specs.Prelude.{ℕ, List, Option, Some, None, option_and_then, if◌then◌else◌}
use Rattle.serde_json.specs.Data.{Data}
use Rattle.serde_json.specs.Read.{read}
use Rattle.esm_model.specs.declared.config.Config.{Config}
use Rattle.esm_config.specs.declared.param.Param.{Param}
use Rattle.esm_config.specs.declared.param.Param.TheVariants.{Body, EventSourceArn, StartingPosition}
use Rattle.esm_mapping.specs.Expected.{config_as, is_expected, refused_as}
use Rattle.esm_mapping.specs.Starts.{is_latest}
use Rattle.esm_mapping.specs.declared.expected.Expected.{Expected}

-- the position, if the mapping starts at the latest record
abbrev pub latest_refused : Config → Option Param
latest_refused c = if is_latest c.start then Some StartingPosition else None

-- the source, if the mapping is of another kind than expected; else the position, if it is `LATEST`
abbrev pub kind_refused : Expected → Config → Option Param
kind_refused e c = if is_expected e c.kind then latest_refused c else Some EventSourceArn

-- the field that the table refuses; if it refuses none, that for which the configuration is refused
abbrev pub refused_or_kind : Expected → Data → Option Param → Option Param
refused_or_kind e value (Some param) = Some param
refused_or_kind e value None = option_and_then (kind_refused e) (config_as e value)

abbrev pub refused_in : Expected → Option Data → Option Param
refused_in e None = Some Body
refused_in e (Some value) = refused_or_kind e value (refused_as e value)

-- the first field of the text that is refused, in the order of the table, if one is
abbrev pub refused_field : Expected → List ℕ → Option Param
refused_field e text = refused_in e (read text)
