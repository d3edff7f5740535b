-- The configuration after an update. Each field that the update gives replaces the old mapping's. The others are as `text`
-- writes them, the function by its full ARN. Then all are judged as a new mapping's fields are. The source and the starting
-- position stay: an update that gives them is refused. Source: the Lambda API reference, `UpdateEventSourceMapping`, which
-- has none of these three fields.
use Rattle.std.specs.Prelude.{ok_or, Bool, true, false, is_some, ◌&&◌, Option, Result}
use Rattle.std.specs.Option.{option_or}
use Rattle.std.specs.Result.{result_err, result_ok}
use Rattle.serde_json.specs.Data.{Data}
use Rattle.serde_json.specs.Find.{as_object}
use Rattle.esm_model.specs.declared.config.Config.{Config}
use Rattle.esm_config.specs.Fields.{field}
use Rattle.esm_config.specs.Judged.{Fields, and_then, judged}
use Rattle.esm_config.specs.Names.{name_of}
use Rattle.esm_config.specs.Text.{config_value}
use Rattle.esm_config.specs.declared.param.Param.{Param}
use Rattle.esm_config.specs.declared.param.Param.TheVariants as param
use Rattle.esm_config.specs.declared.sources.Sources.TheVariants.{KinesisOrSqs}

-- the fields that no update may give
abbrev pub is_fixed : Param → Bool
is_fixed param.EventSourceArn = true
is_fixed param.StartingPosition = true
is_fixed param.StartingPositionTimestamp = true
is_fixed _ = false

-- the update's fields, and the old object's for those that it does not give
abbrev pub updated_fields : Data → Data → Fields
updated_fields old d = record {
  sources = KinesisOrSqs;
  look = λ p. option_or (field (name_of p) d) (field (name_of p) old);
  is_barred = λ p. is_fixed p && is_some (field (name_of p) d);
}

abbrev pub judge_update : Config → Data → Result Config Param
judge_update old d = and_then (ok_or (as_object d) param.Body) (λ members. judged (updated_fields (config_value old) d) members)

-- the configuration, if no field is refused
abbrev pub merged_of : Config → Data → Option Config
merged_of old d = result_ok (judge_update old d)

-- the first field that is refused, if one is
abbrev pub merge_refused : Config → Data → Option Param
merge_refused old d = result_err (judge_update old d)
