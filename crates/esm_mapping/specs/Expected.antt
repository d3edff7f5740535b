-- What a command expects of a mapping that is given as a text: the table by which its fields are judged, and its kind. This
-- product's own.
use Rattle.std.specs.Prelude.{Bool, true, not, Option, Result}
use Rattle.std.specs.Result.{result_err, result_ok}
use Rattle.serde_json.specs.Data.{Data}
use Rattle.esm_model.specs.Valid.{is_stream}
use Rattle.esm_model.specs.declared.config.Config.{Config}
use Rattle.esm_model.specs.declared.config.Kind.{Kind}
use Rattle.esm_config.specs.Given.{IsDynamoGiven, IsGiven}
use Rattle.esm_config.specs.Mapping.{judge, judge_dynamo}
use Rattle.esm_config.specs.declared.param.Param.{Param}
use Rattle.esm_mapping.specs.declared.expected.Expected.{Expected}
use Rattle.esm_mapping.specs.declared.expected.Expected.TheVariants.{StreamOrQueue, Stream, Queue, DynamoDb}

-- the judgement of the fields, by the table that the command expects
abbrev pub judged_as : Expected → Data → Result Config Param
judged_as StreamOrQueue value = judge value
judged_as Stream value = judge value
judged_as Queue value = judge value
judged_as DynamoDb value = judge_dynamo value

-- the configuration that the fields give, if none is refused
abbrev pub config_as : Expected → Data → Option Config
config_as e value = result_ok (judged_as e value)

-- the first field that is refused, if one is
abbrev pub refused_as : Expected → Data → Option Param
refused_as e value = result_err (judged_as e value)

-- what is known of a configuration that this judgement gave
abbrev pub IsGivenAs : Expected → Config → Type 0
IsGivenAs StreamOrQueue c = IsGiven c
IsGivenAs Stream c = IsGiven c
IsGivenAs Queue c = IsGiven c
IsGivenAs DynamoDb c = IsDynamoGiven c

-- a mapping of this kind is expected; a table's stream is a stream
abbrev pub is_expected : Expected → Kind → Bool
is_expected StreamOrQueue kind = true
is_expected Stream kind = is_stream kind
is_expected Queue kind = not (is_stream kind)
is_expected DynamoDb kind = is_stream kind
