-- The configuration that a mapping's object gives, for a Kinesis stream or an SQS queue, or for the stream of a DynamoDB
-- table. Source: the Lambda API reference, `CreateEventSourceMapping`.
use Rattle.std.specs.Prelude.{ok_or, false, Option, Result}
use Rattle.std.specs.Result.{result_ok}
use Rattle.serde_json.specs.Data.{Data}
use Rattle.serde_json.specs.Find.{as_object}
use Rattle.esm_model.specs.declared.config.Config.{Config}
use Rattle.esm_config.specs.Fields.{field}
use Rattle.esm_config.specs.Judged.{Fields, and_then, judged}
use Rattle.esm_config.specs.Names.{name_of}
use Rattle.esm_config.specs.declared.param.Param.{Param}
use Rattle.esm_config.specs.declared.param.Param.TheVariants.{Body}
use Rattle.esm_config.specs.declared.sources.Sources.{Sources}
use Rattle.esm_config.specs.declared.sources.Sources.TheVariants.{KinesisOrSqs, DynamoDb}

-- the fields of a new mapping's object, which may give each of them
abbrev pub fields_among : Sources → Data → Fields
fields_among sources d = record { sources = sources; look = λ p. field (name_of p) d; is_barred = λ _. false }

abbrev pub fields_of : Data → Fields
fields_of d = fields_among KinesisOrSqs d

abbrev pub judge : Data → Result Config Param
judge d = and_then (ok_or (as_object d) Body) (λ members. judged (fields_of d) members)

-- the configuration, if no field is refused
abbrev pub config_of : Data → Option Config
config_of d = result_ok (judge d)

-- the same for the stream of a DynamoDB table
abbrev pub judge_dynamo : Data → Result Config Param
judge_dynamo d = and_then (ok_or (as_object d) Body) (λ members. judged (fields_among DynamoDb d) members)

abbrev pub dynamo_config_of : Data → Option Config
dynamo_config_of d = result_ok (judge_dynamo d)
