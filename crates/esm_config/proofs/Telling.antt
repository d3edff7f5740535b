-- What an answer that tells a judgement says.
use Rattle.std.proofs.Common.{◌≡◌, ap, subst, Option, Some, Result, Ok, Err, IfOk, ok_or}
use Rattle.std.specs.Result.{result_err, result_ok}
use Rattle.serde_json.specs.Data.{Data, Members, object}
use Rattle.serde_json.specs.Find.{as_object}
use Rattle.esm_model.specs.declared.config.Config.{Config}
use Rattle.esm_config.specs.Answer.{IfBad, Tells}
use Rattle.esm_config.specs.Given.{IsDynamoGiven, IsGiven}
use Rattle.esm_config.specs.Judged.{Fields, and_then, judged}
use Rattle.esm_config.specs.Merge.{judge_update, updated_fields}
use Rattle.esm_config.specs.Text.{config_members, config_value}
use Rattle.esm_config.specs.declared.param.ConfigError.{ConfigError}
use Rattle.esm_config.specs.declared.param.ConfigError.TheVariants as why
use Rattle.esm_config.specs.declared.param.Param.{Param}
use Rattle.esm_config.specs.declared.param.Param.TheVariants as param
use Rattle.esm_config.specs.declared.sources.Sources.TheVariants.{KinesisOrSqs, DynamoDb}
use Rattle.esm_config.proofs.Peeled.{is_made}
use Rattle.esm_config.proofs.Validity.{is_dynamo_given, is_given}

pub tells_ok : (r : Result Config ConfigError) (j : Result Config Param) → Tells (λ c. c) r j → IfOk r (λ c. result_ok j ≡ Some c)
tells_ok (Ok c) j h = ap result_ok h
tells_ok (Err e) j h = tt

pub tells_bad : (r : Result Config ConfigError) (j : Result Config Param) → Tells (λ c. c) r j → IfBad r (λ p. result_err j ≡ Some p)
tells_bad (Ok c) j h = tt
tells_bad (Err (why.BadParam p)) j h = ap result_err h
tells_bad (Err why.OutOfMemory) j h = tt

pub tells_given : (r : Result Config ConfigError) (fs : Fields) (ms : Members) → fs.sources ≡ KinesisOrSqs → Tells (λ c. c) r (judged fs ms) → IfOk r (λ c. IsGiven c)
tells_given (Ok c) fs ms s h = is_given fs c s (is_made fs ms c h)
tells_given (Err e) fs ms s h = tt

pub tells_dynamo : (r : Result Config ConfigError) (fs : Fields) (ms : Members) → fs.sources ≡ DynamoDb → Tells (λ c. c) r (judged fs ms) → IfOk r (λ c. IsDynamoGiven c)
tells_dynamo (Ok c) fs ms s h = is_dynamo_given fs c s (is_made fs ms c h)
tells_dynamo (Err e) fs ms s h = tt

-- of an object's members

pub of_object : (fs : Fields) (d : Data) (ms : Members) (r : Result Config ConfigError) → Some ms ≡ as_object d → Tells (λ c. c) r (judged fs ms)
    → Tells (λ c. c) r (and_then (ok_or (as_object d) param.Body) (λ ns. judged fs ns))
of_object fs d ms r o h =
    subst (λ (m : Option Members). Tells (λ (c : Config). c) r (and_then (ok_or m param.Body) (λ ns. judged fs ns))) o h

pub of_update : (old : Config) (before : Members) (d : Data) (ms : Members) (r : Result Config ConfigError) → before ≡ config_members old → Some ms ≡ as_object d
    → Tells (λ c. c) r (judged (updated_fields (object before) d) ms) → Tells (λ c. c) r (judge_update old d)
of_update old before d ms r b o h =
    subst (λ (m : Option Members). Tells (λ (c : Config). c) r (and_then (ok_or m param.Body) (λ ns. judged (updated_fields (config_value old) d) ns))) o
    (subst (λ (x : Members). Tells (λ (c : Config). c) r (judged (updated_fields (object x) d) ms)) b h)
