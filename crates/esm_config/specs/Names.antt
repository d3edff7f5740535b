-- The fields of a mapping: their names, and the order in which they are judged. Source: the Lambda API reference,
-- `CreateEventSourceMapping`; the order, `Unknown` and `Body` are this product's own.
use Rattle.std.specs.Prelude.{ℕ, ◌||◌, ◌&&◌, Bool, true, List, [], ◌∷◌, codes, is_some}
use Rattle.std.specs.List.{list_any}
use Rattle.std.specs.Str.{bytes_eq}
use Rattle.serde_json.specs.Data.{Members, no_members, member}
use Rattle.serde_json.specs.Find.{as_null}
use Rattle.esm_config.specs.declared.param.Param.{Param}
use Rattle.esm_config.specs.declared.param.Param.TheVariants as param

abbrev pub name_of : Param → List ℕ
name_of param.EventSourceArn = codes "EventSourceArn"
name_of param.FunctionName = codes "FunctionName"
name_of param.Enabled = codes "Enabled"
name_of param.BatchSize = codes "BatchSize"
name_of param.MaximumBatchingWindowInSeconds = codes "MaximumBatchingWindowInSeconds"
name_of param.FilterCriteria = codes "FilterCriteria"
name_of param.FunctionResponseTypes = codes "FunctionResponseTypes"
name_of param.StartingPosition = codes "StartingPosition"
name_of param.StartingPositionTimestamp = codes "StartingPositionTimestamp"
name_of param.ParallelizationFactor = codes "ParallelizationFactor"
name_of param.MaximumRetryAttempts = codes "MaximumRetryAttempts"
name_of param.MaximumRecordAgeInSeconds = codes "MaximumRecordAgeInSeconds"
name_of param.BisectBatchOnFunctionError = codes "BisectBatchOnFunctionError"
name_of param.TumblingWindowInSeconds = codes "TumblingWindowInSeconds"
name_of param.DestinationConfig = codes "DestinationConfig"
name_of param.ScalingConfig = codes "ScalingConfig"
name_of param.Unknown = codes "Unknown"
name_of param.Body = codes "Body"

-- the fields that a mapping may have
abbrev pub listed : List Param
listed =
    param.EventSourceArn ∷ param.FunctionName ∷ param.Enabled ∷ param.BatchSize ∷ param.MaximumBatchingWindowInSeconds
    ∷ param.FilterCriteria ∷ param.FunctionResponseTypes ∷ param.StartingPosition ∷ param.StartingPositionTimestamp
    ∷ param.ParallelizationFactor ∷ param.MaximumRetryAttempts ∷ param.MaximumRecordAgeInSeconds
    ∷ param.BisectBatchOnFunctionError ∷ param.TumblingWindowInSeconds ∷ param.DestinationConfig ∷ param.ScalingConfig
    ∷ []

abbrev pub is_listed : List ℕ → Bool
is_listed name = list_any (λ p. bytes_eq (name_of p) name) listed

-- each member is a listed field or has the value `null`
abbrev pub only_listed : Members → Bool
only_listed no_members = true
only_listed (member name d more) = (is_some (as_null d) || is_listed name) && only_listed more
