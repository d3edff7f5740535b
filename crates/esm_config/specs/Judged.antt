-- The table of fields. They are judged in its order, and the first that is refused is named; if none is, they give the
-- configuration. Source: the Lambda API reference, `CreateEventSourceMapping`; the order is this product's own.
use Rattle.std.specs.Prelude.{ℕ, ◌++◌, Bool, List, codes, Option, Some, None, unwrap_or, Result, Ok, Err, if◌then◌else◌}
use Rattle.serde_json.specs.Data.{Data, Members}
use Rattle.esm_model.specs.Valid.{arn_of}
use Rattle.esm_model.specs.declared.config.Config.{Config}
use Rattle.esm_model.specs.declared.config.Kind.{Kind}
use Rattle.esm_model.specs.declared.config.Start.{Start}
use Rattle.esm_config.specs.Arn.{Source}
use Rattle.esm_config.specs.Fields.{Named, age_in, batch_size_in, bisect_in, concurrency_in, destination_in, enabled_in, factor_in, filters_in, function_in, item_failures_in, position_in, retries_in, source_in, start_in, tumbling_in, window_in}
use Rattle.esm_config.specs.Names.{only_listed}
use Rattle.esm_config.specs.declared.param.Param.{Param}
use Rattle.esm_config.specs.declared.param.Param.TheVariants as param
use Rattle.esm_config.specs.declared.sources.Sources.{Sources}

-- what a mapping's object gives: which sources it may name, the value of each field, and which fields it gives though it may
-- not
pub record Fields : Type 0 where
  pub sources : Sources
  pub look : Param → Option Data
  pub is_barred : Param → Bool

-- what is read from the fields

-- the source that is read, and the function that is called
pub record Parties : Type 0 where
  pub source : Source
  pub function : Named
  pub enabled : Bool

pub record Batching : Type 0 where
  pub batch_size : ℕ
  pub window_ms : ℕ
  pub filters : List (List ℕ)
  pub item_failures : Bool

-- how fast a stream is read, and how often and how long a record is tried
pub record Pace : Type 0 where
  pub factor : ℕ
  pub retries : Option ℕ
  pub age_ms : Option ℕ

pub record Care : Type 0 where
  pub bisect : Bool
  pub tumbling_ms : ℕ
  pub destination : Option (List ℕ)
  pub concurrency : Option ℕ

-- continues with the field's value, or refuses the field if it has none that is allowed
abbrev pub with : {A B : Type 0} → Param → Option A → (A → Result B Param) → Result B Param
with p None go_on = Err p
with p (Some x) go_on = go_on x

-- continues, or refuses the field if the object gives it and may not
abbrev pub unless_barred : {B : Type 0} → Fields → Param → Result B Param → Result B Param
unless_barred fs p go_on = if fs.is_barred p then Err p else go_on

abbrev pub and_then : {A B : Type 0} → Result A Param → (A → Result B Param) → Result B Param
and_then (Err p) go_on = Err p
and_then (Ok x) go_on = go_on x

abbrev pub parties_of : Fields → Result Parties Param
parties_of fs =
    unless_barred fs param.EventSourceArn (
    with param.EventSourceArn (source_in fs.sources (fs.look param.EventSourceArn)) (λ source.
    with param.FunctionName (function_in (fs.look param.FunctionName)) (λ function.
    with param.Enabled (enabled_in (fs.look param.Enabled)) (λ enabled.
    Ok (record { source = source; function = function; enabled = enabled })))))

abbrev pub batching_of : Kind → Fields → Result Batching Param
batching_of kind fs =
    with param.BatchSize (batch_size_in kind (fs.look param.BatchSize)) (λ size.
    with param.MaximumBatchingWindowInSeconds (window_in kind size (fs.look param.MaximumBatchingWindowInSeconds)) (λ window.
    with param.FilterCriteria (filters_in fs.sources kind (fs.look param.FilterCriteria)) (λ filters.
    with param.FunctionResponseTypes (item_failures_in (fs.look param.FunctionResponseTypes)) (λ failures.
    Ok (record { batch_size = size; window_ms = window; filters = filters; item_failures = failures })))))

abbrev pub start_field : Kind → Fields → Result Start Param
start_field kind fs =
    unless_barred fs param.StartingPosition (
    with param.StartingPosition (position_in fs.sources kind (fs.look param.StartingPosition)) (λ position.
    unless_barred fs param.StartingPositionTimestamp (
    with param.StartingPositionTimestamp (start_in kind position (fs.look param.StartingPositionTimestamp)) (λ start. Ok start))))

abbrev pub pace_of : Kind → Fields → Result Pace Param
pace_of kind fs =
    with param.ParallelizationFactor (factor_in kind (fs.look param.ParallelizationFactor)) (λ factor.
    with param.MaximumRetryAttempts (retries_in kind (fs.look param.MaximumRetryAttempts)) (λ retries.
    with param.MaximumRecordAgeInSeconds (age_in kind (fs.look param.MaximumRecordAgeInSeconds)) (λ age.
    Ok (record { factor = factor; retries = retries; age_ms = age }))))

abbrev pub care_of : Kind → ℕ → Fields → Result Care Param
care_of kind factor fs =
    with param.BisectBatchOnFunctionError (bisect_in kind (fs.look param.BisectBatchOnFunctionError)) (λ bisect.
    with param.TumblingWindowInSeconds (tumbling_in kind factor (fs.look param.TumblingWindowInSeconds)) (λ tumbling.
    with param.DestinationConfig (destination_in kind (fs.look param.DestinationConfig)) (λ destination.
    with param.ScalingConfig (concurrency_in kind (fs.look param.ScalingConfig)) (λ concurrency.
    Ok (record { bisect = bisect; tumbling_ms = tumbling; destination = destination; concurrency = concurrency })))))

-- the function's ARN: the one that is given, or that of its name in the source's region and account
abbrev pub function_arn : Source → Named → List ℕ
function_arn source f = unwrap_or f.arn (arn_of (codes "lambda") source.parts.region source.parts.account (codes "function:" ++ f.name))

abbrev pub config : Parties → Batching → Start → Pace → Care → Config
config p b start pace care = record {
  source_arn = p.source.arn;
  function = p.function.name;
  function_arn = function_arn p.source p.function;
  region = p.source.parts.region;
  account = p.source.parts.account;
  kind = p.source.kind;
  batch_size = b.batch_size;
  window_ms = b.window_ms;
  factor = pace.factor;
  retries = pace.retries;
  age_ms = pace.age_ms;
  bisect = care.bisect;
  item_failures = b.item_failures;
  tumbling_ms = care.tumbling_ms;
  start = start;
  destination = care.destination;
  filters = b.filters;
  concurrency = care.concurrency;
  enabled = p.enabled;
}

-- a member that is not listed is refused, after all fields
abbrev pub if_listed : Members → Config → Result Config Param
if_listed members c = if only_listed members then Ok c else Err param.Unknown

-- the whole table
abbrev pub judged : Fields → Members → Result Config Param
judged fs members =
    and_then (parties_of fs) (λ p.
    and_then (batching_of p.source.kind fs) (λ b.
    and_then (start_field p.source.kind fs) (λ start.
    and_then (pace_of p.source.kind fs) (λ pace.
    and_then (care_of p.source.kind pace.factor fs) (λ care.
    if_listed members (config p b start pace care))))))
