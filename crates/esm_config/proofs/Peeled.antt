-- Where no field is refused, each is as it must be.
use Rattle.std.proofs.Common.{◌≡◌, ◌∙◌, ℕ, Bool, cond, true, false, refl, ap, subst, Option, Some, None, Result, Ok, Err}
use Rattle.serde_json.specs.Data.{Members}
use Rattle.esm_model.specs.declared.config.Config.{Config}
use Rattle.esm_model.specs.declared.config.Kind.{Kind}
use Rattle.esm_model.specs.declared.config.Start.{Start}
use Rattle.esm_config.specs.Fields.{age_in, batch_size_in, bisect_in, concurrency_in, destination_in, enabled_in, factor_in, filters_in, function_in, item_failures_in, position_in, retries_in, source_in, start_in, tumbling_in, window_in}
use Rattle.esm_config.specs.Judged.{Batching, Care, Fields, Pace, Parties, and_then, batching_of, care_of, config, judged, pace_of, parties_of, start_field, with}
use Rattle.esm_config.specs.Names.{only_listed}
use Rattle.esm_config.specs.declared.param.Param.{Param}
use Rattle.esm_config.specs.declared.param.Param.TheVariants as param
use Rattle.esm_config.specs.declared.position.Position.{Position}

abbrev good : {A : Type 0} → A → Result A Param
good x = Ok x

ok_inner : {A : Type 0} (a b : A) → good a ≡ good b → a ≡ b
ok_inner a b h = cc

with_ok : {A B : Type 0} (p : Param) (o : Option A) (go_on : A → Result B Param) (y : B) → with p o go_on ≡ Ok y → (x : A) × (o ≡ Some x) × (go_on x ≡ Ok y)
with_ok p None go_on y h = absurd (cc)
with_ok p (Some x) go_on y h = (x, refl, h)

then_ok : {A B : Type 0} (r : Result A Param) (go_on : A → Result B Param) (y : B) → and_then r go_on ≡ Ok y → (x : A) × (r ≡ Ok x) × (go_on x ≡ Ok y)
then_ok (Err p) go_on y h = absurd (cc)
then_ok (Ok x) go_on y h = (x, refl, h)

not_barred : {B : Type 0} (b : Bool) (p : Param) (r : Result B Param) (y : B) → cond b (Err p) r ≡ Ok y → r ≡ Ok y
not_barred true p r y h = absurd (cc)
not_barred false p r y h = h

pub record IsParties (fs : Fields) (p : Parties) : Type 0 where
  pub source : source_in fs.sources (fs.look param.EventSourceArn) ≡ Some p.source
  pub function : function_in (fs.look param.FunctionName) ≡ Some p.function

is_parties : (fs : Fields) (p : Parties) → parties_of fs ≡ Ok p → IsParties fs p
is_parties fs p e =
    let open' = not_barred (fs.is_barred param.EventSourceArn) param.EventSourceArn _ p e in
    let source = with_ok param.EventSourceArn (source_in fs.sources (fs.look param.EventSourceArn)) _ p open' in
    let function = with_ok param.FunctionName (function_in (fs.look param.FunctionName)) _ p source.2 in
    let enabled = with_ok param.Enabled (enabled_in (fs.look param.Enabled)) _ p function.2 in
    subst (λ (k : Parties). IsParties fs k) (ok_inner _ p enabled.2) (record { source = source.1; function = function.1 })

pub record IsBatching (kind : Kind) (fs : Fields) (b : Batching) : Type 0 where
  pub batch_size : batch_size_in kind (fs.look param.BatchSize) ≡ Some b.batch_size
  pub window : window_in kind b.batch_size (fs.look param.MaximumBatchingWindowInSeconds) ≡ Some b.window_ms
  pub filters : filters_in fs.sources kind (fs.look param.FilterCriteria) ≡ Some b.filters

is_batching : (kind : Kind) (fs : Fields) (b : Batching) → batching_of kind fs ≡ Ok b → IsBatching kind fs b
is_batching kind fs b e =
    let size = with_ok param.BatchSize (batch_size_in kind (fs.look param.BatchSize)) _ b e in
    let window = with_ok param.MaximumBatchingWindowInSeconds (window_in kind size.0 (fs.look param.MaximumBatchingWindowInSeconds)) _ b size.2 in
    let filters = with_ok param.FilterCriteria (filters_in fs.sources kind (fs.look param.FilterCriteria)) _ b window.2 in
    let failures = with_ok param.FunctionResponseTypes (item_failures_in (fs.look param.FunctionResponseTypes)) _ b filters.2 in
    subst (λ (k : Batching). IsBatching kind fs k) (ok_inner _ b failures.2) (record { batch_size = size.1; window = window.1; filters = filters.1 })

pub record IsStart (kind : Kind) (fs : Fields) (s : Start) : Type 0 where
  pub position : Position
  pub is_position : position_in fs.sources kind (fs.look param.StartingPosition) ≡ Some position
  pub start : start_in kind position (fs.look param.StartingPositionTimestamp) ≡ Some s

is_start_field : (kind : Kind) (fs : Fields) (s : Start) → start_field kind fs ≡ Ok s → IsStart kind fs s
is_start_field kind fs s e =
    let first = not_barred (fs.is_barred param.StartingPosition) param.StartingPosition _ s e in
    let position = with_ok param.StartingPosition (position_in fs.sources kind (fs.look param.StartingPosition)) _ s first in
    let second = not_barred (fs.is_barred param.StartingPositionTimestamp) param.StartingPositionTimestamp _ s position.2 in
    let start = with_ok param.StartingPositionTimestamp (start_in kind position.0 (fs.look param.StartingPositionTimestamp)) _ s second in
    record { position = position.0; is_position = position.1; start = start.1 ∙ ap Some (ok_inner start.0 s start.2) }

pub record IsPace (kind : Kind) (fs : Fields) (p : Pace) : Type 0 where
  pub factor : factor_in kind (fs.look param.ParallelizationFactor) ≡ Some p.factor
  pub retries : retries_in kind (fs.look param.MaximumRetryAttempts) ≡ Some p.retries
  pub age : age_in kind (fs.look param.MaximumRecordAgeInSeconds) ≡ Some p.age_ms

is_pace : (kind : Kind) (fs : Fields) (p : Pace) → pace_of kind fs ≡ Ok p → IsPace kind fs p
is_pace kind fs p e =
    let factor = with_ok param.ParallelizationFactor (factor_in kind (fs.look param.ParallelizationFactor)) _ p e in
    let retries = with_ok param.MaximumRetryAttempts (retries_in kind (fs.look param.MaximumRetryAttempts)) _ p factor.2 in
    let age = with_ok param.MaximumRecordAgeInSeconds (age_in kind (fs.look param.MaximumRecordAgeInSeconds)) _ p retries.2 in
    subst (λ (k : Pace). IsPace kind fs k) (ok_inner _ p age.2) (record { factor = factor.1; retries = retries.1; age = age.1 })

pub record IsCare (kind : Kind) (factor : ℕ) (fs : Fields) (c : Care) : Type 0 where
  pub bisect : bisect_in kind (fs.look param.BisectBatchOnFunctionError) ≡ Some c.bisect
  pub tumbling : tumbling_in kind factor (fs.look param.TumblingWindowInSeconds) ≡ Some c.tumbling_ms
  pub destination : destination_in kind (fs.look param.DestinationConfig) ≡ Some c.destination
  pub concurrency : concurrency_in kind (fs.look param.ScalingConfig) ≡ Some c.concurrency

is_care : (kind : Kind) (factor : ℕ) (fs : Fields) (c : Care) → care_of kind factor fs ≡ Ok c → IsCare kind factor fs c
is_care kind factor fs c e =
    let bisect = with_ok param.BisectBatchOnFunctionError (bisect_in kind (fs.look param.BisectBatchOnFunctionError)) _ c e in
    let tumbling = with_ok param.TumblingWindowInSeconds (tumbling_in kind factor (fs.look param.TumblingWindowInSeconds)) _ c bisect.2 in
    let destination = with_ok param.DestinationConfig (destination_in kind (fs.look param.DestinationConfig)) _ c tumbling.2 in
    let concurrency = with_ok param.ScalingConfig (concurrency_in kind (fs.look param.ScalingConfig)) _ c destination.2 in
    subst (λ (k : Care). IsCare kind factor fs k) (ok_inner _ c concurrency.2)
    (record { bisect = bisect.1; tumbling = tumbling.1; destination = destination.1; concurrency = concurrency.1 })

listed_ok : (b : Bool) (c k : Config) → cond b (Ok c) (Err param.Unknown) ≡ Ok k → c ≡ k
listed_ok true c k h = ok_inner c k h
listed_ok false c k h = absurd (cc)

-- a configuration that is judged is made of fields that are as they must be
pub record IsMade (fs : Fields) (c : Config) : Type 0 where
  pub parties : Parties
  pub batching : Batching
  pub start : Start
  pub pace : Pace
  pub care : Care
  pub is_parties : IsParties fs parties
  pub is_batching : IsBatching parties.source.kind fs batching
  pub is_start : IsStart parties.source.kind fs start
  pub is_pace : IsPace parties.source.kind fs pace
  pub is_care : IsCare parties.source.kind pace.factor fs care
  pub is : config parties batching start pace care ≡ c

pub is_made : (fs : Fields) (ms : Members) (c : Config) → judged fs ms ≡ Ok c → IsMade fs c
is_made fs ms c e =
    let p = then_ok (parties_of fs) _ c e in
    let kind = p.0.source.kind in
    let b = then_ok (batching_of kind fs) _ c p.2 in
    let s = then_ok (start_field kind fs) _ c b.2 in
    let pace = then_ok (pace_of kind fs) _ c s.2 in
    let care = then_ok (care_of kind pace.0.factor fs) _ c pace.2 in
    record {
      parties = p.0;
      batching = b.0;
      start = s.0;
      pace = pace.0;
      care = care.0;
      is_parties = is_parties fs p.0 p.1;
      is_batching = is_batching kind fs b.0 b.1;
      is_start = is_start_field kind fs s.0 s.1;
      is_pace = is_pace kind fs pace.0 pace.1;
      is_care = is_care kind pace.0.factor fs care.0 care.1;
      is = listed_ok (only_listed ms) (config p.0 b.0 s.0 pace.0 care.0) c care.2;
    }
