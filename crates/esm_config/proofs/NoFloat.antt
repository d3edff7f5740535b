-- No number of a configuration's fields is a float.
use Rattle.std.proofs.Common.{◌≡◌, ℕ, ◌/◌, Bool, true, false, refl, List, [], ◌∷◌, Option, Some, None, option_map}
use Rattle.std.proofs.lemmas.Bool.{or_from}
use Rattle.serde_json.specs.Data.{Data, Members, boolean, no_members}
use Rattle.serde_json.specs.Written.{has_float, items_have_float, members_have_float}
use Rattle.esm_model.specs.declared.config.Config.{Config}
use Rattle.esm_model.specs.declared.config.Kind.{Kind}
use Rattle.esm_model.specs.declared.config.Kind.TheVariants.{Stream, Standard, Fifo}
use Rattle.esm_model.specs.declared.config.Start.{Start}
use Rattle.esm_model.specs.declared.config.Start.TheVariants.{TrimHorizon, Latest, At}
use Rattle.esm_config.specs.Text.{config_members, criteria, kind_settings, on_failure, pattern_items, position, queue_settings, response_types, scaling, seconds, seconds_or_none, settings_of, stream_settings, timestamp, whole, whole_or_none, with, with_some}
use Rattle.esm_config.specs.declared.param.Param.{Param}
use Rattle.esm_config.specs.declared.param.Param.TheVariants as param

abbrev has_none : Option Data → Bool
has_none None = false
has_none (Some d) = has_float d

float_after : (p : Param) (d : Data) (more : Members) → has_float d ≡ false → members_have_float more ≡ false → members_have_float (with p d more) ≡ false
float_after p d more hd hm = or_from (has_float d) (members_have_float more) hd hm

float_after_some : (p : Param) (o : Option Data) (more : Members) → has_none o ≡ false → members_have_float more ≡ false → members_have_float (with_some p o more) ≡ false
float_after_some p None more ho hm = hm
float_after_some p (Some d) more ho hm = float_after p d more ho hm

in_patterns : (ts : List (List ℕ)) → items_have_float (pattern_items ts) ≡ false
in_patterns [] = refl
in_patterns (t ∷ ts) = in_patterns ts

in_criteria : (ts : List (List ℕ)) → has_none (criteria ts) ≡ false
in_criteria [] = refl
in_criteria (t ∷ ts) = or_from (items_have_float (pattern_items (t ∷ ts))) false (in_patterns (t ∷ ts)) refl

in_types : (b : Bool) → has_float (response_types b) ≡ false
in_types true = refl
in_types false = refl

in_number : (o : Option ℕ) → has_float (whole_or_none o) ≡ false
in_number None = refl
in_number (Some n) = refl

in_position : (s : Start) → has_float (position s) ≡ false
in_position TrimHorizon = refl
in_position Latest = refl
in_position (At ms) = refl

in_timestamp : (s : Start) → has_none (timestamp s) ≡ false
in_timestamp TrimHorizon = refl
in_timestamp Latest = refl
in_timestamp (At ms) = refl

in_destination : (o : Option (List ℕ)) → has_none (option_map on_failure o) ≡ false
in_destination None = refl
in_destination (Some t) = refl

in_scaling : (o : Option ℕ) → has_none (option_map scaling o) ≡ false
in_scaling None = refl
in_scaling (Some n) = refl

in_stream : (c : Config) → members_have_float (stream_settings c) ≡ false
in_stream c =
    let m8 = with_some param.DestinationConfig (option_map on_failure c.destination) no_members in
    let m7 = with param.TumblingWindowInSeconds (seconds c.tumbling_ms) m8 in
    let m6 = with param.BisectBatchOnFunctionError (boolean c.bisect) m7 in
    let m5 = with param.MaximumRecordAgeInSeconds (seconds_or_none c.age_ms) m6 in
    let m4 = with param.MaximumRetryAttempts (whole_or_none c.retries) m5 in
    let m3 = with param.ParallelizationFactor (whole c.factor) m4 in
    let m2 = with_some param.StartingPositionTimestamp (timestamp c.start) m3 in
    let h8 = float_after_some param.DestinationConfig (option_map on_failure c.destination) no_members (in_destination c.destination) refl in
    let h5 = float_after param.MaximumRecordAgeInSeconds (seconds_or_none c.age_ms) m6 (in_number (option_map (λ n. n / 1000) c.age_ms)) h8 in
    let h4 = float_after param.MaximumRetryAttempts (whole_or_none c.retries) m5 (in_number c.retries) h5 in
    let h2 = float_after_some param.StartingPositionTimestamp (timestamp c.start) m3 (in_timestamp c.start) h4 in
    float_after param.StartingPosition (position c.start) m2 (in_position c.start) h2

in_queue : (c : Config) → members_have_float (queue_settings c) ≡ false
in_queue c = float_after_some param.ScalingConfig (option_map scaling c.concurrency) no_members (in_scaling c.concurrency) refl

in_kind : (k : Kind) (c : Config) → members_have_float (kind_settings k c) ≡ false
in_kind Stream c = in_stream c
in_kind Standard c = in_queue c
in_kind Fifo c = in_queue c

pub settings_float : (c : Config) → members_have_float (settings_of c) ≡ false
settings_float c =
    let types = float_after param.FunctionResponseTypes (response_types c.item_failures) (kind_settings c.kind c) (in_types c.item_failures) (in_kind c.kind c) in
    float_after_some param.FilterCriteria (criteria c.filters) (with param.FunctionResponseTypes (response_types c.item_failures) (kind_settings c.kind c)) (in_criteria c.filters) types

pub config_float : (c : Config) → members_have_float (config_members c) ≡ false
config_float c = settings_float c
