-- The text of a configuration: the object of all fields of its kind that have a value, defaults included, in the order of
-- the table. Source: the Lambda API reference, `EventSourceMappingConfiguration`; that order is this product's own.
use Rattle.std.specs.Prelude.{ℕ, ◌/◌, negsuc, Bool, true, false, List, [], ◌∷◌, codes, Option, Some, None, option_map}
use Rattle.serde_json.specs.Data.{Data, boolean, number, string, array, object, unsigned, negative, Items, no_items, item, Members, no_members, member}
use Rattle.serde_json.specs.Written.{compact_text}
use Rattle.esm_model.specs.declared.config.Config.{Config}
use Rattle.esm_model.specs.declared.config.Kind.{Kind}
use Rattle.esm_model.specs.declared.config.Kind.TheVariants.{Stream}
use Rattle.esm_model.specs.declared.config.Start.{Start}
use Rattle.esm_model.specs.declared.config.Start.TheVariants.{TrimHorizon, Latest, At}
use Rattle.esm_config.specs.Names.{name_of}
use Rattle.esm_config.specs.declared.param.Param.{Param}
use Rattle.esm_config.specs.declared.param.Param.TheVariants as param

-- values

abbrev pub whole : ℕ → Data
whole n = number (unsigned n)

abbrev pub seconds : ℕ → Data
seconds ms = whole (ms / 1000)

-- the number, or -1 for none
abbrev pub whole_or_none : Option ℕ → Data
whole_or_none None = number (negative (negsuc 0))
whole_or_none (Some n) = whole n

abbrev pub seconds_or_none : Option ℕ → Data
seconds_or_none ms = whole_or_none (option_map (λ n. n / 1000) ms)

abbrev pub one_member : List ℕ → Data → Data
one_member name d = object (member name d no_members)

abbrev pub pattern_items : List (List ℕ) → Items
pattern_items [] = no_items
pattern_items (t ∷ ts) = item (one_member (codes "Pattern") (string t)) (pattern_items ts)

-- the filter criteria; absent where there are no patterns
abbrev pub criteria : List (List ℕ) → Option Data
criteria [] = None
criteria (t ∷ ts) = Some (one_member (codes "Filters") (array (pattern_items (t ∷ ts))))

abbrev pub response_types : Bool → Data
response_types false = array no_items
response_types true = array (item (string (codes "ReportBatchItemFailures")) no_items)

abbrev pub position : Start → Data
position TrimHorizon = string (codes "TRIM_HORIZON")
position Latest = string (codes "LATEST")
position (At _) = string (codes "AT_TIMESTAMP")

abbrev pub timestamp : Start → Option Data
timestamp (At ms) = Some (seconds ms)
timestamp _ = None

abbrev pub on_failure : List ℕ → Data
on_failure text = one_member (codes "OnFailure") (one_member (codes "Destination") (string text))

abbrev pub scaling : ℕ → Data
scaling n = one_member (codes "MaximumConcurrency") (whole n)

-- members

-- a field with its value, followed by the other members
abbrev pub with : Param → Data → Members → Members
with p d more = member (name_of p) d more

-- the same, but only if the field has a value
abbrev pub with_some : Param → Option Data → Members → Members
with_some p None more = more
with_some p (Some d) more = with p d more

abbrev pub stream_settings : Config → Members
stream_settings c =
    with param.StartingPosition (position c.start)
    (with_some param.StartingPositionTimestamp (timestamp c.start)
    (with param.ParallelizationFactor (whole c.factor)
    (with param.MaximumRetryAttempts (whole_or_none c.retries)
    (with param.MaximumRecordAgeInSeconds (seconds_or_none c.age_ms)
    (with param.BisectBatchOnFunctionError (boolean c.bisect)
    (with param.TumblingWindowInSeconds (seconds c.tumbling_ms)
    (with_some param.DestinationConfig (option_map on_failure c.destination)
    no_members)))))))

abbrev pub queue_settings : Config → Members
queue_settings c = with_some param.ScalingConfig (option_map scaling c.concurrency) no_members

abbrev pub kind_settings : Kind → Config → Members
kind_settings Stream c = stream_settings c
kind_settings _ c = queue_settings c

-- the members from `BatchSize` on
abbrev pub settings_of : Config → Members
settings_of c =
    with param.BatchSize (whole c.batch_size)
    (with param.MaximumBatchingWindowInSeconds (seconds c.window_ms)
    (with_some param.FilterCriteria (criteria c.filters)
    (with param.FunctionResponseTypes (response_types c.item_failures)
    (kind_settings c.kind c))))

abbrev pub config_members : Config → Members
config_members c =
    with param.EventSourceArn (string c.source_arn)
    (with param.FunctionName (string c.function_arn)
    (with param.Enabled (boolean c.enabled)
    (settings_of c)))

abbrev pub config_value : Config → Data
config_value c = object (config_members c)

-- the JSON text, without white space
abbrev pub config_text : Config → List ℕ
config_text c = compact_text (config_value c)
