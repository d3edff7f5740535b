-- The fields of a mapping, each with its own rule: which values it may have, and what they mean. Times are in milliseconds.
-- The rules of a source, a pattern and a starting position depend on which sources the table reads.
-- Source: the Lambda API reference, `CreateEventSourceMapping`. That a field which is `null` counts as absent, and that a
-- pattern over an item of a DynamoDB table is kept as one over the data of a record, is this product's own.
use Rattle.std.specs.Prelude.{ℕ, zero, ◌*◌, ◌/◌, ◌==◌, ℤ, pos, negsuc, Bool, true, false, ◌&&◌, ◌||◌, List, [], ◌∷◌, ◌++◌, codes, length, Option, Some, None, option_and_then, option_map, nat_le, nat_lt, if◌then◌else◌, is_some, is_ok}
use Rattle.std.specs.Str.{bytes_eq}
use Rattle.serde_json.specs.Data.{Data, Items, no_items, item, Members, no_members, member}
use Rattle.serde_json.specs.Find.{get, as_array, as_bool, as_i64, as_null, as_number, as_object, as_str, as_u64}
use Rattle.serde_json.specs.Read.{read}
use Rattle.esm_model.specs.declared.limits.TheConstants.{MAX_FILTERS, MAX_RETRIES}
use Rattle.esm_model.specs.declared.moment.TheConstants.{MAX_MOMENT}
use Rattle.esm_model.specs.declared.config.Kind.{Kind}
use Rattle.esm_model.specs.declared.config.Kind.TheVariants.{Stream, Standard, Fifo}
use Rattle.esm_model.specs.declared.config.Start.{Start}
use Rattle.esm_model.specs.declared.config.Start.TheVariants.{TrimHorizon, Latest, At}
use Rattle.esm_model.specs.Pattern.{read_patterns}
use Rattle.esm_model.specs.Valid.{is_batch_size, is_between, is_destination, is_name_byte, is_stream, is_word}
use Rattle.esm_config.specs.Arn.{Owned, Source, function_arn_of, kept, source_among}
use Rattle.esm_config.specs.declared.position.Position.{Position}
use Rattle.esm_config.specs.declared.position.Position.TheVariants as position
use Rattle.esm_config.specs.declared.sources.Sources.{Sources}
use Rattle.esm_config.specs.declared.sources.Sources.TheVariants.{KinesisOrSqs, DynamoDb}

-- looking for fields

abbrev pub not_null : Data → Option Data
not_null d = if is_some (as_null d) then None else Some d

-- the field with this name, if it is there and not `null`
abbrev pub field : List ℕ → Data → Option Data
field name d = option_and_then not_null (get name d)

-- the value of the object's only member, if that has this name
abbrev pub only_of : List ℕ → Members → Option Data
only_of name no_members = None
only_of name (member k d no_members) = if bytes_eq k name then Some d else None
only_of name (member k d (member l e more)) = None

abbrev pub only_member : List ℕ → Data → Option Data
only_member name d = option_and_then (only_of name) (as_object d)

-- values

-- the meaning of a field, or `missing` where it is absent
abbrev pub or_missing : {A : Type 0} → A → (Data → Option A) → Option Data → Option A
or_missing missing means None = Some missing
or_missing missing means (Some d) = means d

-- a number from `low` to `high`, without fraction and exponent
abbrev pub whole_in : ℕ → ℕ → Data → Option ℕ
whole_in low high d = kept (is_between low high) (option_and_then as_u64 (as_number d))

abbrev pub milliseconds : Option ℕ → Option ℕ
milliseconds seconds = option_map (λ s. s * 1000) seconds

-- a limit; -1 means none
abbrev pub limit_of : (ℕ → Option ℕ) → ℤ → Option (Option ℕ)
limit_of within (pos n) = option_map Some (within n)
limit_of within (negsuc zero) = Some None
limit_of within (negsuc _) = None

abbrev pub limit_in : (ℕ → Option ℕ) → Data → Option (Option ℕ)
limit_in within d = option_and_then (limit_of within) (option_and_then as_i64 (as_number d))

-- a field that only a stream's mapping may have: in a queue's it has to be absent, and then means `otherwise`
abbrev pub of_stream : {A : Type 0} → Kind → A → (Option Data → Option A) → Option Data → Option A
of_stream Stream otherwise means o = means o
of_stream _ otherwise means None = Some otherwise
of_stream _ otherwise means (Some d) = None

-- a field that only a queue's mapping may have
abbrev pub of_queue : {A : Type 0} → Kind → A → (Option Data → Option A) → Option Data → Option A
of_queue Stream otherwise means None = Some otherwise
of_queue Stream otherwise means (Some d) = None
of_queue _ otherwise means o = means o

-- the fields of every mapping

abbrev pub source_in : Sources → Option Data → Option Source
source_in sources o = option_and_then (source_among sources) (option_and_then as_str o)

-- a function by its plain name, with its ARN if the field gives that
pub record Named : Type 0 where
  pub name : List ℕ
  pub arn : Option (List ℕ)

abbrev pub named_by_arn : List ℕ → Option Owned → Option Named
named_by_arn text None = None
named_by_arn text (Some o) = Some (record { name = o.name; arn = Some text })

abbrev pub named_by : List ℕ → Option Named
named_by text =
    if is_word is_name_byte 1 64 text then Some (record { name = text; arn = None }) else named_by_arn text (function_arn_of text)

abbrev pub function_in : Option Data → Option Named
function_in o = option_and_then named_by (option_and_then as_str o)

abbrev pub enabled_in : Option Data → Option Bool
enabled_in o = or_missing true as_bool o

abbrev pub usual_batch_size : Kind → ℕ
usual_batch_size Stream = 100
usual_batch_size _ = 10

abbrev pub batch_size_in : Kind → Option Data → Option ℕ
batch_size_in kind o = or_missing (usual_batch_size kind) (λ d. kept (is_batch_size kind) (option_and_then as_u64 (as_number d))) o

-- a batching window of `s` seconds is allowed: a FIFO queue has none, and a standard queue's batch above 10 requires one
abbrev pub is_window_for : Kind → ℕ → ℕ → Bool
is_window_for Stream size s = true
is_window_for Standard size s = nat_le size 10 || nat_lt 0 s
is_window_for Fifo size s = s == 0

abbrev pub window_in : Kind → ℕ → Option Data → Option ℕ
window_in kind size o = milliseconds (kept (is_window_for kind size) (or_missing 0 (whole_in 0 300) o))

abbrev pub pattern_text : Data → Option (List ℕ)
pattern_text d = option_and_then as_str (only_member (codes "Pattern") d)

abbrev pub pattern_texts : Items → Option (List (List ℕ))
pattern_texts no_items = Some []
pattern_texts (item d more) = option_and_then (λ t. option_map (λ ts. t ∷ ts) (pattern_texts more)) (pattern_text d)

-- at most ten texts, each a filter pattern
abbrev pub are_criteria : Kind → List (List ℕ) → Bool
are_criteria kind texts = nat_le (length texts) MAX_FILTERS && is_ok (read_patterns (is_stream kind) texts)

abbrev pub is_object_text : List ℕ → Bool
is_object_text text = is_some (option_and_then as_object (read text))

-- the pattern over an item's element, which is the data of a record
abbrev pub data_pattern : List ℕ → List ℕ
data_pattern text = codes "{\"data\":" ++ (text ++ codes "}")

-- that pattern, if the text by itself reads as a JSON object
abbrev pub data_pattern_of : List ℕ → Option (List ℕ)
data_pattern_of text = if is_object_text text then Some (data_pattern text) else None

abbrev pub data_patterns : List (List ℕ) → Option (List (List ℕ))
data_patterns [] = Some []
data_patterns (t ∷ ts) = option_and_then (λ p. option_map (λ ps. p ∷ ps) (data_patterns ts)) (data_pattern_of t)

-- the patterns as the configuration keeps them
abbrev pub patterns_among : Sources → List (List ℕ) → Option (List (List ℕ))
patterns_among KinesisOrSqs texts = Some texts
patterns_among DynamoDb texts = data_patterns texts

abbrev pub criteria_of : Sources → Kind → Data → Option (List (List ℕ))
criteria_of sources kind d =
    kept (are_criteria kind)
    (option_and_then (patterns_among sources) (option_and_then pattern_texts (option_and_then as_array (only_member (codes "Filters") d))))

abbrev pub filters_in : Sources → Kind → Option Data → Option (List (List ℕ))
filters_in sources kind o = or_missing [] (criteria_of sources kind) o

-- whether `ReportBatchItemFailures` is listed
abbrev pub reports_of : Items → Option Bool
reports_of no_items = Some false
reports_of (item d no_items) = option_map (λ _. true) (kept (λ t. bytes_eq t (codes "ReportBatchItemFailures")) (as_str d))
reports_of (item d (item e more)) = None

abbrev pub item_failures_in : Option Data → Option Bool
item_failures_in o = or_missing false (λ d. option_and_then reports_of (as_array d)) o

-- the fields of a stream's mapping

abbrev pub position_of : List ℕ → Option Position
position_of text =
    if bytes_eq text (codes "TRIM_HORIZON") then Some position.TrimHorizon
    else (if bytes_eq text (codes "LATEST") then Some position.Latest
    else (if bytes_eq text (codes "AT_TIMESTAMP") then Some position.AtTimestamp else None))

abbrev pub first_position : List ℕ → Option Position
first_position text = if bytes_eq text (codes "TRIM_HORIZON") then Some position.TrimHorizon else None

-- a table's stream can only be read from its first record
abbrev pub position_among : Sources → (List ℕ → Option Position)
position_among KinesisOrSqs = position_of
position_among DynamoDb = first_position

abbrev pub position_in : Sources → Kind → Option Data → Option Position
position_in sources kind o = of_stream kind position.TrimHorizon (λ p. option_and_then (position_among sources) (option_and_then as_str p)) o

abbrev pub last_second : ℕ
last_second = MAX_MOMENT / 1000

-- the moment is given if and only if the position is one at a moment
abbrev pub start_of : Position → Option Data → Option Start
start_of position.AtTimestamp (Some d) = option_map At (milliseconds (whole_in 0 last_second d))
start_of position.AtTimestamp None = None
start_of position.TrimHorizon None = Some TrimHorizon
start_of position.TrimHorizon (Some d) = None
start_of position.Latest None = Some Latest
start_of position.Latest (Some d) = None

abbrev pub start_in : Kind → Position → Option Data → Option Start
start_in kind p o = of_stream kind TrimHorizon (start_of p) o

abbrev pub factor_in : Kind → Option Data → Option ℕ
factor_in kind o = of_stream kind 1 (or_missing 1 (whole_in 1 10)) o

abbrev pub attempts_within : ℕ → Option ℕ
attempts_within n = kept (λ k. nat_le k MAX_RETRIES) (Some n)

abbrev pub retries_in : Kind → Option Data → Option (Option ℕ)
retries_in kind o = of_stream kind None (or_missing None (limit_in attempts_within)) o

abbrev pub age_within : ℕ → Option ℕ
age_within n = milliseconds (kept (is_between 60 604800) (Some n))

abbrev pub age_in : Kind → Option Data → Option (Option ℕ)
age_in kind o = of_stream kind None (or_missing None (limit_in age_within)) o

abbrev pub bisect_in : Kind → Option Data → Option Bool
bisect_in kind o = of_stream kind false (or_missing false as_bool) o

-- tumbling windows require one lane for each shard
abbrev pub is_tumbling_for : ℕ → ℕ → Bool
is_tumbling_for factor s = (s == 0) || (factor == 1)

abbrev pub tumbling_in : Kind → ℕ → Option Data → Option ℕ
tumbling_in kind factor o = of_stream kind 0 (λ p. milliseconds (kept (is_tumbling_for factor) (or_missing 0 (whole_in 0 900) p))) o

abbrev pub destination_of : Data → Option (Option (List ℕ))
destination_of d = kept is_destination (option_map Some (option_and_then as_str (option_and_then (only_member (codes "Destination")) (only_member (codes "OnFailure") d))))

abbrev pub destination_in : Kind → Option Data → Option (Option (List ℕ))
destination_in kind o = of_stream kind None (or_missing None destination_of) o

-- the field of a queue's mapping

abbrev pub concurrency_of : Data → Option (Option ℕ)
concurrency_of d = option_map Some (option_and_then (whole_in 2 1000) (only_member (codes "MaximumConcurrency") d))

abbrev pub concurrency_in : Kind → Option Data → Option (Option ℕ)
concurrency_in kind o = of_queue kind None (or_missing None concurrency_of) o
