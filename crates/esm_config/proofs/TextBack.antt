-- The text of a configuration that is given is read as that configuration.
use Rattle.std.proofs.Common.{◌≡◌, ◌∙◌, ◌<◌, lit<, ℕ, ◌/◌, ◌%◌, ◌^◌, ◌==◌, Bool, cond, true, false, ◌||◌, refl, sym, ap, subst, arith, List, [], ◌∷◌, codes, Option, Some, None, option_map, bytes_eq, nat_le, nat_lt}
use Rattle.std.specs.Option.{option_or}
use Rattle.std.proofs.lemmas.Bool.{and_parts, eqb-true, leb-true}
use Rattle.serde_json.specs.Data.{Data, boolean, Members, no_members, string}
use Rattle.esm_model.specs.declared.limits.TheConstants.{MAX_BATCH, MAX_RETRIES}
use Rattle.esm_model.specs.declared.config.Config.{Config}
use Rattle.esm_model.specs.declared.config.Kind.{Kind}
use Rattle.esm_model.specs.declared.config.Kind.TheVariants.{Stream, Standard, Fifo}
use Rattle.esm_model.specs.declared.config.Start.{Start}
use Rattle.esm_model.specs.declared.config.Start.TheVariants.{TrimHorizon, Latest, At}
use Rattle.esm_model.specs.Valid.{HasFieldsOf, HasQueueFields, HasStreamFields, IsValidConfig, is_batch_size, is_between, is_seconds, is_start, is_window, none_or}
use Rattle.esm_config.specs.Names.{name_of}
use Rattle.esm_config.specs.Text.{config_members, criteria, kind_settings, on_failure, position, queue_settings, response_types, scaling, seconds, seconds_or_none, stream_settings, timestamp, whole, whole_or_none, with, with_some}
use Rattle.esm_config.specs.declared.param.Param.{Param}
use Rattle.esm_config.specs.declared.param.Param.TheVariants as param
use Rattle.esm_config.proofs.ReadBack.{AllSound, IsSound, last_of, sound_boolean, sound_filters, sound_minus, sound_on_failure, sound_scaling, sound_string, sound_types, sound_whole}

-- each value that is written is sound

abbrev IsSoundOption : Option Data → Type 0
IsSoundOption None = Unit {0}
IsSoundOption (Some d) = IsSound d

with_sound : (p : Param) (o : Option Data) (more : Members) → IsSoundOption o → AllSound more → AllSound (with_some p o more)
with_sound p None more ho hm = hm
with_sound p (Some d) more ho hm = (ho, hm)

below : (low high n : ℕ) → is_between low high n ≡ true → high < 2 ^ 64 → n < 2 ^ 64
below low high n h top = let l = leb-true n high (and_parts (nat_le low n) (nat_le n high) h).1 in omega arith

whole_sound : (low high n : ℕ) → is_between low high n ≡ true → high < 2 ^ 64 → IsSound (whole n)
whole_sound low high n h top = sound_whole n (below low high n h top)

seconds_sound : (low high ms : ℕ) → is_seconds low high ms ≡ true → high < 2 ^ 64 → IsSound (seconds ms)
seconds_sound low high ms h top = whole_sound low high (ms / 1000) (and_parts (ms % 1000 == 0) (is_between low high (ms / 1000)) h).1 top

size_sound : (k : Kind) (n : ℕ) → is_batch_size k n ≡ true → IsSound (whole n)
size_sound Stream n h = whole_sound 1 MAX_BATCH n h (lit< tt)
size_sound Standard n h = whole_sound 1 MAX_BATCH n h (lit< tt)
size_sound Fifo n h = whole_sound 1 10 n h (lit< tt)

window_sound : (k : Kind) (size ms : ℕ) → is_window k size ms ≡ true → IsSound (seconds ms)
window_sound Stream size ms h = seconds_sound 0 300 ms h (lit< tt)
window_sound Standard size ms h = seconds_sound 0 300 ms (and_parts (is_seconds 0 300 ms) (nat_le size 10 || nat_lt 0 ms) h).0 (lit< tt)
window_sound Fifo size ms h = let e : ms ≡ 0 = eqb-true ms 0 h in subst (λ (n : ℕ). IsSound (seconds n)) (sym e) (sound_whole 0 (lit< tt))

criteria_sound : (ts : List (List ℕ)) → IsSoundOption (criteria ts)
criteria_sound [] = tt
criteria_sound (t ∷ ts) = sound_filters (t ∷ ts)

position_sound : (s : Start) → IsSound (position s)
position_sound TrimHorizon = sound_string (codes "TRIM_HORIZON")
position_sound Latest = sound_string (codes "LATEST")
position_sound (At ms) = sound_string (codes "AT_TIMESTAMP")

timestamp_sound : (s : Start) → is_start s ≡ true → IsSoundOption (timestamp s)
timestamp_sound TrimHorizon h = tt
timestamp_sound Latest h = tt
timestamp_sound (At ms) h = seconds_sound 0 253402300799 ms h (lit< tt)

retries_sound : (r : Option ℕ) → none_or (λ n. nat_le n MAX_RETRIES) r ≡ true → IsSound (whole_or_none r)
retries_sound None h = sound_minus
retries_sound (Some n) h = let l = leb-true n MAX_RETRIES h in sound_whole n (omega arith)

age_sound : (a : Option ℕ) → none_or (is_seconds 60 604800) a ≡ true → IsSound (seconds_or_none a)
age_sound None h = sound_minus
age_sound (Some ms) h = seconds_sound 60 604800 ms h (lit< tt)

destination_sound : (t : Option (List ℕ)) → IsSoundOption (option_map on_failure t)
destination_sound None = tt
destination_sound (Some s) = sound_on_failure s

scaling_sound : (o : Option ℕ) → none_or (is_between 2 1000) o ≡ true → IsSoundOption (option_map scaling o)
scaling_sound None h = tt
scaling_sound (Some n) h = sound_scaling n (below 2 1000 n h (lit< tt))

stream_sound : (c : Config) → HasStreamFields c → AllSound (stream_settings c)
stream_sound c h =
    let m8 = with_some param.DestinationConfig (option_map on_failure c.destination) no_members in
    let m7 = with param.TumblingWindowInSeconds (seconds c.tumbling_ms) m8 in
    let m6 = with param.BisectBatchOnFunctionError (boolean c.bisect) m7 in
    let m5 = with param.MaximumRecordAgeInSeconds (seconds_or_none c.age_ms) m6 in
    let m4 = with param.MaximumRetryAttempts (whole_or_none c.retries) m5 in
    let m3 = with param.ParallelizationFactor (whole c.factor) m4 in
    let h8 = with_sound param.DestinationConfig (option_map on_failure c.destination) no_members (destination_sound c.destination) tt in
    let h3 : AllSound m3 = (whole_sound 1 10 c.factor h.factor (lit< tt), (retries_sound c.retries h.retries, (age_sound c.age_ms h.age, (sound_boolean c.bisect, (seconds_sound 0 900 c.tumbling_ms h.tumbling (lit< tt), h8))))) in
    (position_sound c.start, with_sound param.StartingPositionTimestamp (timestamp c.start) m3 (timestamp_sound c.start h.start) h3)

queue_sound : (c : Config) → HasQueueFields c → AllSound (queue_settings c)
queue_sound c h = with_sound param.ScalingConfig (option_map scaling c.concurrency) no_members (scaling_sound c.concurrency h.concurrency) tt

kind_sound : (k : Kind) (c : Config) → HasFieldsOf k c → AllSound (kind_settings k c)
kind_sound Stream c h = stream_sound c h
kind_sound Standard c h = queue_sound c h
kind_sound Fifo c h = queue_sound c h

pub all_sound : (c : Config) → IsValidConfig c → AllSound (config_members c)
all_sound c h =
    let types = with param.FunctionResponseTypes (response_types c.item_failures) (kind_settings c.kind c) in
    let filters = with_sound param.FilterCriteria (criteria c.filters) types (criteria_sound c.filters) (sound_types c.item_failures, kind_sound c.kind c h.fields) in
    (sound_string c.source_arn, (sound_string c.function_arn, (sound_boolean c.enabled, (size_sound c.kind c.batch_size h.batch_size, (window_sound c.kind c.batch_size c.window_ms h.window, filters)))))

-- the value of each field

same_both : (b : Bool) (f : Option Data) → f ≡ cond b f f
same_both true f = refl
same_both false f = refl

last_some : (q : List ℕ) (p : Param) (o : Option Data) (more : Members) (f : Option Data)
    → last_of q (with_some p o more) f ≡ last_of q more (cond (bytes_eq q (name_of p)) (option_or o f) f)
last_some q p None more f = ap (λ x. last_of q more x) (same_both (bytes_eq q (name_of p)) f)
last_some q p (Some d) more f = refl

-- the members of a configuration of this kind
abbrev pub members_for : Kind → Config → Members
members_for k c =
    with param.EventSourceArn (string c.source_arn)
    (with param.FunctionName (string c.function_arn)
    (with param.Enabled (boolean c.enabled)
    (with param.BatchSize (whole c.batch_size)
    (with param.MaximumBatchingWindowInSeconds (seconds c.window_ms)
    (with_some param.FilterCriteria (criteria c.filters)
    (with param.FunctionResponseTypes (response_types c.item_failures)
    (kind_settings k c)))))))

-- after a member
abbrev pub after : List ℕ → Param → Data → Option Data → Option Data
after q p d f = cond (bytes_eq q (name_of p)) (Some d) f

abbrev pub after_some : List ℕ → Param → Option Data → Option Data → Option Data
after_some q p o f = cond (bytes_eq q (name_of p)) (option_or o f) f

abbrev pub at_types : List ℕ → Config → Option Data
at_types q c =
    after q param.FunctionResponseTypes (response_types c.item_failures)
    (after_some q param.FilterCriteria (criteria c.filters)
    (after q param.MaximumBatchingWindowInSeconds (seconds c.window_ms)
    (after q param.BatchSize (whole c.batch_size)
    (after q param.Enabled (boolean c.enabled)
    (after q param.FunctionName (string c.function_arn)
    (after q param.EventSourceArn (string c.source_arn) None))))))

pub head_found : (q : List ℕ) (k : Kind) (c : Config) → last_of q (members_for k c) None ≡ last_of q (kind_settings k c) (at_types q c)
head_found q k c =
    last_some q param.FilterCriteria (criteria c.filters) (with param.FunctionResponseTypes (response_types c.item_failures) (kind_settings k c))
    (after q param.MaximumBatchingWindowInSeconds (seconds c.window_ms)
    (after q param.BatchSize (whole c.batch_size)
    (after q param.Enabled (boolean c.enabled)
    (after q param.FunctionName (string c.function_arn)
    (after q param.EventSourceArn (string c.source_arn) None)))))

abbrev pub at_destination : List ℕ → Config → Option Data → Option Data
at_destination q c f =
    after_some q param.DestinationConfig (option_map on_failure c.destination)
    (after q param.TumblingWindowInSeconds (seconds c.tumbling_ms)
    (after q param.BisectBatchOnFunctionError (boolean c.bisect)
    (after q param.MaximumRecordAgeInSeconds (seconds_or_none c.age_ms)
    (after q param.MaximumRetryAttempts (whole_or_none c.retries)
    (after q param.ParallelizationFactor (whole c.factor)
    (after_some q param.StartingPositionTimestamp (timestamp c.start)
    (after q param.StartingPosition (position c.start) f)))))))

pub stream_found : (q : List ℕ) (c : Config) (f : Option Data) → last_of q (stream_settings c) f ≡ at_destination q c f
stream_found q c f =
    let m8 = with_some param.DestinationConfig (option_map on_failure c.destination) no_members in
    let m7 = with param.TumblingWindowInSeconds (seconds c.tumbling_ms) m8 in
    let m6 = with param.BisectBatchOnFunctionError (boolean c.bisect) m7 in
    let m5 = with param.MaximumRecordAgeInSeconds (seconds_or_none c.age_ms) m6 in
    let m4 = with param.MaximumRetryAttempts (whole_or_none c.retries) m5 in
    let m3 = with param.ParallelizationFactor (whole c.factor) m4 in
    let f3 = after_some q param.StartingPositionTimestamp (timestamp c.start) (after q param.StartingPosition (position c.start) f) in
    last_some q param.StartingPositionTimestamp (timestamp c.start) m3 (after q param.StartingPosition (position c.start) f)
    ∙ last_some q param.DestinationConfig (option_map on_failure c.destination) no_members
    (after q param.TumblingWindowInSeconds (seconds c.tumbling_ms)
    (after q param.BisectBatchOnFunctionError (boolean c.bisect)
    (after q param.MaximumRecordAgeInSeconds (seconds_or_none c.age_ms)
    (after q param.MaximumRetryAttempts (whole_or_none c.retries)
    (after q param.ParallelizationFactor (whole c.factor) f3)))))

pub queue_found : (q : List ℕ) (c : Config) (f : Option Data) → last_of q (queue_settings c) f ≡ after_some q param.ScalingConfig (option_map scaling c.concurrency) f
queue_found q c f = last_some q param.ScalingConfig (option_map scaling c.concurrency) no_members f
