-- A configuration of fields that are as they must be is valid.
use Rattle.std.proofs.Common.{◌≡◌, ◌∙◌, ◌≤◌, ℕ, zero, suc, ◌*◌, ◌/◌, ◌%◌, ◌==◌, ℤ, pos, negsuc, Bool, cond, true, false, ◌||◌, refl, sym, subst, ap, arith, inl, inr, List, [], ◌++◌, length, codes, Option, Some, None, option_map, option_and_then, unwrap_or, nat_le, nat_lt, is_ok}
use Rattle.std.specs.Str.{bytes_eq}
use Rattle.std.proofs.lemmas.Bool.{and_from, and_parts, eq-eqb, leb-true}
use Rattle.std.proofs.lemmas.Bool.Decides.{nat_tests}
use Rattle.serde_json.specs.Data.{Data}
use Rattle.serde_json.specs.Find.{as_array, as_bool, as_i64, as_number, as_str, as_u64}
use Rattle.esm_model.specs.declared.limits.TheConstants.{MAX_FILTERS, MAX_RETRIES}
use Rattle.esm_model.specs.declared.config.Config.{Config}
use Rattle.esm_model.specs.declared.config.Kind.{Kind}
use Rattle.esm_model.specs.declared.config.Kind.TheVariants.{Stream, Standard, Fifo}
use Rattle.esm_model.specs.declared.config.Start.{Start}
use Rattle.esm_model.specs.declared.config.Start.TheVariants.{TrimHorizon, Latest, At}
use Rattle.esm_model.specs.Pattern.{read_patterns}
use Rattle.esm_model.specs.Valid.{HasFieldsOf, HasQueueFields, HasStreamFields, IsFunctionArn, IsSource, IsValidConfig, arn_of, is_account, is_batch_size, is_between, is_destination, is_name_byte, is_region, is_seconds, is_start, is_stream, is_window, is_word, none_or}
use Rattle.esm_config.specs.Arn.{Owned, function_arn_of, kept}
use Rattle.esm_config.specs.Fields.{Named, age_within, are_criteria, attempts_within, batch_size_in, concurrency_of, destination_of, filters_in, first_position, function_in, is_tumbling_for, is_window_for, last_second, limit_in, limit_of, milliseconds, named_by, named_by_arn, of_queue, of_stream, only_member, or_missing, pattern_texts, patterns_among, position_in, start_in, start_of, whole_in, window_in}
use Rattle.esm_config.specs.Given.{IsDynamoGiven, IsGiven}
use Rattle.esm_config.specs.Judged.{Batching, Care, Fields, Pace, Parties, config}
use Rattle.esm_config.specs.declared.param.Param.TheVariants as param
use Rattle.esm_config.specs.declared.position.Position.{Position}
use Rattle.esm_config.specs.declared.position.Position.TheVariants as position
use Rattle.esm_config.specs.declared.sources.Sources.{Sources}
use Rattle.esm_config.specs.declared.sources.Sources.TheVariants.{KinesisOrSqs, DynamoDb}
use Rattle.esm_config.proofs.Arns.{function_is, inner, IsAmong, kept_is, source_is}
use Rattle.esm_config.proofs.Peeled.{IsBatching, IsCare, IsMade, IsPace, IsParties, IsStart}

-- the function

record IsNamed (f : Named) : Type 0 where
  name : is_word is_name_byte 1 64 f.name ≡ true
  arn : (text : List ℕ) → f.arn ≡ Some text → IsFunctionArn f.name text

named_case : (text : List ℕ) (b : Bool) (r : Option Owned) (f : Named) → is_word is_name_byte 1 64 text ≡ b → function_arn_of text ≡ r
    → cond b (Some (record { name = text; arn = None })) (named_by_arn text r) ≡ Some f → IsNamed f
named_case text true r f w e h = subst (λ (g : Named). IsNamed g) (inner _ f h) (record { name = w; arn = λ t n. absurd (cc) })
named_case text false None f w e h = absurd (cc)
named_case text false (Some o) f w e h =
    let is = function_is text o e in
    subst (λ (g : Named). IsNamed g) (inner _ f h) (record { name = is.0; arn = λ t n. subst (λ (a : List ℕ). IsFunctionArn o.name a) (inner text t n) is.1 })

named_is : (t : Option (List ℕ)) (f : Named) → option_and_then named_by t ≡ Some f → IsNamed f
named_is None f h = absurd (cc)
named_is (Some text) f h = named_case text (is_word is_name_byte 1 64 text) (function_arn_of text) f refl refl h

function_is_named : (d : Option Data) (f : Named) → function_in d ≡ Some f → IsNamed f
function_is_named d f h = named_is (option_and_then as_str d) f h

arn_is : (name : List ℕ) (a : Option (List ℕ)) (region account : List ℕ) → is_region region ≡ true → is_account account ≡ true
    → ((text : List ℕ) → a ≡ Some text → IsFunctionArn name text)
    → IsFunctionArn name (unwrap_or a (arn_of (codes "lambda") region account (codes "function:" ++ name)))
arn_is name None region account hr ha h = (region, account, hr, ha, refl)
arn_is name (Some text) region account hr ha h = h text refl

-- numbers

whole_is : (low high : ℕ) (d : Data) (n : ℕ) → whole_in low high d ≡ Some n → is_between low high n ≡ true
whole_is low high d n h = (kept_is (is_between low high) (option_and_then as_u64 (as_number d)) n h).1

whole_or_is : (missing low high : ℕ) (d : Option Data) (n : ℕ) → is_between low high missing ≡ true → or_missing missing (whole_in low high) d ≡ Some n → is_between low high n ≡ true
whole_or_is missing low high None n within h = subst (λ (k : ℕ). is_between low high k ≡ true) (inner missing n h) within
whole_or_is missing low high (Some d) n within h = whole_is low high d n h

seconds_of : (o : Option ℕ) (ms : ℕ) → milliseconds o ≡ Some ms → (s : ℕ) × (o ≡ Some s) × (s * 1000 ≡ ms)
seconds_of None ms h = absurd (cc)
seconds_of (Some s) ms h = (s, refl, inner (s * 1000) ms h)

back : (s : ℕ) → ((s * 1000) / 1000 ≡ s) × ((s * 1000) % 1000 ≡ 0)
back s = (omega arith, omega arith)

in_seconds : (low high s : ℕ) → is_between low high s ≡ true → is_seconds low high (s * 1000) ≡ true
in_seconds low high s h =
    and_from ((s * 1000) % 1000 == 0) (is_between low high ((s * 1000) / 1000)) (eq-eqb ((s * 1000) % 1000) 0 (back s).1)
    (subst (λ (n : ℕ). is_between low high n ≡ true) (sym (back s).0) h)

-- the fields of every mapping

size_is : (kind : Kind) (d : Option Data) (n : ℕ) → batch_size_in kind d ≡ Some n → is_batch_size kind n ≡ true
size_is Stream None n h = subst (λ (k : ℕ). is_batch_size Stream k ≡ true) (inner 100 n h) refl
size_is Standard None n h = subst (λ (k : ℕ). is_batch_size Standard k ≡ true) (inner 10 n h) refl
size_is Fifo None n h = subst (λ (k : ℕ). is_batch_size Fifo k ≡ true) (inner 10 n h) refl
size_is kind (Some d) n h = (kept_is (is_batch_size kind) (option_and_then as_u64 (as_number d)) n h).1

above : (s : ℕ) → nat_lt 0 s ≡ true → nat_lt 0 (s * 1000) ≡ true
above s h = grind (arith, nat_tests)

wide : (size s : ℕ) → (nat_le size 10 || nat_lt 0 s) ≡ true → (nat_le size 10 || nat_lt 0 (s * 1000)) ≡ true
wide size s h = grind (arith, nat_tests)

none_then : (s : ℕ) → (s == 0) ≡ true → (s * 1000 == 0) ≡ true
none_then s h = grind (arith, nat_tests)

window_fits : (kind : Kind) (size s : ℕ) → is_window_for kind size s ≡ true → is_between 0 300 s ≡ true → is_window kind size (s * 1000) ≡ true
window_fits Stream size s h w = in_seconds 0 300 s w
window_fits Standard size s h w = and_from (is_seconds 0 300 (s * 1000)) (nat_le size 10 || nat_lt 0 (s * 1000)) (in_seconds 0 300 s w) (wide size s h)
window_fits Fifo size s h w = none_then s h

window_is : (kind : Kind) (size : ℕ) (d : Option Data) (ms : ℕ) → window_in kind size d ≡ Some ms → is_window kind size ms ≡ true
window_is kind size d ms h =
    let s = seconds_of (kept (is_window_for kind size) (or_missing 0 (whole_in 0 300) d)) ms h in
    let k = kept_is (is_window_for kind size) (or_missing 0 (whole_in 0 300) d) s.0 s.1 in
    subst (λ (n : ℕ). is_window kind size n ≡ true) s.2 (window_fits kind size s.0 k.1 (whole_or_is 0 0 300 d s.0 refl k.0))

record AreFilters (kind : Kind) (ts : List (List ℕ)) : Type 0 where
  count : length ts ≤ MAX_FILTERS
  patterns : is_ok (read_patterns (is_stream kind) ts) ≡ true

filters_are : (sources : Sources) (kind : Kind) (d : Option Data) (ts : List (List ℕ)) → filters_in sources kind d ≡ Some ts → AreFilters kind ts
filters_are sources kind None ts h = subst (λ (us : List (List ℕ)). AreFilters kind us) (inner [] ts h) (record { count = omega arith; patterns = refl })
filters_are sources kind (Some d) ts h =
    let k = kept_is (are_criteria kind) (option_and_then (patterns_among sources) (option_and_then pattern_texts (option_and_then as_array (only_member (codes "Filters") d)))) ts h in
    let p = and_parts (nat_le (length ts) MAX_FILTERS) (is_ok (read_patterns (is_stream kind) ts)) k.1 in
    record { count = leb-true (length ts) MAX_FILTERS p.0; patterns = p.1 }

-- the fields of a stream's mapping

abbrev pace_in : Config → Pace
pace_in c = record { factor = c.factor; retries = c.retries; age_ms = c.age_ms }

abbrev care_in : Config → Care
care_in c = record { bisect = c.bisect; tumbling_ms = c.tumbling_ms; destination = c.destination; concurrency = c.concurrency }

abbrev tumbling_means : ℕ → Option Data → Option ℕ
tumbling_means factor d = milliseconds (kept (is_tumbling_for factor) (or_missing 0 (whole_in 0 900) d))

moment_is : (o : Option ℕ) (s : Start) → ((n : ℕ) → o ≡ Some n → is_between 0 last_second n ≡ true) → option_map At (milliseconds o) ≡ Some s → is_start s ≡ true
moment_is None s within h = absurd (cc)
moment_is (Some n) s within h = subst (λ (k : Start). is_start k ≡ true) (inner (At (n * 1000)) s h) (in_seconds 0 last_second n (within n refl))

start_is : (p : Position) (d : Option Data) (s : Start) → start_of p d ≡ Some s → is_start s ≡ true
start_is position.AtTimestamp None s h = absurd (cc)
start_is position.AtTimestamp (Some d) s h = moment_is (whole_in 0 last_second d) s (λ n e. whole_is 0 last_second d n e) h
start_is position.TrimHorizon None s h = subst (λ (k : Start). is_start k ≡ true) (inner TrimHorizon s h) refl
start_is position.TrimHorizon (Some d) s h = absurd (cc)
start_is position.Latest None s h = subst (λ (k : Start). is_start k ≡ true) (inner Latest s h) refl
start_is position.Latest (Some d) s h = absurd (cc)

limit_at : (passes : ℕ → Bool) (o : Option ℕ) (r : Option ℕ) → ((k : ℕ) → o ≡ Some k → passes k ≡ true) → option_map Some o ≡ Some r → none_or passes r ≡ true
limit_at passes None r h e = absurd (cc)
limit_at passes (Some k) r h e = subst (λ (j : Option ℕ). none_or passes j ≡ true) (inner (Some k) r e) (h k refl)

limit_is : (within : ℕ → Option ℕ) (passes : ℕ → Bool) → ((n k : ℕ) → within n ≡ Some k → passes k ≡ true)
    → (z : Option ℤ) (r : Option ℕ) → option_and_then (limit_of within) z ≡ Some r → none_or passes r ≡ true
limit_is within passes h None r e = absurd (cc)
limit_is within passes h (Some (pos n)) r e = limit_at passes (within n) r (h n) e
limit_is within passes h (Some (negsuc zero)) r e = subst (λ (k : Option ℕ). none_or passes k ≡ true) (inner None r e) refl
limit_is within passes h (Some (negsuc (suc n))) r e = absurd (cc)

limit_in_is : (within : ℕ → Option ℕ) (passes : ℕ → Bool) → ((n k : ℕ) → within n ≡ Some k → passes k ≡ true)
    → (d : Option Data) (r : Option ℕ) → or_missing None (limit_in within) d ≡ Some r → none_or passes r ≡ true
limit_in_is within passes h None r e = subst (λ (k : Option ℕ). none_or passes k ≡ true) (inner None r e) refl
limit_in_is within passes h (Some d) r e = limit_is within passes h (option_and_then as_i64 (as_number d)) r e

attempts_are : (n k : ℕ) → attempts_within n ≡ Some k → nat_le k MAX_RETRIES ≡ true
attempts_are n k h = (kept_is (λ m. nat_le m MAX_RETRIES) (Some n) k h).1

age_is : (n ms : ℕ) → age_within n ≡ Some ms → is_seconds 60 604800 ms ≡ true
age_is n ms h =
    let s = seconds_of (kept (is_between 60 604800) (Some n)) ms h in
    let k = kept_is (is_between 60 604800) (Some n) s.0 s.1 in
    subst (λ (m : ℕ). is_seconds 60 604800 m ≡ true) s.2 (in_seconds 60 604800 s.0 k.1)

record IsTumbling (factor ms : ℕ) : Type 0 where
  length : is_seconds 0 900 ms ≡ true
  one_lane : ((ms == 0) || (factor == 1)) ≡ true

one_lane : (factor s : ℕ) → ((s == 0) || (factor == 1)) ≡ true → ((s * 1000 == 0) || (factor == 1)) ≡ true
one_lane factor s h = grind (arith, nat_tests)

tumbling_is : (factor : ℕ) (d : Option Data) (ms : ℕ) → milliseconds (kept (is_tumbling_for factor) (or_missing 0 (whole_in 0 900) d)) ≡ Some ms → IsTumbling factor ms
tumbling_is factor d ms h =
    let s = seconds_of (kept (is_tumbling_for factor) (or_missing 0 (whole_in 0 900) d)) ms h in
    let k = kept_is (is_tumbling_for factor) (or_missing 0 (whole_in 0 900) d) s.0 s.1 in
    subst (λ (m : ℕ). IsTumbling factor m) s.2
    (record { length = in_seconds 0 900 s.0 (whole_or_is 0 0 900 d s.0 refl k.0); one_lane = one_lane factor s.0 k.1 })

destination_is : (d : Option Data) (t : Option (List ℕ)) → or_missing None destination_of d ≡ Some t → is_destination t ≡ true
destination_is None t h = subst (λ (k : Option (List ℕ)). is_destination k ≡ true) (inner None t h) refl
destination_is (Some d) t h =
    let text = option_and_then as_str (option_and_then (only_member (codes "Destination")) (only_member (codes "OnFailure") d)) in
    (kept_is is_destination (option_map Some text) t h).1

no_concurrency : (d : Option Data) (t : Option ℕ) → of_queue Stream None (or_missing None concurrency_of) d ≡ Some t → t ≡ None
no_concurrency None t h = sym (inner None t h)
no_concurrency (Some d) t h = absurd (cc)

stream_fields : (fs : Fields) (c : Config) → IsStart Stream fs c.start → IsPace Stream fs (pace_in c) → IsCare Stream c.factor fs (care_in c) → HasStreamFields c
stream_fields fs c start pace care =
    let tumbling = tumbling_is c.factor (fs.look param.TumblingWindowInSeconds) c.tumbling_ms care.tumbling in
    record {
      factor = whole_or_is 1 1 10 (fs.look param.ParallelizationFactor) c.factor refl pace.factor;
      retries = limit_in_is attempts_within (λ n. nat_le n MAX_RETRIES) attempts_are (fs.look param.MaximumRetryAttempts) c.retries pace.retries;
      age = limit_in_is age_within (is_seconds 60 604800) age_is (fs.look param.MaximumRecordAgeInSeconds) c.age_ms pace.age;
      tumbling = tumbling.length;
      one_lane = tumbling.one_lane;
      start = start_is start.position (fs.look param.StartingPositionTimestamp) c.start start.start;
      destination = destination_is (fs.look param.DestinationConfig) c.destination care.destination;
      concurrency = no_concurrency (fs.look param.ScalingConfig) c.concurrency care.concurrency;
    }

-- the fields of a queue's mapping

-- a field of a stream's alone
not_of_queue : {A : Type 0} (kind : Kind) (otherwise x : A) (means : Option Data → Option A) (d : Option Data) → is_stream kind ≡ false → of_stream kind otherwise means d ≡ Some x → x ≡ otherwise
not_of_queue Stream otherwise x means d q h = absurd (cc)
not_of_queue Standard otherwise x means None q h = sym (inner otherwise x h)
not_of_queue Standard otherwise x means (Some d) q h = absurd (cc)
not_of_queue Fifo otherwise x means None q h = sym (inner otherwise x h)
not_of_queue Fifo otherwise x means (Some d) q h = absurd (cc)

of_a_queue : {A : Type 0} (kind : Kind) (otherwise x : A) (means : Option Data → Option A) (d : Option Data) → is_stream kind ≡ false → of_queue kind otherwise means d ≡ Some x → means d ≡ Some x
of_a_queue Stream otherwise x means d q h = absurd (cc)
of_a_queue Standard otherwise x means d q h = h
of_a_queue Fifo otherwise x means d q h = h

scaling_at : (m : Option Data) (n : ℕ) → option_and_then (whole_in 2 1000) m ≡ Some n → is_between 2 1000 n ≡ true
scaling_at None n h = absurd (cc)
scaling_at (Some d) n h = whole_is 2 1000 d n h

concurrency_is : (d : Option Data) (t : Option ℕ) → or_missing None concurrency_of d ≡ Some t → none_or (is_between 2 1000) t ≡ true
concurrency_is None t h = subst (λ (k : Option ℕ). none_or (is_between 2 1000) k ≡ true) (inner None t h) refl
concurrency_is (Some d) t h =
    limit_at (is_between 2 1000) (option_and_then (whole_in 2 1000) (only_member (codes "MaximumConcurrency") d)) t (scaling_at (only_member (codes "MaximumConcurrency") d)) h

queue_fields : (kind : Kind) (fs : Fields) (c : Config) → is_stream kind ≡ false → IsStart kind fs c.start → IsPace kind fs (pace_in c) → IsCare kind c.factor fs (care_in c) → HasQueueFields c
queue_fields kind fs c q start pace care = record {
  factor = not_of_queue kind 1 c.factor (or_missing 1 (whole_in 1 10)) (fs.look param.ParallelizationFactor) q pace.factor;
  retries = not_of_queue kind None c.retries (or_missing None (limit_in attempts_within)) (fs.look param.MaximumRetryAttempts) q pace.retries;
  age = not_of_queue kind None c.age_ms (or_missing None (limit_in age_within)) (fs.look param.MaximumRecordAgeInSeconds) q pace.age;
  bisect = not_of_queue kind false c.bisect (or_missing false as_bool) (fs.look param.BisectBatchOnFunctionError) q care.bisect;
  tumbling = not_of_queue kind 0 c.tumbling_ms (tumbling_means c.factor) (fs.look param.TumblingWindowInSeconds) q care.tumbling;
  start = not_of_queue kind TrimHorizon c.start (start_of start.position) (fs.look param.StartingPositionTimestamp) q start.start;
  destination = not_of_queue kind None c.destination (or_missing None destination_of) (fs.look param.DestinationConfig) q care.destination;
  concurrency = concurrency_is (fs.look param.ScalingConfig) c.concurrency
      (of_a_queue kind None c.concurrency (or_missing None concurrency_of) (fs.look param.ScalingConfig) q care.concurrency);
}

fields_of_kind : (kind : Kind) (fs : Fields) (c : Config) → IsStart kind fs c.start → IsPace kind fs (pace_in c) → IsCare kind c.factor fs (care_in c) → HasFieldsOf kind c
fields_of_kind Stream fs c start pace care = stream_fields fs c start pace care
fields_of_kind Standard fs c start pace care = queue_fields Standard fs c refl start pace care
fields_of_kind Fifo fs c start pace care = queue_fields Fifo fs c refl start pace care

-- the whole

any_source : (sources : Sources) (kind : Kind) (region account arn : List ℕ) → IsAmong sources kind region account arn → IsSource kind region account arn
any_source KinesisOrSqs Stream region account arn h = inl h
any_source KinesisOrSqs Standard region account arn h = h
any_source KinesisOrSqs Fifo region account arn h = h
any_source DynamoDb Stream region account arn h = inr h.1
any_source DynamoDb Standard region account arn h = let e = h.0 in absurd (cc)
any_source DynamoDb Fifo region account arn h = let e = h.0 in absurd (cc)

-- of a mapping that names one of these sources
pub record IsGivenOf (sources : Sources) (c : Config) : Type 0 where
  pub valid : IsValidConfig c
  pub source : IsAmong sources c.kind c.region c.account c.source_arn
  pub patterns : is_ok (read_patterns (is_stream c.kind) c.filters) ≡ true

made_is_given : (fs : Fields) (p : Parties) (b : Batching) (s : Start) (pace : Pace) (care : Care) → IsParties fs p → IsBatching p.source.kind fs b → IsStart p.source.kind fs s
    → IsPace p.source.kind fs pace → IsCare p.source.kind pace.factor fs care → IsGivenOf fs.sources (config p b s pace care)
made_is_given fs p b s pace care ip ib is ipace icare =
    let from = source_is fs.sources (fs.look param.EventSourceArn) p.source ip.source in
    let f = function_is_named (fs.look param.FunctionName) p.function ip.function in
    let filters = filters_are fs.sources p.source.kind (fs.look param.FilterCriteria) b.filters ib.filters in
    record {
      valid = record {
        region = from.region;
        account = from.account;
        source = any_source fs.sources p.source.kind p.source.parts.region p.source.parts.account p.source.arn from.arn;
        function = f.name;
        function_arn = arn_is p.function.name p.function.arn p.source.parts.region p.source.parts.account from.region from.account f.arn;
        batch_size = size_is p.source.kind (fs.look param.BatchSize) b.batch_size ib.batch_size;
        window = window_is p.source.kind b.batch_size (fs.look param.MaximumBatchingWindowInSeconds) b.window_ms ib.window;
        filters = filters.count;
        fields = fields_of_kind p.source.kind fs (config p b s pace care) is ipace icare;
      };
      source = from.arn;
      patterns = filters.patterns;
    }

is_given_of : (fs : Fields) (c : Config) → IsMade fs c → IsGivenOf fs.sources c
is_given_of fs c m =
    subst (λ (k : Config). IsGivenOf fs.sources k) m.is
    (made_is_given fs m.parties m.batching m.start m.pace m.care m.is_parties m.is_batching m.is_start m.is_pace m.is_care)

pub is_given : (fs : Fields) (c : Config) → fs.sources ≡ KinesisOrSqs → IsMade fs c → IsGiven c
is_given fs c e m =
    let g = subst (λ (s : Sources). IsGivenOf s c) e (is_given_of fs c m) in
    record { valid = g.valid; source = g.source; patterns = g.patterns }

-- the stream of a table is read from its first record

at_first : (b : Bool) (p : Position) → cond b (Some position.TrimHorizon) None ≡ Some p → p ≡ position.TrimHorizon
at_first true p h = sym (inner position.TrimHorizon p h)
at_first false p h = absurd (cc)

first_named : (t : Option (List ℕ)) (p : Position) → option_and_then first_position t ≡ Some p → p ≡ position.TrimHorizon
first_named None p h = absurd (cc)
first_named (Some text) p h = at_first (bytes_eq text (codes "TRIM_HORIZON")) p h

first_in : (d : Option Data) (p : Position) → position_in DynamoDb Stream d ≡ Some p → p ≡ position.TrimHorizon
first_in None p h = absurd (cc)
first_in (Some d) p h = first_named (as_str d) p h

no_moment : (d : Option Data) (s : Start) → start_in Stream position.TrimHorizon d ≡ Some s → s ≡ TrimHorizon
no_moment None s h = sym (inner TrimHorizon s h)
no_moment (Some d) s h = absurd (cc)

first_start : (sources : Sources) (kind : Kind) (place : Option Data) (moment : Option Data) (p : Position) (s : Start) → sources ≡ DynamoDb → kind ≡ Stream
    → position_in sources kind place ≡ Some p → start_in kind p moment ≡ Some s → s ≡ TrimHorizon
first_start KinesisOrSqs kind place moment p s es ek hp hs = absurd (cc)
first_start DynamoDb Standard place moment p s es ek hp hs = absurd (cc)
first_start DynamoDb Fifo place moment p s es ek hp hs = absurd (cc)
first_start DynamoDb Stream place moment p s es ek hp hs =
    no_moment moment s (subst (λ (q : Position). start_in Stream q moment ≡ Some s) (first_in place p hp) hs)

pub is_dynamo_given : (fs : Fields) (c : Config) → fs.sources ≡ DynamoDb → IsMade fs c → IsDynamoGiven c
is_dynamo_given fs c e m =
    let g = subst (λ (s : Sources). IsGivenOf s c) e (is_given_of fs c m) in
    let kind : c.kind ≡ Stream = g.source.0 in
    let made : m.parties.source.kind ≡ c.kind = ap (λ (k : Config). k.kind) m.is in
    let start : m.start ≡ c.start = ap (λ (k : Config). k.start) m.is in
    record {
      stream = record { kind = kind; valid = g.valid };
      source = g.source.1;
      start = sym start ∙ first_start fs.sources m.parties.source.kind (fs.look param.StartingPosition) (fs.look param.StartingPositionTimestamp)
          m.is_start.position m.start e (made ∙ kind) m.is_start.is_position m.is_start.start;
      patterns = subst (λ (k : Kind). is_ok (read_patterns (is_stream k) c.filters) ≡ true) kind g.patterns;
    }
