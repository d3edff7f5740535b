-- What is read from the text of a configuration that is given.
use Rattle.std.proofs.Common.{◌≡◌, ◌∙◌, ℕ, ◌/◌, Bool, cond, true, false, ◌||◌, refl, sym, ap, subst, List, [], ◌∷◌, Option, Some, None, option_map, option_and_then, is_some, is_ok, Result, Ok, Err, Ordering, Less, Equal, Greater, nat_cmp, is_eq}
use Rattle.std.specs.Cmp.Lexicographic.{slice_cmp}
use Rattle.std.specs.Ordering.{match_ordering}
use Rattle.std.specs.Option.{option_or}
use Rattle.std.specs.Result.{result_ok}
use Rattle.std.proofs.lemmas.Bool.{and_from, and_parts, or_right}
use Rattle.std.proofs.lemmas.Map.Text.{is_eq-slice_cmp}
use Rattle.std.proofs.lemmas.Slice.Eq.{bytes_eq-Decides}
use Rattle.serde_json.specs.Data.{Data, boolean, Members, no_members, member, object, put}
use Rattle.serde_json.specs.Find.{as_bool, as_null, as_str}
use Rattle.serde_json.specs.Read.{read}
use Rattle.esm_model.specs.declared.config.Config.{Config}
use Rattle.esm_model.specs.declared.config.Kind.{Kind}
use Rattle.esm_model.specs.declared.config.Kind.TheVariants.{Stream, Standard, Fifo}
use Rattle.esm_model.specs.declared.config.Start.{Start}
use Rattle.esm_model.specs.declared.config.Start.TheVariants.{TrimHorizon, Latest, At}
use Rattle.esm_model.specs.Valid.{HasFieldsOf, HasQueueFields, HasStreamFields, is_batch_size, is_stream, is_window}
use Rattle.esm_model.specs.Pattern.{read_patterns}
use Rattle.esm_config.specs.Arn.{Source, kept}
use Rattle.esm_config.specs.Fields.{Named, age_in, age_within, attempts_within, batch_size_in, bisect_in, concurrency_in, destination_in, destination_of, enabled_in, factor_in, filters_in, function_in, is_tumbling_for, item_failures_in, limit_in, milliseconds, not_null, of_stream, or_missing, position_in, position_of, retries_in, source_in, start_in, start_of, tumbling_in, whole_in, window_in}
use Rattle.esm_config.specs.Given.{IsGiven, IsGivenSource}
use Rattle.esm_config.specs.Judged.{Batching, Care, Fields, Pace, Parties, and_then, batching_of, care_of, config, judged, pace_of, parties_of, start_field, with}
use Rattle.esm_config.specs.Mapping.{config_of, fields_of}
use Rattle.esm_config.specs.Names.{is_listed, name_of, only_listed}
use Rattle.esm_config.specs.Text as text
use Rattle.esm_config.specs.Text.{config_members, config_text, criteria, kind_settings, on_failure, position, queue_settings, response_types, scaling, seconds, seconds_or_none, stream_settings, timestamp, whole, whole_or_none, with_some}
use Rattle.esm_config.specs.declared.param.Param.{Param}
use Rattle.esm_config.specs.declared.param.Param.TheVariants as param
use Rattle.esm_config.specs.declared.position.Position.{Position}
use Rattle.esm_config.specs.declared.position.Position.TheVariants as place
use Rattle.esm_config.specs.declared.sources.Sources.TheVariants.{KinesisOrSqs}
use Rattle.esm_config.proofs.ArnsBack.{IsBack, function_arn_back, source_back}
use Rattle.esm_config.proofs.FieldsBack.{age_back, concurrency_back, destination_back, factor_back, filters_back, place_back, place_of, retries_back, size_back, start_back, tumbling_back, types_back, window_back}
use Rattle.esm_config.proofs.ReadBack.{get_last, last_of, put_all, reads_object}
use Rattle.esm_config.proofs.TextBack.{after_some, all_sound, at_destination, at_types, head_found, members_for, queue_found, stream_found}

-- the members that are put are listed

listed_at : (o : Ordering) (k l : List ℕ) (d e : Data) (ms : Members) → slice_cmp nat_cmp k l ≡ o → is_listed k ≡ true → only_listed (member l e ms) ≡ true → only_listed (put k d ms) ≡ true
    → only_listed (match_ordering o (member k d (member l e ms)) (member l d ms) (member l e (put k d ms))) ≡ true
listed_at Less k l d e ms is hk h ih =
    and_from (is_some (as_null d) || is_listed k) (only_listed (member l e ms)) (or_right (is_some (as_null d)) (is_listed k) hk) h
listed_at Equal k l d e ms is hk h ih =
    let same : k ≡ l = (bytes_eq-Decides k l).0 (sym (is_eq-slice_cmp k l) ∙ ap is_eq is) in
    and_from (is_some (as_null d) || is_listed l) (only_listed ms) (or_right (is_some (as_null d)) (is_listed l) (ap is_listed (sym same) ∙ hk))
    (and_parts (is_some (as_null e) || is_listed l) (only_listed ms) h).1
listed_at Greater k l d e ms is hk h ih =
    and_from (is_some (as_null e) || is_listed l) (only_listed (put k d ms)) (and_parts (is_some (as_null e) || is_listed l) (only_listed ms) h).0 ih

listed_put : (k : List ℕ) (d : Data) (ms : Members) → is_listed k ≡ true → only_listed ms ≡ true → only_listed (put k d ms) ≡ true
listed_put k d no_members hk h = and_from (is_some (as_null d) || is_listed k) true (or_right (is_some (as_null d)) (is_listed k) hk) refl
listed_put k d (member l e ms) hk h =
    listed_at (slice_cmp nat_cmp k l) k l d e ms refl hk h (listed_put k d ms hk (and_parts (is_some (as_null e) || is_listed l) (only_listed ms) h).1)

abbrev AllListed : Members → Type 0
AllListed no_members = Unit {0}
AllListed (member k d ms) = (is_listed k ≡ true) × AllListed ms

listed_all : (ms found : Members) → AllListed ms → only_listed found ≡ true → only_listed (put_all ms found) ≡ true
listed_all no_members found h hf = hf
listed_all (member k d ms) found h hf = listed_all ms (put k d found) h.1 (listed_put k d found h.0 hf)

some_listed : (p : Param) (o : Option Data) (more : Members) → is_listed (name_of p) ≡ true → AllListed more → AllListed (with_some p o more)
some_listed p None more hp hm = hm
some_listed p (Some d) more hp hm = (hp, hm)

stream_listed : (c : Config) → AllListed (stream_settings c)
stream_listed c =
    let m8 = with_some param.DestinationConfig (option_map on_failure c.destination) no_members in
    let m7 = text.with param.TumblingWindowInSeconds (seconds c.tumbling_ms) m8 in
    let m6 = text.with param.BisectBatchOnFunctionError (boolean c.bisect) m7 in
    let m5 = text.with param.MaximumRecordAgeInSeconds (seconds_or_none c.age_ms) m6 in
    let m4 = text.with param.MaximumRetryAttempts (whole_or_none c.retries) m5 in
    let m3 = text.with param.ParallelizationFactor (whole c.factor) m4 in
    let h8 = some_listed param.DestinationConfig (option_map on_failure c.destination) no_members refl tt in
    (refl, some_listed param.StartingPositionTimestamp (timestamp c.start) m3 refl (refl, (refl, (refl, (refl, (refl, h8))))))

kind_listed : (k : Kind) (c : Config) → AllListed (kind_settings k c)
kind_listed Stream c = stream_listed c
kind_listed Standard c = some_listed param.ScalingConfig (option_map scaling c.concurrency) no_members refl tt
kind_listed Fifo c = some_listed param.ScalingConfig (option_map scaling c.concurrency) no_members refl tt

for_listed : (k : Kind) (c : Config) → AllListed (members_for k c)
for_listed k c =
    let types = text.with param.FunctionResponseTypes (response_types c.item_failures) (kind_settings k c) in
    (refl, (refl, (refl, (refl, (refl, some_listed param.FilterCriteria (criteria c.filters) types refl (refl, kind_listed k c))))))

-- the fields of the object

abbrev written : Kind → Config → Members
written k c = put_all (members_for k c) no_members

abbrev seen : Kind → Config → Fields
seen k c = fields_of (object (written k c))

stream_look : (p : Param) (c : Config) → (seen Stream c).look p ≡ option_and_then not_null (at_destination (name_of p) c (at_types (name_of p) c))
stream_look p c =
    ap (λ o. option_and_then not_null o)
    (get_last (name_of p) (members_for Stream c) no_members ∙ (head_found (name_of p) Stream c ∙ stream_found (name_of p) c (at_types (name_of p) c)))

queue_part : (k : Kind) (c : Config) → is_stream k ≡ false → kind_settings k c ≡ queue_settings c
queue_part Stream c q = absurd (cc)
queue_part Standard c q = refl
queue_part Fifo c q = refl

queue_look : (p : Param) (k : Kind) (c : Config) → is_stream k ≡ false
    → (seen k c).look p ≡ option_and_then not_null (after_some (name_of p) param.ScalingConfig (option_map scaling c.concurrency) (at_types (name_of p) c))
queue_look p k c q =
    ap (λ o. option_and_then not_null o)
    (get_last (name_of p) (members_for k c) no_members ∙ (head_found (name_of p) k c
    ∙ (ap (λ ms. last_of (name_of p) ms (at_types (name_of p) c)) (queue_part k c q) ∙ queue_found (name_of p) c (at_types (name_of p) c))))

-- none of the values is null

criteria_there : (ts : List (List ℕ)) → option_and_then not_null (option_or (criteria ts) None) ≡ criteria ts
criteria_there [] = refl
criteria_there (t ∷ ts) = refl

types_there : (b : Bool) → not_null (response_types b) ≡ Some (response_types b)
types_there true = refl
types_there false = refl

place_there : (s : Start) → not_null (position s) ≡ Some (position s)
place_there TrimHorizon = refl
place_there Latest = refl
place_there (At ms) = refl

timestamp_there : (s : Start) → option_and_then not_null (option_or (timestamp s) None) ≡ timestamp s
timestamp_there TrimHorizon = refl
timestamp_there Latest = refl
timestamp_there (At ms) = refl

number_there : (o : Option ℕ) → not_null (whole_or_none o) ≡ Some (whole_or_none o)
number_there None = refl
number_there (Some n) = refl

destination_there : (o : Option (List ℕ)) → option_and_then not_null (option_or (option_map on_failure o) None) ≡ option_map on_failure o
destination_there None = refl
destination_there (Some s) = refl

scaling_there : (o : Option ℕ) → option_and_then not_null (option_or (option_map scaling o) None) ≡ option_map scaling o
scaling_there None = refl
scaling_there (Some n) = refl

-- the rows, where each field is as it must be

with_is : {A B : Type 0} (p : Param) (o : Option A) (x : A) (go_on : A → Result B Param) → o ≡ Some x → with p o go_on ≡ go_on x
with_is {A} p o x go_on e = ap (λ (u : Option A). with p u go_on) e

then_is : {A B : Type 0} (r : Result A Param) (x : A) (go_on : A → Result B Param) → r ≡ Ok x → and_then r go_on ≡ go_on x
then_is {A} r x go_on e = ap (λ (u : Result A Param). and_then u go_on) e

module _ (d : Data) where
  parties_are : (s : Source) (f : Named) (e : Bool) → source_in KinesisOrSqs ((fields_of d).look param.EventSourceArn) ≡ Some s → function_in ((fields_of d).look param.FunctionName) ≡ Some f
      → enabled_in ((fields_of d).look param.Enabled) ≡ Some e → parties_of (fields_of d) ≡ Ok (record { source = s; function = f; enabled = e })
  parties_are s f e hs hf he =
      with_is param.EventSourceArn (source_in KinesisOrSqs ((fields_of d).look param.EventSourceArn)) s _ hs
      ∙ (with_is param.FunctionName (function_in ((fields_of d).look param.FunctionName)) f _ hf
      ∙ with_is param.Enabled (enabled_in ((fields_of d).look param.Enabled)) e _ he)

  batching_are : (k : Kind) (n w : ℕ) (ts : List (List ℕ)) (b : Bool) → batch_size_in k ((fields_of d).look param.BatchSize) ≡ Some n
      → window_in k n ((fields_of d).look param.MaximumBatchingWindowInSeconds) ≡ Some w → filters_in KinesisOrSqs k ((fields_of d).look param.FilterCriteria) ≡ Some ts
      → item_failures_in ((fields_of d).look param.FunctionResponseTypes) ≡ Some b
      → batching_of k (fields_of d) ≡ Ok (record { batch_size = n; window_ms = w; filters = ts; item_failures = b })
  batching_are k n w ts b hn hw ht hb =
      with_is param.BatchSize (batch_size_in k ((fields_of d).look param.BatchSize)) n _ hn
      ∙ (with_is param.MaximumBatchingWindowInSeconds (window_in k n ((fields_of d).look param.MaximumBatchingWindowInSeconds)) w _ hw
      ∙ (with_is param.FilterCriteria (filters_in KinesisOrSqs k ((fields_of d).look param.FilterCriteria)) ts _ ht
      ∙ with_is param.FunctionResponseTypes (item_failures_in ((fields_of d).look param.FunctionResponseTypes)) b _ hb))

  start_is : (k : Kind) (p : Position) (s : Start) → position_in KinesisOrSqs k ((fields_of d).look param.StartingPosition) ≡ Some p
      → start_in k p ((fields_of d).look param.StartingPositionTimestamp) ≡ Some s → start_field k (fields_of d) ≡ Ok s
  start_is k p s hp hs =
      with_is param.StartingPosition (position_in KinesisOrSqs k ((fields_of d).look param.StartingPosition)) p _ hp
      ∙ with_is param.StartingPositionTimestamp (start_in k p ((fields_of d).look param.StartingPositionTimestamp)) s _ hs

  pace_are : (k : Kind) (n : ℕ) (r a : Option ℕ) → factor_in k ((fields_of d).look param.ParallelizationFactor) ≡ Some n → retries_in k ((fields_of d).look param.MaximumRetryAttempts) ≡ Some r
      → age_in k ((fields_of d).look param.MaximumRecordAgeInSeconds) ≡ Some a → pace_of k (fields_of d) ≡ Ok (record { factor = n; retries = r; age_ms = a })
  pace_are k n r a hn hr ha =
      with_is param.ParallelizationFactor (factor_in k ((fields_of d).look param.ParallelizationFactor)) n _ hn
      ∙ (with_is param.MaximumRetryAttempts (retries_in k ((fields_of d).look param.MaximumRetryAttempts)) r _ hr
      ∙ with_is param.MaximumRecordAgeInSeconds (age_in k ((fields_of d).look param.MaximumRecordAgeInSeconds)) a _ ha)

  care_are : (k : Kind) (n : ℕ) (b : Bool) (w : ℕ) (t : Option (List ℕ)) (o : Option ℕ) → bisect_in k ((fields_of d).look param.BisectBatchOnFunctionError) ≡ Some b
      → tumbling_in k n ((fields_of d).look param.TumblingWindowInSeconds) ≡ Some w → destination_in k ((fields_of d).look param.DestinationConfig) ≡ Some t
      → concurrency_in k ((fields_of d).look param.ScalingConfig) ≡ Some o
      → care_of k n (fields_of d) ≡ Ok (record { bisect = b; tumbling_ms = w; destination = t; concurrency = o })
  care_are k n b w t o hb hw ht ho =
      with_is param.BisectBatchOnFunctionError (bisect_in k ((fields_of d).look param.BisectBatchOnFunctionError)) b _ hb
      ∙ (with_is param.TumblingWindowInSeconds (tumbling_in k n ((fields_of d).look param.TumblingWindowInSeconds)) w _ hw
      ∙ (with_is param.DestinationConfig (destination_in k ((fields_of d).look param.DestinationConfig)) t _ ht
      ∙ with_is param.ScalingConfig (concurrency_in k ((fields_of d).look param.ScalingConfig)) o _ ho))

judged_is : (fs : Fields) (ms : Members) (p : Parties) (b : Batching) (s : Start) (pace : Pace) (care : Care) → parties_of fs ≡ Ok p → batching_of p.source.kind fs ≡ Ok b
    → start_field p.source.kind fs ≡ Ok s → pace_of p.source.kind fs ≡ Ok pace → care_of p.source.kind pace.factor fs ≡ Ok care → only_listed ms ≡ true
    → judged fs ms ≡ Ok (config p b s pace care)
judged_is fs ms p b s pace care hp hb hs hpace hcare listed =
    then_is (parties_of fs) p _ hp
    ∙ (then_is (batching_of p.source.kind fs) b _ hb
    ∙ (then_is (start_field p.source.kind fs) s _ hs
    ∙ (then_is (pace_of p.source.kind fs) pace _ hpace
    ∙ (then_is (care_of p.source.kind pace.factor fs) care _ hcare
    ∙ ap (λ x. cond x (Ok (config p b s pace care)) (Err param.Unknown)) listed))))

-- a stream's

stream_same : (c : Config) (s : IsBack Stream c.region c.account c.source_arn) → c.kind ≡ Stream → c.concurrency ≡ None
    → record c { source_arn = s.source.arn; region = s.source.parts.region; account = s.source.parts.account; kind = s.source.kind; concurrency = None } ≡ c
stream_same c s e o =
    ap (λ x. record c { source_arn = x; region = s.source.parts.region; account = s.source.parts.account; kind = s.source.kind; concurrency = None }) s.arn
    ∙ (ap (λ x. record c { region = x; account = s.source.parts.account; kind = s.source.kind; concurrency = None }) s.region
    ∙ (ap (λ x. record c { account = x; kind = s.source.kind; concurrency = None }) s.account
    ∙ (ap (λ x. record c { kind = x; concurrency = None }) (s.kind ∙ sym e)
    ∙ ap (λ x. record c { concurrency = x }) (sym o))))

stream_round : (c : Config) → IsGiven c → c.kind ≡ Stream → judged (seen Stream c) (written Stream c) ≡ Ok c
stream_round c g e =
    let d = object (written Stream c) in
    let f : HasStreamFields c = subst (λ (k : Kind). HasFieldsOf k c) e g.valid.fields in
    let arn : IsGivenSource Stream c.region c.account c.source_arn = subst (λ (k : Kind). IsGivenSource k c.region c.account c.source_arn) e g.source in
    let size : is_batch_size Stream c.batch_size ≡ true = subst (λ (k : Kind). is_batch_size k c.batch_size ≡ true) e g.valid.batch_size in
    let window : is_window Stream c.batch_size c.window_ms ≡ true = subst (λ (k : Kind). is_window k c.batch_size c.window_ms ≡ true) e g.valid.window in
    let patterns : is_ok (read_patterns (is_stream Stream) c.filters) ≡ true = subst (λ (k : Kind). is_ok (read_patterns (is_stream k) c.filters) ≡ true) e g.patterns in
    let s = source_back Stream c.region c.account c.source_arn g.valid.region g.valid.account arn in
    let parties = parties_are d s.source (record { name = c.function; arn = Some c.function_arn }) c.enabled
    (ap (source_in KinesisOrSqs) (stream_look param.EventSourceArn c) ∙ s.found)
    (ap function_in (stream_look param.FunctionName c) ∙ function_arn_back c.function c.function_arn g.valid.function g.valid.function_arn)
    (ap enabled_in (stream_look param.Enabled c)) in
    let batching = batching_are d Stream c.batch_size c.window_ms c.filters c.item_failures
    (ap (λ o. batch_size_in Stream o) (stream_look param.BatchSize c) ∙ size_back Stream c.batch_size size)
    (ap (λ o. window_in Stream c.batch_size o) (stream_look param.MaximumBatchingWindowInSeconds c) ∙ window_back Stream c.batch_size c.window_ms window)
    (ap (λ o. filters_in KinesisOrSqs Stream o) (stream_look param.FilterCriteria c ∙ criteria_there c.filters) ∙ filters_back Stream c.filters g.valid.filters patterns)
    (ap item_failures_in (stream_look param.FunctionResponseTypes c ∙ types_there c.item_failures) ∙ types_back c.item_failures) in
    let start = start_is d Stream (place_of c.start) c.start
    (ap (λ o. position_in KinesisOrSqs Stream o) (stream_look param.StartingPosition c ∙ place_there c.start) ∙ place_back c.start)
    (ap (λ o. start_in Stream (place_of c.start) o) (stream_look param.StartingPositionTimestamp c ∙ timestamp_there c.start) ∙ start_back c.start f.start) in
    let pace = pace_are d Stream c.factor c.retries c.age_ms
    (ap (λ o. factor_in Stream o) (stream_look param.ParallelizationFactor c) ∙ factor_back c.factor f.factor)
    (ap (λ o. retries_in Stream o) (stream_look param.MaximumRetryAttempts c ∙ number_there c.retries) ∙ retries_back c.retries f.retries)
    (ap (λ o. age_in Stream o) (stream_look param.MaximumRecordAgeInSeconds c ∙ number_there (option_map (λ n. n / 1000) c.age_ms)) ∙ age_back c.age_ms f.age) in
    let care = care_are d Stream c.factor c.bisect c.tumbling_ms c.destination None
    (ap (λ o. bisect_in Stream o) (stream_look param.BisectBatchOnFunctionError c))
    (ap (λ o. tumbling_in Stream c.factor o) (stream_look param.TumblingWindowInSeconds c) ∙ tumbling_back c.factor c.tumbling_ms f.tumbling f.one_lane)
    (ap (λ o. destination_in Stream o) (stream_look param.DestinationConfig c ∙ destination_there c.destination) ∙ destination_back c.destination f.destination)
    (ap (λ o. concurrency_in Stream o) (stream_look param.ScalingConfig c)) in
    let p : Parties = record { source = s.source; function = record { name = c.function; arn = Some c.function_arn }; enabled = c.enabled } in
    let b : Batching = record { batch_size = c.batch_size; window_ms = c.window_ms; filters = c.filters; item_failures = c.item_failures } in
    let pc : Pace = record { factor = c.factor; retries = c.retries; age_ms = c.age_ms } in
    let cr : Care = record { bisect = c.bisect; tumbling_ms = c.tumbling_ms; destination = c.destination; concurrency = None } in
    judged_is (fields_of d) (written Stream c) p b c.start pc cr parties
    (subst (λ (k : Kind). batching_of k (fields_of d) ≡ Ok b) (sym s.kind) batching)
    (subst (λ (k : Kind). start_field k (fields_of d) ≡ Ok c.start) (sym s.kind) start)
    (subst (λ (k : Kind). pace_of k (fields_of d) ≡ Ok pc) (sym s.kind) pace)
    (subst (λ (k : Kind). care_of k c.factor (fields_of d) ≡ Ok cr) (sym s.kind) care)
    (listed_all (members_for Stream c) no_members (for_listed Stream c) refl)
    ∙ ap (λ (x : Config). Ok x) (stream_same c s e f.concurrency)

-- a queue's

queue_fields : (k : Kind) (c : Config) → is_stream k ≡ false → HasFieldsOf k c → HasQueueFields c
queue_fields Stream c q h = absurd (cc)
queue_fields Standard c q h = h
queue_fields Fifo c q h = h

left_out : {A : Type 0} (k : Kind) (otherwise : A) (means : Option Data → Option A) → is_stream k ≡ false → of_stream k otherwise means None ≡ Some otherwise
left_out Stream otherwise means q = absurd (cc)
left_out Standard otherwise means q = refl
left_out Fifo otherwise means q = refl

queue_same : (k : Kind) (c : Config) (s : IsBack k c.region c.account c.source_arn) → c.kind ≡ k → HasQueueFields c
    → record c { source_arn = s.source.arn; region = s.source.parts.region; account = s.source.parts.account; kind = s.source.kind; factor = 1; retries = None; age_ms = None; bisect = false; tumbling_ms = 0; start = TrimHorizon; destination = None } ≡ c
queue_same k c s e f =
    ap (λ x. record c { source_arn = x; region = s.source.parts.region; account = s.source.parts.account; kind = s.source.kind; factor = 1; retries = None; age_ms = None; bisect = false; tumbling_ms = 0; start = TrimHorizon; destination = None }) s.arn
    ∙ (ap (λ x. record c { region = x; account = s.source.parts.account; kind = s.source.kind; factor = 1; retries = None; age_ms = None; bisect = false; tumbling_ms = 0; start = TrimHorizon; destination = None }) s.region
    ∙ (ap (λ x. record c { account = x; kind = s.source.kind; factor = 1; retries = None; age_ms = None; bisect = false; tumbling_ms = 0; start = TrimHorizon; destination = None }) s.account
    ∙ (ap (λ x. record c { kind = x; factor = 1; retries = None; age_ms = None; bisect = false; tumbling_ms = 0; start = TrimHorizon; destination = None }) (s.kind ∙ sym e)
    ∙ (ap (λ x. record c { factor = x; retries = None; age_ms = None; bisect = false; tumbling_ms = 0; start = TrimHorizon; destination = None }) (sym f.factor)
    ∙ (ap (λ x. record c { retries = x; age_ms = None; bisect = false; tumbling_ms = 0; start = TrimHorizon; destination = None }) (sym f.retries)
    ∙ (ap (λ x. record c { age_ms = x; bisect = false; tumbling_ms = 0; start = TrimHorizon; destination = None }) (sym f.age)
    ∙ (ap (λ x. record c { bisect = x; tumbling_ms = 0; start = TrimHorizon; destination = None }) (sym f.bisect)
    ∙ (ap (λ x. record c { tumbling_ms = x; start = TrimHorizon; destination = None }) (sym f.tumbling)
    ∙ (ap (λ x. record c { start = x; destination = None }) (sym f.start)
    ∙ ap (λ x. record c { destination = x }) (sym f.destination))))))))))

queue_round : (k : Kind) (c : Config) → IsGiven c → c.kind ≡ k → is_stream k ≡ false → judged (seen k c) (written k c) ≡ Ok c
queue_round k c g e q =
    let d = object (written k c) in
    let f : HasQueueFields c = queue_fields k c q (subst (λ (j : Kind). HasFieldsOf j c) e g.valid.fields) in
    let arn : IsGivenSource k c.region c.account c.source_arn = subst (λ (j : Kind). IsGivenSource j c.region c.account c.source_arn) e g.source in
    let size : is_batch_size k c.batch_size ≡ true = subst (λ (j : Kind). is_batch_size j c.batch_size ≡ true) e g.valid.batch_size in
    let window : is_window k c.batch_size c.window_ms ≡ true = subst (λ (j : Kind). is_window j c.batch_size c.window_ms ≡ true) e g.valid.window in
    let patterns : is_ok (read_patterns (is_stream k) c.filters) ≡ true = subst (λ (j : Kind). is_ok (read_patterns (is_stream j) c.filters) ≡ true) e g.patterns in
    let s = source_back k c.region c.account c.source_arn g.valid.region g.valid.account arn in
    let parties = parties_are d s.source (record { name = c.function; arn = Some c.function_arn }) c.enabled
    (ap (source_in KinesisOrSqs) (queue_look param.EventSourceArn k c q) ∙ s.found)
    (ap function_in (queue_look param.FunctionName k c q) ∙ function_arn_back c.function c.function_arn g.valid.function g.valid.function_arn)
    (ap enabled_in (queue_look param.Enabled k c q)) in
    let batching = batching_are d k c.batch_size c.window_ms c.filters c.item_failures
    (ap (λ o. batch_size_in k o) (queue_look param.BatchSize k c q) ∙ size_back k c.batch_size size)
    (ap (λ o. window_in k c.batch_size o) (queue_look param.MaximumBatchingWindowInSeconds k c q) ∙ window_back k c.batch_size c.window_ms window)
    (ap (λ o. filters_in KinesisOrSqs k o) (queue_look param.FilterCriteria k c q ∙ criteria_there c.filters) ∙ filters_back k c.filters g.valid.filters patterns)
    (ap item_failures_in (queue_look param.FunctionResponseTypes k c q ∙ types_there c.item_failures) ∙ types_back c.item_failures) in
    let start = start_is d k place.TrimHorizon TrimHorizon
    (ap (λ o. position_in KinesisOrSqs k o) (queue_look param.StartingPosition k c q) ∙ left_out k place.TrimHorizon (λ p. option_and_then position_of (option_and_then as_str p)) q)
    (ap (λ o. start_in k place.TrimHorizon o) (queue_look param.StartingPositionTimestamp k c q) ∙ left_out k TrimHorizon (start_of place.TrimHorizon) q) in
    let pace = pace_are d k 1 None None
    (ap (λ o. factor_in k o) (queue_look param.ParallelizationFactor k c q) ∙ left_out k 1 (or_missing 1 (whole_in 1 10)) q)
    (ap (λ o. retries_in k o) (queue_look param.MaximumRetryAttempts k c q) ∙ left_out k None (or_missing None (limit_in attempts_within)) q)
    (ap (λ o. age_in k o) (queue_look param.MaximumRecordAgeInSeconds k c q) ∙ left_out k None (or_missing None (limit_in age_within)) q) in
    let care = care_are d k 1 false 0 None c.concurrency
    (ap (λ o. bisect_in k o) (queue_look param.BisectBatchOnFunctionError k c q) ∙ left_out k false (or_missing false as_bool) q)
    (ap (λ o. tumbling_in k 1 o) (queue_look param.TumblingWindowInSeconds k c q) ∙ left_out k 0 (λ p. milliseconds (kept (is_tumbling_for 1) (or_missing 0 (whole_in 0 900) p))) q)
    (ap (λ o. destination_in k o) (queue_look param.DestinationConfig k c q) ∙ left_out k None (or_missing None destination_of) q)
    (ap (λ o. concurrency_in k o) (queue_look param.ScalingConfig k c q ∙ scaling_there c.concurrency) ∙ concurrency_back k c.concurrency q f.concurrency) in
    let p : Parties = record { source = s.source; function = record { name = c.function; arn = Some c.function_arn }; enabled = c.enabled } in
    let b : Batching = record { batch_size = c.batch_size; window_ms = c.window_ms; filters = c.filters; item_failures = c.item_failures } in
    let pc : Pace = record { factor = 1; retries = None; age_ms = None } in
    let cr : Care = record { bisect = false; tumbling_ms = 0; destination = None; concurrency = c.concurrency } in
    judged_is (fields_of d) (written k c) p b TrimHorizon pc cr parties
    (subst (λ (j : Kind). batching_of j (fields_of d) ≡ Ok b) (sym s.kind) batching)
    (subst (λ (j : Kind). start_field j (fields_of d) ≡ Ok TrimHorizon) (sym s.kind) start)
    (subst (λ (j : Kind). pace_of j (fields_of d) ≡ Ok pc) (sym s.kind) pace)
    (subst (λ (j : Kind). care_of j 1 (fields_of d) ≡ Ok cr) (sym s.kind) care)
    (listed_all (members_for k c) no_members (for_listed k c) refl)
    ∙ ap (λ (x : Config). Ok x) (queue_same k c s e f)

round : (c : Config) → IsGiven c → (k : Kind) → c.kind ≡ k → judged (seen k c) (written k c) ≡ Ok c
round c g Stream e = stream_round c g e
round c g Standard e = queue_round Standard c g e refl
round c g Fifo e = queue_round Fifo c g e refl

pub text_back : (c : Config) → IsGiven c → (d : Data) × (read (config_text c) ≡ Some d) × (config_of d ≡ Some c)
text_back c g = (object (written c.kind c), reads_object (config_members c) (all_sound c g.valid), ap result_ok (round c g c.kind refl))
