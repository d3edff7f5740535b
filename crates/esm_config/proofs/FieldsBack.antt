-- Each field of a valid configuration is read from the value that is written for it.
use Rattle.std.proofs.Common.{◌≡◌, ◌∙◌, ◌<◌, ◌≤◌, lit<, ℕ, ◌*◌, ◌/◌, ◌%◌, ◌^◌, ◌==◌, pos, Bool, cond, true, false, ◌||◌, refl, sym, ap, subst, arith, List, [], ◌∷◌, length, Option, Some, None, option_map, option_and_then, nat_le, nat_lt, is_ok, lt-ltb}
use Rattle.std.proofs.lemmas.Bool.{and_from, and_parts, eqb-true, le-leb, leb-true}
use Rattle.std.proofs.lemmas.Bool.Decides.{nat_tests}
use Rattle.esm_model.specs.declared.limits.TheConstants.{MAX_FILTERS, MAX_RETRIES}
use Rattle.esm_model.specs.declared.config.Kind.{Kind}
use Rattle.esm_model.specs.declared.config.Kind.TheVariants.{Stream, Standard, Fifo}
use Rattle.esm_model.specs.declared.config.Start.{Start}
use Rattle.esm_model.specs.declared.config.Start.TheVariants.{TrimHorizon, Latest, At}
use Rattle.esm_model.specs.Pattern.{read_patterns}
use Rattle.esm_model.specs.Valid.{is_batch_size, is_between, is_destination, is_seconds, is_start, is_stream, is_window, none_or}
use Rattle.esm_config.specs.Arn.{kept}
use Rattle.esm_config.specs.Fields.{age_in, age_within, are_criteria, attempts_within, batch_size_in, concurrency_in, destination_in, factor_in, filters_in, is_tumbling_for, is_window_for, item_failures_in, last_second, limit_of, milliseconds, pattern_texts, patterns_among, position_in, retries_in, start_in, tumbling_in, whole_in, window_in}
use Rattle.esm_config.specs.Text.{criteria, on_failure, pattern_items, position, response_types, scaling, seconds, seconds_or_none, timestamp, whole, whole_or_none}
use Rattle.esm_config.specs.declared.position.Position.{Position}
use Rattle.esm_config.specs.declared.position.Position.TheVariants as place
use Rattle.esm_config.specs.declared.sources.Sources.TheVariants.{KinesisOrSqs}

whole_back : (low high n : ℕ) → is_between low high n ≡ true → whole_in low high (whole n) ≡ Some n
whole_back low high n h = ap (λ b. cond b (Some n) None) h

record AreSeconds (low high ms : ℕ) : Type 0 where
  within : is_between low high (ms / 1000) ≡ true
  whole : (ms / 1000) * 1000 ≡ ms

are_seconds : (low high ms : ℕ) → is_seconds low high ms ≡ true → AreSeconds low high ms
are_seconds low high ms h =
    let p = and_parts (ms % 1000 == 0) (is_between low high (ms / 1000)) h in
    let e : ms % 1000 ≡ 0 = eqb-true (ms % 1000) 0 p.0 in
    record { within = p.1; whole = omega arith }

seconds_back : (low high ms : ℕ) → is_seconds low high ms ≡ true → milliseconds (whole_in low high (seconds ms)) ≡ Some ms
seconds_back low high ms h =
    let s = are_seconds low high ms h in
    ap milliseconds (whole_back low high (ms / 1000) s.within) ∙ ap (λ n. Some n) s.whole

pub size_back : (k : Kind) (n : ℕ) → is_batch_size k n ≡ true → batch_size_in k (Some (whole n)) ≡ Some n
size_back k n h = ap (λ b. cond b (Some n) None) h

window_at : (k : Kind) (size s ms : ℕ) → is_between 0 300 s ≡ true → is_window_for k size s ≡ true → s * 1000 ≡ ms → window_in k size (Some (whole s)) ≡ Some ms
window_at k size s ms within fits is =
    ap (λ b. milliseconds (kept (is_window_for k size) (cond b (Some s) None))) within
    ∙ (ap (λ b. milliseconds (cond b (Some s) None)) fits ∙ ap (λ n. Some n) is)

needs : (size s ms : ℕ) → s * 1000 ≡ ms → (nat_le size 10 || nat_lt 0 ms) ≡ true → (nat_le size 10 || nat_lt 0 s) ≡ true
needs size s ms e h = grind (arith, nat_tests)

pub window_back : (k : Kind) (size ms : ℕ) → is_window k size ms ≡ true → window_in k size (Some (seconds ms)) ≡ Some ms
window_back Stream size ms h = let s = are_seconds 0 300 ms h in window_at Stream size (ms / 1000) ms s.within refl s.whole
window_back Standard size ms h =
    let p = and_parts (is_seconds 0 300 ms) (nat_le size 10 || nat_lt 0 ms) h in
    let s = are_seconds 0 300 ms p.0 in
    window_at Standard size (ms / 1000) ms s.within (needs size (ms / 1000) ms s.whole p.1) s.whole
window_back Fifo size ms h =
    subst (λ (n : ℕ). window_in Fifo size (Some (seconds n)) ≡ Some n) (sym (eqb-true ms 0 h)) refl

texts_back : (ts : List (List ℕ)) → pattern_texts (pattern_items ts) ≡ Some ts
texts_back [] = refl
texts_back (t ∷ ts) = ap (λ o. option_map (λ us. t ∷ us) o) (texts_back ts)

pub filters_back : (k : Kind) (ts : List (List ℕ)) → length ts ≤ MAX_FILTERS → is_ok (read_patterns (is_stream k) ts) ≡ true → filters_in KinesisOrSqs k (criteria ts) ≡ Some ts
filters_back k [] count patterns = refl
filters_back k (t ∷ ts) count patterns =
    ap (λ o. kept (are_criteria k) (option_and_then (patterns_among KinesisOrSqs) o)) (texts_back (t ∷ ts))
    ∙ ap (λ b. cond b (Some (t ∷ ts)) None)
    (and_from (nat_le (length (t ∷ ts)) MAX_FILTERS) (is_ok (read_patterns (is_stream k) (t ∷ ts))) (le-leb (length (t ∷ ts)) MAX_FILTERS count) patterns)

pub types_back : (b : Bool) → item_failures_in (Some (response_types b)) ≡ Some b
types_back true = refl
types_back false = refl

-- a stream's

abbrev pub place_of : Start → Position
place_of TrimHorizon = place.TrimHorizon
place_of Latest = place.Latest
place_of (At ms) = place.AtTimestamp

pub place_back : (s : Start) → position_in KinesisOrSqs Stream (Some (position s)) ≡ Some (place_of s)
place_back TrimHorizon = refl
place_back Latest = refl
place_back (At ms) = refl

pub start_back : (s : Start) → is_start s ≡ true → start_in Stream (place_of s) (timestamp s) ≡ Some s
start_back TrimHorizon h = refl
start_back Latest h = refl
start_back (At ms) h = ap (λ o. option_map At o) (seconds_back 0 last_second ms h)

pub factor_back : (n : ℕ) → is_between 1 10 n ≡ true → factor_in Stream (Some (whole n)) ≡ Some n
factor_back n h = whole_back 1 10 n h

small : (low high n : ℕ) → is_between low high n ≡ true → high < 2 ^ 63 → nat_lt n (2 ^ 63) ≡ true
small low high n h top =
    let l = leb-true n high (and_parts (nat_le low n) (nat_le n high) h).1 in
    lt-ltb n (2 ^ 63) (omega arith)

pub retries_back : (r : Option ℕ) → none_or (λ n. nat_le n MAX_RETRIES) r ≡ true → retries_in Stream (Some (whole_or_none r)) ≡ Some r
retries_back None h = refl
retries_back (Some n) h =
    let l = leb-true n MAX_RETRIES h in
    ap (λ b. option_and_then (limit_of attempts_within) (cond b (Some (pos n)) None)) (lt-ltb n (2 ^ 63) (omega arith))
    ∙ ap (λ b. option_map Some (cond b (Some n) None)) h

pub age_back : (a : Option ℕ) → none_or (is_seconds 60 604800) a ≡ true → age_in Stream (Some (seconds_or_none a)) ≡ Some a
age_back None h = refl
age_back (Some ms) h =
    let s = are_seconds 60 604800 ms h in
    ap (λ b. option_and_then (limit_of age_within) (cond b (Some (pos (ms / 1000))) None)) (small 60 604800 (ms / 1000) s.within (lit< tt))
    ∙ (ap (λ b. option_map Some (milliseconds (cond b (Some (ms / 1000)) None))) s.within ∙ ap (λ n. Some (Some n)) s.whole)

one_lane : (factor s ms : ℕ) → s * 1000 ≡ ms → ((ms == 0) || (factor == 1)) ≡ true → ((s == 0) || (factor == 1)) ≡ true
one_lane factor s ms e h = grind (arith, nat_tests)

pub tumbling_back : (factor ms : ℕ) → is_seconds 0 900 ms ≡ true → ((ms == 0) || (factor == 1)) ≡ true → tumbling_in Stream factor (Some (seconds ms)) ≡ Some ms
tumbling_back factor ms h lane =
    let s = are_seconds 0 900 ms h in
    ap (λ b. milliseconds (kept (is_tumbling_for factor) (cond b (Some (ms / 1000)) None))) s.within
    ∙ (ap (λ b. milliseconds (cond b (Some (ms / 1000)) None)) (one_lane factor (ms / 1000) ms s.whole lane) ∙ ap (λ n. Some n) s.whole)

pub destination_back : (t : Option (List ℕ)) → is_destination t ≡ true → destination_in Stream (option_map on_failure t) ≡ Some t
destination_back None h = refl
destination_back (Some s) h = ap (λ b. cond b (Some (Some s)) None) h

-- a queue's

scaling_back : (o : Option ℕ) → none_or (is_between 2 1000) o ≡ true → concurrency_in Standard (option_map scaling o) ≡ Some o
scaling_back None h = refl
scaling_back (Some n) h = ap (λ b. option_map Some (cond b (Some n) None)) h

pub concurrency_back : (k : Kind) (o : Option ℕ) → is_stream k ≡ false → none_or (is_between 2 1000) o ≡ true → concurrency_in k (option_map scaling o) ≡ Some o
concurrency_back Stream o q h = absurd (cc)
concurrency_back Standard o q h = scaling_back o h
concurrency_back Fifo o q h = scaling_back o h
