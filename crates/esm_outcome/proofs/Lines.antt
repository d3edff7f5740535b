-- The failure line of records that are given up by a call's end.
use Rattle.std.proofs.Common.{◌≡◌, ℕ, ◌-◌, ◌<◌, ◌≤◌, true, false, cond, List, [], ◌∷◌, length, get_or, refl, sym, ap, ◌∙◌, subst, inl, inr, Option, Some, None, arith}
use Rattle.std.specs.Prelude.{◌==◌, slice_index, option_map, unwrap_or}
use Rattle.std.proofs.lemmas.Bool.{and_from, eq-eqb}
use Rattle.std.proofs.lemmas.Option.{slice_get_cases}
use Rattle.esm_model.specs.declared.limits.TheConstants.{MAX_SHARD, MAX_BATCH}
use Rattle.esm_model.specs.declared.moment.TheConstants.{MAX_MOMENT}
use Rattle.esm_model.specs.Records.{Record}
use Rattle.esm_model.specs.declared.lane.LaneId.{LaneId}
use Rattle.esm_model.specs.declared.entry.Reply.{Reply}
use Rattle.esm_model.specs.declared.entry.Entry.{Entry}
use Rattle.esm_model.specs.declared.entry.Entry.TheVariants.{Ended}
use Rattle.esm_model.specs.declared.event.Failure.{Failure}
use Rattle.esm_model.specs.declared.event.Response.{Response}
use Rattle.esm_model.specs.Setting.{Setting, records_of, record_at}
use Rattle.esm_model.specs.Entries.{holds, came_count, last_call, batch_of}
use Rattle.esm_model.specs.Fates.{lacks_fate}
use Rattle.esm_model.specs.FailureLine.{calls_of, response_in, response_of, sequence_at, arrival_at, last_of, failure_of}
use Rattle.esm_model.specs.Step.{Legal}
use Rattle.esm_model.proofs.Lists.{In}
use Rattle.esm_model.proofs.Sound.{open_In}
use Rattle.esm_model.proofs.Records.{came_within, covered_running}
use Rattle.esm_model.proofs.Paid.{running_In}
use Rattle.esm_ledger.specs.declared.ledger.Ledger.{Ledger}
use Rattle.esm_ledger.specs.Ledger.{past_of, setting_of, Keeps}
use Rattle.esm_ledger.proofs.Readings.{legal_of}
use Rattle.esm_outcome.specs.Ending.{AreValidRecords}
use Rattle.esm_outcome.specs.Parts.{IsRest}
use Rattle.esm_outcome.proofs.Calls.{runs, within_batch, drop_In, drop_shorter}

-- a record that came is there

pub came_there : {A : Type 0} (s : Setting) (h : List Entry) (n i : ℕ) → Legal s h → i < came_count h n → None ≡ record_at s n i → A
came_there s h n i legal came none =
    let within = came_within s h legal n in
    elim (slice_get_cases (records_of s n) i).1 [
      | inl there ↦ absurd (let clash : ◌≡◌ {A = Option Record} None (Some there.0) = none ∙ there.2 in cc)
      | inr past ↦ absurd (let out : length (records_of s n) ≤ i = past.0 in omega (arith, within, came, out))
    ]

pub sequence_there : (s : Setting) (n i : ℕ) (r : Record) → Some r ≡ record_at s n i → r.seq ≡ sequence_at s n i
sequence_there s n i r is = ap (λ (o : Option Record). unwrap_or (option_map (λ (x : Record). x.seq) o) []) is

pub arrival_there : (s : Setting) (n i : ℕ) (r : Record) → Some r ≡ record_at s n i → r.arrival ≡ arrival_at s n i
arrival_there s n i r is = ap (λ (o : Option Record). unwrap_or (option_map (λ (x : Record). x.arrival) o) 0) is

pub arrival_early : (s : Setting) (n i : ℕ) (r : Record) → AreValidRecords s → Some r ≡ record_at s n i → r.arrival ≤ MAX_MOMENT
arrival_early s n i r valid is = (valid n i r (sym is)).1.arrival

pub shard_low : (s : Setting) (h : List Entry) (n i : ℕ) → AreValidRecords s → Legal s h → i < came_count h n → n ≤ MAX_SHARD
shard_low s h n i valid legal came =
    let within = came_within s h legal n in
    elim (slice_get_cases (records_of s n) i).1 [
      | inl there ↦ (let is = valid n i there.0 there.2 in subst (λ k. k ≤ MAX_SHARD) is.0 is.1.shard)
      | inr past ↦ absurd (let out : length (records_of s n) ≤ i = past.0 in omega (arith, within, came, out))
    ]

-- the records that are given up

pub left_In : (c : Ledger) (lane : LaneId) (left : List ℕ) (k : ℕ) → IsRest c lane left → k < length left → In (batch_of (last_call (past_of c) lane)) (get_or left k 0)
left_In c lane left k is within =
    let batch = batch_of (last_call (past_of c) lane) in
    subst (λ (xs : List ℕ). In batch (get_or xs k 0)) (sym is.left_are) (drop_In is.succeeded k batch (subst (λ (xs : List ℕ). k < length xs) is.left_are within))

pub left_came : (c : Ledger) (lane : LaneId) (left : List ℕ) (k : ℕ) → Keeps c → IsRest c lane left → k < length left → get_or left k 0 < came_count (past_of c) lane.shard
left_came c lane left k kept is within = covered_running (setting_of c) (past_of c) lane (legal_of c kept.rests) is.runs (get_or left k 0) (left_In c lane left k is within)

pub left_open : (c : Ledger) (lane : LaneId) (left : List ℕ) (k : ℕ) → Keeps c → IsRest c lane left → k < length left → lacks_fate (setting_of c) (past_of c) lane.shard (get_or left k 0) ≡ true
left_open c lane left k kept is within =
    let s = setting_of c in
    let h = past_of c in
    (open_In s h lane (get_or left k 0) (running_In s h lane (legal_of c kept.rests) is.runs (get_or left k 0) (left_In c lane left k is within))).2

pub left_few : (c : Ledger) (lane : LaneId) (left : List ℕ) → Keeps c → IsRest c lane left → length left ≤ MAX_BATCH
left_few c lane left kept is =
    let ran = runs (setting_of c) (past_of c) lane (legal_of c kept.rests) is.runs in
    let batch = batch_of (last_call (past_of c) lane) in
    let few : length batch ≤ MAX_BATCH = subst (λ (xs : List ℕ). length xs ≤ MAX_BATCH) (sym (ap batch_of ran.last)) (within_batch c.config (length ran.call.places) kept.config ran.begun.few) in
    let less = drop_shorter is.succeeded batch in
    subst (λ (xs : List ℕ). length xs ≤ MAX_BATCH) (sym is.left_are) (omega (arith, few, less))

-- the answer of the call that ends is theirs
response_ended : (h : List Entry) (lane : LaneId) (reply : Reply) (m i : ℕ) → In (batch_of (last_call h lane)) i → response_in reply ≡ response_of (Ended lane reply m ∷ h) lane.shard i
response_ended h lane reply m i member =
    let here = and_from (lane.shard == lane.shard) (holds (batch_of (last_call h lane)) i) (eq-eqb lane.shard lane.shard refl) member in
    sym (ap (λ b. cond b (response_in reply) (response_of h lane.shard i)) here)

pub failure_told : (s : Setting) (h : List Entry) (lane : LaneId) (left : List ℕ) (reply : Reply) (m first_place last_place calls : ℕ) (first last : List ℕ) (first_arrival last_arrival : ℕ) (answer : Option Response)
    → first_place ≡ slice_index left 0 → last_place ≡ last_of left
    → first ≡ sequence_at s lane.shard first_place → first_arrival ≡ arrival_at s lane.shard first_place
    → last ≡ sequence_at s lane.shard last_place → last_arrival ≡ arrival_at s lane.shard last_place
    → calls ≡ calls_of h lane.shard first_place → answer ≡ response_in reply → In (batch_of (last_call h lane)) (slice_index left 0)
    → (let f : Failure = record { shard = lane.shard; place = first_place; first = first; last = last; first_arrival = first_arrival; last_arrival = last_arrival; count = length left; expired = false; calls = calls; response = answer; moment = m } in f)
    ≡ failure_of s (Ended lane reply m ∷ h) lane.shard left false m
failure_told s h lane left reply m first_place last_place calls first last first_arrival last_arrival answer at_first at_last e_first e_first_arrival e_last e_last_arrival e_calls e_answer member =
    rw (e_first, e_first_arrival, e_last, e_last_arrival, e_calls, at_first, at_last)
    (ap (λ (o : Option Response). (let f : Failure = record { shard = lane.shard; place = slice_index left 0; first = sequence_at s lane.shard (slice_index left 0); last = sequence_at s lane.shard (last_of left); first_arrival = arrival_at s lane.shard (slice_index left 0); last_arrival = arrival_at s lane.shard (last_of left); count = length left; expired = false; calls = calls_of h lane.shard (slice_index left 0); response = o; moment = m } in f))
    (e_answer ∙ response_ended h lane reply m (slice_index left 0) member))
