-- What the entries of a legal history need of a shard that is kept.
use Rattle.std.proofs.Common.{◌≡◌, ℕ, suc, ◌+◌, ◌<◌, ◌≤◌, Bool, true, false, ◌&&◌, cond, List, [], ◌∷◌, length, take, filter, refl, sym, ap, ◌∙◌, subst, inl, inr, Option, Some, None, arith}
use Rattle.std.specs.Prelude.{take_while, count_by}
use Rattle.std.specs.List.{prefix_len}
use Rattle.std.proofs.lemmas.List.{length-take}
use Rattle.std.proofs.lemmas.List.Sums.{length-filter, count_by-le-length}
use Rattle.std.proofs.Common.{length-append}
use Rattle.std.proofs.lemmas.Bool.{cases_Bool}
use Rattle.esm_model.specs.declared.limits.TheConstants.{MAX_EXPIRED}
use Rattle.esm_model.specs.Lane.{same_lane}
use Rattle.esm_model.specs.declared.lane.LaneId.{LaneId}
use Rattle.esm_model.specs.declared.entry.Fate.{Fate}
use Rattle.esm_model.specs.declared.entry.Fate.TheVariants.{Expired}
use Rattle.esm_model.specs.declared.entry.Reply.{Reply}
use Rattle.esm_model.specs.declared.entry.WindowState.{WindowState}
use Rattle.esm_model.specs.declared.entry.Entry.{Entry}
use Rattle.esm_model.specs.declared.entry.Entry.TheVariants.{Came, Began, Ended, Gave, Tried, Closed, Replayed, Shut}
use Rattle.esm_model.specs.Setting.{Setting, is_in_lane}
use Rattle.esm_model.specs.Entries.{holds, came_count, calls_begun, is_running}
use Rattle.esm_model.specs.FailureLine.{calls_of}
use Rattle.esm_model.specs.Fates.{below, came_places, lacks_fate, open_places as model_open}
use Rattle.esm_model.specs.Batches.{group, is_expired}
use Rattle.esm_model.specs.Step.{Legal}
use Rattle.esm_model.proofs.Lists.{IsFront, take_front}
use Rattle.esm_model.proofs.Counts.{length-below}
use Rattle.esm_model.proofs.Steps.{batch_front}
use Rattle.esm_model.proofs.Sound.{same_lane-true, expired_front}
use Rattle.esm_model.proofs.NamedPlaces.{names_came}
use Rattle.esm_model.proofs.Records.{covered_running}
use Rattle.esm_lanes.specs.Piece.{Piece, front_length}
use Rattle.esm_shard_index.specs.LaneView.{lane_in, front_places}
use Rattle.esm_shard_index.specs.LaneHistory.{IsLane}
use Rattle.esm_shard_index.specs.Windows.{is_open_in}
use Rattle.esm_shard_index.proofs.CallingSteps.{batch_stands_once}
use Rattle.esm_shard_index.proofs.LaneReads.{lane_bounded}
use Rattle.esm_shard_index.proofs.LaneGroups.{group_is}
use Rattle.esm_shard_index.proofs.ProgressSteps.{progress_tells}
use Rattle.esm_ledger.specs.declared.shard.ShardLedger.{ShardLedger}
use Rattle.esm_ledger.specs.Shard.{IsShard, lane_id}
use Rattle.esm_ledger.specs.declared.arriving.Arriving.{Arriving}
use Rattle.esm_ledger.specs.Arriving.{IsEven, FitsNumbers}
use Rattle.esm_ledger.specs.ShardLaws.{CallFits, EndFits, GiftFits, ExpiryFits, ShardTells}
use Rattle.esm_ledger.proofs.Shards.{call_runs}
use Rattle.esm_ledger.proofs.Gifts.{gave_came}

-- calls

pub begun_within : (s : Setting) (h : List Entry) → Legal s h → calls_begun h ≤ s.calls
begun_within s [] legal = omega arith
begun_within s (Began lane places None m ∷ h) legal = (let left : calls_begun h < s.calls = legal.1.1.call.calls_left in omega (arith, left))
begun_within s (Began lane places (Some w) m ∷ h) legal = (let left : calls_begun h < s.calls = legal.1.1.call.calls_left in omega (arith, left))
begun_within s (Came n first count m ∷ h) legal = begun_within s h legal.0
begun_within s (Ended lane reply m ∷ h) legal = begun_within s h legal.0
begun_within s (Gave by n places f line state m ∷ h) legal = begun_within s h legal.0
begun_within s (Tried lane places closing t m ∷ h) legal = begun_within s h legal.0
begun_within s (Closed lane w m ∷ h) legal = begun_within s h legal.0
begun_within s (Replayed n places m ∷ h) legal = begun_within s h legal.0
begun_within s (Shut m ∷ h) legal = begun_within s h legal.0

one_more_call : (b : Bool) (before begun : ℕ) → before ≤ begun → cond b (suc before) before ≤ suc begun
one_more_call true before begun low = omega (arith, low)
one_more_call false before begun low = omega (arith, low)

pub calls_within : (h : List Entry) (n i : ℕ) → calls_of h n i ≤ calls_begun h
calls_within [] n i = omega arith
calls_within (Began lane places closing m ∷ h) n i = one_more_call _ (calls_of h n i) (calls_begun h) (calls_within h n i)
calls_within (Came k first count m ∷ h) n i = calls_within h n i
calls_within (Ended lane reply m ∷ h) n i = calls_within h n i
calls_within (Gave by k places f line state m ∷ h) n i = calls_within h n i
calls_within (Tried lane places closing t m ∷ h) n i = calls_within h n i
calls_within (Closed lane w m ∷ h) n i = calls_within h n i
calls_within (Replayed k places m ∷ h) n i = calls_within h n i
calls_within (Shut m ∷ h) n i = calls_within h n i

-- a lane that runs is one of the factor
began_below : (s : Setting) (h : List Entry) (at : LaneId) (places : List ℕ) (closing : Option ℕ) (m : ℕ) → Legal s (Began at places closing m ∷ h) → at.lane < s.config.factor
began_below s h at places None m legal = legal.1.1.call.below_factor
began_below s h at places (Some w) m legal = legal.1.1.call.below_factor

pub running_below : (s : Setting) (h : List Entry) (lane : LaneId) → Legal s h → is_running h lane ≡ true → lane.lane < s.config.factor
running_below s [] lane legal runs = cc
running_below s (Began at places closing m ∷ h) lane legal runs = elim (cases_Bool (same_lane at lane)) [
  | inl same ↦ subst (λ (l : LaneId). l.lane < s.config.factor) (same_lane-true at lane same) (began_below s h at places closing m legal)
  | inr off ↦ running_below s h lane legal.0 (rw off at runs)
]
running_below s (Ended at reply m ∷ h) lane legal runs = elim (cases_Bool (same_lane at lane)) [
  | inl same ↦ absurd (let off : false ≡ true = rw same at runs in cc)
  | inr off ↦ running_below s h lane legal.0 (rw off at runs)
]
running_below s (Came n first count m ∷ h) lane legal runs = running_below s h lane legal.0 runs
running_below s (Gave by n places f line state m ∷ h) lane legal runs = running_below s h lane legal.0 runs
running_below s (Tried at places closing t m ∷ h) lane legal runs = running_below s h lane legal.0 runs
running_below s (Closed at w m ∷ h) lane legal runs = running_below s h lane legal.0 runs
running_below s (Replayed n places m ∷ h) lane legal runs = running_below s h lane legal.0 runs
running_below s (Shut m ∷ h) lane legal runs = running_below s h lane legal.0 runs

-- the open places of a lane are no more than the records that came
open_short : (s : Setting) (h : List Entry) (lane : LaneId) → length (model_open s h lane) ≤ came_count h lane.shard
open_short s h lane =
    let p : ℕ → Bool = λ i. is_in_lane s lane i && lacks_fate s h lane.shard i in
    let counted : length (model_open s h lane) ≡ count_by p (below (came_count h lane.shard)) = length-filter p (below (came_count h lane.shard)) in
    omega (arith, counted, count_by-le-length p (below (came_count h lane.shard)), length-below (came_count h lane.shard))

front_short : (s : Setting) (h : List Entry) (lane : LaneId) (xs : List ℕ) → IsFront xs (model_open s h lane) → length xs ≤ came_count h lane.shard
front_short s h lane xs front =
    let all : length (model_open s h lane) ≡ length xs + length front.0 = ap length front.1 ∙ length-append xs front.0 in
    omega (arith, all, open_short s h lane)

began_short : (s : Setting) (h : List Entry) (lane : LaneId) (places : List ℕ) (closing : Option ℕ) (m : ℕ) → Legal s (Began lane places closing m ∷ h) → length places ≤ came_count h lane.shard
began_short s h lane places None m legal =
    let batch = batch_front s h lane m in
    front_short s h lane places (subst (λ xs. IsFront xs (model_open s h lane)) (sym (legal.1.1.exact ∙ batch.1)) (take_front batch.0 (model_open s h lane)))
began_short s h lane places (Some w) m legal = (let none : length places ≡ 0 = ap length legal.1.1.no_places in omega (arith, none))

pub call_may_begin : (s : Setting) (h : List Entry) (lane : LaneId) (places : List ℕ) (closing : Option ℕ) (m : ℕ) (c : ShardLedger) → Legal s (Began lane places closing m ∷ h)
    → s.calls < 4294967296 → came_count h c.shard < 4294967296 → lane.shard ≡ c.shard → IsShard s h c → CallFits c lane.lane places
call_may_begin s h lane places closing m c legal calls few there is =
    let came : (i : ℕ) → holds places i ≡ true → i < came_count h c.shard = λ i member. subst (λ n. i < came_count h n) there (names_came s h (Began lane places closing m) legal i member) in
    let begun : suc (calls_begun h) ≤ s.calls = begun_within s (Began lane places closing m ∷ h) legal in
    record {
      known = subst (λ n. lane.lane < n) (sym is.factor) (began_below s h lane places closing m legal);
      came = λ i member. subst (λ n. i < n) (sym is.callings.came) (came i member);
      once = batch_stands_once s h lane places closing m legal;
      few = λ i member. (let same = is.callings.calls i in omega (arith, same, calls_within h c.shard i, begun, calls));
      short = (let short = began_short s h lane places closing m legal in
          let low : length places ≤ came_count h c.shard = subst (λ n. length places ≤ came_count h n) there short in
          omega (arith, low, few));
    }

-- ends

pub end_may_come : (s : Setting) (h : List Entry) (lane : LaneId) (reply : Reply) (m : ℕ) (c : ShardLedger) → Legal s (Ended lane reply m ∷ h)
    → s.calls < 4294967296 → lane.shard ≡ c.shard → IsShard s h c → EndFits c lane.lane
end_may_come s h lane reply m c legal calls there is =
    let runs : is_running h lane ≡ true = legal.1.1 in
    let low : lane.lane < s.config.factor = running_below s h lane legal.0 runs in
    let here : lane ≡ lane_id c.shard lane.lane = ap (λ (n : ℕ). lane_id n lane.lane) there in
    let v = lane_in c.lanes lane.lane in
    let kept : IsLane s h (lane_id c.shard lane.lane) v = is.lanes lane.lane low in
    let ran : is_running h (lane_id c.shard lane.lane) ≡ true = subst (λ (l : LaneId). is_running h l ≡ true) here runs in
    let bounds = lane_bounded s h (lane_id c.shard lane.lane) v legal.0 kept in
    let call = call_runs s h (lane_id c.shard lane.lane) v ran kept in
    let fewer : v.state.failures < calls_begun h = bounds.running (sym kept.runs ∙ ran) in
    record {
      known = subst (λ n. lane.lane < n) (sym is.factor) low;
      within = bounds.called;
      few = omega (arith, fewer, begun_within s h legal.0, calls);
      came = λ i member. subst (λ n. i < n) (sym is.callings.came)
          (covered_running s h (lane_id c.shard lane.lane) legal.0 ran i (subst (λ xs. holds xs i ≡ true) (sym call.places) member));
    }

-- fates

pub gift_may_come : (s : Setting) (h : List Entry) (by : Option LaneId) (places : List ℕ) (f : Fate) (line : Option (List ℕ)) (state : Option WindowState) (m : ℕ) (c : ShardLedger)
    → Legal s (Gave by c.shard places f line state m ∷ h) → IsShard s h c → GiftFits c places
gift_may_come s h by places f line state m c legal is = record {
  came = λ i member. subst (λ n. i < n) (sym is.progress.came) (gave_came s h by c.shard places f line state m legal i member);
  measured = is.records.measured ∙ sym is.progress.came;
}

front_length_is : (ps : List Piece) → length (front_places ps) ≡ front_length ps
front_length_is [] = refl
front_length_is (p ∷ rest) = refl

within_while : (p : ℕ → Bool) (xs : List ℕ) → length (take_while p xs) ≤ length xs
within_while p xs = (let n = length-take (prefix_len p xs) xs in omega (arith, n))

expired_short : (p : ℕ → Bool) (xs places : List ℕ) → places ≡ take MAX_EXPIRED (take_while p xs) → length places ≤ length xs
expired_short p xs places exact = omega (arith, ap length exact, length-take MAX_EXPIRED (take_while p xs), within_while p xs)

pub expiry_may_come : (s : Setting) (h : List Entry) (lane : LaneId) (places : List ℕ) (line : Option (List ℕ)) (state : Option WindowState) (m : ℕ) (c : ShardLedger)
    → Legal s (Gave (Some lane) c.shard places Expired line state m ∷ h) → came_count h c.shard < 4294967296 → lane.lane < s.config.factor → IsShard s h c → ExpiryFits c lane.lane places
expiry_may_come s h lane places line state m c legal few low is =
    let may = legal.1.1 in
    let here : lane_id c.shard lane.lane ≡ lane = ap (λ (n : ℕ). lane_id n lane.lane) may.shard in
    let v = lane_in c.lanes lane.lane in
    let kept : IsLane s h lane v = subst (λ (l : LaneId). IsLane s h l v) here (is.lanes lane.lane low) in
    let grouped : group s h lane ≡ front_places v.kept.pieces = group_is s h lane v (may.settled.paid lane) (may.settled.sorted lane.shard) kept in
    let exact : length places ≤ length (group s h lane) = expired_short (is_expired s lane.shard m) (group s h lane) places may.exact in
    let front : length (group s h lane) ≡ front_length v.kept.pieces = ap length grouped ∙ front_length_is v.kept.pieces in
    let short : length places ≤ came_count h lane.shard = front_short s h lane places (expired_front s h lane c.shard places line state m may) in
    let there : came_count h lane.shard ≡ came_count h c.shard = ap (came_count h) (sym may.shard) in
    record {
      known = subst (λ n. lane.lane < n) (sym is.factor) low;
      gift = gift_may_come s h (Some lane) places Expired line state m c legal is;
      within = omega (arith, exact, front);
      short = omega (arith, short, there, few);
    }

-- records

open_within : (s : Setting) (h : List Entry) (n w : ℕ) → length (filter (is_open_in s h n w) (came_places h n)) ≤ came_count h n
open_within s h n w =
    omega (arith, length-filter (is_open_in s h n w) (came_places h n), count_by-le-length (is_open_in s h n w) (came_places h n), length-below (came_count h n))

pub records_may_come : (s : Setting) (h : List Entry) (a : Arriving) (c : ShardLedger) → Legal s h → IsEven a
    → came_count h c.shard + length a.records.items < 4294967296 → IsShard s h c → FitsNumbers c a
records_may_come s h a c legal even few is = record {
  fates = omega (arith, is.progress.came, even.fates, few);
  came = omega (arith, is.arrivals.came, few);
  windows = λ w. omega (arith, is.windows.opened w, open_within s h c.shard w, even.windows, few);
  lanes = λ k low. (
      let bounds = lane_bounded s h (lane_id c.shard k) (lane_in c.lanes k) legal (is.lanes k (subst (λ n. k < n) is.factor low)) in
      omega (arith, bounds.places, even.landings, few));
}

-- what is read

pub tells : (s : Setting) (h : List Entry) (c : ShardLedger) → IsShard s h c → ShardTells s h c
tells s h c is =
    let t = progress_tells s h c.shard c.progress is.progress in
    record { checkpoint_is = t.checkpoint_is; spread_is = t.spread_is; open_is = t.open_is }
