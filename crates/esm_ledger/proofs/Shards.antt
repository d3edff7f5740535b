-- What one entry makes of a shard that is kept.
use Rattle.std.proofs.Common.{◌≡◌, ℕ, suc, ◌+◌, ◌<◌, true, false, ◌&&◌, List, ◌∷◌, length, take, refl, sym, ap, ◌∙◌, subst, inl, inr, Option, Some, None, is_some}
use Rattle.std.specs.Prelude.{◌==◌, ◌≢◌, if◌then◌else◌}
use Rattle.std.proofs.lemmas.Bool.{cases_Bool}
use Rattle.esm_model.specs.Lane.{same_lane}
use Rattle.esm_model.specs.Records.{Record}
use Rattle.esm_model.specs.declared.lane.LaneId.{LaneId}
use Rattle.esm_model.specs.declared.event.Response.{Response}
use Rattle.esm_model.specs.declared.verdict.Verdict.{Verdict}
use Rattle.esm_model.specs.declared.entry.Reply.{Reply}
use Rattle.esm_model.specs.declared.entry.Entry.{Entry}
use Rattle.esm_model.specs.declared.entry.Entry.TheVariants.{Began, Ended, Closed}
use Rattle.esm_model.specs.Setting.{Setting}
use Rattle.esm_model.specs.Entries.{holds, came_count, is_running, last_call, batch_of}
use Rattle.esm_model.specs.FailureLine.{response_in}
use Rattle.esm_model.specs.Ruling.{capped_tries, is_counted}
use Rattle.esm_model.specs.Tries.{is_closed_by, verdict_after}
use Rattle.esm_model.specs.Step.{Legal}
use Rattle.esm_model.proofs.Steps.{same_lane-refl}
use Rattle.esm_model.proofs.Sound.{same_lane-true}
use Rattle.esm_shard_index.specs.declared.lane_state.Running.{Running}
use Rattle.esm_shard_index.specs.LaneView.{LaneView, Table, lane_in, after_began, after_ended, running_count, front_places}
use Rattle.esm_shard_index.specs.LaneHistory.{IsLane, HasFoundTries}
use Rattle.esm_shard_index.specs.LaneSteps.{after_entry}
use Rattle.esm_shard_index.specs.Callings.{Called, calls_at, response_at}
use Rattle.esm_shard_index.specs.Windows.{WindowTable, state_in, tries_in}
use Rattle.esm_shard_index.specs.WindowsLaws.{closing_of}
use Rattle.esm_shard_index.proofs.LaneSteps.{lane_step}
use Rattle.esm_shard_index.proofs.ArrivalSteps.{arrivals_stay}
use Rattle.esm_shard_index.proofs.CallingSteps.{call_begins, call_ends, callings_stay}
use Rattle.esm_shard_index.proofs.ProgressSteps.{progress_stays}
use Rattle.esm_shard_index.proofs.WindowSteps.{windows_stay, windows_end, windows_close}
use Rattle.esm_ledger.specs.declared.measure.Measure.{Measure}
use Rattle.esm_ledger.specs.declared.shard.ShardLedger.{ShardLedger}
use Rattle.esm_ledger.specs.Shard.{IsShard, AreRecords, lane_id, closing_in, called_places}

-- the records that came stay where none comes
pub records_stay : (s : Setting) (h : List Entry) (e : Entry) (n : ℕ) (rs : List Record) (ms : List Measure) → came_count (e ∷ h) n ≡ came_count h n → AreRecords s h n rs ms → AreRecords s (e ∷ h) n rs ms
records_stay s h e n rs ms same is = record {
  came = is.came ∙ sym same;
  measured = is.measured ∙ sym same;
  stand = is.stand;
  lengths = is.lengths;
  windows = λ i low. is.windows i (subst (λ k. i < k) same low);
}

-- lanes

-- each lane is what the entry makes of it
pub lanes_step : (s : Setting) (h : List Entry) (e : Entry) (n : ℕ) (old new : Table) → HasFoundTries s n → Legal s (e ∷ h)
    → ((k : ℕ) → k < s.config.factor → IsLane s h (lane_id n k) (lane_in old k))
    → ((k : ℕ) → lane_in new k ≡ after_entry s h (lane_id n k) (lane_in old k) e)
    → (k : ℕ) → k < s.config.factor → IsLane s (e ∷ h) (lane_id n k) (lane_in new k)
lanes_step s h e n old new some legal is same k low =
    subst (λ (v : LaneView). IsLane s (e ∷ h) (lane_id n k) v) (sym (same k)) (lane_step s h e (lane_id n k) (lane_in old k) some legal (is k low))

-- one lane changes, and the others stay
pub at_lane : (n j : ℕ) (f : ℕ → LaneView → LaneView) (old new : Table) → lane_in new j ≡ f j (lane_in old j) → ((k : ℕ) → k ≢ j → lane_in new k ≡ lane_in old k)
    → (k : ℕ) → lane_in new k ≡ (if same_lane (lane_id n j) (lane_id n k) then f k (lane_in old k) else lane_in old k)
at_lane n j f old new here others k = elim (cases_Bool (same_lane (lane_id n j) (lane_id n k))) [
  | inl is ↦ (
      let e : lane_id n j ≡ lane_id n k = same_lane-true (lane_id n j) (lane_id n k) is in
      let i : j ≡ k = ap (λ (l : LaneId). l.lane) e in
      rw is (subst (λ (x : ℕ). lane_in new x ≡ f x (lane_in old x)) i here))
  | inr off ↦ rw off (others k (λ i.
      let itself : same_lane (lane_id n k) (lane_id n k) ≡ false = subst (λ (x : ℕ). same_lane (lane_id n x) (lane_id n k) ≡ false) (sym i) off in
      let clash : true ≡ false = sym (same_lane-refl (lane_id n k)) ∙ itself in cc))
]

-- what runs in the lane is its last call
pub record IsCalled (h : List Entry) (lane : LaneId) (v : LaneView) : Type 0 where
  pub places : batch_of (last_call h lane) ≡ called_places v
  pub closing : closing_of (last_call h lane) ≡ closing_in v.state.running

pub call_runs : (s : Setting) (h : List Entry) (lane : LaneId) (v : LaneView) → is_running h lane ≡ true → IsLane s h lane v → IsCalled h lane v
call_runs s h lane v runs is = by_running v.state.running refl
  where
    by_running : (o : Option Running) → v.state.running ≡ o → IsCalled h lane v
    by_running None e = (let clash : true ≡ false = sym runs ∙ is.runs ∙ ap is_some e in cc)
    by_running (Some r) e =
        let k = is.call r e in
        record {
          places = ap batch_of k.last ∙ k.places ∙ sym (ap (λ (o : Option Running). take (running_count o) (front_places v.kept.pieces)) e);
          closing = ap closing_of k.last ∙ k.closing ∙ sym (ap closing_in e);
        }

-- entries

pub shard_began : (s : Setting) (h : List Entry) (c : ShardLedger) (callings : Called) (lanes : Table) (lane : ℕ) (places : List ℕ) (closing : Option ℕ) (m : ℕ)
    → length callings.records ≡ length c.callings.records
    → ((i : ℕ) → calls_at callings i ≡ (if holds places i then suc (calls_at c.callings i) else calls_at c.callings i))
    → ((i : ℕ) → response_at callings i ≡ response_at c.callings i)
    → lane_in lanes lane ≡ after_began (record { count = length places; closing = closing }) (lane_in c.lanes lane)
    → ((k : ℕ) → k ≢ lane → lane_in lanes k ≡ lane_in c.lanes k)
    → length lanes.lanes ≡ length c.lanes.lanes
    → HasFoundTries s c.shard → Legal s (Began (lane_id c.shard lane) places closing m ∷ h) → IsShard s h c
    → IsShard s (Began (lane_id c.shard lane) places closing m ∷ h) (record c { callings = callings; lanes = lanes })
shard_began s h c callings lanes lane places closing m len calls responses here others size some legal is =
    let e = Began (lane_id c.shard lane) places closing m in
    record {
      records = records_stay s h e c.shard c.records.items c.measures.items refl is.records;
      progress = progress_stays s h c.shard c.progress e tt is.progress;
      held = is.held;
      arrivals = arrivals_stay h c.shard c.arrivals e tt is.arrivals;
      callings = call_begins h (lane_id c.shard lane) c.callings callings places closing m is.callings len calls responses;
      windows = windows_stay s h c.shard c.windows e tt is.windows;
      factor = size ∙ is.factor;
      lanes = lanes_step s h e c.shard c.lanes lanes some legal is.lanes (at_lane c.shard lane (λ k. after_began (record { count = length places; closing = closing })) c.lanes lanes here others);
    }

pub shard_ended : (s : Setting) (h : List Entry) (c : ShardLedger) (callings : Called) (windows : WindowTable) (lanes : Table) (lane : ℕ) (response : Option Response) (verdict : Verdict) (reply : Reply) (m : ℕ)
    → lane < length c.lanes.lanes
    → length callings.records ≡ length c.callings.records
    → ((i : ℕ) → calls_at callings i ≡ calls_at c.callings i)
    → ((i : ℕ) → response_at callings i ≡ (if holds (called_places (lane_in c.lanes lane)) i then response else response_at c.callings i))
    → ((w : ℕ) → tries_in windows w ≡ (if is_closed_by (closing_in (lane_in c.lanes lane).state.running) w && is_counted verdict.rest then capped_tries (tries_in c.windows w + 1) else tries_in c.windows w))
    → windows.opened ≡ c.windows.opened → windows.states ≡ c.windows.states → windows.last ≡ c.windows.last
    → lane_in lanes lane ≡ after_ended verdict m (lane_in c.lanes lane)
    → ((k : ℕ) → k ≢ lane → lane_in lanes k ≡ lane_in c.lanes k)
    → length lanes.lanes ≡ length c.lanes.lanes
    → HasFoundTries s c.shard → Legal s (Ended (lane_id c.shard lane) reply m ∷ h)
    → verdict ≡ verdict_after s h (lane_id c.shard lane) reply → response ≡ response_in reply
    → IsShard s h c
    → IsShard s (Ended (lane_id c.shard lane) reply m ∷ h) (record c { callings = callings; windows = windows; lanes = lanes })
shard_ended s h c callings windows lanes lane response verdict reply m known len calls responses tries opened states last here others size some legal ruled answered is =
    let e = Ended (lane_id c.shard lane) reply m in
    let low : lane < s.config.factor = subst (λ k. lane < k) is.factor known in
    let call = call_runs s h (lane_id c.shard lane) (lane_in c.lanes lane) legal.1.1 (is.lanes lane low) in
    record {
      records = records_stay s h e c.shard c.records.items c.measures.items refl is.records;
      progress = progress_stays s h c.shard c.progress e tt is.progress;
      held = is.held;
      arrivals = arrivals_stay h c.shard c.arrivals e tt is.arrivals;
      callings = call_ends h (lane_id c.shard lane) c.callings callings (called_places (lane_in c.lanes lane)) reply m is.callings call.places len calls
          (λ i. responses i ∙ ap (λ (o : Option Response). if holds (called_places (lane_in c.lanes lane)) i then o else response_at c.callings i) answered);
      windows = windows_end s h (lane_id c.shard lane) c.windows windows reply m is.windows
          (λ w. tries w
          ∙ ap (λ (o : Option ℕ). if is_closed_by o w && is_counted verdict.rest then capped_tries (tries_in c.windows w + 1) else tries_in c.windows w) (sym call.closing)
          ∙ ap (λ (v : Verdict). if is_closed_by (closing_of (last_call h (lane_id c.shard lane))) w && is_counted v.rest then capped_tries (tries_in c.windows w + 1) else tries_in c.windows w) ruled)
          opened states last;
      factor = size ∙ is.factor;
      lanes = lanes_step s h e c.shard c.lanes lanes some legal is.lanes
          (at_lane c.shard lane (λ k. after_ended (verdict_after s h (lane_id c.shard k) reply) m) c.lanes lanes
          (here ∙ ap (λ (v : Verdict). after_ended v m (lane_in c.lanes lane)) ruled) others);
    }

pub shard_closed : (s : Setting) (h : List Entry) (c : ShardLedger) (windows : WindowTable) (lane window m : ℕ)
    → ((w : ℕ) → state_in windows w ≡ (if window == w then None else state_in c.windows w))
    → ((w : ℕ) → tries_in windows w ≡ (if window == w then 0 else tries_in c.windows w))
    → windows.opened ≡ c.windows.opened → windows.last ≡ c.windows.last
    → HasFoundTries s c.shard → Legal s (Closed (lane_id c.shard lane) window m ∷ h) → IsShard s h c
    → IsShard s (Closed (lane_id c.shard lane) window m ∷ h) (record c { windows = windows })
shard_closed s h c windows lane window m states tries opened last some legal is =
    let e = Closed (lane_id c.shard lane) window m in
    record {
      records = records_stay s h e c.shard c.records.items c.measures.items refl is.records;
      progress = progress_stays s h c.shard c.progress e tt is.progress;
      held = is.held;
      arrivals = arrivals_stay h c.shard c.arrivals e tt is.arrivals;
      callings = callings_stay h c.shard c.callings e tt is.callings;
      windows = windows_close s h (lane_id c.shard lane) c.windows windows window m is.windows states tries opened last;
      factor = is.factor;
      lanes = lanes_step s h e c.shard c.lanes c.lanes some legal is.lanes (λ k. refl);
    }
