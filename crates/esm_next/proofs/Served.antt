-- What is decided for a batcher of a ledger is served by the rules.
use Rattle.std.proofs.Common.{◌≡◌, ℕ, ◌<◌, ◌≤◌, Bool, false, sym, Some, None}
use Rattle.std.specs.Prelude.{Result, IfOk, if◌then◌else◌}
use Rattle.std.proofs.lemmas.Result.{IfOk-weaker}
use Rattle.esm_model.specs.declared.moment.TheConstants.{MAX_MOMENT}
use Rattle.esm_model.specs.declared.lane.LaneId.{LaneId}
use Rattle.esm_model.specs.Moment.{moment_after}
use Rattle.esm_model.specs.Entries.{came_count, is_shut, is_running, last_moment}
use Rattle.esm_model.specs.Owed.{Settled}
use Rattle.esm_ledger.specs.declared.ledger.Ledger.{Ledger}
use Rattle.esm_ledger.specs.Ledger.{past_of, setting_of, Keeps}
use Rattle.esm_ledger.specs.Reading.{lane_of_batcher, IsLaneSettled}
use Rattle.esm_ledger.proofs.Ledgers.{own_legal, came_some}
use Rattle.esm_next.specs.declared.decision.Decision.{Decision}
use Rattle.esm_next.specs.declared.decision.Decision.TheVariants as decision
use Rattle.esm_next.specs.Deciding.{OverAll, IsDecided}
use Rattle.esm_next.proofs.Serving.{factor_some, IsBatcherLane, batcher_lane, IsServed, served_none, served_lane}

known : (c : Ledger) (k : ℕ) (lane : LaneId) → Keeps c → Some lane ≡ lane_of_batcher (setting_of c) (past_of c) k → IsBatcherLane (setting_of c) (past_of c) k lane
known c k lane kept is = batcher_lane (setting_of c) (past_of c) k lane (factor_some c.config kept.config) (sym is)

pub lane_known : (c : Ledger) (k : ℕ) (lane : LaneId) → Keeps c → Some lane ≡ lane_of_batcher (setting_of c) (past_of c) k → lane.lane < c.config.factor
lane_known c k lane kept is = (known c k lane kept is).below_factor

pub lane_came : (c : Ledger) (k : ℕ) (lane : LaneId) → Keeps c → Some lane ≡ lane_of_batcher (setting_of c) (past_of c) k → 1 ≤ came_count (past_of c) lane.shard
lane_came c k lane kept is = came_some (setting_of c) (past_of c) lane.shard (own_legal (setting_of c) (past_of c) kept.rests.legal) (known c k lane kept is).came

pub lane_settled : (c : Ledger) (lane : LaneId) → OverAll c (λ s. Settled s (past_of c)) → IsLaneSettled (setting_of c) (past_of c) lane
lane_settled c lane settled =
    let own : Settled (setting_of c) (past_of c) = settled (setting_of c).streams (λ n i r here. here) in
    record { paid = own.paid lane; sorted = own.sorted lane.shard }

-- what a batcher asks of its ledger
pub record Asks (c : Ledger) (k m : ℕ) : Type 0 where
  pub kept : Keeps c
  pub settled : OverAll c (λ s. Settled s (past_of c))
  pub rests : (lane : LaneId) → lane_of_batcher (setting_of c) (past_of c) k ≡ Some lane → is_running (past_of c) lane ≡ false
  pub later : last_moment (past_of c) ≤ m
  pub moment : m ≤ MAX_MOMENT

pub all_served : {E : Type 0} (c : Ledger) (k m : ℕ) (lane : LaneId) (r : Result Decision E) → Asks c k m → Some lane ≡ lane_of_batcher (setting_of c) (past_of c) k
    → IfOk r (IsDecided (setting_of c) (past_of c) lane m) → IfOk r (IsServed (setting_of c) (past_of c) k m)
all_served c k m lane r asks is decided =
    let s = setting_of c in
    let h = past_of c in
    IfOk-weaker r (IsDecided s h lane m) (IsServed s h k m) (λ d each. served_lane s h k m lane (own_legal s h asks.kept.rests.legal) (lane_came c k lane asks.kept is) (sym is) d asks.settled (lane_known c k lane asks.kept is) (asks.rests lane (sym is)) asks.later asks.moment each) decided

pub rest_served : (c : Ledger) (k m : ℕ) (shut : Bool) (d : Decision) → Asks c k m → None ≡ lane_of_batcher (setting_of c) (past_of c) k → shut ≡ is_shut (past_of c) → d ≡ (if shut then decision.Finished else decision.Idle (moment_after m 20))
    → IsServed (setting_of c) (past_of c) k m d
rest_served c k m shut d asks is shut_is d_is = served_none (setting_of c) (past_of c) k m shut d (own_legal (setting_of c) (past_of c) asks.kept.rests.legal) asks.settled (sym is) (sym shut_is) d_is
