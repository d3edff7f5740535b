-- What the end of a call that is only noted leaves to the other lanes.
use Rattle.std.proofs.Common.{◌≡◌, ℕ, ◌≤◌, false, sym, subst}
use Rattle.esm_model.specs.Lane.{same_lane}
use Rattle.esm_model.specs.declared.lane.LaneId.{LaneId}
use Rattle.esm_shard_index.specs.LaneView.{LaneView}
use Rattle.esm_ledger.specs.declared.ledger.Ledger.{Ledger}
use Rattle.esm_ledger.specs.Shard.{lane_id}
use Rattle.esm_ledger.specs.Ledger.{HasSplits}
use Rattle.esm_ledger.specs.Adding.{IsChanged, RestsAt}

-- each keeps what is prepared for the end of its call
pub splits_noted : (c w : Ledger) (lane other : LaneId) → IsChanged c w (RestsAt lane) → same_lane lane other ≡ false → HasSplits c other → HasSplits w other
splits_noted c w lane other on off has = λ y here.
    let was = on.kept other.shard y here in
    let there : same_lane lane (lane_id y.shard other.lane) ≡ false = subst (λ (n : ℕ). same_lane lane (lane_id n other.lane) ≡ false) (sym here.2) off in
    subst (λ (v : LaneView). 2 ≤ v.kept.splits) (sym (was.2.others other.lane there)) (has was.0 was.1)
