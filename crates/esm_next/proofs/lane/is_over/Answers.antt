use Rattle.std.proofs.Common.{◌≡◌, ◌∙◌, Bool, true, ◌&&◌, sym, ap}
use Rattle.esm_model.specs.declared.lane.LaneId.{LaneId}
use Rattle.esm_model.specs.Entries.{is_shut}
use Rattle.esm_ledger.specs.Ledger.{past_of, setting_of}
use Rattle.esm_next.specs.Following.{outstanding, is_nothing}
use Rattle.esm_next.proofs.Lanes.{over_is}
use Rattle.esm_next.proofs.lane.is_over.Goals as goal

pub returns-then-is_shut : goal.returns-then-is_shut
returns-then-is_shut c =
    let s = setting_of c.args.ledger.now in
    let h = past_of c.args.ledger.now in
    let lane : LaneId = record { shard = c.args.shard; lane = 0 } in
    let shut : is_shut h ≡ true = sym c.is_shut.ensures ∙ c.if-is_shut.true in
    over_is s h lane 0 c.has_outstanding.result c.has_outstanding.ensures.none c.has_outstanding.ensures.some
    ∙ sym (ap (λ (b : Bool). b && is_nothing (outstanding s h c.args.shard)) shut)
