use Rattle.std.proofs.Common.{◌∙◌, Some, reverse, ap}
use Rattle.esm_ledger.specs.Reading.{checkpoint_of}
use Rattle.esm_stream_core.specs.CoreView.{CoreView}
use Rattle.esm_stream_core.proofs.Fates.{counted_in, checkpoint_absent, checkpoint_here}
use Rattle.esm_stream_core.proofs.stream_core.StreamCore.checkpoint.Goals as goal

pub returns-in-None : goal.returns-in-None
returns-in-None c =
    let x = c.self.inside in
    checkpoint_absent x.ledger c.args.shard (counted_in x.ledger (reverse x.coming.items) (reverse x.owed.items) x.standing c.self.invariant.kept) c.in-None.ensures.none
    ∙ ap (λ (v : CoreView). checkpoint_of v.setting v.past c.args.shard) c.self.view_is

pub returns-in-Some : goal.returns-in-Some
returns-in-Some c =
    let x = c.self.inside in
    ap Some c.checkpoint.ensures
    ∙ checkpoint_here c.progress_tells.ensures x.ledger c.args.shard c.in-Some.kept.now (counted_in x.ledger (reverse x.coming.items) (reverse x.owed.items) x.standing c.self.invariant.kept) c.in-Some.ensures.at
    ∙ ap (λ (v : CoreView). checkpoint_of v.setting v.past c.args.shard) c.self.view_is
