use Rattle.std.proofs.Common.{◌∙◌, reverse, ap}
use Rattle.esm_model.specs.Entries.{is_shut}
use Rattle.esm_stream_core.specs.CoreView.{CoreView}
use Rattle.esm_stream_core.proofs.Leaving.{left_in}
use Rattle.esm_stream_core.proofs.stream_core.StreamCore.is_shut.Goals as goal

pub returns : goal.returns
returns c =
    let x = c.self.inside in
    (left_in x.ledger (reverse x.coming.items) (reverse x.owed.items) x.standing c.self.invariant.kept.stands).shut ∙ ap (λ (v : CoreView). is_shut v.past) c.self.view_is
