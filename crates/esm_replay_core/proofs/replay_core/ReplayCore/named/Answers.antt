use Rattle.std.proofs.Common.{◌∙◌, ap}
use Rattle.esm_replay_model.specs.ReplayReport.{named_count}
use Rattle.esm_replay_core.specs.View.{ReplayView, setting_of}
use Rattle.esm_replay_core.proofs.replay_core.ReplayCore.named.Goals as goal

pub returns : goal.returns
returns c = c.self.invariant.0.named ∙ ap (λ (v : ReplayView). named_count (setting_of v)) c.self.view_is
