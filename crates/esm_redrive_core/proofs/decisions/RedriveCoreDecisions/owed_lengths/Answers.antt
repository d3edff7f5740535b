use Rattle.std.proofs.Common.{◌≡◌, List, ℕ, IfOk, sym, subst}
use Rattle.esm_book.specs.Decided.{lengths_of}
use Rattle.esm_redrive_core.specs.RedriveView.{all_messages}
use Rattle.esm_redrive_core.proofs.Telling.{written_told}
use Rattle.esm_redrive_core.proofs.decisions.RedriveCoreDecisions.owed_lengths.Goals as goal

pub returns : goal.returns
returns c =
    subst (λ (bytes : List (List ℕ)). IfOk c.owed_lengths.result (λ lengths. lengths.items ≡ lengths_of bytes)) (sym (written_told (all_messages c.args.self.now) c.args.self.now.owed)) c.owed_lengths.ensures
