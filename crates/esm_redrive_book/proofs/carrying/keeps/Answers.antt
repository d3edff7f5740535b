use Rattle.std.proofs.Common.{subst}
use Rattle.esm_book.specs.State.{IsSettled}
use Rattle.esm_redrive_core.specs.RedriveView.{all_messages}
use Rattle.esm_redrive_core.specs.Told.{owed_of}
use Rattle.esm_redrive_core.proofs.Telling.{none_told}
use Rattle.esm_redrive_book.proofs.carrying.keeps.Goals as goal

pub returns-clause-settled : goal.returns-clause-settled
returns-clause-settled g c = λ up.
    let v = c.args.durable.now.core in
    none_told (all_messages v) v.owed (subst (λ o. IsSettled o (owed_of v)) up c.trouble.ensures.keeps.settled)
