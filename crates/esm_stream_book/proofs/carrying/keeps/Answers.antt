use Rattle.std.proofs.Common.{subst}
use Rattle.esm_book.specs.State.{IsSettled}
use Rattle.esm_stream_core.specs.CoreView.{full_setting}
use Rattle.esm_stream_core.specs.Told.{owed_of}
use Rattle.esm_stream_book.proofs.Tellings.{none_owed}
use Rattle.esm_stream_book.proofs.carrying.keeps.Goals as goal

pub returns-clause-settled : goal.returns-clause-settled
returns-clause-settled g c = λ up.
    let v = c.args.durable.now.core in
    none_owed (full_setting v) v.owed (subst (λ o. IsSettled o (owed_of v)) up c.trouble.ensures.keeps.settled)
