use Rattle.std.proofs.Common.{subst}
use Rattle.esm_book.specs.State.{IsSettled}
use Rattle.esm_replay_core.specs.Told.{owed_of}
use Rattle.esm_replay_book.proofs.Entries.{none_owed}
use Rattle.esm_replay_book.proofs.carrying.keeps.Goals as goal

pub returns-clause-settled : goal.returns-clause-settled
returns-clause-settled g c = λ up.
    let v = c.args.durable.now.core in
    none_owed v (subst (λ o. IsSettled o (owed_of v)) up c.trouble.ensures.keeps.settled)
