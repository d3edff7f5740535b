use Rattle.std.proofs.Common.{subst}
use Rattle.std.proofs.lemmas.Result.{on_ok_weaker}
use Rattle.esm_journal_state.specs.Growing.{Knows}
use Rattle.esm_journal_state.proofs.Recent.{judged_ready}
use Rattle.esm_journal_state.proofs.growing.make_ready.Goals as goal

pub returns-in-Fates-clause-ready : goal.returns-in-Fates-clause-ready
returns-in-Fates-clause-ready c =
    let table = c.know_fates.new.growing.table in
    on_ok_weaker c.know_fates.result
    (λ known h grown. judged_ready table h c.args.said.now c.in-Fates.shard c.in-Fates.places c.in-Fates.is (subst (Knows table h c.in-Fates.shard) c.as_slice.ensures (known h grown)))
    c.know_fates.ensures.known
