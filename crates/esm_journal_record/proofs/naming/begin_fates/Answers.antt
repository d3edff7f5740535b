use Rattle.esm_journal_record.specs.Payload.{names_bytes}
use Rattle.esm_journal_record.specs.Fronts.{fates_front}
use Rattle.esm_journal_record.proofs.Fronts.{fates_join, alone}
use Rattle.esm_journal_record.proofs.naming.begin_fates.Goals as goal

pub returns : goal.returns
returns c = λ places texts same.
    let x = c.args in
    alone (fates_front x.shard x.fate x.moment x.state.now x.count) (names_bytes places texts) _ _ c.in_ok-out.out.items c.in_ok-out.ensures.items c.in_ok-push_fates_front.ensures (fates_join x.shard x.fate x.moment x.state.now x.count places texts same)
