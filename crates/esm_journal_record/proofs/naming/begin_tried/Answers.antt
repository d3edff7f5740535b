use Rattle.esm_journal_record.specs.Payload.{names_bytes}
use Rattle.esm_journal_record.specs.Fronts.{tried_front}
use Rattle.esm_journal_record.proofs.Fronts.{tried_join, alone}
use Rattle.esm_journal_record.proofs.naming.begin_tried.Goals as goal

pub returns : goal.returns
returns c = λ places texts same.
    let x = c.args in
    alone (tried_front x.shard x.moment x.tries x.count) (names_bytes places texts) _ _ c.in_ok-out.out.items c.in_ok-out.ensures.items c.in_ok-push_tried_front.ensures (tried_join x.shard x.moment x.tries x.count places texts same)
