use Rattle.esm_journal_state.specs.Bad.{IsFirstBad}
use Rattle.esm_journal_state.specs.declared.error.SaysError.TheVariants as judged
use Rattle.esm_runner.proofs.Goods.{none_bad}
use Rattle.esm_runner.proofs.queue_run.open_book.Goals as goal

pub unreachable-requires : goal.unreachable-requires
unreachable-requires g c =
    let index = c.in-BadPayload.field-0 in
    let bad : IsFirstBad c.args.pair.payloads (judged.BadPayload index) = rw c.in-BadPayload.is at c.in-Err.ensures.refused in
    none_bad c.args.pair.payloads index c.requires.good bad
