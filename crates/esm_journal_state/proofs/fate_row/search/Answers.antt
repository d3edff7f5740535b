use Rattle.std.proofs.Common.{rules, get_or, sym}
use Rattle.std.proofs.lemmas.List.Sorted.{answers_always}
use Rattle.std.proofs.lemmas.Option.{slice_get-get_or}
use Rattle.esm_journal_state.proofs.FateRows.{searched, not_searched}
use Rattle.esm_journal_state.proofs.fate_row.search.Goals as goal

pub returns-in-Ok : goal.returns-in-Ok
returns-in-Ok c =
    let by_key = c.in-Ok.ensures.position (λ entry. entry.0) (answers_always _ _ _ (λ f a r g called. search rules)) in
    let entry = c.index-row-at.result in
    sym (searched c.args.row.now (c.args.shard, c.args.place) c.in-Ok.at (get_or c.args.row.now c.in-Ok.at entry) c.requires
    (slice_get-get_or c.args.row.now c.in-Ok.at entry c.in-Ok.ensures.bound) by_key)

pub returns-in-Err : goal.returns-in-Err
returns-in-Err c =
    let by_key = c.in-Err.ensures.position (λ entry. entry.0) (answers_always _ _ _ (λ f a r g called. search rules)) in
    sym (not_searched c.args.row.now (c.args.shard, c.args.place) c.in-Err.field-0 c.requires by_key)
