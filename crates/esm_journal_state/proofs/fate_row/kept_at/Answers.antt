use Rattle.std.proofs.Common.{◌≡◌, Some, slice_get, refl}
use Rattle.std.proofs.lemmas.Option.{slice_get_read}
use Rattle.esm_journal_state.proofs.FateRows.{found_at, at_place}
use Rattle.esm_journal_state.proofs.fate_row.kept_at.Goals as goal

pub returns-then-entry-place : goal.returns-then-entry-place
returns-then-entry-place c =
    let entry = c.in-Some.entry.now in
    let stands : slice_get c.args.row.now c.args.at ≡ Some entry = slice_get_read c.args.row.now _ c.args.at entry refl c.in-Some.ensures.lookup.3.0 c.in-Some.ensures.lookup.1 in
    found_at c.args.row.now (c.args.shard, c.args.place) c.args.at entry c.requires stands
    (at_place entry.0 c.args.shard c.args.place c.if-entry-shard.true c.if-entry-place.true)
