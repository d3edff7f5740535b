use Rattle.std.proofs.Common.{◌++◌}
use Rattle.std.specs.Prelude.{option_copied}
use Rattle.esm_model.specs.Setting.{record_at, sequences_at}
use Rattle.esm_journal_record.specs.Payload.{names_bytes}
use Rattle.esm_ledger.specs.Ledger.{setting_of}
use Rattle.esm_stream_core.proofs.Names.{name_found}
use Rattle.esm_stream_core.proofs.payload.push_names.Goals as goal

pub loop-place-preserved : goal.loop-place-preserved
loop-place-preserved c =
    let x = c.args in
    let s = setting_of x.ledger.now in
    let at = c.loop-place in
    name_found (record_at s x.shard) x.places.now at.place-index (option_copied c.record.result) at.out.items c.push_name.new.out.items (x.out.now.items ++ names_bytes x.places.now (sequences_at s x.shard x.places.now))
    c.requires.stand c.loop-place-test.true c.record.ensures c.in_ok-push_name.ensures at.invariant
