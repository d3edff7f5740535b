use Rattle.std.proofs.Common.{◌≡◌, ◌++◌, drop}
use Rattle.esm_model.specs.Setting.{sequences_at}
use Rattle.esm_journal_record.specs.Payload.{names_bytes}
use Rattle.esm_ledger.specs.Ledger.{setting_of}
use Rattle.esm_stream_core.proofs.payload.push_names.Given as goal

abbrev pub invariant-loop-place : goal.invariant-loop-place
invariant-loop-place l =
    l.out.items ++ names_bytes (drop l.place-index l.places) (sequences_at (setting_of l.ledger) l.shard (drop l.place-index l.places))
    ≡ l.initial.out.items ++ names_bytes l.places (sequences_at (setting_of l.ledger) l.shard l.places)
