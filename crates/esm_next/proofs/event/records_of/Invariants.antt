use Rattle.std.proofs.Common.{◌≡◌, take}
use Rattle.esm_model.specs.Setting.{records_at}
use Rattle.esm_ledger.specs.Ledger.{setting_of}
use Rattle.esm_next.proofs.event.records_of.Given as goal

abbrev pub invariant-loop-place : goal.invariant-loop-place
invariant-loop-place l = l.records.items ≡ records_at (setting_of l.ledger) l.shard (take l.place-index l.places)
