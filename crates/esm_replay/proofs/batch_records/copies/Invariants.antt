use Rattle.std.proofs.Common.{◌≡◌, take}
use Rattle.esm_replay.specs.Batch.{records_named}
use Rattle.esm_replay.proofs.batch_records.copies.Given as goal

abbrev pub invariant-loop-i : goal.invariant-loop-i
invariant-loop-i l = l.copies.items ≡ records_named l.records (take l.i l.named)
