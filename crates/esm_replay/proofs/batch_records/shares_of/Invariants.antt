use Rattle.std.proofs.Common.{◌≡◌, take}
use Rattle.esm_replay.proofs.batch_records.shares_of.Given as goal

abbrev pub invariant-loop-item : goal.invariant-loop-item
invariant-loop-item l = l.shares.items ≡ take l.item-index l.records
