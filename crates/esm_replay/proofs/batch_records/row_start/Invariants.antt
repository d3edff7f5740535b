use Rattle.std.proofs.Common.{take}
use Rattle.esm_replay.specs.Batch.{StandInRow}
use Rattle.esm_replay.proofs.batch_records.row_start.Given as goal

abbrev pub invariant-loop-i : goal.invariant-loop-i
invariant-loop-i l = StandInRow l.first (take l.i l.named)
