use Rattle.esm_replay.proofs.InRow.{row_more}
use Rattle.esm_replay.proofs.batch_records.row_start.Goals as goal

pub loop-i-preserved : goal.loop-i-preserved
loop-i-preserved c = row_more c.in_ok-first.field-0.now.at c.args.named.now c.loop-i.i (record { place = 0; at = 0 }) c.loop-i-test.true c.if-named-i.false c.loop-i.invariant
