use Rattle.std.proofs.Common.{length}
use Rattle.esm_replay.proofs.InRow.{row_records, row_within}
use Rattle.esm_replay.proofs.batch_records.gather.Goals as goal

pub returns-in-Some-clause-records : goal.returns-in-Some-clause-records
returns-in-Some-clause-records c = row_records c.args.records.now c.in-Some.first c.args.named.now c.in-Some.ensures.row c.requires

pub returns-in-Some-clause-within : goal.returns-in-Some-clause-within
returns-in-Some-clause-within c = row_within (length c.args.records.now) c.in-Some.first c.args.named.now c.in-Some.ensures.some c.in-Some.ensures.row c.requires
