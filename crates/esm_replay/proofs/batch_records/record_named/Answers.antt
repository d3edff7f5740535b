use Rattle.esm_replay.proofs.Gathered.{no_record}
use Rattle.esm_replay.proofs.batch_records.record_named.Goals as goal

pub unreachable-requires : goal.unreachable-requires
unreachable-requires c = no_record c.args.records.now c.args.named.now c.args.i c.requires.within c.requires.stand c.in-None.ensures
