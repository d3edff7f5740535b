use Rattle.std.proofs.Common.{◌∙◌, sym, ap}
use Rattle.std.specs.Option.{option_copied}
use Rattle.esm_next.proofs.batch.first_bytes.Goals as goal

pub stream_bytes-requires-clause-item : goal.stream_bytes-requires-clause-item
stream_bytes-requires-clause-item c =
    c.requires.bounds.records c.args.shard c.args.place c.in-Some.record.now (sym c.record.ensures ∙ ap option_copied c.in-Some.is)
