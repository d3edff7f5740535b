use Rattle.std.proofs.Common.{sym}
use Rattle.esm_stream_core.proofs.LineBounds.{line_within}
use Rattle.esm_stream_core.proofs.reading.line_bound.Goals as goal

pub returns-in-Some-clause-within : goal.returns-in-Some-clause-within
returns-in-Some-clause-within c = line_within c.args.owed.now c.loop-entry.entry-index c.entry-item.result c.in-Some.line.now c.loop-entry-test.true c.entry-item.is (sym c.in-Some.ensures) c.requires
