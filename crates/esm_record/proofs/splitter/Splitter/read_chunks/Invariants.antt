use Rattle.std.proofs.Common.{length}
use Rattle.esm_record.proofs.Steps.{GoesFresh}
use Rattle.esm_record.proofs.splitter.Splitter.read_chunks.Given as goal

abbrev pub invariant-loop-chunk : goal.invariant-loop-chunk
invariant-loop-chunk l = GoesFresh l.fn.piece l.fn.items.items l.fn.self l.rest l.items.items l.self

abbrev pub decreases-loop-chunk : goal.decreases-loop-chunk
decreases-loop-chunk l = length l.rest
