use Rattle.std.proofs.Common.{◌≡◌, ◌++◌, length}
use Rattle.esm_record.specs.Parsing.{parsed_lines}
use Rattle.esm_record.proofs.block.parse_chunk.Given as goal

abbrev pub invariant-loop-line : goal.invariant-loop-line
invariant-loop-line l = l.packed ++ parsed_lines l.kind l.rest ≡ parsed_lines l.kind l.fn.chunk

abbrev pub decreases-loop-line : goal.decreases-loop-line
decreases-loop-line l = length l.rest
