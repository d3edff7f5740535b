use Rattle.std.proofs.Common.{◌≡◌, ◌++◌, length}
use Rattle.esm_record.specs.Parsing.{parsed_lines}
use Rattle.esm_record.proofs.block.parse_block.Given as goal

abbrev pub invariant-loop-chunk : goal.invariant-loop-chunk
invariant-loop-chunk l = l.parsed.items ++ parsed_lines l.kind l.rest ≡ parsed_lines l.kind l.fn.block

abbrev pub decreases-loop-chunk : goal.decreases-loop-chunk
decreases-loop-chunk l = length l.rest
