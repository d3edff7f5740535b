use Rattle.std.proofs.Common.{◌≡◌, ◌++◌, length}
use Rattle.esm_record.specs.Fed.{in_blocks}
use Rattle.esm_record.proofs.fed_bytes.push_blocks.Given as goal

abbrev pub invariant-loop-block : goal.invariant-loop-block
invariant-loop-block l = in_blocks l.noted.items ++ l.rest ≡ in_blocks l.fn.noted.items ++ l.fn.bytes

abbrev pub decreases-loop-block : goal.decreases-loop-block
decreases-loop-block l = length l.rest
