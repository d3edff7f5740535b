use Rattle.std.proofs.Common.{◌≡◌, length}
use Rattle.esm_api.specs.Head.{from_request_line}
use Rattle.esm_api.proofs.head.from_request_line.Given as goal

abbrev pub invariant-loop-rest : goal.invariant-loop-rest
invariant-loop-rest l = from_request_line l.rest ≡ from_request_line l.fn.bytes

abbrev pub decreases-loop-rest : goal.decreases-loop-rest
decreases-loop-rest l = length l.rest
