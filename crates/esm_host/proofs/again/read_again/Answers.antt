-- What came before the read that counts did nothing.
use Rattle.esm_host.proofs.again.read_again.Goals as goal
use Rattle.esm_host.proofs.Repeats.{read_nothing, read_after}

pub returns-then-not-is_interrupted-clause-bytes : goal.returns-then-not-is_interrupted-clause-bytes
returns-then-not-is_interrupted-clause-bytes g c =
    read_after _ _ _ _ _ c.loop.invariant c.read-count.ensures.bytes

pub loop-preserved : goal.loop-preserved
loop-preserved g c =
    read_nothing _ _ _ _ _ _ c.loop.invariant c.read-count.ensures.bytes (c.is_interrupted.ensures.0 c.if-not-is_interrupted.false)
