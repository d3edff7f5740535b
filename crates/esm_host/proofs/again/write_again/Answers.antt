-- What came before the write that counts did nothing.
use Rattle.esm_host.proofs.again.write_again.Goals as goal
use Rattle.esm_host.proofs.Repeats.{write_nothing, write_after}

pub returns-then-not-is_interrupted-clause-bytes : goal.returns-then-not-is_interrupted-clause-bytes
returns-then-not-is_interrupted-clause-bytes g c =
    write_after _ _ _ _ _ _ c.loop.invariant c.write-count.ensures.bytes c.some_taken.ensures.same c.some_taken.ensures.failed

pub loop-preserved : goal.loop-preserved
loop-preserved g c =
    write_nothing _ _ _ _ _ _ c.loop.invariant c.write-count.ensures.bytes (c.is_interrupted.ensures.0 c.if-not-is_interrupted.false)
