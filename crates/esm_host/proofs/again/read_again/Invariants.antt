-- The reads so far did nothing.
use Rattle.std.specs.Io.KnownBytes.{Keeps}
use Rattle.esm_host.proofs.again.read_again.Given as goal

abbrev pub invariant-loop : goal.invariant-loop
invariant-loop g l = Keeps (g.S.Read.remaining l.initial.source) (g.S.Read.remaining l.source)
