-- The writes so far did nothing.
use Rattle.std.specs.Io.KnownBytes.{Keeps}
use Rattle.esm_host.proofs.again.write_again.Given as goal

abbrev pub invariant-loop : goal.invariant-loop
invariant-loop g l = Keeps (g.S.Write.contents l.initial.sink) (g.S.Write.contents l.sink)
