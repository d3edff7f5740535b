use Rattle.esm_record.proofs.Blocks.{Taken}
use Rattle.esm_record.proofs.splitter.Splitter.take_lines.Given as goal

abbrev pub invariant-loop-parsed : goal.invariant-loop-parsed
invariant-loop-parsed l = Taken l.fn.items.items l.fn.self l.yielded l.items.items l.self
