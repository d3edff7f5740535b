use Rattle.esm_registry.proofs.Written.{HasWritten}
use Rattle.esm_registry.proofs.table.Table.text.Given as goal

abbrev pub invariant-loop-mapping : goal.invariant-loop-mapping
invariant-loop-mapping l = HasWritten l.text.items l.later l.yielded
