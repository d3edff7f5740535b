use Rattle.esm_registry.proofs.Histories.{HasTaken}
use Rattle.esm_registry.proofs.opening.table_of.Given as goal

abbrev pub invariant-loop-index : goal.invariant-loop-index
invariant-loop-index l = HasTaken l.payloads l.index l.table
