use Rattle.std.proofs.Common.{◌≡◌, drop}
use Rattle.esm_journal_state.specs.Meaning.{any_named, is_spent}
use Rattle.esm_journal_state.specs.Table.{known_in}
use Rattle.esm_journal_state.proofs.judge.any_spent.Given as goal

abbrev pub invariant-loop-index : goal.invariant-loop-index
invariant-loop-index l = any_named (is_spent (known_in l.table) l.shard) (drop l.index l.places) (drop l.index l.texts) ≡ any_named (is_spent (known_in l.table) l.shard) l.places l.texts
