use Rattle.std.proofs.Common.{◌≡◌, drop}
use Rattle.esm_journal_state.specs.Meaning.{any_named, is_deleted}
use Rattle.esm_journal_state.specs.Table.{known_in}
use Rattle.esm_journal_state.proofs.judge.any_deleted.Given as goal

abbrev pub invariant-loop-index : goal.invariant-loop-index
invariant-loop-index l = any_named (is_deleted (known_in l.table)) (drop l.index l.places) (drop l.index l.texts) ≡ any_named (is_deleted (known_in l.table)) l.places l.texts
