use Rattle.std.proofs.Common.{◌≡◌, drop}
use Rattle.esm_journal_state.specs.Meaning.{any_named, is_no_replay}
use Rattle.esm_journal_state.specs.Table.{known_in}
use Rattle.esm_journal_state.proofs.judge.any_no_replay.Given as goal

abbrev pub invariant-loop-index : goal.invariant-loop-index
invariant-loop-index l = any_named (is_no_replay (known_in l.table) l.shard) (drop l.index l.places) (drop l.index l.texts) ≡ any_named (is_no_replay (known_in l.table) l.shard) l.places l.texts
