use Rattle.std.proofs.Common.{◌≡◌, ◌==◌, ◌&&◌, ℕ, None, take, if◌then◌else◌}
use Rattle.std.specs.BTreeMap as map
use Rattle.esm_model.specs.Entries.{holds}
use Rattle.esm_journal_state.specs.Table.{pair_cmp}
use Rattle.esm_journal_state.proofs.table.drop_tries.Given as goal

abbrev pub invariant-loop-place : goal.invariant-loop-place
invariant-loop-place l = (n i : ℕ) → map.get pair_cmp l.tries (n, i) ≡ (if (l.shard == n) && holds (take l.place-index l.places) i then None else map.get pair_cmp l.initial.tries (n, i))
