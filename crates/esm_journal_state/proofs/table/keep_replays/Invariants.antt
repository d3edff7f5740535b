use Rattle.std.proofs.Common.{◌≡◌, ◌==◌, ◌&&◌, ◌||◌, ℕ, take}
use Rattle.std.specs.BTreeSet as set
use Rattle.esm_model.specs.Entries.{holds}
use Rattle.esm_journal_state.specs.Table.{pair_cmp}
use Rattle.esm_journal_state.proofs.table.keep_replays.Given as goal

abbrev pub invariant-loop-place : goal.invariant-loop-place
invariant-loop-place l = (n i : ℕ) → set.contains pair_cmp l.replays (n, i) ≡ (((l.shard == n) && holds (take l.place-index l.places) i) || set.contains pair_cmp l.initial.replays (n, i))
