use Rattle.std.proofs.Common.{◌≡◌, ℕ, true, take}
use Rattle.esm_model.specs.Entries.{holds}
use Rattle.esm_shard_index.specs.WindowEntries.{count_at, has_entry}
use Rattle.esm_shard_index.proofs.window_counts.WindowCounts.prepare.Given as goal

abbrev pub invariant-loop-window : goal.invariant-loop-window
invariant-loop-window l = record {
  counts : (w : ℕ) → count_at l.self w ≡ count_at l.initial.self w;
  entries : (w : ℕ) → has_entry l.initial.self w ≡ true → has_entry l.self w ≡ true;
  prepared : (w : ℕ) → holds (take l.window-index l.windows) w ≡ true → has_entry l.self w ≡ true;
}
