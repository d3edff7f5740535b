use Rattle.std.proofs.Common.{◌≡◌, ◌+◌, ◌++◌, length, map, filter, take, is_some}
use Rattle.esm_model.specs.declared.entry.Fate.{Fate}
use Rattle.esm_model.specs.Fates.{is_fate}
use Rattle.esm_shard_index.specs.FateCounts.{count_in}
use Rattle.esm_shard_index.proofs.progress.Progress.came.Given as goal

abbrev pub invariant-loop-fate : goal.invariant-loop-fate
invariant-loop-fate l = record {
  fated : l.self.fated ≡ l.initial.self.fated ++ map is_some (take l.fate-index l.found);
  counts : (f : Fate) → count_in l.self.counts f ≡ count_in l.initial.self.counts f + length (filter (is_fate f) (take l.fate-index l.found));
  room : l.self.room + l.fate-index ≡ l.initial.self.room;
}
