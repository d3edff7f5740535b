use Rattle.std.proofs.Common.{◌≡◌, ℕ, ◌+◌, ◌<◌, ◌||◌, false, length, take, get_or}
use Rattle.esm_model.specs.declared.entry.Fate.{Fate}
use Rattle.esm_model.specs.Entries.{holds}
use Rattle.esm_model.specs.Fates.{same_fate}
use Rattle.esm_shard_index.specs.FateCounts.{count_in}
use Rattle.esm_shard_index.specs.Progress.{number_of}
use Rattle.esm_shard_index.proofs.progress.Progress.give.Given as goal

abbrev pub invariant-loop-place : goal.invariant-loop-place
invariant-loop-place l = record {
  len : length l.self.fated ≡ length l.initial.self.fated;
  fated : (i : ℕ) → i < length l.initial.self.fated → get_or l.self.fated i false ≡ (get_or l.initial.self.fated i false || holds (take l.place-index l.places) i);
  others : (f : Fate) → same_fate f l.fate ≡ false → count_in l.self.counts f ≡ count_in l.initial.self.counts f;
  given : count_in l.self.counts l.fate + number_of l.initial.self.fated ≡ count_in l.initial.self.counts l.fate + number_of l.self.fated;
  room : l.self.room ≡ l.initial.self.room;
}
