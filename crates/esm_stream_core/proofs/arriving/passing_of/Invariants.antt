use Rattle.std.proofs.Common.{◌≡◌, ℕ, ◌+◌, ◌<◌, take, length, get_or, false, not}
use Rattle.esm_model.specs.Entries.{holds}
use Rattle.esm_stream_core.proofs.arriving.passing_of.Given as goal

abbrev pub invariant-loop-place : goal.invariant-loop-place
invariant-loop-place l = record {
  all : length l.passing.items ≡ l.count;
  each : (k : ℕ) → k < l.count → get_or l.passing.items k false ≡ not (holds (take l.place-index l.refused) (l.first + k));
}
