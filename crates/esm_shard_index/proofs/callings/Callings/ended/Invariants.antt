use Rattle.std.proofs.Common.{◌≡◌, ℕ, length, take}
use Rattle.std.specs.Prelude.{if◌then◌else◌}
use Rattle.esm_model.specs.Entries.{holds}
use Rattle.esm_shard_index.specs.Callings.{calls_at, response_at}
use Rattle.esm_shard_index.proofs.callings.Callings.ended.Given as goal

abbrev pub invariant-loop-place : goal.invariant-loop-place
invariant-loop-place l = record {
  len : length l.self.records ≡ length l.initial.self.records;
  calls : (i : ℕ) → calls_at l.self i ≡ calls_at l.initial.self i;
  responses : (i : ℕ) → response_at l.self i ≡ (if holds (take l.place-index l.places) i then l.response else response_at l.initial.self i);
  room : l.self.room ≡ l.initial.self.room;
}
