use Rattle.std.proofs.Common.{◌≡◌, ℕ, ◌+◌, length}
use Rattle.esm_shard_index.specs.Callings.{calls_at, response_at}
use Rattle.esm_shard_index.proofs.callings.Callings.came.Given as goal

abbrev pub invariant-loop-i : goal.invariant-loop-i
invariant-loop-i l = record {
  len : length l.self.records ≡ length l.initial.self.records + l._i;
  calls : (i : ℕ) → calls_at l.self i ≡ calls_at l.initial.self i;
  responses : (i : ℕ) → response_at l.self i ≡ response_at l.initial.self i;
  room : l.self.room + l._i ≡ l.initial.self.room;
}
