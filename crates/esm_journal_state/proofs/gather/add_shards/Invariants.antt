use Rattle.std.proofs.Common.{◌≡◌, ◌||◌, ◌==◌, ℕ, Some, true}
use Rattle.std.specs.List.{list_any}
use Rattle.std.specs.Ordering.{nat_cmp}
use Rattle.std.specs.BTreeSet as set
use Rattle.esm_journal_state.proofs.gather.add_shards.Given as goal

abbrev pub invariant-loop-key : goal.invariant-loop-key
invariant-loop-key g l = record {
  kept : (n : ℕ) → (list_any (λ e. e.0.0 == n) l.key-iterator || set.contains nat_cmp l.shards n) ≡ (list_any (λ e. e.0.0 == n) l.keyed.entries || set.contains nat_cmp l.initial.shards n);
  last : (m : ℕ) → l.last ≡ Some m → set.contains nat_cmp l.shards m ≡ true;
}
