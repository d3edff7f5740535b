use Rattle.std.proofs.Common.{◌≡◌, ℕ, ◌+◌, take, drop}
use Rattle.std.specs.Prelude.{unwrap_or}
use Rattle.std.specs.Ordering.{nat_cmp}
use Rattle.std.specs.BTreeMap.{get}
use Rattle.esm_model.specs.Entries.{came_count}
use Rattle.esm_ledger.specs.Ledger.{past_of, setting_of}
use Rattle.esm_ingest.specs.Coming.{count_of}
use Rattle.esm_ingest.specs.Changes.{first_change_from, first_change}
use Rattle.esm_ingest.proofs.change.first_change.Given as goal

abbrev pub invariant-loop-item : goal.invariant-loop-item
invariant-loop-item l = record {
  places : (n : ℕ) → unwrap_or (get nat_cmp l.next n) (came_count (past_of l.ledger) n) ≡ came_count (past_of l.ledger) n + count_of n (take l.item-index l.items);
  so_far : first_change_from (setting_of l.ledger) (past_of l.ledger) (take l.item-index l.items) (drop l.item-index l.items) ≡ first_change (setting_of l.ledger) (past_of l.ledger) l.items;
}
