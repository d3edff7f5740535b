use Rattle.std.proofs.Common.{◌≡◌, ℕ, ◌+◌, ◌<◌, ◌≤◌, true, length, cond, ◌==◌}
use Rattle.esm_queue_model.specs.Queue.{is_group}
use Rattle.esm_queue.specs.declared.links.TheConstants.{NONE}
use Rattle.esm_queue.specs.Links.{group_at, founder_at}
use Rattle.esm_queue.specs.Names.{bucket_of, bucket_at}
use Rattle.esm_queue.proofs.names.founder_of.Given as goal

abbrev pub invariant-loop-at : goal.invariant-loop-at
invariant-loop-at l = record {
  stands : (l.at ≡ NONE → ⊥) → (l.at < length l.messages) × (founder_at l.links l.at ≡ l.at) × (bucket_at (length l.buckets) l.messages l.at ≡ bucket_of (length l.buckets) l.group);
  rest : (j : ℕ) → j < length l.messages → founder_at l.links j ≡ j → is_group (group_at l.messages j) l.group ≡ true → (j ≤ l.at) × (l.at < length l.messages);
}

abbrev pub decreases-loop-at : goal.decreases-loop-at
decreases-loop-at l = cond (l.at == NONE) 0 (l.at + 1)
