use Rattle.std.proofs.Common.{◌≡◌, ◌≤◌, ◌-◌, length}
use Rattle.std.specs.Prelude.{filter}
use Rattle.std.specs.Ordering.{nat_cmp}
use Rattle.std.specs.BTreeSet.{contains}
use Rattle.esm_model.specs.Fates.{below}
use Rattle.esm_queue_model.specs.Queue.{is_eligible}
use Rattle.esm_queue.proofs.Eligible.{queue_of}
use Rattle.esm_queue.proofs.Waiting.{Waits}
use Rattle.esm_queue.proofs.fifo.first_places.Given as goal

abbrev pub decreases-loop-waiting : goal.decreases-loop-waiting
decreases-loop-waiting l = length l.messages - l.from

abbrev pub invariant-loop-waiting : goal.invariant-loop-waiting
invariant-loop-waiting l = record {
  within : l.from ≤ length l.messages;
  few : length l.places.items ≤ l.max;
  so_far : l.places.items ≡ filter (is_eligible (queue_of l.groups.fifo l.visibility_ms l.messages) l.now) (below l.from);
  waits : Waits l.groups.fifo l.visibility_ms l.now l.messages l.groups.links.items l.from (contains nat_cmp l.waiting);
}
