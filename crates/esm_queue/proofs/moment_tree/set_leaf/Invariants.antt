use Rattle.std.proofs.Common.{◌≡◌, ◌+◌, ◌/◌, ◌<◌, ◌≤◌, length, drop, set}
use Rattle.esm_queue.specs.Nodes.{HasLeast}
use Rattle.esm_queue.proofs.moment_tree.set_leaf.Given as goal

abbrev pub decreases-loop-node : goal.decreases-loop-node
decreases-loop-node l = l.node

abbrev pub invariant-loop-node : goal.invariant-loop-node
invariant-loop-node l = record {
  some : 1 ≤ l.node;
  within : l.node < l.width + l.width;
  whole : length l.nodes ≡ l.width + l.width;
  least : HasLeast (l.node / 2) l.width l.nodes;
  leaves : drop l.width l.nodes ≡ set (drop l.width l.fn.nodes) l.place l.moment;
}
