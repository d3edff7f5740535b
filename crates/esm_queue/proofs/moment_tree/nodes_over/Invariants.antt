use Rattle.std.proofs.Common.{◌≡◌, ℕ, ◌+◌, ◌<◌, ◌≤◌, length}
use Rattle.std.specs.Prelude.{slice_index}
use Rattle.esm_queue.specs.declared.moment_tree.TheConstants.{NEVER}
use Rattle.esm_queue.specs.Nodes.{HasLeast}
use Rattle.esm_queue.proofs.moment_tree.nodes_over.Given as goal

abbrev pub invariant-loop-place : goal.invariant-loop-place
invariant-loop-place l = record {
  whole : length l.nodes.items ≡ l.width + l.width;
  least : HasLeast 0 l.width l.nodes.items;
  leaves : (i : ℕ) → i < l.place → slice_index l.nodes.items (l.width + i) ≡ slice_index l.moments i;
  blank : (i : ℕ) → l.width + l.place ≤ i → i < l.width + l.width → slice_index l.nodes.items i ≡ NEVER;
}
