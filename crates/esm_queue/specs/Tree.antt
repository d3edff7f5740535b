-- What holds of a tree of moments as it is kept. This product's own; cited by this crate's proofs alone.
use Rattle.std.specs.Prelude.{◌≡◌, ℕ, ◌+◌, ◌^◌, ◌<◌, ◌≤◌, length, slice_index}
use Rattle.esm_queue.specs.declared.moment_tree.MomentTree.TheInside.{Inside}
use Rattle.esm_queue.specs.declared.moment_tree.TheConstants.{NEVER}
use Rattle.esm_queue.specs.Nodes.{HasLeast}

pub record IsTree (t : Inside) : Type 0 where
  pub low : t.height ≤ 33
  pub power : t.width ≡ 2 ^ t.height
  pub few : t.width ≤ 2 ^ 33
  pub whole : length t.nodes.items ≡ t.width + t.width
  pub within : t.len ≤ t.width
  pub least : HasLeast 0 t.width t.nodes.items
  pub blank : (i : ℕ) → t.width + t.len ≤ i → i < t.width + t.width → slice_index t.nodes.items i ≡ NEVER
