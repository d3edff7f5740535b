-- The view of a core, and what holds of each. Only this crate's proofs cite this.
use Rattle.std.specs.Prelude.{length, reverse}
use Rattle.std.specs.Vec.{vec_capacity}
use Rattle.esm_queue_core.specs.declared.queue_core.QueueCore.TheInside.{Inside}
use Rattle.esm_queue_core.specs.CoreView.{CoreView}
use Rattle.esm_queue_core.specs.Kept.{Parts, IsKept, seen_of}

abbrev pub parts_of : Inside → Parts
parts_of c = record {
  config = c.config;
  calls = c.calls;
  visibility = c.visibility_ms;
  deletions = c.said.deletions;
  criteria = c.criteria;
  held = c.queue;
  past = reverse c.history.items;
  number = length c.history.items;
  capacity = vec_capacity c.history;
  last = c.last;
  shut = c.shut;
  begun = c.begun;
  deleted = c.deleted;
  running = c.running;
  coming = c.coming.items;
  first = c.first;
  gift = c.gift;
  standing = c.standing;
}

abbrev pub view_of : Inside → CoreView
view_of c = seen_of (parts_of c)

abbrev pub IsCore : Inside → Type 0
IsCore c = IsKept (parts_of c)
