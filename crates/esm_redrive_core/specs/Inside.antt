-- What contracts see of the core of a redrive, and its invariant. Only this crate's proofs cite this.
use Rattle.std.specs.Prelude.{length, reverse}
use Rattle.std.specs.Vec.{vec_capacity}
use Rattle.esm_redrive_core.specs.declared.redrive_core.RedriveCore.TheInside.{Inside}
use Rattle.esm_redrive_core.specs.RedriveView.{RedriveView}
use Rattle.esm_redrive_core.specs.Kept.{Parts, IsKept, seen_of}

abbrev pub parts_of : Inside → Parts
parts_of c = record {
  config = c.config;
  calls = c.calls;
  visibility = c.visibility_ms;
  deletions = c.said.deletions;
  dead = c.dead;
  criteria = c.criteria;
  limited = c.queue;
  past = reverse c.history.items;
  number = length c.history.items;
  capacity = vec_capacity c.history;
  last = c.last;
  shut = c.shut;
  begun = c.begun;
  deleted = c.deleted;
  running = c.running;
  coming = c.coming.items;
  first = c.first;
  gifts = reverse c.gifts.items;
}

abbrev pub view_of : Inside → RedriveView
view_of c = seen_of (parts_of c)

abbrev pub IsCore : Inside → Type 0
IsCore c = IsKept (parts_of c)
