-- The invariant of a lane as it is kept. This product's own.
use Rattle.std.specs.Prelude.{◌+◌, ◌<◌, ◌≤◌, length}
use Rattle.std.specs.VecDeque.{deque_len, deque_capacity}
use Rattle.esm_lanes.specs.declared.queue.PieceQueue.TheInside.{Inside}
use Rattle.esm_lanes.specs.Run.{IsLaid}

-- The runs cover the places, whose number fits 32 bits. The reserved memory is there: room for a place for each add, and for
-- a run for each add and each split.
pub record IsQueue (q : Inside) : Type 0 where
  pub laid : IsLaid q.places.places q.runs.items
  pub few : length q.places.places < 4294967296
  pub room_for_places : q.adds ≤ q.places.spare
  pub room_for_runs : deque_len q.runs + q.adds + q.splits ≤ deque_capacity q.runs
