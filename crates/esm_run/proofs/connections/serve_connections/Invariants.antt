use Rattle.std.proofs.Common.{◌≡◌, ◌≤◌, false}
use Rattle.esm_run.specs.Serving.{HaveServed}
use Rattle.esm_run.specs.World.{door_of, serve_tells}
use Rattle.esm_run.proofs.connections.serve_connections.Given as goal

abbrev pub invariant-loop-accepted : goal.invariant-loop-accepted
invariant-loop-accepted g l = record {
  served : HaveServed (serve_tells g.C.Clock g.L.Conn.Link g.D.Disk)
      l.fn.registry l.registry (door_of g.L.Door.faults g.L.Door.closed l.fn.door l.door) l.accepted;
  up : l.registry.journal.down ≡ false;
  door : g.L.Door.faults l.fn.door ≤ g.L.Door.faults l.door;
  disk : g.D.Disk.faults l.fn.registry.journal.disk ≤ g.D.Disk.faults l.registry.journal.disk;
}
