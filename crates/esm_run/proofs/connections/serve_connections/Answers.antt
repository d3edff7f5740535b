use Rattle.std.proofs.Common.{◌∙◌, arith, refl, sym}
use Rattle.esm_run.specs.Serving.{HaveServedUpTo}
use Rattle.esm_run.specs.World.{door_of, serve_tells}
use Rattle.esm_run.proofs.Results.{on_err}
use Rattle.esm_run.proofs.Visits.{down_served, have_served_then, have_served_up_to}
use Rattle.esm_run.proofs.connections.serve_connections.Goals as goal

pub returns-in_err-serve_connection-clause-cut : goal.returns-in_err-serve_connection-clause-cut
returns-in_err-serve_connection-clause-cut g c =
    let o = serve_tells g.C.Clock g.L.Conn.Link g.D.Disk in
    let door = door_of g.L.Door.faults g.L.Door.closed c.args.door.now in
    let visit = c.in_err-serve_connection.ensures.cut in
    on_err c.from_residual.result (HaveServedUpTo o c.args.registry.now c.serve_connection.new.registry (door c.serve_connection.new.door))
    (have_served_up_to o c.args.registry.now c.loop-accepted.registry c.serve_connection.new.registry (door c.loop-accepted.door) (door c.serve_connection.new.door) (g.L.Door.closed c.accept.new.self)
    c.loop-accepted.accepted visit.0 refl c.accept.ensures.kept c.loop-accepted.invariant.served visit.1)

pub returns-then-down-clause-served : goal.returns-then-down-clause-served
returns-then-down-clause-served g c =
    let o = serve_tells g.C.Clock g.L.Conn.Link g.D.Disk in
    let door = door_of g.L.Door.faults g.L.Door.closed c.args.door.now in
    let visit = c.in_ok-serve_connection.ensures.served in
    have_served_then o c.args.registry.now c.loop-accepted.registry c.serve_connection.new.registry (door c.loop-accepted.door) (door c.serve_connection.new.door) (g.L.Door.closed c.accept.new.self)
    c.loop-accepted.accepted visit.0 refl c.accept.ensures.kept c.loop-accepted.invariant.served visit.1 visit.2

pub returns-then-down-clause-stop : goal.returns-then-down-clause-stop
returns-then-down-clause-stop g c =
    let o = serve_tells g.C.Clock g.L.Conn.Link g.D.Disk in
    let visit = c.in_ok-serve_connection.ensures.served in
    let down = sym c.down.ensures.down ∙ c.if-down.true in
    (down_served o visit.0 (g.D.Disk.faults c.args.registry.now.journal.disk) c.loop-accepted.registry c.serve_connection.new.registry c.loop-accepted.invariant.disk down visit.1, down)

pub loop-accepted-preserved : goal.loop-accepted-preserved
loop-accepted-preserved g c =
    let o = serve_tells g.C.Clock g.L.Conn.Link g.D.Disk in
    let door = door_of g.L.Door.faults g.L.Door.closed c.args.door.now in
    let visit = c.in_ok-serve_connection.ensures.served in
    record {
      served = have_served_then o c.args.registry.now c.loop-accepted.registry c.serve_connection.new.registry (door c.loop-accepted.door) (door c.serve_connection.new.door) (g.L.Door.closed c.accept.new.self)
          c.loop-accepted.accepted visit.0 refl c.accept.ensures.kept c.loop-accepted.invariant.served visit.1 visit.2;
      up = sym c.down.ensures.down ∙ c.if-down.false;
      door = omega (arith, c.loop-accepted.invariant.door, c.accept.ensures.count.never_falls, c.serve_connection.ensures.count);
      disk = omega (arith, c.loop-accepted.invariant.disk, visit.1.visit.never_falls);
    }
