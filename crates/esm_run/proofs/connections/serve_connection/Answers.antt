use Rattle.std.proofs.Common.{None, Some, inl, inr}
use Rattle.esm_run.specs.Serving.{Connection, IsCutAt}
use Rattle.esm_run.specs.World.{serve_tells}
use Rattle.esm_run.proofs.Results.{on_err}
use Rattle.esm_run.proofs.Visits.{connection, is_dropped, is_served, is_visited, stands_served}
use Rattle.esm_run.proofs.connections.serve_connection.Goals as goal

pub returns-in_err-close-clause-cut : goal.returns-in_err-close-clause-cut
returns-in_err-close-clause-cut g c =
    let o = serve_tells g.C.Clock g.L.Conn.Link g.D.Disk in
    let e = c.serve_one-served.ensures in
    let one = is_visited o c.args.conn c.serve_one-served.new.link c.args.registry.now c.serve_one-served.new.registry c.now.result c.serve_one-served.result
    c.requires.fresh c.requires.faultless c.requires.up c.now.ensures e.answered e.cut e.fault e.link_cause e.unanswered e.honesty e.disk_never_falls in
    on_err c.from_residual.result
    ((x : Connection g.row.L-Conn.Denot) × IsCutAt o c.args.registry.now (Some x) c.serve_one-served.new.registry (g.L.Door.closed c.args.door.now) (g.L.Door.closed c.close.new.self))
    (connection c.args.conn c.serve_one-served.new.link one.0, (one.1, inl c.in_err-close.ensures.unlisted))

pub returns-in-Ok-clause-served : goal.returns-in-Ok-clause-served
returns-in-Ok-clause-served g c =
    let o = serve_tells g.C.Clock g.L.Conn.Link g.D.Disk in
    let one = is_served o c.args.conn c.serve_one-served.new.link c.args.registry.now c.serve_one-served.new.registry c.now.result
    c.requires.fresh c.requires.faultless c.requires.up c.now.ensures
    (stands_served o (connection c.args.conn c.serve_one-served.new.link None) c.args.registry.now c.serve_one-served.new.registry c.now.result c.in-Ok.field-0 c.requires.faultless
    c.in-Ok.ensures.answered c.in-Ok.ensures.cut c.in-Ok.ensures.fault c.in-Ok.ensures.link_cause)
    c.serve_one-served.ensures.honesty c.serve_one-served.ensures.disk_never_falls in
    (connection c.args.conn c.serve_one-served.new.link one.0, one.1, c.in_ok-close.ensures.listed)

pub returns-in-Err-clause-cut : goal.returns-in-Err-clause-cut
returns-in-Err-clause-cut g c =
    let o = serve_tells g.C.Clock g.L.Conn.Link g.D.Disk in
    let one = is_dropped o c.args.conn c.serve_one-served.new.link c.args.registry.now c.serve_one-served.new.registry c.now.result
    c.requires.fresh c.requires.faultless c.requires.up c.now.ensures c.in-Err.ensures.unanswered
    c.serve_one-served.ensures.honesty c.serve_one-served.ensures.disk_never_falls in
    (connection c.args.conn c.serve_one-served.new.link one.0, (inr one.1, inr c.in_ok-close.ensures.listed))
