use Rattle.std.proofs.Common.{◌∙◌, ap, inr}
use Rattle.esm_journal.specs.State.{JournalState}
use Rattle.esm_run.specs.World.{door_of, serve_tells}
use Rattle.esm_run.proofs.Serves.{has_served, has_served_up_to}
use Rattle.esm_run.proofs.registry_file.serve_registry.Goals as goal

pub returns-in-Ok-clause-end : goal.returns-in-Ok-clause-end
returns-in-Ok-clause-end g c = λ disk opened.
    let o = serve_tells g.C.Clock g.L.Conn.Link g.D.Disk in
    let door = door_of g.L.Door.faults g.L.Door.closed c.args.door.now c.serve_connections-served.new.door in
    has_served o disk c.into_disk-disk.result door c.args.requests c.in-Ok.accepted c.args.registry c.serve_connections-served.new.registry opened c.in-Ok.ensures.served c.in-Ok.ensures.stop
    (c.into_disk-disk.ensures ∙ ap (λ (j : JournalState g.row.D.Denot). j.disk) c.into_journal.ensures)

pub returns-in-Err-clause-cut : goal.returns-in-Err-clause-cut
returns-in-Err-clause-cut g c = λ disk opened.
    let o = serve_tells g.C.Clock g.L.Conn.Link g.D.Disk in
    let door = door_of g.L.Door.faults g.L.Door.closed c.args.door.now c.serve_connections-served.new.door in
    inr (has_served_up_to o disk c.into_disk-disk.result door c.args.registry c.serve_connections-served.new.registry opened c.in-Err.ensures.cut
    (c.into_disk-disk.ensures ∙ ap (λ (j : JournalState g.row.D.Denot). j.disk) c.into_journal.ensures))
