use Rattle.esm_run.specs.World.{door_of, serve_tells}
use Rattle.esm_run.proofs.Serves.{serve_cut}
use Rattle.esm_run.proofs.serving.serve.Goals as goal

pub returns-clause-want_of_memory : goal.returns-clause-want_of_memory
returns-clause-want_of_memory g c = λ short.
    serve_cut (serve_tells g.C.Clock g.L.Conn.Link g.D.Disk) c.args.world.registry c.serve_file-end.result.disk
    (door_of g.L.Door.faults g.L.Door.closed c.args.world.door c.serve_file-end.new.door) c.args.requests c.serve_file-end.result.end c.serve_file-end.ensures.end c.serve_file-end.ensures.cut
