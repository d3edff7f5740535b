use Rattle.esm_io.specs.Meanings.{disk}
use Rattle.esm_replay_book.specs.Books.{BookState}
use Rattle.esm_replay_book.proofs.Knowing.{DoneBy, ended_with}
use Rattle.esm_replay_book.proofs.serving.ReplaySerial.end_call.Goals as goal

pub returns : goal.returns
returns g c =
    let old : BookState g.row.D.Denot = c.args.self.now in
    let new : BookState g.row.D.Denot = c.done-answer.new.self in
    let e = c.done-answer.ensures in
    let by : DoneBy (disk g.D.Disk) c.args.moment old new c.args.job c.args.reply c.done-answer.result = record { added = e.added; stopped = e.stopped; no_dest = e.no_dest; not_down = e.not_down; up = e.up; no_memory = e.no_memory } in
    let b = ended_with (disk g.D.Disk) c.args.moment old new c.args.job c.args.reply c.requires.runs c.know.ensures c.done-answer.result by in
    record { called = b.called; rests = b.rests; items = b.items; change = b.change; function = b.function; shut = λ was. tt; no_end = b.no_end; runs = b.runs; down = b.down }
