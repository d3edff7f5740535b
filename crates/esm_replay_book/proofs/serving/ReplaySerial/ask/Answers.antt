use Rattle.esm_io.specs.Meanings.{disk}
use Rattle.std.proofs.Common.{Ok, Err}
use Rattle.esm_replay_book.specs.Books.{BookState}
use Rattle.esm_replay_book.proofs.Knowing.{AskBy, asked_with, not_asked}
use Rattle.esm_replay_book.proofs.serving.ReplaySerial.ask.Goals as goal

pub returns-in-Ok : goal.returns-in-Ok
returns-in-Ok g c =
    let old : BookState g.row.D.Denot = c.args.self.now in
    let new : BookState g.row.D.Denot = c.next-answer.new.self in
    let e = c.in-Ok.ensures in
    let by : AskBy (disk g.D.Disk) c.args.moment old new (Ok c.in-Ok.next) = record { answer = e.answer; added = e.added; runs = e.runs; no_fault = e.no_fault; no_dest = e.no_dest; down = e.down; left = e.left; no_memory = e.no_memory } in
    let b = asked_with (disk g.D.Disk) c.args.moment old new c.requires.rests c.know.ensures c.in-Ok.next c.next_as.result c.next_as.ensures by in
    record { since = b.since; items = b.items; change = b.change; function = b.function; shut = λ was. tt; answer = b.answer; finished = b.finished; spent = b.spent; rests = b.rests; up = b.up; down = b.down }

pub returns-in-Err : goal.returns-in-Err
returns-in-Err g c =
    let old : BookState g.row.D.Denot = c.args.self.now in
    let new : BookState g.row.D.Denot = c.next-answer.new.self in
    let e = c.in-Err.ensures in
    let by : AskBy (disk g.D.Disk) c.args.moment old new (Err c.in-Err.why) = record { answer = e.answer; added = e.added; runs = e.runs; no_fault = e.no_fault; no_dest = e.no_dest; down = e.down; left = e.left; no_memory = e.no_memory } in
    let b = not_asked (disk g.D.Disk) c.args.moment old new c.requires.rests c.know.ensures c.in-Err.why by in
    record { since = b.since; items = b.items; change = b.change; function = b.function; shut = λ was. tt; answer = b.answer; finished = b.finished; spent = b.spent; rests = b.rests; up = b.up; down = b.down }
