use Rattle.esm_serial.proofs.Bringing.{err_stop}
use Rattle.esm_serial.proofs.reading.note.Goals as goal

pub returns-clause-stop : goal.returns-clause-stop
returns-clause-stop g c =
    err_stop g.B.Serial g.C.Clock.gave c.args.book.now c.bring-came.new.self c.args.list.items c.requires.going c.requires.few c.bring-came.result c.stopped.result c.stopped.ensures c.requires.unchanged
    c.bring-came.ensures.tells c.bring-came.ensures.down (λ change is. (c.bring-came.ensures.changed change is, c.bring-came.ensures.refused change is))
