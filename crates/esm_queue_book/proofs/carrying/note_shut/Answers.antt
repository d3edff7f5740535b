use Rattle.std.proofs.Common.{ap}
use Rattle.esm_queue_core.proofs.Tellings.{payload_in}
use Rattle.esm_book.specs.Decided.{added, written_of}
use Rattle.esm_queue_core.specs.Told.{history_of}
use Rattle.esm_queue_book.proofs.Noting.{note_went, noted_shut}
use Rattle.esm_queue_book.proofs.carrying.note_shut.Goals as goal

pub returns : goal.returns
returns g c =
    let old = c.args.durable.now in
    let new = c.note.new.self in
    let e = c.note.ensures in
    let X = added (history_of old.core) (history_of new.core) in
    noted_shut old new c.args.moment X c.requires.sound c.requires.up c.requires.going c.keeps.ensures.in_time c.shut_is_sound.ensures
    (note_went old new X e.history e.origin e.rest (ap (written_of payload_in) e.noted) c.keeps-2.ensures.messages c.keeps.ensures.messages c.keeps-2.ensures.rests) e.noted e.owed e.rest
