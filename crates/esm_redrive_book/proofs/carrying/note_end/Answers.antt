use Rattle.esm_book.specs.Decided.{added}
use Rattle.esm_redrive_core.specs.Told.{history_of}
use Rattle.esm_redrive_book.proofs.Ending.{noted_end}
use Rattle.esm_redrive_book.proofs.carrying.note_end.Goals as goal

pub returns : goal.returns
returns g c =
    let old = c.args.durable.now in
    let new = c.note.new.self in
    let e = c.note.ensures in
    noted_end old new c.args.job c.args.reply c.args.moment (added (history_of old.core) (history_of new.core)) c.requires.sound c.requires.down c.requires.runs
    (record { history = e.history; origin = e.origin; before = c.keeps.ensures.core; after = c.keeps-2.ensures.core }) e.noted e.owed e.rest
