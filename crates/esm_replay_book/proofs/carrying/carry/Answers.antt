use Rattle.std.proofs.Common.{Err, inl, ap, ◌∙◌}
use Rattle.esm_io.specs.Meanings.{disk}
use Rattle.esm_book.specs.Answers.{trouble_after}
use Rattle.esm_book.specs.Decided.{added}
use Rattle.esm_replay_core.specs.declared.decisions.ReplayAnswer.{ReplayAnswer}
use Rattle.esm_replay_core.specs.Told.{history_of}
use Rattle.esm_replay_book.proofs.Endings.{carried_all, carried_some}
use Rattle.esm_replay_book.proofs.carrying.carry.Goals as goal

pub returns-in-Ok : goal.returns-in-Ok
returns-in-Ok g c =
    let m = disk g.D.Disk in
    let old = c.args.durable.now in
    let new = c.carry_out.new.self in
    let e = c.in-Ok.ensures in
    let k = c.keeps-in-Ok.ensures in
    carried_all m _ old new c.args.call c.in-Ok.answer (added (history_of old.core) (history_of new.core)) c.requires.sound c.requires.up c.requires.may e.decided
    (record { history = e.history; origin = e.origin; payloads = (e.grown c.requires.up).appended.payloads; found = e.found }) k.run k.ahead k.said k.valid
    e.settled (e.trouble ∙ c.requires.up) (λ none. (e.quiet none).0) (e.images (c.keeps.ensures.up c.requires.up)) e.kept (k.up (e.trouble ∙ c.requires.up))

pub returns-in-Err-DiskFault : goal.returns-in-Err-DiskFault
returns-in-Err-DiskFault g c =
    let m = disk g.D.Disk in
    let old = c.args.durable.now in
    let new = c.carry_out.new.self in
    let e = c.in-Err-DiskFault.ensures in
    let is = c.in-Err-DiskFault.field-0-is in
    let k = c.keeps-in-Err-DiskFault.ensures in
    let begun = e.begun (inl (ap Err is)) in
    carried_some m _ old new c.args.call begun.0 (added (history_of old.core) (history_of new.core)) c.requires.sound begun.1
    (record { history = e.history; origin = e.origin; payloads = (e.grown c.requires.up).appended.payloads; found = e.found }) k.run k.ahead k.said k.valid
    (e.appending (ap Err is)) (e.trouble ∙ ap (λ x. trouble_after {A = ReplayAnswer} (Err x) old.trouble) is) (rw is at (e.images (c.keeps.ensures.up c.requires.up))) (e.disk_fault (ap Err is))
