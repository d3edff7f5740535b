use Rattle.std.proofs.Common.{Err, inl, inr, ap, ◌∙◌}
use Rattle.esm_io.specs.Meanings.{disk, destination}
use Rattle.esm_book.specs.Answers.{trouble_after}
use Rattle.esm_book.specs.Decided.{added}
use Rattle.esm_redrive_core.specs.declared.decisions.RedriveAnswer.{RedriveAnswer}
use Rattle.esm_redrive_core.specs.Told.{history_of}
use Rattle.esm_redrive_core.specs.RedriveView.{all_messages}
use Rattle.esm_redrive_core.specs.Sound.{Sound}
use Rattle.esm_redrive_core.proofs.Telling.{none_told}
use Rattle.esm_redrive_book.proofs.Going.{Went}
use Rattle.esm_redrive_book.proofs.Ending.{carried_all, carried_some, undelivered, found_change, carried_none}
use Rattle.esm_redrive_book.proofs.carrying.carry.Goals as goal

pub returns-in-Ok : goal.returns-in-Ok
returns-in-Ok g c =
    let m = disk g.D.Disk in
    let n = destination g.T.Dest in
    let old = c.args.durable.now in
    let new = c.carry_out.new.self in
    let e = c.in-Ok.ensures in
    let k = c.keeps-in-Ok.ensures in
    let X = added (history_of old.core) (history_of new.core) in
    let went : Went old.core new.core X = record { history = e.history; origin = e.origin; before = c.keeps.ensures.core; after = k.core } in
    let sound : Sound old.core.setting old.core.past = record { legal = c.requires.sound.legal; settled = c.requires.sound.settled c.requires.up } in
    let ahead = c.decided_is_sound.ensures old.core c.args.call c.in-Ok.answer c.keeps.ensures.core sound c.requires.may e.decided.answer_is in
    carried_all m n old new c.args.call X went ahead c.in-Ok.answer e.decided (none_told (all_messages new.core) new.core.owed e.settled) e.trouble c.requires.up e.quiet (e.grown c.requires.up) (e.images (c.keeps.ensures.up c.requires.up)) e.found e.found_dest e.kept k.up

pub returns-in-Err-DiskFault : goal.returns-in-Err-DiskFault
returns-in-Err-DiskFault g c =
    let m = disk g.D.Disk in
    let n = destination g.T.Dest in
    let old = c.args.durable.now in
    let new = c.carry_out.new.self in
    let e = c.in-Err-DiskFault.ensures in
    let is = c.in-Err-DiskFault.field-0-is in
    let begun = e.begun (inl (ap Err is)) in
    let X = added (history_of old.core) (history_of new.core) in
    let went : Went old.core new.core X = record { history = e.history; origin = e.origin; before = c.keeps.ensures.core; after = c.keeps-in-Err-DiskFault.ensures.core } in
    let sound : Sound old.core.setting old.core.past = record { legal = c.requires.sound.legal; settled = c.requires.sound.settled c.requires.up } in
    let ahead = c.decided_is_sound.ensures old.core c.args.call begun.0 c.keeps.ensures.core sound c.requires.may begun.1.answer_is in
    carried_some m n old new c.args.call X went ahead begun.0 begun.1 (e.trouble ∙ ap (λ x. trouble_after {A = RedriveAnswer} (Err x) old.trouble) is) (e.appending (ap Err is)) (rw is at (e.grown c.requires.up)) (rw is at (e.images (c.keeps.ensures.up c.requires.up))) e.found e.found_dest (e.disk_fault (ap Err is))

pub returns-in-Err-DestFault : goal.returns-in-Err-DestFault
returns-in-Err-DestFault g c =
    let m = disk g.D.Disk in
    let n = destination g.T.Dest in
    let old = c.args.durable.now in
    let new = c.carry_out.new.self in
    let e = c.in-Err-DestFault.ensures in
    let is = c.in-Err-DestFault.field-0-is in
    let begun = e.begun (inr (ap Err is)) in
    let X = added (history_of old.core) (history_of new.core) in
    let went : Went old.core new.core X = record { history = e.history; origin = e.origin; before = c.keeps.ensures.core; after = c.keeps-in-Err-DestFault.ensures.core } in
    let sound : Sound old.core.setting old.core.past = record { legal = c.requires.sound.legal; settled = c.requires.sound.settled c.requires.up } in
    let ahead = c.decided_is_sound.ensures old.core c.args.call begun.0 c.keeps.ensures.core sound c.requires.may begun.1.answer_is in
    undelivered m n old new c.args.call X went ahead begun.0 begun.1 (e.trouble ∙ ap (λ x. trouble_after {A = RedriveAnswer} (Err x) old.trouble) is) (e.delivering (ap Err is)) (rw is at (e.grown c.requires.up)) (rw is at (e.images (c.keeps.ensures.up c.requires.up))) e.found e.found_dest (e.dest_fault (ap Err is))

pub returns-in-Err-Changed : goal.returns-in-Err-Changed
returns-in-Err-Changed g c =
    let is = c.in-Err-Changed.field-0-is in
    let left = rw is at c.in-Err-Changed.ensures.unchanged in
    let refuses = rw is at c.in-Err-Changed.ensures.changed in
    found_change c.args.durable.now c.carry_out.new.self c.args.call c.in-Err-Changed.change c.requires.sound c.requires.up c.requires.may refuses left

pub returns-in-Err-OutOfMemory : goal.returns-in-Err-OutOfMemory
returns-in-Err-OutOfMemory g c =
    let n = destination g.T.Dest in
    let left = rw c.in-Err-OutOfMemory.field-0-is at c.in-Err-OutOfMemory.ensures.unchanged in
    carried_none n c.args.durable.now c.carry_out.new.self c.requires.sound (record { rest = left.0; dest = left.1 })
