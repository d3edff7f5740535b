use Rattle.std.proofs.Common.{Err, inl, inr, ap, ◌∙◌}
use Rattle.esm_io.specs.Meanings.{disk, destination}
use Rattle.esm_book.specs.Answers.{trouble_after}
use Rattle.esm_book.specs.Decided.{added}
use Rattle.esm_stream_core.specs.declared.decisions.StreamAnswer.{StreamAnswer}
use Rattle.esm_stream_core.specs.Told.{history_of}
use Rattle.esm_stream_book.proofs.Endings.{carried_all, carried_some, undelivered, found_change, carried_none}
use Rattle.esm_stream_book.proofs.carrying.carry.Goals as goal

pub returns-in-Ok : goal.returns-in-Ok
returns-in-Ok g c =
    let m = disk g.D.Disk in
    let n = destination g.T.Dest in
    let old = c.args.durable.now in
    let new = c.carry_out.new.self in
    let e = c.in-Ok.ensures in
    let k = c.keeps-in-Ok.ensures in
    let grown = e.grown c.requires.up in
    carried_all m n old new c.args.call c.in-Ok.answer (added (history_of old.core) (history_of new.core)) c.requires.sound (c.keeps.ensures.rests (c.keeps.ensures.settled c.requires.up)) e.decided
    (record { history = e.history; origin = e.origin; payloads = grown.appended.payloads; found = e.found; found_dest = e.found_dest; records = k.records; bounds = k.bounds })
    e.settled e.trouble c.requires.up e.quiet grown.delivered.told (e.images (c.keeps.ensures.up c.requires.up)) e.kept k.up

pub returns-in-Err-DiskFault : goal.returns-in-Err-DiskFault
returns-in-Err-DiskFault g c =
    let m = disk g.D.Disk in
    let n = destination g.T.Dest in
    let old = c.args.durable.now in
    let new = c.carry_out.new.self in
    let e = c.in-Err-DiskFault.ensures in
    let k = c.keeps-in-Err-DiskFault.ensures in
    let is = c.in-Err-DiskFault.field-0-is in
    let begun = e.begun (inl (ap Err is)) in
    let grown = e.grown c.requires.up in
    carried_some m n old new c.args.call begun.0 (added (history_of old.core) (history_of new.core)) c.requires.sound (c.keeps.ensures.rests (c.keeps.ensures.settled c.requires.up)) begun.1
    (record { history = e.history; origin = e.origin; payloads = grown.appended.payloads; found = e.found; found_dest = e.found_dest; records = k.records; bounds = k.bounds })
    (e.trouble ∙ ap (λ x. trouble_after {A = StreamAnswer} (Err x) old.trouble) is) (e.appending (ap Err is)) (rw is at grown.delivered.told) (rw is at (e.images (c.keeps.ensures.up c.requires.up))) (e.disk_fault (ap Err is)) k.hand k.alone

pub returns-in-Err-DestFault : goal.returns-in-Err-DestFault
returns-in-Err-DestFault g c =
    let m = disk g.D.Disk in
    let n = destination g.T.Dest in
    let old = c.args.durable.now in
    let new = c.carry_out.new.self in
    let e = c.in-Err-DestFault.ensures in
    let k = c.keeps-in-Err-DestFault.ensures in
    let is = c.in-Err-DestFault.field-0-is in
    let begun = e.begun (inr (ap Err is)) in
    let grown = e.grown c.requires.up in
    undelivered m n old new c.args.call begun.0 (added (history_of old.core) (history_of new.core)) c.requires.sound (c.keeps.ensures.rests (c.keeps.ensures.settled c.requires.up)) begun.1
    (record { history = e.history; origin = e.origin; payloads = grown.appended.payloads; found = e.found; found_dest = e.found_dest; records = k.records; bounds = k.bounds })
    (e.trouble ∙ ap (λ x. trouble_after {A = StreamAnswer} (Err x) old.trouble) is) (e.delivering (ap Err is)) (rw is at grown.delivered.told) (rw is at (e.images (c.keeps.ensures.up c.requires.up))) (e.dest_fault (ap Err is)) k.hand k.alone

pub returns-in-Err-Changed : goal.returns-in-Err-Changed
returns-in-Err-Changed g c =
    let is = c.in-Err-Changed.field-0-is in
    let left = rw is at c.in-Err-Changed.ensures.unchanged in
    let refuses = rw is at c.in-Err-Changed.ensures.changed in
    found_change c.args.durable.now c.carry_out.new.self c.args.call c.in-Err-Changed.change c.requires.sound refuses left

pub returns-in-Err-OutOfMemory : goal.returns-in-Err-OutOfMemory
returns-in-Err-OutOfMemory g c =
    let n = destination g.T.Dest in
    let left = rw c.in-Err-OutOfMemory.field-0-is at c.in-Err-OutOfMemory.ensures.unchanged in
    carried_none n c.args.durable.now c.carry_out.new.self c.requires.sound (record { rest = left.0; dest = left.1 })
