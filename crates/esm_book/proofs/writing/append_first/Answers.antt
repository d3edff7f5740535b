use Rattle.std.proofs.Common.{rules, [], take}
use Rattle.esm_io.specs.Meanings.{disk}
use Rattle.esm_book.specs.Meanings.{decisions}
use Rattle.esm_book.proofs.Appending.{appended_none, appended_noted, appended_one, not_appended}
use Rattle.esm_book.proofs.writing.append_first.Goals as goal

pub returns-in-None-clause-appended : goal.returns-in-None-clause-appended
returns-in-None-clause-appended g c =
    let k = decisions g.C.Decisions in
    let m = disk g.D.Disk in
    let pair = c.args.pair.now in
    appended_noted k m pair pair [] (take 1 (g.C.Decisions.owed c.args.core.now)) [] c.in-None.ensures.none
    (appended_none k m g.met.D.Disk.only_now pair c.requires.up c.payloads.ensures.kept pair.room)

pub returns-in-Ok-clause-appended : goal.returns-in-Ok-clause-appended
returns-in-Ok-clause-appended g c =
    let k = decisions g.C.Decisions in
    let m = disk g.D.Disk in
    let a = c.append.ensures in
    appended_one k m c.args.pair.now c.append.new.self (take 1 (g.C.Decisions.owed c.args.core.now)) c.in-Some.payload.now c.in-Some.ensures.payload c.requires.up
    a.spare a.epoch a.swapped a.any_moment a.told.honesty a.told.count a.kept c.in-Ok.ensures.told.added c.in-Ok.ensures.told.up

pub returns-in-Err-DiskFault-clause-not_appended :
    goal.returns-in-Err-DiskFault-clause-not_appended
returns-in-Err-DiskFault-clause-not_appended g c =
    let k = decisions g.C.Decisions in
    let m = disk g.D.Disk in
    let a = c.append.ensures in
    not_appended k m c.args.pair.now c.append.new.self (take 1 (g.C.Decisions.owed c.args.core.now)) c.in-Some.payload.now c.in-Some.ensures.payload c.requires.up
    a.spare a.epoch a.swapped a.any_moment a.told.honesty a.told.count a.kept c.in-Err-DiskFault.ensures.told.not_added (a.told.cause (search rules))
