use Rattle.std.proofs.Common.{rules, Option, Some, [], ◌++◌, ◌∙◌, take, reverse, refl, ap, sym, subst}
use Rattle.esm_io.specs.Meanings.{disk, destination}
use Rattle.esm_model.specs.declared.book.Trouble.{Trouble}
use Rattle.esm_model.specs.declared.book.Trouble.TheVariants.{Disk, Dest}
use Rattle.esm_book.specs.Decided.{added}
use Rattle.esm_book.specs.Meanings.{decisions}
use Rattle.esm_book.specs.Growth.{HasGrown}
use Rattle.esm_book.specs.State.{IsReason}
use Rattle.esm_book.proofs.Lists.{none_of}
use Rattle.esm_book.proofs.Keeping.{kept_noted, kept_up, kept_after, grown_still}
use Rattle.esm_book.proofs.Growing.{grown_opens, still_opens}
use Rattle.esm_book.proofs.durable.Durable.carry_out.Goals as goal

-- on a book that is down
pub invariant_of-self : goal.invariant_of-self
invariant_of-self g c =
    let k = decisions g.C.Decisions in
    let m = disk g.D.Disk in
    let n = destination g.T.Dest in
    let s = c.self.inside in
    let new = c.note.new.self in (
      kept_noted k m n s.core new s.pair s.found.value s.dest s.found_dest.value s.trouble (added (k.history s.core) (k.history new))
          c.self.invariant.0 c.note.ensures.history c.note.ensures.no_payload c.note.ensures.no_line c.note.ensures.owed,
      subst (λ o. IsReason (g.C.Decisions.is_change o) s.trouble) (sym c.note.ensures.origin) c.self.invariant.1,
    )

pub returns-then-is_some-clause-images : goal.returns-then-is_some-clause-images
returns-then-is_some-clause-images g c =
    let k = decisions g.C.Decisions in
    let m = disk g.D.Disk in
    let n = destination g.T.Dest in
    rw (← c.self.view_is) (λ up.
    let s = c.self.inside in
    still_opens k m n c.file_beside_spare.ensures.opens g.met.D.Disk.only_now s.pair s.dest (added (k.history s.core) (k.history c.note.new.self) ++ []) up c.self.invariant.0.grown.appended.kept)

pub returns-then-is_some-clause-kept : goal.returns-then-is_some-clause-kept
returns-then-is_some-clause-kept g c = c.self.invariant.0.grown.appended.kept

-- all is written
pub invariant_of-self-in-Written : goal.invariant_of-self-in-Written
invariant_of-self-in-Written g c =
    let k = decisions g.C.Decisions in
    let m = disk g.D.Disk in
    let n = destination g.T.Dest in
    let s = c.self.inside in
    let new = c.write_out.new in
    let mid = c.decide.new.self in
    let came = c.in-Written.ensures.came in
    let none = none_of s.trouble (search rules) in
    let paid = added (k.history mid) (k.history new.core) in (
      kept_up k m n s.core new.core s.pair new.pair s.found.value s.dest new.dest s.found_dest.value s.trouble paid none c.self.invariant.0
          (came.writes.history_is ∙ ap (λ h. reverse paid ++ h) c.decide.ensures.history) came.writes.grown came.settled came.up came.usable,
      subst (λ (t : Option Trouble). IsReason (g.C.Decisions.is_change (g.C.Decisions.origin new.core)) t) (sym none) tt,
    )

pub returns-in-Written-clause-images : goal.returns-in-Written-clause-images
returns-in-Written-clause-images g c =
    let k = decisions g.C.Decisions in
    let m = disk g.D.Disk in
    let n = destination g.T.Dest in
    rw (← c.self.view_is) (λ up.
    let s = c.self.inside in
    let new = c.write_out.new in
    grown_opens k m n c.file_beside_spare.ensures.opens g.met.D.Disk.only_now s.pair new.pair s.dest new.dest (added (k.history s.core) (k.history new.core)) [] [] up c.self.invariant.0.grown.appended.kept
    (subst (λ h. HasGrown k m n s.pair new.pair s.dest new.dest (added h (k.history new.core)) [] []) c.decide.ensures.history c.in-Written.ensures.came.writes.grown))

pub returns-in-Written-clause-kept : goal.returns-in-Written-clause-kept
returns-in-Written-clause-kept g c = c.in-Written.ensures.came.writes.grown.appended.kept

-- a disk failed
pub invariant_of-self-in-DiskFault-1 : goal.invariant_of-self-in-DiskFault-1
invariant_of-self-in-DiskFault-1 g c =
    let k = decisions g.C.Decisions in
    let m = disk g.D.Disk in
    let n = destination g.T.Dest in
    let s = c.self.inside in
    let new = c.write_out.new in
    let mid = c.decide.new.self in
    let came = c.in-DiskFault.ensures.came in
    let now = c.replace-in-DiskFault.new.dest in
    let none = none_of s.trouble (search rules) in
    let paid = added (k.history mid) (k.history new.core) in (
      kept_after k m n s.core new.core s.pair new.pair s.found.value s.dest new.dest s.found_dest.value s.trouble now (Some Disk) paid none c.self.invariant.0 c.replace-in-DiskFault.ensures.after
          (came.writes.history_is ∙ ap (λ h. reverse paid ++ h) c.decide.ensures.history) came.writes.grown tt came.failed.0 came.failed.1,
      subst (λ (t : Option Trouble). IsReason (g.C.Decisions.is_change (g.C.Decisions.origin new.core)) t) (sym c.replace-in-DiskFault.ensures.after) tt,
    )

pub returns-in-DiskFault-clause-images : goal.returns-in-DiskFault-clause-images
returns-in-DiskFault-clause-images g c =
    let k = decisions g.C.Decisions in
    let m = disk g.D.Disk in
    let n = destination g.T.Dest in
    rw (← c.self.view_is) (λ up.
    let s = c.self.inside in
    let new = c.write_out.new in
    grown_opens k m n c.file_beside_spare.ensures.opens g.met.D.Disk.only_now s.pair new.pair s.dest new.dest (added (k.history s.core) (k.history new.core)) (take 1 (k.owed new.core)) [] up c.self.invariant.0.grown.appended.kept
    (subst (λ h. HasGrown k m n s.pair new.pair s.dest new.dest (added h (k.history new.core)) (take 1 (k.owed new.core)) []) c.decide.ensures.history c.in-DiskFault.ensures.came.writes.grown))

-- the destination failed
pub invariant_of-self-in-DestFault-1 : goal.invariant_of-self-in-DestFault-1
invariant_of-self-in-DestFault-1 g c =
    let k = decisions g.C.Decisions in
    let m = disk g.D.Disk in
    let n = destination g.T.Dest in
    let s = c.self.inside in
    let new = c.write_out.new in
    let mid = c.decide.new.self in
    let came = c.in-DestFault.ensures.came in
    let now = c.replace-in-DestFault.new.dest in
    let none = none_of s.trouble (search rules) in
    let paid = added (k.history mid) (k.history new.core) in (
      kept_after k m n s.core new.core s.pair new.pair s.found.value s.dest new.dest s.found_dest.value s.trouble now (Some Dest) paid none c.self.invariant.0 c.replace-in-DestFault.ensures.after
          (came.writes.history_is ∙ ap (λ h. reverse paid ++ h) c.decide.ensures.history) came.writes.grown tt came.failed.0 came.failed.1,
      subst (λ (t : Option Trouble). IsReason (g.C.Decisions.is_change (g.C.Decisions.origin new.core)) t) (sym c.replace-in-DestFault.ensures.after) tt,
    )

pub returns-in-DestFault-clause-images : goal.returns-in-DestFault-clause-images
returns-in-DestFault-clause-images g c =
    let k = decisions g.C.Decisions in
    let m = disk g.D.Disk in
    let n = destination g.T.Dest in
    rw (← c.self.view_is) (λ up.
    let s = c.self.inside in
    let new = c.write_out.new in
    grown_opens k m n c.file_beside_spare.ensures.opens g.met.D.Disk.only_now s.pair new.pair s.dest new.dest (added (k.history s.core) (k.history new.core)) [] (take 1 (k.owed new.core)) up c.self.invariant.0.grown.appended.kept
    (subst (λ h. HasGrown k m n s.pair new.pair s.dest new.dest (added h (k.history new.core)) [] (take 1 (k.owed new.core))) c.decide.ensures.history c.in-DestFault.ensures.came.writes.grown))

pub returns-in-DestFault-clause-kept : goal.returns-in-DestFault-clause-kept
returns-in-DestFault-clause-kept g c = c.in-DestFault.ensures.came.writes.grown.appended.kept

-- the core took nothing
pub returns-in-Err-OutOfMemory-clause-grown : goal.returns-in-Err-OutOfMemory-clause-grown
returns-in-Err-OutOfMemory-clause-grown g c =
    let k = decisions g.C.Decisions in
    let m = disk g.D.Disk in
    let n = destination g.T.Dest in
    rw (← c.self.view_is) (λ none.
    let s = c.self.inside in
    grown_still k m n s.core s.pair s.found.value s.dest s.found_dest.value s.trouble c.self.invariant.0 none g.met.D.Disk.only_now c.decide.new.self s.pair s.dest c.in-Err-OutOfMemory.ensures.unchanged refl (record { lines = refl; failed = refl; honesty = refl; faults = refl; moment = refl; images = λ _ _ since. since }))

pub returns-in-Err-OutOfMemory-clause-images : goal.returns-in-Err-OutOfMemory-clause-images
returns-in-Err-OutOfMemory-clause-images g c =
    let k = decisions g.C.Decisions in
    let m = disk g.D.Disk in
    let n = destination g.T.Dest in
    rw (← c.self.view_is) (λ up.
    let s = c.self.inside in
    still_opens k m n c.file_beside_spare.ensures.opens g.met.D.Disk.only_now s.pair s.dest (added (k.history s.core) (k.history c.decide.new.self) ++ []) up c.self.invariant.0.grown.appended.kept)

pub returns-in-Err-OutOfMemory-clause-kept : goal.returns-in-Err-OutOfMemory-clause-kept
returns-in-Err-OutOfMemory-clause-kept g c = c.self.invariant.0.grown.appended.kept

-- the core found a change
pub returns-in-Err-Changed-clause-grown : goal.returns-in-Err-Changed-clause-grown
returns-in-Err-Changed-clause-grown g c =
    let k = decisions g.C.Decisions in
    let m = disk g.D.Disk in
    let n = destination g.T.Dest in
    rw (← c.self.view_is) (λ none.
    let s = c.self.inside in
    grown_still k m n s.core s.pair s.found.value s.dest s.found_dest.value s.trouble c.self.invariant.0 none g.met.D.Disk.only_now c.decide.new.self s.pair s.dest c.in-Err-Changed.ensures.unchanged refl (record { lines = refl; failed = refl; honesty = refl; faults = refl; moment = refl; images = λ _ _ since. since }))

pub returns-in-Err-Changed-clause-images : goal.returns-in-Err-Changed-clause-images
returns-in-Err-Changed-clause-images g c =
    let k = decisions g.C.Decisions in
    let m = disk g.D.Disk in
    let n = destination g.T.Dest in
    rw (← c.self.view_is) (λ up.
    let s = c.self.inside in
    still_opens k m n c.file_beside_spare.ensures.opens g.met.D.Disk.only_now s.pair s.dest (added (k.history s.core) (k.history c.decide.new.self) ++ []) up c.self.invariant.0.grown.appended.kept)

pub returns-in-Err-Changed-clause-kept : goal.returns-in-Err-Changed-clause-kept
returns-in-Err-Changed-clause-kept g c = c.self.invariant.0.grown.appended.kept

-- there was no room
pub returns-in-OutOfMemory-clause-grown : goal.returns-in-OutOfMemory-clause-grown
returns-in-OutOfMemory-clause-grown g c =
    let k = decisions g.C.Decisions in
    let m = disk g.D.Disk in
    let n = destination g.T.Dest in
    rw (← c.self.view_is) (λ none.
    let s = c.self.inside in
    let new = c.write_out.new in
    let came = c.in-OutOfMemory.ensures.came in
    grown_still k m n s.core s.pair s.found.value s.dest s.found_dest.value s.trouble c.self.invariant.0 none g.met.D.Disk.only_now new.core new.pair new.dest (came.forgot ∙ c.in-Ok.ensures.undone) came.room_alone came.same_dest)

pub returns-in-OutOfMemory-clause-images : goal.returns-in-OutOfMemory-clause-images
returns-in-OutOfMemory-clause-images g c =
    let k = decisions g.C.Decisions in
    let m = disk g.D.Disk in
    let n = destination g.T.Dest in
    rw (← c.self.view_is) (λ up.
    let s = c.self.inside in
    let new = c.write_out.new in
    let came = c.in-OutOfMemory.ensures.came in
    grown_opens k m n c.file_beside_spare.ensures.opens g.met.D.Disk.only_now s.pair new.pair s.dest new.dest (added (k.history s.core) (k.history new.core)) [] [] up c.self.invariant.0.grown.appended.kept
    (grown_still k m n s.core s.pair s.found.value s.dest s.found_dest.value s.trouble c.self.invariant.0 (none_of s.trouble (search rules)) g.met.D.Disk.only_now new.core new.pair new.dest (came.forgot ∙ c.in-Ok.ensures.undone) came.room_alone came.same_dest))

pub returns-in-OutOfMemory-clause-kept : goal.returns-in-OutOfMemory-clause-kept
returns-in-OutOfMemory-clause-kept g c =
    let k = decisions g.C.Decisions in
    let m = disk g.D.Disk in
    let n = destination g.T.Dest in
    let s = c.self.inside in
    let new = c.write_out.new in
    let came = c.in-OutOfMemory.ensures.came in
    let none = none_of s.trouble (search rules) in
    (grown_still k m n s.core s.pair s.found.value s.dest s.found_dest.value s.trouble c.self.invariant.0 none g.met.D.Disk.only_now new.core new.pair new.dest (came.forgot ∙ c.in-Ok.ensures.undone) came.room_alone came.same_dest).appended.kept
