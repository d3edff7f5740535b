use Rattle.std.proofs.Common.{reverse}
use Rattle.esm_io.specs.Meanings.{disk, destination}
use Rattle.esm_book.specs.Meanings.{decisions}
use Rattle.esm_book.specs.State.{in_hand, in_delivery}
use Rattle.esm_book.proofs.Growing.{grown_opens}
use Rattle.esm_book.proofs.durable.Durable.trouble.Goals as goal

pub returns-clause-images : goal.returns-clause-images
returns-clause-images g c =
    let k = decisions g.C.Decisions in
    let m = disk g.D.Disk in
    let n = destination g.T.Dest in
    rw (← c.self.view_is)
    (let s = c.self.inside in
    let kept = c.self.invariant.0 in
    grown_opens k m n c.file_beside_spare.ensures.opens g.met.D.Disk.only_now s.found.value s.pair s.found_dest.value s.dest (reverse (k.history s.core)) (in_hand s.trouble (k.owed s.core)) (in_delivery s.trouble (k.owed s.core)) kept.found_up kept.found_kept kept.grown)
