use Rattle.std.proofs.Common.{subst}
use Rattle.esm_io.specs.Meanings.{disk, destination}
use Rattle.esm_book.specs.Meanings.{decisions}
use Rattle.esm_book.specs.State.{IsKept}
use Rattle.esm_book.proofs.Leaving.{opens_since}
use Rattle.esm_book.proofs.durable.Durable.since_before.Goals as goal

pub returns : goal.returns
returns g c =
    let k = decisions g.C.Decisions in
    let m = disk g.D.Disk in
    let n = destination g.T.Dest in
    opens_since k m n c.args.self.now c.file_beside_spare.ensures.opens (subst (IsKept k m n) c.self.view_is c.self.invariant.0)
    c.args.journal.now.value c.args.spare.now.value c.requires.first c.requires.second
