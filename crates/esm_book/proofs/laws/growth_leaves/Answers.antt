use Rattle.esm_io.specs.Meanings.{disk, destination}
use Rattle.esm_book.specs.Meanings.{decisions}
use Rattle.esm_book.proofs.Growing.{grown_opens}
use Rattle.esm_book.proofs.laws.growth_leaves.Goals as goal

pub returns : goal.returns
returns g c = record { leaves = grown_opens (decisions g.C.Decisions) (disk g.D.Disk) (destination g.T.Dest) c.file_beside_spare.ensures.opens g.met.D.Disk.only_now }
