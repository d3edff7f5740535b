use Rattle.esm_io.specs.Meanings.{disk, destination}
use Rattle.esm_book.specs.Meanings.{decisions}
use Rattle.esm_book.proofs.Growing.{grown_then}
use Rattle.esm_book.proofs.laws.growth_joins.Goals as goal

pub returns : goal.returns
returns g c = record { joined = grown_then (decisions g.C.Decisions) (disk g.D.Disk) (destination g.T.Dest) }
