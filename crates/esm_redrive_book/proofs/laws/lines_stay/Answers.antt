use Rattle.esm_io.specs.Meanings.{disk, destination}
use Rattle.esm_redrive_book.proofs.Leaving.{lines_stay_first}
use Rattle.esm_redrive_book.proofs.laws.lines_stay.Goals as goal

pub returns : goal.returns
returns g c = λ b later entries tried kept leaves more. lines_stay_first (disk g.D.Disk) (destination g.T.Dest) b kept later entries tried leaves more
