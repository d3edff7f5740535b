use Rattle.esm_io.specs.Meanings.{disk, destination}
use Rattle.esm_redrive_book.proofs.Timed.{all_timed, one_timed, some_timed}
use Rattle.esm_redrive_book.proofs.moments.moments_stay.Goals as goal

pub returns-clause-all : goal.returns-clause-all
returns-clause-all g c = λ gave moment messages es old new. all_timed gave (disk g.D.Disk) (destination g.T.Dest) moment messages es old new

pub returns-clause-some : goal.returns-clause-some
returns-clause-some g c = λ gave moment messages es trouble old new. some_timed gave (disk g.D.Disk) (destination g.T.Dest) moment messages es trouble old new

pub returns-clause-one : goal.returns-clause-one
returns-clause-one g c = λ gave moment e old new. one_timed gave moment e old new
