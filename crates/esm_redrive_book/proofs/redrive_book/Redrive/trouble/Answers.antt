use Rattle.std.proofs.Common.{subst}
use Rattle.esm_io.specs.Meanings.{disk, destination}
use Rattle.esm_redrive_book.specs.Books.{BookState}
use Rattle.esm_redrive_book.specs.Letters.{LeavesLetters, LinesStandFirst}
use Rattle.esm_redrive_book.proofs.Leaving.{leaves_letters, lines_stand_first}
use Rattle.esm_redrive_book.proofs.redrive_book.Redrive.trouble.Goals as goal

pub returns-clause-letters : goal.returns-clause-letters
returns-clause-letters g c =
    subst (λ (b : BookState g.row.D.Denot g.row.T.Denot). LeavesLetters (destination g.T.Dest) b) c.self.view_is
    (leaves_letters (disk g.D.Disk) (destination g.T.Dest) c.self.inside.durable c.trouble.ensures.keeps)

pub returns-clause-lines_first : goal.returns-clause-lines_first
returns-clause-lines_first g c =
    subst (λ (b : BookState g.row.D.Denot g.row.T.Denot). LinesStandFirst (disk g.D.Disk) (destination g.T.Dest) b b.dest) c.self.view_is
    (lines_stand_first (disk g.D.Disk) (destination g.T.Dest) c.self.inside.durable c.trouble.ensures.keeps c.trouble.ensures.images)
