use Rattle.esm_redrive.proofs.GoingOn.{lines_go_on_in}
use Rattle.esm_redrive.proofs.laws.lines_go_on.Goals as goal

pub returns : goal.returns
returns c = λ fifo found s h all legal good. lines_go_on_in fifo found s h (c.moved_once.ensures s h legal) all good
