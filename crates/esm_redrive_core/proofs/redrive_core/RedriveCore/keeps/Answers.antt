use Rattle.std.proofs.Common.{subst}
use Rattle.esm_redrive_core.specs.Ahead.{IsConsistent}
use Rattle.esm_redrive_core.specs.Inside.{parts_of}
use Rattle.esm_redrive_core.proofs.Telling.{consistent}
use Rattle.esm_redrive_core.proofs.redrive_core.RedriveCore.keeps.Goals as goal

pub returns : goal.returns
returns c = subst IsConsistent c.self.view_is (consistent c.has_letter.ensures (parts_of c.self.inside) c.self.invariant)
