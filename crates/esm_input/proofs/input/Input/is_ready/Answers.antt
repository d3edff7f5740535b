use Rattle.std.proofs.Common.{◌≡◌}
use Rattle.esm_input.proofs.Pieces.{asked}
use Rattle.esm_input.proofs.input.Input.is_ready.Goals as goal

pub invariant_of-self : goal.invariant_of-self
invariant_of-self g c = λ good. asked g.S.Source.faults g.S.Source.left _ _ _ _ _ c.is_ready.new.self c.is_ready.ensures.left c.is_ready.ensures.faultless (c.self.invariant good)
