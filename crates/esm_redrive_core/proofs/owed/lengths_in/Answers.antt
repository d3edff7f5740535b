use Rattle.std.proofs.Common.{ℕ, ◌∙◌, ◌++◌, ◌∷◌, [], ap, arith}
use Rattle.esm_redrive_core.proofs.Lines.{lengths_step}
use Rattle.esm_redrive_core.proofs.owed.lengths_in.Goals as goal

pub loop-index-preserved : goal.loop-index-preserved
loop-index-preserved c =
    let d = c.index-gifts-index.result in
    let i = c.loop-index.index in
    record {
      within = omega (arith, c.loop-index.invariant.within);
      told = lengths_step c.args.gifts.now i d d c.loop-index.lengths.items c.push.new.self.items c.loop-index-test.true c.loop-index.invariant.within c.index-gifts-index.is c.loop-index.invariant.told (c.in_ok-push.ensures.items ∙ ap (λ (n : ℕ). c.loop-index.lengths.items ++ n ∷ []) c.length_of.ensures);
    }
