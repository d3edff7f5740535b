use Rattle.std.proofs.Common.{[], ◌∷◌, ◌++◌, ◌∙◌, sym, ap}
use Rattle.esm_verdict.proofs.ReadingLemmas.{next_below}
use Rattle.esm_verdict.proofs.positions.flagged.Goals as goal
use Rattle.esm_verdict.proofs.positions.flagged.Goals.{then-flags-i+in_ok-push, else-flags-i}

pub loop-i-preserved : goal.loop-i-preserved
loop-i-preserved c = λ test flags.
    let next = next_below test c.loop-i.i in
    let before = c.loop-i.invariant test flags in
    let flag = flags.flagged c.loop-i.i c.loop-i-test.true in
    elim c.if-flags-i.branch [
      | then-flags-i+in_ok-push w ↦
          rw w.places-is (w.in_ok-push.ensures.items ∙ ap (λ ps. ps ++ c.loop-i.i ∷ []) before ∙ sym (rw (sym flag ∙ w.if-flags-i.true) at next))
      | else-flags-i w ↦ rw w.places-is (before ∙ sym (rw (sym flag ∙ w.if-flags-i.false) at next))
    ]
