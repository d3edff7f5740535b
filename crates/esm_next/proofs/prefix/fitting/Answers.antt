use Rattle.std.proofs.Common.{refl, arith, inl, inr}
use Rattle.esm_next.specs.Cuts.{first_window}
use Rattle.esm_next.specs.Steps.{IsTaken}
use Rattle.esm_next.proofs.Prefixes.{none_taken, one_more, all_taken, stopped, not_so}
use Rattle.esm_next.proofs.prefix.fitting.Goals.{then-count-limits-via-then-count-limits, then-count-limits-via-else-count-limits+then-not-goes_on}
use Rattle.esm_next.proofs.prefix.fitting.Goals as goal

pub loop-item-init : goal.loop-item-init
loop-item-init c = (refl, none_taken c.args.limits.now c.args.now c.window_of_first-window.result c.args.items.now)

pub returns-then-count-limits : goal.returns-then-count-limits
returns-then-count-limits c =
    let taken : IsTaken c.args.limits.now c.args.now (first_window c.args.items.now) c.args.items.now c.loop-item.item-index c.loop-item.used = rw (← c.window_of_first-window.ensures) c.loop-item.invariant.1 in
    rw c.loop-item.invariant.0 (stopped c.args.limits.now c.args.now c.args.items.now c.loop-item.item-index c.loop-item.used record { bytes = 0; came = 0; arrival = 0; window = 0 } c.loop-item-test.true taken
    (elim c.then-count-limits.branch [
      | then-count-limits-via-then-count-limits w ↦ inl (omega arith)
      | then-count-limits-via-else-count-limits+then-not-goes_on w ↦ inr (rw (← c.window_of_first-window.ensures) (not_so w.goes_on.result w.if-not-goes_on.true w.goes_on.ensures.1))
    ]))

pub loop-item-preserved : goal.loop-item-preserved
loop-item-preserved c =
    (omega arith, rw c.from.ensures (one_more c.args.limits.now c.args.now c.window_of_first-window.result c.args.items.now c.loop-item.item-index c.loop-item.used record { bytes = 0; came = 0; arrival = 0; window = 0 } c.loop-item-test.true (omega arith) c.loop-item.invariant.1 (c.if-not-goes_on.ensures.0 refl)))

pub returns : goal.returns
returns c = all_taken c.args.limits.now c.args.now c.args.items.now c.loop-item.count c.loop-item.used (omega arith) (rw (c.loop-item.invariant.0, ← c.window_of_first-window.ensures) c.loop-item.invariant.1)
