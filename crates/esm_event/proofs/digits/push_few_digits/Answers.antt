use Rattle.std.proofs.Common.{ℕ, ◌-◌, List, ◌++◌, drop, length-set, length-drop, arith, sym, ap, ◌∙◌}
use Rattle.std.proofs.lemmas.List.{take_all}
use Rattle.esm_event.proofs.WrittenDigits.{one_more, all_written}
use Rattle.esm_event.proofs.digits.push_few_digits.Goals as goal

pub loop-at-preserved : goal.loop-at-preserved
loop-at-preserved c =
    let inv = c.loop-at.invariant in
    let length_is = length-set c.loop-at.digits (c.loop-at.at - 1) c.digit.result in (
      omega arith,
      omega arith,
      rw c.digit.ensures (one_more c.args.base c.args.width c.args.number c.loop-at.rest (20 - c.args.width) c.loop-at.at c.loop-at.digits (omega arith) (omega arith) inv.2),
      omega (arith, length_is),
    )

pub returns : goal.returns
returns c =
    let inv = c.loop-at.invariant in
    let written = all_written c.args.base c.args.width c.args.number c.loop-at.rest (20 - c.args.width) c.loop-at.at c.loop-at.digits (omega arith) inv.2 (omega arith) in
    let rest = drop (20 - c.args.width) c.loop-at.digits in
    let long = length-drop (20 - c.args.width) c.loop-at.digits in
    let whole = take_all (20 - (20 - c.args.width)) rest (omega (arith, long)) in
    c.in_ok-extend_from_slice.ensures.items ∙ ap (λ (text : List ℕ). c.args.out.now.items ++ text) (whole ∙ sym written)
