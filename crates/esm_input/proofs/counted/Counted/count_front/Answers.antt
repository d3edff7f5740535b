use Rattle.std.proofs.Common.{◌≡◌, ◌∙◌, sym, ap, Ok, None}
use Rattle.esm_input.proofs.Counts.{so_far_more}
use Rattle.esm_input.proofs.counted.Counted.count_front.Goals as goal

pub loop-count-preserved : goal.loop-count-preserved
loop-count-preserved c =
    let none : c.in_ok-limit.field-0 ≡ None = c.in_default.is in (
      c.in_ok-limit.ensures.within,
      λ xs is. so_far_more c.args.factor c.loop-count.self c.add.new.self xs c.args.items.now c.loop-count.count c.index-items-count.result c.loop-count-test.true c.index-items-count.is
          (sym c.in_ok-limit.ensures.limit ∙ none) (c.in_ok-limit.ensures.counted (ap Ok none)) (c.loop-count.invariant.1 xs is),
    )
