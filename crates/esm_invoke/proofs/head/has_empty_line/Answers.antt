use Rattle.std.proofs.Common.{◌≡◌, ℕ, ◌<◌, ◌≤◌, ◌+◌, false, sym, ◌∙◌, below_more}
use Rattle.esm_invoke.specs.ResponseRead.{ends_empty_line}
use Rattle.esm_invoke.proofs.head.has_empty_line.Goals as goal

pub loop-at-preserved : goal.loop-at-preserved
loop-at-preserved c =
    let HasNone : ℕ → Type 0 = λ k. c.args.from ≤ k → ends_empty_line c.args.bytes.now k ≡ false in
    let none : (k : ℕ) → k < c.loop-at.at + 1 → HasNone k =
    below_more HasNone c.loop-at.at (λ k below from. c.loop-at.invariant k from below) (λ from. sym c.ends_empty_line.ensures ∙ c.if-ends_empty_line.false) in
    λ k from below. none k below from
