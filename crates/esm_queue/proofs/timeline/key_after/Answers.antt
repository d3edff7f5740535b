use Rattle.std.proofs.Common.{◌≡◌, ℕ, ◌+◌, ◌≤◌, ◌∷◌, List, refl, subst, sym, arith}
use Rattle.std.specs.Prelude.{slice_get, IfSome, IsSome}
use Rattle.std.specs.Ordering.{nat_cmp}
use Rattle.std.specs.BTreeMap.Range.{IsLeBy, IsEntryInRange, IsRangeOf}
use Rattle.std.specs.declared.ops.Bound.TheVariants.{Included, Unbounded}
use Rattle.esm_queue.proofs.Counting.{le_not_gt, not_gt_le}
use Rattle.esm_queue.proofs.timeline.key_after.Goals as goal

pub returns-in-None-clause-none : goal.returns-in-None-clause-none
returns-in-None-clause-none c = λ q after.
    let counts = c.args.counts.now in
    let r : IsRangeOf nat_cmp (Included (c.args.at + 1)) Unbounded counts c.range.result = c.range.ensures.in_range tt in
    r.5 c.in-None.ensures.steps.0 q (le_not_gt (c.args.at + 1) q (omega arith), tt)

pub returns-in-Some-clause-some : goal.returns-in-Some-clause-some
returns-in-Some-clause-some c =
    let counts = c.args.counts.now in
    let k = c.in-Some.moment.now in
    let n = c.in-Some.field-0-1.now in
    let r : IsRangeOf nat_cmp (Included (c.args.at + 1)) Unbounded counts c.range.result = c.range.ensures.in_range tt in
    let head : c.range.result ≡ (k, n) ∷ c.next.new.self = c.in-Some.ensures.steps in
    let first : IsEntryInRange nat_cmp (Included (c.args.at + 1)) Unbounded counts (k, n) = subst (λ (es : List (ℕ × ℕ)). IfSome (slice_get es 0) (IsEntryInRange nat_cmp (Included (c.args.at + 1)) Unbounded counts)) head r.1 in
    let from : c.args.at + 1 ≤ k = not_gt_le (c.args.at + 1) k first.0.0 in
    record {
      after = omega arith;
      has = subst (λ o. IsSome o) (sym first.1) refl;
      low = λ q after has. not_gt_le k q (subst (λ (es : List (ℕ × ℕ)). IfSome (slice_get es 0) (λ e. IsLeBy nat_cmp e.0 q)) head (r.2 q (le_not_gt (c.args.at + 1) q (omega arith), tt) has));
    }
