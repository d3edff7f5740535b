use Rattle.std.proofs.Common.{◌≡◌, ◌∙◌, arith, false, sym, ap, drop, List, ℕ}
use Rattle.std.specs.Prelude.{nat_eq}
use Rattle.std.specs.List.{starts_with}
use Rattle.esm_ddb.specs.FailureLine.{stream_part}
use Rattle.esm_ddb.proofs.Loops.{place_later, rest_is}
use Rattle.esm_ddb.proofs.failure_line.first_place.Goals as goal

pub loop-at-preserved : goal.loop-at-preserved
loop-at-preserved c =
    let not : starts_with nat_eq (drop c.loop-at.at c.args.line.now) stream_part ≡ false =
    ap (λ (t : List ℕ). starts_with nat_eq t stream_part) (sym (rest_is c.args.line.now c.loop-at.at)) ∙ sym c.begins_with_part.ensures.part ∙ c.if-begins_with_part.false in
    record {
      place = c.loop-at.invariant.place ∙ place_later c.args.line.now c.loop-at.at c.loop-at-test.true not;
      within = omega arith;
    }
