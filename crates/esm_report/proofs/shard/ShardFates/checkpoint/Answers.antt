use Rattle.std.proofs.Common.{◌≡◌, sym, is_some, false, arith}
use Rattle.std.proofs.lemmas.Grind.{common_steps}
use Rattle.esm_report.specs.Totals.{place_fate, front_count}
use Rattle.esm_report.proofs.Counting.{prefix_stops, prefix_whole}
use Rattle.esm_report.proofs.shard.ShardFates.checkpoint.Goals as goal

pub returns-then-is_none : goal.returns-then-is_none
unfolding front_count
returns-then-is_none c =
    let fails : is_some (place_fate c.args.self.now c.loop-place.place) ≡ false = grind (arith, common_steps) in
    sym (prefix_stops (λ i. is_some (place_fate c.args.self.now i)) c.args.records c.loop-place.place (omega arith) c.loop-place.invariant fails)

pub returns : goal.returns
unfolding front_count
returns c = sym (prefix_whole (λ i. is_some (place_fate c.args.self.now i)) c.args.records (λ i low. c.loop-place.invariant i (omega arith)))
