use Rattle.std.proofs.Common.{◌<◌, length, arith, rules}
use Rattle.esm_stream_core.proofs.Places.{marked}
use Rattle.esm_stream_core.proofs.arriving.passing_of.Goals as goal

pub loop-place-preserved : goal.loop-place-preserved
loop-place-preserved c =
    let at = c.loop-place in
    let xs = c.args.refused.now in
    let low : at.place-index < length c.args.refused.now = omega arith in
    let all = at.invariant.all in
    let from = c.requires at.place-index 0 low in
    record {
      all = search rules;
      each = λ k within. marked at.passing.items c.args.refused.now at.place-index c.args.first c.args.count k all low from.0 within (at.invariant.each k within);
    }
