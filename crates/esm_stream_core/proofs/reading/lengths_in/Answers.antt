use Rattle.std.proofs.Common.{◌-◌, get_or, refl, arith}
use Rattle.esm_stream_core.proofs.Lengths.{lengths_step}
use Rattle.esm_stream_core.proofs.reading.lengths_in.Goals as goal

pub loop-index-preserved : goal.loop-index-preserved
loop-index-preserved c =
    let d = c.index-owed-index.result in
    let i = c.loop-index.index in
    record {
      within = omega (arith, c.loop-index.invariant.within);
      told = lengths_step c.args.owed.now i d (get_or c.args.owed.now (i - 1) d) c.loop-index.lengths.items c.push_length.new.lengths.items c.loop-index-test.true c.loop-index.invariant.within refl c.loop-index.invariant.told c.in_ok-push_length.ensures;
    }
