use Rattle.std.proofs.Common.{◌+◌, ℕ, Option, ap}
use Rattle.std.specs.Prelude.{unwrap_or}
use Rattle.esm_replay_core.proofs.Counting.{raised_count}
use Rattle.esm_replay_core.proofs.counts.count_one.Goals as goal

pub returns : goal.returns
returns c =
    let more = c.in-Some.count.now + 1 in
    raised_count c.args.counts.now (c.get_mut.follows.lender more) c.args.shard more ((c.get_mut.follows.holds more).3 c.requires.there) (ap (λ (o : Option ℕ). unwrap_or o 0 + 1) c.in-Some.ensures.value)
