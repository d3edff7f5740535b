use Rattle.std.proofs.Common.{◌∙◌}
use Rattle.esm_shard_index.proofs.LaneTables.{long_delay}
use Rattle.esm_shard_index.proofs.lane_state.LaneState.delay_end.Goals as goal

pub returns-then-self-ge9 : goal.returns-then-self-ge9
returns-then-self-ge9 c = c.min.ensures ∙ long_delay c.args.self.failures c.args.self.last_end c.if-self-ge9.true
