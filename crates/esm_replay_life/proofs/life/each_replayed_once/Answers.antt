use Rattle.esm_replay_life.proofs.Lives.{once}
use Rattle.esm_replay_life.proofs.life.each_replayed_once.Goals as goal

pub returns : goal.returns
returns c = once
