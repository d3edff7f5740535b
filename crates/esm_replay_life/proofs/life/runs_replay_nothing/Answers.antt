use Rattle.esm_replay_life.proofs.Lives.{runs_none}
use Rattle.esm_replay_life.proofs.life.runs_replay_nothing.Goals as goal

pub returns : goal.returns
returns c = runs_none
