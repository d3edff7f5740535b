use Rattle.esm_replay_life.proofs.Lives.{fates_stay}
use Rattle.esm_replay_life.proofs.life.fates_and_tries_stay.Goals as goal

pub returns : goal.returns
returns c = fates_stay
