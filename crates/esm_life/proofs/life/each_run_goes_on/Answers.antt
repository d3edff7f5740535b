use Rattle.esm_life.proofs.NextRuns.{knows}
use Rattle.esm_life.proofs.life.each_run_goes_on.Goals as goal

pub returns : goal.returns
returns c = knows c.replay_laws_hold.ensures
