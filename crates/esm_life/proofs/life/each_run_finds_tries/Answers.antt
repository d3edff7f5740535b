use Rattle.esm_life.proofs.NextRuns.{finds_tries}
use Rattle.esm_life.proofs.life.each_run_finds_tries.Goals as goal

pub returns : goal.returns
returns c = finds_tries c.replay_laws_hold.ensures
