use Rattle.esm_queue_life.proofs.RedriveEarning.{redrive_earned}
use Rattle.esm_queue_life.proofs.life.each_redrive_is_earned.Goals as goal

pub returns : goal.returns
returns c = redrive_earned c.read_again.ensures c.moved_when_received.ensures
