use Rattle.esm_queue_life.proofs.Earning.{each_earned}
use Rattle.esm_queue_life.proofs.history.each_gift_is_earned.Goals as goal

pub returns : goal.returns
returns c = each_earned
