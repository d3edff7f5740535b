use Rattle.esm_redrive_core.proofs.Settling.{moved_sound}
use Rattle.esm_redrive_core.proofs.laws.move_is_sound.Goals as goal

pub returns : goal.returns
returns c = λ s h sound lane shard places line state m later may. moved_sound s h lane shard places line state m sound later may
