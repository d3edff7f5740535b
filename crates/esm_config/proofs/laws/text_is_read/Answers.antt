use Rattle.esm_config.proofs.Round.{text_back}
use Rattle.esm_config.proofs.laws.text_is_read.Goals as goal

pub returns : goal.returns
returns c = text_back
