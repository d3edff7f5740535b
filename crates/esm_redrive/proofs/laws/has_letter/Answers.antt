use Rattle.esm_redrive.proofs.ReadingBack.{reads_back}
use Rattle.esm_redrive.proofs.laws.has_letter.Goals as goal

pub returns : goal.returns
returns c = λ fifo m utf8 valid. (reads_back m utf8 fifo valid).found
