use Rattle.esm_journal.proofs.Pairs.{pair_opens}
use Rattle.esm_journal.proofs.laws.file_beside_spare.Goals as goal

pub returns : goal.returns
returns c = record { opens = λ header epoch payloads used spare eight file beside. pair_opens header epoch payloads used spare eight file beside }
