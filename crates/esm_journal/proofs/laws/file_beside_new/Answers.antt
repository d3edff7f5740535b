use Rattle.esm_journal.proofs.Pairs.{pair_old_or_new}
use Rattle.esm_journal.proofs.laws.file_beside_new.Goals as goal

pub returns : goal.returns
returns c = record { opens = λ header epoch payloads list used other eight file new. pair_old_or_new header epoch payloads list used other eight file new }
