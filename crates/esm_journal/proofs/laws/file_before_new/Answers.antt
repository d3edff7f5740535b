use Rattle.esm_journal.proofs.Pairs.{old_file_beside}
use Rattle.esm_journal.proofs.laws.file_before_new.Goals as goal

pub returns : goal.returns
returns c = record { beside = λ header epoch greater payloads bytes eight file lt. old_file_beside header epoch greater payloads bytes eight file lt }
