use Rattle.esm_queue_model.proofs.QueueTests.{is_legal_queue_sound}
use Rattle.esm_queue_model.proofs.worked.legal_by_tests.Goals as goal

pub returns : goal.returns
returns c = is_legal_queue_sound
