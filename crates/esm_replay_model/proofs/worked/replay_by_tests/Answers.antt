use Rattle.esm_replay_model.proofs.ReplayTests.{is_replay_sound}
use Rattle.esm_replay_model.proofs.worked.replay_by_tests.Goals as goal

pub returns : goal.returns
returns c = is_replay_sound
