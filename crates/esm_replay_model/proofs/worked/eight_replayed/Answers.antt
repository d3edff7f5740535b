use Rattle.esm_replay_model.proofs.WorkedReplays as facts
use Rattle.esm_replay_model.proofs.worked.eight_replayed.Goals as goal

pub returns : goal.returns
returns c = record { replay_eight = facts.replay_eight; short_call = facts.short_call; failed = facts.failed; second_call = facts.second_call; no_calls = facts.no_calls }
