use Rattle.esm_replay_run.proofs.laws.laws_hold.Goals as goal

pub returns : goal.returns
returns c = record {
  once = c.replayed_once.ensures;
  named = c.calls_named.ensures;
  answered = c.replayed_as_answered.ensures;
  succeeded = c.succeeded_are_replayed.ensures;
  left = c.replayed_or_left.ensures;
  within = c.calls_within.ensures;
  counts = c.counts_add_up.ensures;
  logged = c.calls_logged.ensures;
  says = c.says_after.ensures;
}
