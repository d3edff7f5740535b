use Rattle.esm_life.proofs.laws.replay_laws_hold.Goals as goal

pub returns : goal.returns
returns c = record {
  once = c.each_replayed_once.ensures;
  replays = c.replays_stay.ensures;
  called = c.none_is_called_again.ensures;
  answered = c.each_is_answered.ensures;
  stay = c.fates_and_tries_stay.ensures;
  good = c.content_is_good.ensures;
  none = c.runs_replay_nothing.ensures;
}
