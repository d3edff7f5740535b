use Rattle.esm_runner.proofs.stream_laws.laws_hold.Goals as goal

pub returns : goal.returns
returns c = record {
  order = c.order_per_key.ensures;
  one = c.one_fate.ensures;
  earned = c.fate_is_earned.ensures;
  logged = c.answer_is_logged.ensures;
  calls = c.calls_kept.ensures;
  once = c.no_repeat.ensures;
  counted = c.every_record_counted.ensures;
  longest = c.checkpoint_is_longest.ensures;
  stay = c.history_payloads_stay.ensures;
  said = c.legal_may_be_said.ensures;
  fates = c.fates_are_kept.ensures;
  kept = c.checkpoint_is_kept.ensures;
  hand_timed = c.hand_is_timed.ensures.hand;
  tried_timed = c.hand_is_timed.ensures.tried;
  front_timed = c.hand_is_timed.ensures.front;
  within = c.handed_is_within.ensures;
}
