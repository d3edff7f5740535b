use Rattle.esm_runner.proofs.queue_laws.laws_hold.Goals as goal

pub returns : goal.returns
returns c = record {
  once = c.deleted_once.ensures;
  order = c.order_per_group.ensures;
  counted = c.every_message_counted.ensures;
  more = c.legal_over_more.ensures;
  calls = c.queue_calls_kept.ensures;
  again = c.read_again.ensures;
  hand_timed = c.hand_is_timed.ensures.hand;
  front_timed = c.hand_is_timed.ensures.front;
  within = c.handed_is_within.ensures;
}
