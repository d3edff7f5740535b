use Rattle.esm_life.proofs.laws.queue_laws_hold.Goals as goal

pub returns : goal.returns
returns c = record {
  stays = c.deletion_stays.ensures;
  once = c.each_deleted_once.ensures;
  earned = c.each_is_earned.ensures;
  redrive_earned = c.each_redrive_is_earned.ensures;
  ids = c.ids_are_kept.ensures;
  called = c.none_is_called_again.ensures;
  order = c.groups_in_order.ensures;
  recorded = c.deletions_are_recorded.ensures;
  goes_on = c.each_run_goes_on.ensures;
}
