use Rattle.std.proofs.Common.{Some}
use Rattle.std.specs.BTreeMap as map
use Rattle.esm_journal_state.specs.Table.{pair_cmp}
use Rattle.esm_journal_state.proofs.Pairs.{changed}
use Rattle.esm_journal_state.proofs.add.add_window_tried.Goals as goal

pub returns : goal.returns
returns c = λ h moment old. record {
  fates = old.fates;
  tries = old.tries;
  states = old.states;
  window_tries = λ n w. rw (← old.window_tries n w) (changed c.args.shard n c.args.window w (Some c.args.tries) (map.get pair_cmp c.args.growing.now.table.window_tries (n, w)) (map.get pair_cmp c.insert.new.self (n, w)) (c.in_ok-insert.ensures.updates.0 (n, w)));
  replays = old.replays;
  deletions = old.deletions;
  tops = old.tops;
}
