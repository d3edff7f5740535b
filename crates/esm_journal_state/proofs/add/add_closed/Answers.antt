use Rattle.std.proofs.Common.{None}
use Rattle.std.specs.BTreeMap as map
use Rattle.esm_journal_state.specs.Table.{pair_cmp}
use Rattle.esm_journal_state.proofs.Pairs.{changed}
use Rattle.esm_journal_state.proofs.add.add_closed.Goals as goal

pub returns : goal.returns
returns c = λ h moment old. record {
  fates = old.fates;
  tries = old.tries;
  states = λ n w. rw (← old.states n w) (changed c.args.shard n c.args.window w None (map.get pair_cmp c.args.growing.now.table.states (n, w)) (map.get pair_cmp c.remove.new.self (n, w)) (c.remove.ensures.updates.0 (n, w)));
  window_tries = λ n w. rw (← old.window_tries n w) (changed c.args.shard n c.args.window w None (map.get pair_cmp c.args.growing.now.table.window_tries (n, w)) (map.get pair_cmp c.remove-2.new.self (n, w)) (c.remove-2.ensures.updates.0 (n, w)));
  replays = old.replays;
  deletions = old.deletions;
  tops = old.tops;
}
