use Rattle.std.specs.BTreeMap as map
use Rattle.esm_journal_state.specs.Table.{pair_cmp}
use Rattle.esm_journal_state.proofs.Pairs.{stated}
use Rattle.esm_journal_state.proofs.table.keep_state.Goals as goal

pub returns : goal.returns
returns c = λ n w.
    stated c.args.shard n c.args.state.window w c.args.state.text (map.get pair_cmp c.args.states.now (n, w)) (map.get pair_cmp c.insert.new.self (n, w))
    (c.in_ok-insert.ensures.updates.0 (n, w))
