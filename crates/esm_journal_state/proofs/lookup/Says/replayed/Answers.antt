use Rattle.std.proofs.Common.{sym, ◌∙◌}
use Rattle.esm_journal_state.proofs.Finding.{replay_found}
use Rattle.esm_journal_state.proofs.lookup.Says.replayed.Goals as goal

pub returns : goal.returns
returns c = rw (← c.self.view_is) (c.contains.ensures ∙ sym (replay_found c.self.inside.replays.keys c.args.shard c.args.place))
