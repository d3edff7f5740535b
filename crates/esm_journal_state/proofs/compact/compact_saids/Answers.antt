use Rattle.std.proofs.Common.{◌++◌, ◌&&◌, eqb, cond, None, ap, ◌∙◌}
use Rattle.std.specs.Prelude.{map}
use Rattle.std.specs.BTreeMap as tree
use Rattle.esm_journal_state.specs.Table.{pair_cmp}
use Rattle.esm_journal_state.specs.Meaning.{fate_text, replayed_said}
use Rattle.esm_journal_state.specs.Compact.{fate_text_of, tries_text_of, fates_of, tried_of, replayed_of, deleted_of, state_of_window, tried_of_window}
use Rattle.esm_journal_state.specs.Pieces.{pieces}
use Rattle.esm_journal_state.proofs.Joining.{joined}
use Rattle.esm_journal_state.proofs.compact.compact_saids.Goals as goal

pub returns : goal.returns
returns c = λ h table same. record {
  fates = c.in_ok-fates.fates.entries;
  fates_listed = record {
    order = c.in_ok-fates.ensures.order;
    has = λ q. c.in_ok-fates.ensures.has q ∙ ap (λ o. fate_text_of o q.0.1) (table.fates q.0.0 q.1);
  };
  tries = c.in_ok-tries.tries.entries;
  tries_listed = record {
    order = c.in_ok-tries.ensures.order;
    has = λ q. c.in_ok-tries.ensures.has q ∙ ap (λ o. tries_text_of o q.0.1) (table.tries q.0.0 q.1);
  };
  replays = c.in_ok-replays.replays.entries;
  replays_listed = record {
    order = c.in_ok-replays.ensures.order;
    has = λ q.
        c.in_ok-replays.ensures.has q
        ∙ ap (λ b. cond (b && eqb q.0.1 0) (fate_text (tree.get pair_cmp c.args.table.now.fates (q.0.0, q.1))) None) (table.replays q.0.0 q.1)
        ∙ ap (λ o. cond (replayed_said h q.0.0 q.1 && eqb q.0.1 0) (fate_text o) None) (table.fates q.0.0 q.1);
  };
  states = c.args.table.now.states.entries;
  states_listed = record { order = c.len.ensures.ordered; has = λ q. table.states q.0 q.1 };
  window_tries = c.args.table.now.window_tries.entries;
  window_tries_listed = record { order = c.len-2.ensures.ordered; has = λ q. table.window_tries q.0 q.1 };
  deletions = c.in_ok-deletions.deletions.entries;
  deletions_listed = record {
    order = c.in_ok-deletions.ensures.order;
    has = λ q. c.in_ok-deletions.ensures.has q ∙ ap (λ o. cond (eqb q.0.0 0) (fate_text_of o q.0.1) None) (table.deletions q.1);
  };
  parts =
      let m = c.args.moment in
      rw (← same)
      (joined c.new-saids.result.items c.push_fates.new.saids.items c.push_tries.new.saids.items c.push_replays.new.saids.items c.push_states.new.saids.items c.push_window_tries.new.saids.items c.push_deletions.new.saids.items
      (map (fates_of m) (pieces c.in_ok-fates.fates.entries)) (map (tried_of m) (pieces c.in_ok-tries.tries.entries)) (map (replayed_of m) (pieces c.in_ok-replays.replays.entries))
      (map (state_of_window m) c.args.table.now.states.entries) (map (tried_of_window m) c.args.table.now.window_tries.entries) (map (deleted_of m) (pieces c.in_ok-deletions.deletions.entries))
      c.new-saids.ensures.items
      (c.in_ok-push_fates.ensures ∙ ap (λ ps. c.new-saids.result.items ++ map (fates_of m) ps) c.in_ok-pieces_of.ensures)
      (c.in_ok-push_tries.ensures ∙ ap (λ ps. c.push_fates.new.saids.items ++ map (tried_of m) ps) c.in_ok-pieces_of-2.ensures)
      (c.in_ok-push_replays.ensures ∙ ap (λ ps. c.push_tries.new.saids.items ++ map (replayed_of m) ps) c.in_ok-pieces_of-3.ensures)
      c.in_ok-push_states.ensures
      c.in_ok-push_window_tries.ensures
      (c.in_ok-push_deletions.ensures ∙ ap (λ ps. c.push_window_tries.new.saids.items ++ map (deleted_of m) ps) c.in_ok-pieces_of-4.ensures));
}
