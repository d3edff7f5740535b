use Rattle.std.proofs.Common.{◌≡◌, [], sym, ap, ◌∙◌}
use Rattle.std.specs.BTreeMap as map
use Rattle.std.specs.BTreeSet as set
use Rattle.esm_journal_state.specs.Pieces.{key_cmp}
use Rattle.esm_journal_state.specs.Table.{pair_cmp}
use Rattle.esm_journal_state.proofs.Regrouping.{regrouped, replays_regrouped}
use Rattle.esm_journal_state.proofs.regroup.by_replay.Goals as goal

pub returns-clause-has : goal.returns-clause-has
returns-clause-has c = λ q.
    let ended : c.loop-place.place-iterator ≡ [] = c.in-None.ensures.steps.0 in
    sym (ap (λ es. regrouped (λ e. set.contains pair_cmp c.args.replays.now e.0) (λ e. ((e.0.0, 0), e.0.1)) (λ e. e.1.text) (map.get key_cmp c.loop-place.named q) es q) ended)
    ∙ c.loop-place.invariant q
    ∙ replays_regrouped (λ p. set.contains pair_cmp c.args.replays.now p) c.args.fates.now.entries q c.len.ensures.ordered
