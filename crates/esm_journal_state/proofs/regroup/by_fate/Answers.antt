use Rattle.std.proofs.Common.{◌≡◌, [], true, sym, ap, ◌∙◌}
use Rattle.std.specs.BTreeMap as map
use Rattle.esm_journal_record.specs.Payload.{fate_byte}
use Rattle.esm_journal_state.specs.Pieces.{key_cmp}
use Rattle.esm_journal_state.proofs.Regrouping.{regrouped, fates_regrouped}
use Rattle.esm_journal_state.proofs.regroup.by_fate.Goals as goal

pub returns-clause-has : goal.returns-clause-has
returns-clause-has c = λ q.
    let ended : c.loop-place.place-iterator ≡ [] = c.in-None.ensures.steps.0 in
    sym (ap (λ es. regrouped (λ e. true) (λ e. ((e.0.0, fate_byte e.1.fate), e.0.1)) (λ e. e.1.text) (map.get key_cmp c.loop-place.named q) es q) ended)
    ∙ c.loop-place.invariant q
    ∙ fates_regrouped c.args.fates.now.entries q c.len.ensures.ordered
