use Rattle.std.proofs.Common.{◌-◌, ◌∙◌, get_or, length, refl, sym}
use Rattle.std.specs.Ordering.{nat_cmp}
use Rattle.std.specs.BTreeMap as map
use Rattle.esm_journal_state.proofs.Recent.{passed_now, passed_before}
use Rattle.esm_journal_state.proofs.growing.raise.Goals as goal

pub returns-in_ok-insert-clause-passed : goal.returns-in_ok-insert-clause-passed
returns-in_ok-insert-clause-passed c = λ i above.
    passed_now (map.get nat_cmp c.insert.new.self c.args.shard) c.args.places.now (get_or c.args.places.now (length c.args.places.now - 1) 0) i
    c.requires.rising refl c.in_ok-insert.ensures.updates.1 above

pub returns-else-is_above-clause-passed : goal.returns-else-is_above-clause-passed
returns-else-is_above-clause-passed c = λ i above.
    passed_before (map.get nat_cmp c.args.tops.now c.args.shard) c.args.places.now i c.requires.rising (sym c.is_above.ensures ∙ c.if-is_above.false) above
