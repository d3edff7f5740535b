use Rattle.std.proofs.Common.{sym, ap, ◌∙◌}
use Rattle.std.specs.Map.{lookup}
use Rattle.std.specs.BTreeMap.{is_at}
use Rattle.esm_journal_state.specs.SaidLists.{pair_cmp}
use Rattle.esm_journal_state.proofs.Finding.{fate_found}
use Rattle.esm_journal_state.proofs.FateRows.{keys_in_order}
use Rattle.esm_journal_state.proofs.lookup.Says.fate.Goals as goal

pub fate_in-requires : goal.fate_in-requires
fate_in-requires c = rw c.as_slice.ensures.value (keys_in_order c.self.inside.fates.items c.self.invariant.order.fates)

pub returns-in-None : goal.returns-in-None
returns-in-None c =
    let at = is_at (pair_cmp (c.args.shard, c.args.place)) in
    rw (← c.self.view_is) (c.in-None.ensures ∙ ap (lookup at) c.as_slice.ensures.value ∙ sym (fate_found c.self.inside.fates.items c.args.shard c.args.place))

pub returns-in-Some : goal.returns-in-Some
returns-in-Some c =
    let at = is_at (pair_cmp (c.args.shard, c.args.place)) in
    rw (← c.self.view_is) (c.in-Some.ensures ∙ ap (lookup at) c.as_slice.ensures.value ∙ sym (fate_found c.self.inside.fates.items c.args.shard c.args.place))
