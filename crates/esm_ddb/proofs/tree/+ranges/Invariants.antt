use Rattle.std.proofs.Common.{◌≡◌, drop}
use Rattle.json.specs.Value.{items_view, members_view}
use Rattle.esm_ddb.specs.Tree.{are_ranged, members_ranged}
use Rattle.esm_ddb.proofs.tree.+ranges.Given as goal

abbrev pub invariant-are_ranged-loop-item : goal.invariant-are_ranged-loop-item
invariant-are_ranged-loop-item l = are_ranged (items_view (drop l.item-index l.item-items)) ≡ are_ranged (items_view l.item-items)

abbrev pub invariant-members_ranged-loop-member : goal.invariant-members_ranged-loop-member
invariant-members_ranged-loop-member l = members_ranged (members_view (drop l.member-index l.member-items)) ≡ members_ranged (members_view l.member-items)
