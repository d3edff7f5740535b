use Rattle.std.proofs.Common.{◌≡◌, drop, option_map}
use Rattle.std.specs.Prelude.{◌&&◌}
use Rattle.json.specs.Value.{items_view, members_view}
use Rattle.esm_ddb.specs.Tree.{are_ordered, goes_on, is_in_order}
use Rattle.esm_ddb.proofs.tree.+orders.Given as goal

abbrev pub invariant-are_ordered-loop-item : goal.invariant-are_ordered-loop-item
invariant-are_ordered-loop-item l = are_ordered (items_view (drop l.item-index l.item-items)) ≡ are_ordered (items_view l.item-items)

abbrev pub invariant-is_in_order-loop-member : goal.invariant-is_in_order-loop-member
invariant-is_in_order-loop-member l =
    (goes_on (option_map (λ s. s.now) l.before) (members_view (drop l.member-index l.member-items)) && is_in_order (members_view (drop l.member-index l.member-items)))
    ≡ is_in_order (members_view l.member-items)
