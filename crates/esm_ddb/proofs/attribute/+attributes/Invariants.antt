use Rattle.std.proofs.Common.{◌≡◌, drop}
use Rattle.json.specs.Value.{items_view, members_view}
use Rattle.esm_ddb.specs.Attribute.{are_attributes, is_item}
use Rattle.esm_ddb.specs.Tree.{items_in, members_in}
use Rattle.esm_ddb.proofs.attribute.+attributes.Given as goal

abbrev pub invariant-are_attributes-loop-item : goal.invariant-are_attributes-loop-item
invariant-are_attributes-loop-item l = are_attributes (items_in (items_view (drop l.item-index l.item-items))) ≡ are_attributes (items_in (items_view l.item-items))

abbrev pub invariant-is_item-loop-member : goal.invariant-is_item-loop-member
invariant-is_item-loop-member l = is_item (members_in (members_view (drop l.member-index l.member-items))) ≡ is_item (members_in (members_view l.member-items))
