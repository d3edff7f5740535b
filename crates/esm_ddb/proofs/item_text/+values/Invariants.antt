use Rattle.std.proofs.Common.{◌≡◌, ◌++◌, drop, false, codes}
use Rattle.json.specs.Value.{items_view, members_view}
use Rattle.esm_ddb.specs.ItemText.{items_text, members_text}
use Rattle.esm_ddb.specs.Tree.{items_in, members_in}
use Rattle.esm_ddb.proofs.item_text.+values.Given as goal

abbrev pub invariant-push_items-loop-item : goal.invariant-push_items-loop-item
invariant-push_items-loop-item l =
    l.out.items ++ items_text l.later (items_in (items_view (drop l.item-index l.item-items))) ≡ l.fn.out.items ++ (codes "[" ++ items_text false (items_in (items_view l.item-items)))

abbrev pub invariant-push_members-loop-member : goal.invariant-push_members-loop-member
invariant-push_members-loop-member l =
    l.out.items ++ members_text l.later (members_in (members_view (drop l.member-index l.member-items))) ≡ l.fn.out.items ++ (codes "{" ++ members_text false (members_in (members_view l.member-items)))
