use Rattle.std.proofs.Common.{◌≡◌, ◌+◌, drop}
use Rattle.json.specs.Value.{items_view, members_view}
use Rattle.esm_ddb.specs.Lexemes.{items_sum, members_sum}
use Rattle.esm_ddb.proofs.size.+sizes.Given as goal

abbrev pub invariant-items_size-loop-item : goal.invariant-items_size-loop-item
invariant-items_size-loop-item l = l.total + items_sum (items_view (drop l.item-index l.item-items)) ≡ 1 + items_sum (items_view l.item-items)

abbrev pub invariant-members_size-loop-member : goal.invariant-members_size-loop-member
invariant-members_size-loop-member l = l.total + members_sum (members_view (drop l.member-index l.member-items)) ≡ 1 + members_sum (members_view l.member-items)
