use Rattle.std.proofs.Common.{◌≡◌, drop}
use Rattle.json.specs.Value.{members_view}
use Rattle.esm_ddb.specs.Attribute.{are_key_values}
use Rattle.esm_ddb.specs.Tree.{members_in}
use Rattle.esm_ddb.proofs.attribute.are_key_values.Given as goal

abbrev pub invariant-loop-member : goal.invariant-loop-member
invariant-loop-member l = are_key_values (members_in (members_view (drop l.member-index l.member-items))) ≡ are_key_values (members_in (members_view l.member-items))
