use Rattle.std.proofs.Common.{◌≡◌, drop, codes}
use Rattle.std.specs.Option.{option_or}
use Rattle.json.specs.Value.{members_view}
use Rattle.esm_ddb.specs.Event.{value_at}
use Rattle.esm_ddb.proofs.elements.records_at.Given as goal

abbrev pub invariant-loop-member : goal.invariant-loop-member
invariant-loop-member l =
    value_at (codes "Records") 1 (members_view l.member-items) ≡ option_or (value_at (codes "Records") l.at (members_view (drop l.member-index l.member-items))) l.found
