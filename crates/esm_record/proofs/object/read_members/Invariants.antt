use Rattle.std.proofs.Common.{◌≡◌, ℕ, ◌≤◌, length}
use Rattle.json.specs.Json.{members, value}
use Rattle.serde_json.specs.Data.{Members, no_members}
use Rattle.serde_json.specs.Read.{of_members, converted}
use Rattle.esm_record.specs.Leaf.{AreFound}
use Rattle.esm_record.proofs.LineTokens.{members_after}
use Rattle.esm_record.proofs.object.read_members.Given as goal

abbrev pub invariant-members : goal.invariant-members
invariant-members l =
    (n : ℕ) × (found : Members) × (length l.reader ≤ n)
    × (converted (λ ms. of_members ms no_members) (members (value 126) (length l.initial.reader) l.initial.reader) ≡ converted (members_after found) (members (value 126) n l.reader))
    × AreFound found l.found
    × (length l.found.leaves ≡ 9)

abbrev pub decreases-members : goal.decreases-members
decreases-members l = length l.reader
