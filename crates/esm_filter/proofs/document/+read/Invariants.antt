use Rattle.std.proofs.Common.{◌≡◌, ℕ, ◌+◌, ◌*◌, ◌≤◌, ◌++◌, filter, length, true}
use Rattle.json.specs.Json.{items, members, value}
use Rattle.serde_json.specs.Data.{Items, Members, no_members}
use Rattle.serde_json.specs.Read.{of_items, of_members, converted}
use Rattle.esm_model.specs.Leaves.{is_leaf, items_list}
use Rattle.esm_filter.specs.Criteria.{patterns_view}
use Rattle.esm_filter.specs.Found.{items_view, members_view}
use Rattle.esm_filter.specs.Named.{is_named, AreFew}
use Rattle.esm_filter.proofs.LikeLemmas.{members_like}
use Rattle.esm_filter.proofs.Tokens.{items_after, members_after}
use Rattle.esm_filter.proofs.document.+read.Given as goal

abbrev pub decreases-read : goal.decreases-read
decreases-read l = 2 * l.depth

abbrev pub decreases-read_items : goal.decreases-read_items
decreases-read_items l = 2 * l.depth + 1

abbrev pub decreases-read_members : goal.decreases-read_members
decreases-read_members l = 2 * l.depth + 1

abbrev pub invariant-read_items-items : goal.invariant-read_items-items
invariant-read_items-items l =
    (n : ℕ) × (before : Items → Items) × (length l.reader ≤ n)
    × (converted of_items (items (value l.depth) (length l.initial.reader) l.initial.reader) ≡ converted (items_after before) (items (value l.depth) n l.reader))
    × (length l.reader ≤ length l.initial.reader)
    × (l.kept ≡ true → (rest : Items) → filter is_leaf (items_list (before rest)) ≡ filter is_leaf (items_list (items_view l.found.items)) ++ filter is_leaf (items_list rest))

abbrev pub decreases-read_items-items : goal.decreases-read_items-items
decreases-read_items-items l = length l.reader

abbrev pub invariant-read_members-members : goal.invariant-read_members-members
invariant-read_members-members l =
    (n : ℕ) × (read : Members) × (length l.reader ≤ n)
    × (converted (λ ms. of_members ms no_members) (members (value l.depth) (length l.initial.reader) l.initial.reader) ≡ converted (members_after read) (members (value l.depth) n l.reader))
    × (length l.reader ≤ length l.initial.reader)
    × members_like (is_named (patterns_view l.patterns)) l.kept read (members_view l.found.items)
    × AreFew (is_named (patterns_view l.patterns)) l.found.items

abbrev pub decreases-read_members-members : goal.decreases-read_members-members
decreases-read_members-members l = length l.reader
