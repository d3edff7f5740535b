-- The failures that an answer lists. Only this crate's proofs cite this.
use Rattle.std.specs.Prelude.{ℕ, List, Option, Some, None, option_map, ◌++◌, codes}
use Rattle.serde_json.specs.Data.{Data, null, array, object, Items, no_items}
use Rattle.serde_json.specs.Find.{get_member}

-- from the value of `batchItemFailures`
abbrev pub listed_at : Option Data → Option Items
listed_at None = Some no_items
listed_at (Some null) = Some no_items
listed_at (Some (array ds)) = Some ds
listed_at (Some _) = None

-- the failures that the answer lists; none if it is not readable as a list of them
abbrev pub listed : Data → Option Items
listed null = Some no_items
listed (object ms) = listed_at (get_member (codes "batchItemFailures") ms)
listed _ = None

-- these positions, and then the others, unless one of those was not found
abbrev pub then_positions : List ℕ → Option (List ℕ) → Option (List ℕ)
then_positions found more = option_map (λ ps. found ++ ps) more
