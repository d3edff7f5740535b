-- The items of an input from a mapping's starting position on. Source: the Lambda API reference, `StartingPosition` and
-- `StartingPositionTimestamp` of `CreateEventSourceMapping`.
use Rattle.std.specs.Prelude.{ℕ, nat_le, Bool, true, ◌||◌, List, [], ◌∷◌, if◌then◌else◌}
use Rattle.esm_model.specs.declared.config.Start.{Start}
use Rattle.esm_model.specs.declared.config.Start.TheVariants.{TrimHorizon, Latest, At}
use Rattle.esm_model.specs.Entries.{holds}
use Rattle.esm_model.specs.declared.item.Item.{Item}
use Rattle.esm_model.specs.declared.item.Item.TheVariants.{Stream, Queue}
use Rattle.esm_input.specs.Limits.{shards_with}

-- the item is not before the starting position: its shard has begun, or it did not arrive before the moment and so begins
-- its shard; a queue has no positions
abbrev pub has_begun : (moment : ℕ) → List ℕ → Item → Bool
has_begun moment begun (Stream r) = holds begun r.shard || nat_le moment r.arrival
has_begun moment begun (Queue m) = true

-- the items from the moment on, given the shards that have begun
abbrev pub from_moment : (moment : ℕ) → List ℕ → List Item → List Item
from_moment moment begun [] = []
from_moment moment begun (x ∷ xs) =
    if has_begun moment begun x then x ∷ from_moment moment (shards_with begun x) xs else from_moment moment begun xs

-- each shard begins with its first record that did not arrive before the moment of the start; with its first record if the
-- start is no moment
abbrev pub from_start : Start → List Item → List Item
from_start TrimHorizon xs = xs
from_start Latest xs = xs
from_start (At moment) xs = from_moment moment [] xs
