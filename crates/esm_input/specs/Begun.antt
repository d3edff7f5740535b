-- The shards of an input that have begun. Only this crate's proofs cite this.
use Rattle.std.specs.Prelude.{ℕ, List, [], ◌∷◌, if◌then◌else◌}
use Rattle.esm_model.specs.declared.config.Start.{Start}
use Rattle.esm_model.specs.declared.config.Start.TheVariants.{TrimHorizon, Latest, At}
use Rattle.esm_model.specs.declared.item.Item.{Item}
use Rattle.esm_input.specs.Limits.{shards_with}
use Rattle.esm_input.specs.Positions.{has_begun, from_moment}

-- the shards that have begun after these items
abbrev pub begun_after : (moment : ℕ) → List ℕ → List Item → List ℕ
begun_after moment begun [] = begun
begun_after moment begun (x ∷ xs) =
    if has_begun moment begun x then begun_after moment (shards_with begun x) xs else begun_after moment begun xs

-- the items from the start on, given the shards that have begun
abbrev pub kept_from : Start → List ℕ → List Item → List Item
kept_from TrimHorizon begun xs = xs
kept_from Latest begun xs = xs
kept_from (At moment) begun xs = from_moment moment begun xs

-- the shards that have begun after these items, for this start
abbrev pub begun_from : Start → List ℕ → List Item → List ℕ
begun_from TrimHorizon begun xs = begun
begun_from Latest begun xs = begun
begun_from (At moment) begun xs = begun_after moment begun xs
