-- How an input continues after what was read of it. Source: JSON Lines; that nothing is read after the first bad line is
-- this product's own.
use Rattle.std.specs.Prelude.{◌≡◌, List, ◌++◌, IsSome}
use Rattle.esm_model.specs.declared.item.Item.{Item}
use Rattle.esm_record.specs.Input.{Input}

-- the items so far are the first of the later ones, and after a bad line nothing is read
pub record GoesOnFrom (so_far later : Input) : Type 0 where
  pub more : List Item
  pub items : later.items ≡ so_far.items ++ more
  pub stopped : IsSome so_far.bad → later ≡ so_far
