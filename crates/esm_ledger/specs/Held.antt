-- The records of a shard that came, and which of them are held. This product's own.
use Rattle.std.specs.Prelude.{ℕ, Bool, List}
use Rattle.esm_model.specs.Records.{Record}

-- all that came, by place whether the record is held, and for how many more there is room
pub record Held : Type 0 where
  pub items : List Record
  pub held : List Bool
  pub room : ℕ
