-- What a reader of lines keeps of the items before. Only this crate's proofs cite this.
use Rattle.std.specs.Prelude.{◌≡◌, ℕ, List}
use Rattle.esm_model.specs.declared.item.Item.{Item}
use Rattle.esm_record.specs.declared.seen.Seen.{Seen}
use Rattle.esm_record.specs.Input.{last_number, has_stood}
use Rattle.esm_record.specs.Ids.{stood_in}
use Rattle.esm_record.specs.Numbers.{number_in}

-- what is kept are the last sequence number of each shard and the ids, over these items
pub record Follows (items : List Item) (seen : Seen) : Type 0 where
  pub number : (shard : ℕ) → number_in seen.numbers shard ≡ last_number shard items
  pub id : (id : List ℕ) → stood_in seen.ids id ≡ has_stood id items
