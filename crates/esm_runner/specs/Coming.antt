-- The records that arrived at a book from its input. This product's own.
use Rattle.std.specs.Prelude.{◌≡◌, ◌++◌, ℕ, true, List}
use Rattle.esm_model.specs.Records.{Record}
use Rattle.esm_model.specs.Setting.{records_in}
use Rattle.esm_model.specs.Entries.{is_shut}
use Rattle.esm_ingest.specs.Coming.{of_shard}
pub use Rattle.esm_stream_book.specs.Items.{records_in_items}
use Rattle.esm_stream_book.specs.Books.{BookState}

-- of each shard, the records of the list arrived, in its order
abbrev pub HaveCome : {D T : Type 0} → BookState D T → List Record → Type 0
HaveCome b records = (n : ℕ) → records_in b.core.setting.streams n ≡ of_shard n records

-- of each shard, a prefix of them arrived
abbrev pub SomeCame : {D T : Type 0} → BookState D T → List Record → Type 0
SomeCame b records = (n : ℕ) → (rest : List Record) × (of_shard n records ≡ records_in b.core.setting.streams n ++ rest)

-- all of them arrived, and the end of the input was noted
pub record AllCame {D T : Type 0} (b : BookState D T) (records : List Record) : Type 0 where
  pub came : HaveCome b records
  pub shut : is_shut b.core.past ≡ true
