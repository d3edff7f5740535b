-- What a command read of its input, and that nothing happened in one that ran no mapping. This product's own.
use Rattle.std.specs.Prelude.{◌≡◌, ◌≢◌, ◌++◌, ℕ, Bool, true, List, [], Option}
use Rattle.esm_ddb.specs.Translating.{source_of}
use Rattle.esm_ddb.specs.TurnedInput.{IsTurnedInput}
use Rattle.esm_ddb.specs.declared.input.InputTurned.{InputTurned}
use Rattle.esm_input.specs.Positions.{from_start}
use Rattle.esm_input.specs.Reading.{items_read}
use Rattle.esm_io.specs.Told.{IsAtEnd, TakesFront}
use Rattle.esm_mapping.specs.declared.named.NamedMapping.{NamedMapping}
use Rattle.esm_model.specs.declared.config.Start.{Start}
use Rattle.esm_model.specs.declared.item.Item.{Item}
use Rattle.esm_model.specs.declared.item.LineKind.{LineKind}
use Rattle.esm_model.specs.declared.item.LineKind.TheVariants.{Stream}
use Rattle.esm_run.specs.Ddb.{all_left}
use Rattle.esm_run.specs.World.{history}
use Rattle.esm_run.specs.declared.world.World.{World}

-- These are the items of a prefix of the bytes that were read of the input, from the starting position on. Unless memory ran
-- out, they are those of all bytes that were read.
pub record HasRead {S : Type 0} (left : S → Option (List ℕ)) (kind : LineKind) (factor : ℕ) (start : Start) (status : ℕ) (old new : S) (items : List Item) : Type 0 where
  pub bytes : List ℕ
  pub more : List ℕ
  pub whole : Bool
  pub taken : TakesFront (left old) (left new) (bytes ++ more)
  pub items_are : items ≡ from_start start (items_read kind factor whole bytes).items
  pub no_more : status ≢ 70 → more ≡ []
  pub at_end : status ≢ 70 → whole ≡ true → IsAtEnd (left new)

-- the same of a DynamoDB stream: the input was turned into these lines, and the items are those that were read of them
pub record HasReadTurned {S : Type 0} (faults : S → ℕ) (left : S → Option (List ℕ)) (mapping : NamedMapping) (status : ℕ) (old new : S) (items : List Item) : Type 0 where
  pub lines : List ℕ
  pub reading : InputTurned
  pub is_turned : IsTurnedInput faults left (source_of mapping.config) old new lines reading
  pub rest : List ℕ
  pub read : HasRead all_left Stream mapping.config.factor mapping.start status lines rest items

-- the history is empty, and the callers are as before
pub record NothingHappened {S K D C F L : Type 0} (old new : World S K D C F L) : Type 0 where
  pub no_trace : history new ≡ []
  pub uncalled : new.callers.items ≡ old.callers.items
