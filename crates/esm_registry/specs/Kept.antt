-- What a registry maintains in addition to what contracts see of it. Only this crate's proofs cite this.
use Rattle.std.specs.Prelude.{◌≡◌, Bool, Some, None}
use Rattle.esm_journal.specs.State.{JournalState}
use Rattle.esm_registry.specs.Index.{TableState}
use Rattle.esm_registry.specs.Payload.{mappings_of}

-- the payloads say the mappings, no promise is open, and the flag says whether the journal is down
pub record IsKept {D : Type 0} (table : TableState) (journal : JournalState D) (down : Bool) : Type 0 where
  pub said : mappings_of journal.payloads ≡ Some table.mappings
  pub free : table.promised ≡ None
  pub down_is : journal.down ≡ down
