-- What a call that adds a payload to a file says, for either kind of journal.
use Rattle.std.specs.Prelude.{◌≡◌, ◌<◌, ◌++◌, ◌∷◌, [], ℕ, true, false, List, length, Result, OnOk, OnErr, IsErrOf}
use Rattle.esm_io.specs.Faults.{IsCount, Rose}
use Rattle.esm_io.specs.Meanings.{DiskMeaning}
use Rattle.esm_model.specs.declared.limits.TheConstants.{MAX_PAYLOAD}
use Rattle.esm_journal.specs.declared.error.AppendError.{AppendError}
use Rattle.esm_journal.specs.declared.error.AppendError.TheVariants.{TooLong, DiskFault, OutOfMemory, Down}
use Rattle.esm_journal.specs.Bytes.{with_payload}
use Rattle.esm_journal.specs.Room.{HasRoom, room_after}
use Rattle.esm_journal.specs.State.{JournalState}
use Rattle.esm_journal.specs.Pair.{PairState}

-- the file in use of a pair
abbrev pub file_in_use : {D : Type 0} → PairState D → JournalState D
file_in_use pair = record { payloads = pair.payloads; down = pair.down; room = pair.room; disk = pair.used }

-- This payload was added to the file, or the call was refused: what each answer says of the file before and after.
pub record IsAppended {A D : Type 0} (m : DiskMeaning D) (payload : List ℕ) (old new : JournalState D) (result : Result A AppendError) : Type 0 where
  -- after Ok the payload is behind those that were there
  pub added : OnOk result (new.payloads ≡ old.payloads ++ payload ∷ [])
  -- and these are the bytes of the file
  pub bytes : m.honest old.disk ≡ true → OnOk result (m.content new.disk ≡ with_payload old.payloads payload (m.content old.disk))
  -- it used the room that was reserved for it
  pub room : OnOk result (new.room ≡ room_after old.room (length payload))
  -- and the next payload may be added
  pub up : OnOk result (new.down ≡ false)
  -- after an error the payloads are those from before
  pub not_added : OnErr result (new.payloads ≡ old.payloads)
  -- after `DiskFault` the journal is down
  pub fault : IsErrOf result DiskFault → new.down ≡ true
  -- and the disk's count of faults rose
  pub cause : IsErrOf result DiskFault → Rose (m.faults old.disk) (m.faults new.disk)
  -- after `OutOfMemory` nothing has changed
  pub no_memory : IsErrOf result OutOfMemory → new ≡ old
  -- and no room was reserved for it
  pub has_room : HasRoom old.room (length payload) → IsErrOf result OutOfMemory → ⊥
  -- after `Down` nothing has changed, and the journal was down
  pub down : IsErrOf result Down → (new ≡ old) × (old.down ≡ true)
  -- `Down` is returned whenever it was
  pub is_down : old.down ≡ true → IsErrOf result Down
  -- after `TooLong` nothing has changed, and the payload is above the limit
  pub too_long : (n : ℕ) → IsErrOf result (TooLong n) → (new ≡ old) × (old.down ≡ false) × (n ≡ length payload) × (MAX_PAYLOAD < length payload)
  -- `TooLong` is returned whenever it is and the journal was not down
  pub is_too_long : old.down ≡ false → MAX_PAYLOAD < length payload → IsErrOf result (TooLong (length payload))
  -- the disk is as honest as it was
  pub honesty : m.honest new.disk ≡ m.honest old.disk
  -- and its count of faults does not fall
  pub count : IsCount (m.faults old.disk) (m.faults new.disk)
