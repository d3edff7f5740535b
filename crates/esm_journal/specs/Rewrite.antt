-- What a call says that writes a new list to the disk of a pair that is not in use, and then uses that disk.
use Rattle.std.specs.Prelude.{◌≡◌, ◌+◌, ℕ, true, false, not, List, Some, Result, Ok, Err, OnOk, OnErr, IsErrOf}
use Rattle.esm_io.specs.Faults.{IsCount, Rose}
use Rattle.esm_io.specs.Meanings.{DiskMeaning}
use Rattle.esm_journal.specs.declared.error.AppendError.{AppendError}
use Rattle.esm_journal.specs.declared.error.AppendError.TheVariants.{TooLong, DiskFault, OutOfMemory, Down}
use Rattle.esm_journal.specs.Bytes.{rewritten}
use Rattle.esm_journal.specs.File.{header_of, AreShort}
use Rattle.esm_journal.specs.Pair.{PairState}
use Rattle.esm_journal.specs.Replace.{first_too_long}

-- the disk to which the list was to be written: after Ok it is in use
abbrev pub disk_written : {A D : Type 0} → Result A AppendError → PairState D → D
disk_written (Ok _) pair = pair.used
disk_written (Err _) pair = pair.spare

-- The list was written, or the call was refused: what each answer says of the pair before and after.
pub record IsRewritten {A D : Type 0} (m : DiskMeaning D) (list : List (List ℕ)) (old new : PairState D) (result : Result A AppendError) : Type 0 where
  -- after Ok the payloads are the list
  pub written : OnOk result (new.payloads ≡ list)
  -- in a file of the next epoch
  pub next_epoch : OnOk result (new.epoch ≡ old.epoch + 1)
  -- and these are its bytes
  pub bytes : m.honest old.spare ≡ true → OnOk result (m.content new.used ≡ rewritten (header_of 2) (old.epoch + 1) list (m.content old.spare))
  -- the reserved room stays
  pub room : OnOk result (new.room ≡ old.room)
  -- and the next payload may be added
  pub up : OnOk result (new.down ≡ false)
  -- the disk that was in use is the spare one
  pub replaced : OnOk result (new.spare ≡ old.used)
  -- and the disk that was the spare one is in use
  pub changed_over : OnOk result (new.swapped ≡ not old.swapped)
  -- after an error all is as before, except that the spare disk may have been written and the pair may be down
  pub not_written : OnErr result (new ≡ record old { down = new.down; spare = new.spare })
  -- after `DiskFault` it is down
  pub fault : IsErrOf result DiskFault → new.down ≡ true
  -- and the disk's count of faults rose
  pub cause : IsErrOf result DiskFault → Rose (m.faults old.spare) (m.faults new.spare)
  -- after `OutOfMemory` nothing has changed
  pub no_memory : IsErrOf result OutOfMemory → new ≡ old
  -- after `Down` nothing has changed, and the pair was down
  pub down : IsErrOf result Down → (new ≡ old) × (old.down ≡ true)
  -- `Down` is returned whenever it was
  pub is_down : old.down ≡ true → IsErrOf result Down
  -- after `TooLong` nothing has changed, and this is the length of the first payload that is too long
  pub too_long : (n : ℕ) → IsErrOf result (TooLong n) → (new ≡ old) × (old.down ≡ false) × (first_too_long list ≡ Some n)
  -- `TooLong` is returned whenever there is one and the pair was not down
  pub is_too_long : old.down ≡ false → (n : ℕ) → first_too_long list ≡ Some n → IsErrOf result (TooLong n)
  -- and never if no payload is too long
  pub short_enough : AreShort list → (n : ℕ) → IsErrOf result (TooLong n) → ⊥
  -- the disk that was written is as honest as it was
  pub honesty : m.honest (disk_written result new) ≡ m.honest old.spare
  -- and its count of faults does not fall
  pub count : IsCount (m.faults old.spare) (m.faults (disk_written result new))
