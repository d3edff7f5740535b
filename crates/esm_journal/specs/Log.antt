-- An open file: what is kept of it in memory, and what the disk holds.
use Rattle.std.specs.Prelude.{◌≡◌, ◌+◌, ◌≤◌, ◌<◌, ◌^◌, ◌⊎◌, ℕ, true, false, List, [], ◌∷◌, ◌++◌, length, vec_len, vec_capacity}
use Rattle.esm_io.specs.Meanings.{DiskMeaning}
use Rattle.esm_io.specs.Images.{Only}
use Rattle.esm_io.specs.Faults.{MAX_FAULTS}
use Rattle.esm_journal.specs.File.{end_of, IsFile}
use Rattle.esm_journal.specs.Room.{room_of, total_room, AreSpares}
use Rattle.esm_journal.specs.State.{JournalState}
use Rattle.esm_journal.specs.declared.log.Log.{Log}

-- what a contract sees of it
abbrev pub state_of : {D : Type 0} → Log D → JournalState D
state_of log = record { payloads = log.payloads.items; down = log.down; room = room_of log.spares.items; disk = log.disk }

-- the file holds these payloads or those
abbrev pub IsEither : List ℕ → ℕ → List (List ℕ) → List (List ℕ) → List ℕ → Type 0
IsEither header epoch one other bytes = IsFile header epoch one bytes ⊎ IsFile header epoch other bytes

-- a call failed while a payload was added: each image holds the payloads, or these and that one
abbrev pub IsStopped : (List ℕ → Type 0) → List ℕ → ℕ → List (List ℕ) → Type 0
IsStopped images header epoch payloads =
    (payload : List ℕ) × ((bytes : List ℕ) → images bytes → IsEither header epoch payloads (payloads ++ payload ∷ []) bytes)

-- If the disk is honest and no call of it failed, its file holds exactly these payloads, and is the only image. After a
-- call that failed each image holds these, or these and one more.
pub record IsLog {D : Type 0} (m : DiskMeaning D) (log : Log D) : Type 0 where
  pub header : length log.header ≡ 8
  pub file : m.honest log.disk ≡ true → log.down ≡ false → IsFile log.header log.epoch log.payloads.items (m.content log.disk)
  pub synced : m.honest log.disk ≡ true → log.down ≡ false → Only (m.content log.disk) (m.image log.disk)
  pub stopped : m.honest log.disk ≡ true → log.down ≡ true → IsStopped (m.image log.disk) log.header log.epoch log.payloads.items
  pub end : log.end ≡ end_of log.payloads.items
  pub faults_fit : m.faults log.disk ≤ MAX_FAULTS
  pub spares : AreSpares log.spares.items
  pub total : log.end + total_room log.spares.items < 2 ^ 64
  pub places : vec_len log.payloads + length log.spares.items ≤ vec_capacity log.payloads

-- a call left the log as it was
pub record IsUnchanged {D : Type 0} (old new : Log D) : Type 0 where
  pub disk : new.disk ≡ old.disk
  pub payloads : new.payloads.items ≡ old.payloads.items
  pub spares : new.spares.items ≡ old.spares.items
  pub down : new.down ≡ old.down
