-- What the disks of a pair hold, beside the log of the one in use.
use Rattle.std.specs.Prelude.{◌≡◌, ◌≤◌, Bool, true, false}
use Rattle.esm_io.specs.Meanings.{DiskMeaning}
use Rattle.esm_io.specs.Images.{Only}
use Rattle.esm_io.specs.Faults.{MAX_FAULTS}
use Rattle.esm_journal.specs.File.{header_of}
use Rattle.esm_journal.specs.Pair.{IsSpare, IsOther}
use Rattle.esm_journal.specs.Stopped.{PairStillOpens}
use Rattle.esm_journal.specs.declared.log.Log.{Log}

-- While no call failed, an honest spare disk is synced and is a spare beside the one in use. After a call that failed, any
-- images of both open to the payloads, or to what the call would have left.
pub record IsPair {D : Type 0} (m : DiskMeaning D) (log : Log D) (spare : D) (spare_sealed : Bool) : Type 0 where
  pub header : log.header ≡ header_of 2
  pub beside : m.honest log.disk ≡ true → m.honest spare ≡ true → log.down ≡ false → IsSpare (header_of 2) log.epoch (m.content spare)
  pub settled : m.honest spare ≡ true → log.down ≡ false → Only (m.content spare) (m.image spare)
  pub other : m.honest spare ≡ true → log.down ≡ false → IsOther spare_sealed (m.content spare)
  pub stopped : m.honest log.disk ≡ true → m.honest spare ≡ true → log.down ≡ true → PairStillOpens m (header_of 2) log.epoch log.payloads.items log.disk spare
  pub faults_fit : m.faults spare ≤ MAX_FAULTS
