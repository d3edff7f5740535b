-- From what a log holds to what its file opens to.
use Rattle.std.proofs.Common.{◌≡◌, inl, inr, ℕ, true, false, List, [], ◌∷◌, ◌++◌, length, subst}
use Rattle.esm_io.specs.Meanings.{DiskMeaning}
use Rattle.esm_io.specs.Images.{Only}
use Rattle.esm_journal.specs.File.{IsFile}
use Rattle.esm_journal.specs.Log.{IsLog, IsEither}
use Rattle.esm_journal.specs.State.{OpensTo, OpensToEither, Keeps, StillOpens}
use Rattle.esm_journal.specs.declared.log.Log.{Log}
use Rattle.esm_journal.proofs.Files.{opened_file}

pub opens : (header : List ℕ) (epoch : ℕ) (payloads : List (List ℕ)) (bytes : List ℕ) → length header ≡ 8 → IsFile header epoch payloads bytes → OpensTo header payloads bytes
opens header epoch payloads bytes eight file = (epoch, opened_file header epoch payloads bytes eight file)

pub opens_to_either : (header : List ℕ) (epoch : ℕ) (payloads : List (List ℕ)) (payload bytes : List ℕ) → length header ≡ 8 → IsEither header epoch payloads (payloads ++ payload ∷ []) bytes → OpensToEither header payloads payload bytes
opens_to_either header epoch payloads payload bytes eight (inl file) = inl (opens header epoch payloads bytes eight file)
opens_to_either header epoch payloads payload bytes eight (inr file) = inr (opens header epoch (payloads ++ payload ∷ []) bytes eight file)

pub keeps : {D : Type 0} (m : DiskMeaning D) (header : List ℕ) (log : Log D) → log.header ≡ header → IsLog m log
    → m.honest log.disk ≡ true → log.down ≡ false → Keeps m header log.payloads.items log.disk
keeps m header log is sound h up = record {
  opens = subst (λ l. OpensTo l log.payloads.items (m.content log.disk)) is (opens log.header log.epoch log.payloads.items (m.content log.disk) sound.header (sound.file h up));
  durable = sound.synced h up;
}

-- a disk with this file on it, all of it synced
pub keeps_file : {D : Type 0} (m : DiskMeaning D) (header : List ℕ) (epoch : ℕ) (payloads : List (List ℕ)) (disk : D) → length header ≡ 8 → IsFile header epoch payloads (m.content disk) → Only (m.content disk) (m.image disk) → Keeps m header payloads disk
keeps_file m header epoch payloads disk eight file only = record { opens = opens header epoch payloads (m.content disk) eight file; durable = only }

pub still_opens : {D : Type 0} (m : DiskMeaning D) (header : List ℕ) (log : Log D) → log.header ≡ header → IsLog m log
    → m.honest log.disk ≡ true → log.down ≡ true → StillOpens m header log.payloads.items log.disk
still_opens m header log is sound h down =
    let stopped = sound.stopped h down in
    (stopped.0, λ bytes now. subst (λ l. OpensToEither l log.payloads.items stopped.0 bytes) is (opens_to_either log.header log.epoch log.payloads.items stopped.0 bytes sound.header (stopped.1 bytes now)))
