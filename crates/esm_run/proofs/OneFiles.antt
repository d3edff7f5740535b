-- Two outcomes of a command over the files have one status, where the disks that it uses are honest and neither they nor
-- the output failed.
use Rattle.std.proofs.Common.{◌≡◌, ◌∙◌, ℕ, ◌+◌, List, inl, inr, refl, sym}
use Rattle.std.specs.Prelude.{◌⊎◌}
use Rattle.esm_folder.specs.declared.disks.Disks.{Disks}
use Rattle.esm_io.specs.Faults.{Rose}
use Rattle.esm_io.specs.Meanings.{DiskMeaning}
use Rattle.esm_journal.specs.File.{header_of, opened, Opening}
use Rattle.esm_folder.specs.UpkeepText.{upkeep_status}
use Rattle.esm_folder.specs.Upkeep.{AreFound, AreHonest, AreOnlyRead, HasBadPayload, HasFound, HasMigrated, IsCompactEnd, IsFailuresEnd, IsMigrateEnd, IsRefused, IsRefusedPair, IsShowEnd, OneRose, found, found_of_any_version, found_to_write}
use Rattle.esm_folder.specs.declared.ending.JournalFile.{JournalFile}
use Rattle.esm_folder.specs.declared.ending.JournalFile.TheVariants as file
use Rattle.esm_folder.specs.declared.ending.UpkeepEnd.{UpkeepEnd}
use Rattle.esm_folder.specs.declared.ending.UpkeepEnd.TheVariants as end
use Rattle.esm_run.specs.Tended.{AreSoundUnder, FilesOutcome, IsSoundDisk, IsUpkeepEnd}
use Rattle.esm_run.specs.World.{Written}
use Rattle.esm_run.specs.declared.tending.FilesCommand.{FilesCommand}
use Rattle.esm_run.specs.declared.tending.FilesCommand.TheVariants.{Init, Upkeep}
use Rattle.esm_run.specs.declared.tending.Upkeep.{Upkeep as Named}
use Rattle.esm_run.specs.declared.tending.Upkeep.TheVariants.{Show, Failures, Compact, Migrate}
use Rattle.esm_run.proofs.BadPayloads.{AreAny, AreGood, Holds, not_bad, not_damaged, not_foreign}
use Rattle.esm_run.proofs.Inits.{one_init, told_with}
use Rattle.esm_run.proofs.OneCommand.{OneStatus}

-- what was opened holds payloads of which this is true, or does not

abbrev IsGoodOrBad : Type 0 → ℕ → Type 0
IsGoodOrBad good status = ((status ≡ 0) × good) ⊎ ((status ≡ 8) × (good → ⊥))

one_of_both : (good : Type 0) (a b : ℕ) → IsGoodOrBad good a → IsGoodOrBad good b → a ≡ b
one_of_both good a b (inl one) (inl other) = one.0 ∙ sym other.0
one_of_both good a b (inl one) (inr other) = absurd (other.1 one.1)
one_of_both good a b (inr one) (inl other) = absurd (one.1 other.1)
one_of_both good a b (inr one) (inr other) = one.0 ∙ sym other.0

-- refusals

refused : (name : JournalFile) (honest rose kept : Type 0) (P : List (List ℕ) → Type 0) (opening : Opening) (e : UpkeepEnd) → honest → (rose → ⊥)
    → IsRefused name honest rose kept opening e → IsGoodOrBad (Holds P opening) (upkeep_status e)
refused name honest rose kept P opening (end.NotAJournal f) sure sound is = inr (refl, not_foreign P opening (is.1 sure))
refused name honest rose kept P opening (end.Damaged f place) sure sound is = inr (refl, not_damaged P opening place (is.1 sure))
refused name honest rose kept P opening end.DiskFault sure sound is = absurd (sound is)
refused name honest rose kept P opening (end.Shown summary) sure sound is = absurd is
refused name honest rose kept P opening (end.Listed lines) sure sound is = absurd is
refused name honest rose kept P opening (end.Compacted before after) sure sound is = absurd is
refused name honest rose kept P opening (end.Migrated count) sure sound is = absurd is
refused name honest rose kept P opening end.WasVersion2 sure sound is = absurd is
refused name honest rose kept P opening (end.BadPayload f index) sure sound is = absurd is

bad_payload : (honest : Type 0) (opening : Opening) (name : JournalFile) (index : ℕ) → honest → HasBadPayload honest opening name index → Holds AreGood opening → ⊥
bad_payload honest opening name index sure is = (let holds = is.are_found sure in not_bad opening holds.0 is.payloads (index + 1) holds.1 is.bad.2)

-- the disks of a pair

abbrev IsSoundPair : {D : Type 0} → DiskMeaning D → (journal spare journal' spare' : D) → Type 0
IsSoundPair m journal spare journal' spare' = IsSoundDisk m journal journal' × IsSoundDisk m spare spare'

are_honest : {D : Type 0} (m : DiskMeaning D) (journal spare journal' spare' : D) → IsSoundPair m journal spare journal' spare' → AreHonest m journal spare
are_honest m journal spare journal' spare' sound = (sound.0.honest, sound.1.honest)

none_rose : {D : Type 0} (m : DiskMeaning D) (journal spare journal' spare' : D) → IsSoundPair m journal spare journal' spare' → OneRose m journal spare journal' spare' → ⊥
none_rose m journal spare journal' spare' sound (inl rose) = sound.0.no_fault rose
none_rose m journal spare journal' spare' sound (inr rose) = sound.1.no_fault rose

refused_pair : {D : Type 0} (m : DiskMeaning D) (journal spare journal' spare' : D) (opening : Opening) (e : UpkeepEnd) → IsSoundPair m journal spare journal' spare'
    → IsRefusedPair m journal spare journal' spare' opening e → IsGoodOrBad (Holds AreGood opening) (upkeep_status e)
refused_pair m journal spare journal' spare' opening e sound is =
    refused file.Journal (AreHonest m journal spare) (OneRose m journal spare journal' spare') (AreOnlyRead m journal spare journal' spare') AreGood opening e
    (are_honest m journal spare journal' spare' sound) (none_rose m journal spare journal' spare' sound) is

-- each command

show_status : {D : Type 0} (m : DiskMeaning D) (journal spare journal' spare' : D) (e : UpkeepEnd) → IsSoundPair m journal spare journal' spare'
    → IsShowEnd m journal spare journal' spare' e → IsGoodOrBad (Holds AreGood (found m journal spare)) (upkeep_status e)
show_status m journal spare journal' spare' (end.Shown summary) sound is =
    let holds = is.are_found (are_honest m journal spare journal' spare' sound) in
    inl (refl, (holds.0, is.payloads, holds.1, is.shown.good))
show_status m journal spare journal' spare' (end.BadPayload f index) sound is =
    inr (refl, bad_payload (AreHonest m journal spare) (found m journal spare) f index (are_honest m journal spare journal' spare' sound) is)
show_status m journal spare journal' spare' (end.NotAJournal f) sound is = refused_pair m journal spare journal' spare' (found m journal spare) (end.NotAJournal f) sound is
show_status m journal spare journal' spare' (end.Damaged f place) sound is = refused_pair m journal spare journal' spare' (found m journal spare) (end.Damaged f place) sound is
show_status m journal spare journal' spare' end.DiskFault sound is = refused_pair m journal spare journal' spare' (found m journal spare) end.DiskFault sound is
show_status m journal spare journal' spare' (end.Listed lines) sound is = absurd is
show_status m journal spare journal' spare' (end.Compacted before after) sound is = absurd is
show_status m journal spare journal' spare' (end.Migrated count) sound is = absurd is
show_status m journal spare journal' spare' end.WasVersion2 sound is = absurd is

compact_status : {D : Type 0} (m : DiskMeaning D) (journal spare journal' spare' : D) (e : UpkeepEnd) → IsSoundPair m journal spare journal' spare'
    → IsCompactEnd m journal spare journal' spare' e → IsGoodOrBad (Holds AreGood (found_to_write m journal spare)) (upkeep_status e)
compact_status m journal spare journal' spare' (end.Compacted before after) sound is =
    inl (refl, (is.epoch, is.payloads, is.are_found (are_honest m journal spare journal' spare' sound), is.compacted.good))
compact_status m journal spare journal' spare' (end.BadPayload f index) sound is =
    inr (refl, bad_payload (AreHonest m journal spare) (found_to_write m journal spare) f index (are_honest m journal spare journal' spare' sound) is.0)
compact_status m journal spare journal' spare' (end.NotAJournal f) sound is = refused_pair m journal spare journal' spare' (found_to_write m journal spare) (end.NotAJournal f) sound is
compact_status m journal spare journal' spare' (end.Damaged f place) sound is = refused_pair m journal spare journal' spare' (found_to_write m journal spare) (end.Damaged f place) sound is
compact_status m journal spare journal' spare' end.DiskFault sound is = refused_pair m journal spare journal' spare' (found_to_write m journal spare) end.DiskFault sound is
compact_status m journal spare journal' spare' (end.Shown summary) sound is = absurd is
compact_status m journal spare journal' spare' (end.Listed lines) sound is = absurd is
compact_status m journal spare journal' spare' (end.Migrated count) sound is = absurd is
compact_status m journal spare journal' spare' end.WasVersion2 sound is = absurd is

-- of a pair of version 1 or 2, what was migrated or read was found
moved_or_found : {D : Type 0} (m : DiskMeaning D) (journal spare journal' spare' : D) (payloads : List (List ℕ)) → AreHonest m journal spare
    → HasMigrated m journal spare journal' spare' payloads ⊎ HasFound m journal spare journal' spare' payloads → AreFound (AreHonest m journal spare) (found_of_any_version m journal spare) payloads
moved_or_found m journal spare journal' spare' payloads sure (inl moved) = λ honest. (let is = moved honest in (is.epoch, is.are_found))
moved_or_found m journal spare journal' spare' payloads sure (inr read) = read.are_found

migrate_status : {D : Type 0} (m : DiskMeaning D) (journal spare journal' spare' : D) (e : UpkeepEnd) → IsSoundPair m journal spare journal' spare'
    → IsMigrateEnd m journal spare journal' spare' e → IsGoodOrBad (Holds AreGood (found_of_any_version m journal spare)) (upkeep_status e)
migrate_status m journal spare journal' spare' (end.Migrated count) sound is =
    let moved = is.1 (are_honest m journal spare journal' spare' sound) in
    inl (refl, (moved.epoch, is.0, moved.are_found, is.2))
migrate_status m journal spare journal' spare' end.WasVersion2 sound is =
    let holds = is.1.are_found (are_honest m journal spare journal' spare' sound) in
    inl (refl, (holds.0, is.0, holds.1, is.2))
migrate_status m journal spare journal' spare' (end.BadPayload f index) sound is =
    let sure = are_honest m journal spare journal' spare' sound in
    let holds = moved_or_found m journal spare journal' spare' is.0 sure is.1 sure in
    inr (refl, not_bad (found_of_any_version m journal spare) holds.0 is.0 (index + 1) holds.1 is.3.2)
migrate_status m journal spare journal' spare' (end.NotAJournal f) sound is = refused_pair m journal spare journal' spare' (found_of_any_version m journal spare) (end.NotAJournal f) sound is
migrate_status m journal spare journal' spare' (end.Damaged f place) sound is = refused_pair m journal spare journal' spare' (found_of_any_version m journal spare) (end.Damaged f place) sound is
migrate_status m journal spare journal' spare' end.DiskFault sound is = refused_pair m journal spare journal' spare' (found_of_any_version m journal spare) end.DiskFault sound is
migrate_status m journal spare journal' spare' (end.Shown summary) sound is = absurd is
migrate_status m journal spare journal' spare' (end.Listed lines) sound is = absurd is
migrate_status m journal spare journal' spare' (end.Compacted before after) sound is = absurd is

failures_status : {D : Type 0} (m : DiskMeaning D) (disk disk' : D) (e : UpkeepEnd) → IsSoundDisk m disk disk'
    → IsFailuresEnd m disk disk' e → IsGoodOrBad (Holds AreAny (opened (header_of 1) (m.content disk))) (upkeep_status e)
failures_status m disk disk' (end.Listed lines) sound is =
    let holds = is.are_found sound.honest in
    inl (refl, (holds.0, is.payloads, holds.1, tt))
failures_status m disk disk' (end.NotAJournal f) sound is = inr (refl, not_foreign AreAny (opened (header_of 1) (m.content disk)) (is.1 sound.honest))
failures_status m disk disk' (end.Damaged f place) sound is = inr (refl, not_damaged AreAny (opened (header_of 1) (m.content disk)) place (is.1 sound.honest))
failures_status m disk disk' end.DiskFault sound is = absurd (sound.no_fault is)
failures_status m disk disk' (end.BadPayload f index) sound is = absurd is
failures_status m disk disk' (end.Shown summary) sound is = absurd is
failures_status m disk disk' (end.Compacted before after) sound is = absurd is
failures_status m disk disk' (end.Migrated count) sound is = absurd is
failures_status m disk disk' end.WasVersion2 sound is = absurd is

same_status : {D : Type 0} (m : DiskMeaning D) (old new : Disks D) (u : Named) (e d : UpkeepEnd) → AreSoundUnder m old new (Upkeep u)
    → IsUpkeepEnd m u old new e → IsUpkeepEnd m u old new d → upkeep_status e ≡ upkeep_status d
same_status m old new Show e d sound one other =
    one_of_both (Holds AreGood (found m old.journal old.spare)) (upkeep_status e) (upkeep_status d)
    (show_status m old.journal old.spare new.journal new.spare e sound one) (show_status m old.journal old.spare new.journal new.spare d sound other)
same_status m old new Failures e d sound one other =
    one_of_both (Holds AreAny (opened (header_of 1) (m.content old.failures))) (upkeep_status e) (upkeep_status d)
    (failures_status m old.failures new.failures e sound one) (failures_status m old.failures new.failures d sound other)
same_status m old new Compact e d sound one other =
    one_of_both (Holds AreGood (found_to_write m old.journal old.spare)) (upkeep_status e) (upkeep_status d)
    (compact_status m old.journal old.spare new.journal new.spare e sound one) (compact_status m old.journal old.spare new.journal new.spare d sound other)
same_status m old new Migrate e d sound one other =
    one_of_both (Holds AreGood (found_of_any_version m old.journal old.spare)) (upkeep_status e) (upkeep_status d)
    (migrate_status m old.journal old.spare new.journal new.spare e sound one) (migrate_status m old.journal old.spare new.journal new.spare d sound other)

pub one_files : {D : Type 0} (m : DiskMeaning D) (old new : Disks D) (output : Written) (c : FilesCommand) → (Rose output.faults_before output.faults_now → ⊥) → AreSoundUnder m old new c
    → OneStatus (FilesOutcome m old new output c)
one_files m old new output Init sound disks_sound = one_init m old new output sound disks_sound
one_files m old new output (Upkeep u) sound disks_sound = λ a b one other.
    told_with output.faults_before output.faults_now output.before output.after _ _ _ a sound one.told
    ∙ same_status m old new u one.end other.end disks_sound one.cause other.cause
    ∙ sym (told_with output.faults_before output.faults_now output.before output.after _ _ _ b sound other.told)
