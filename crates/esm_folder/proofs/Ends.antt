-- Why a command ended so, from why a file was not opened and how its payloads were judged.
use Rattle.std.proofs.Common.{◌≡◌, ◌⊎◌, ℕ, true, List, ap, inl, inr, refl}
use Rattle.std.specs.Prelude.{◌≢◌, IfOk}
use Rattle.esm_io.specs.Faults.{Rose}
use Rattle.esm_io.specs.Meanings.{DiskMeaning}
use Rattle.esm_journal.specs.File.{header_of, opened, eight_at, Opening, Foreign, Damaged}
use Rattle.esm_journal.specs.Migrate.{with_next_epoch}
use Rattle.esm_journal.specs.Reads.{IsOnlyRead, RefusedFor}
use Rattle.esm_journal.specs.declared.error.OpenError.{OpenError}
use Rattle.esm_journal.specs.declared.error.OpenError.TheVariants as open_error
use Rattle.esm_folder.specs.declared.ending.JournalFile.TheVariants as file
use Rattle.esm_folder.specs.Opened.{end_of_file, IsJudged, IsJudgedMigration, IsListed}
use Rattle.esm_folder.specs.Upkeep.{AreFound, AreHonest, AreOnlyRead, HasFound, HasMigrated, IsCompactEnd, IsFailuresEnd, IsMigrateEnd, IsShowEnd, found, found_of_any_version}
use Rattle.esm_folder.specs.declared.ending.UpkeepEnd.{UpkeepEnd}
use Rattle.esm_folder.specs.declared.ending.UpkeepEnd.TheVariants as end

-- why a pair was not opened
abbrev pub RefusesPair : {D : Type 0} → DiskMeaning D → (journal spare journal' spare' : D) → Opening → OpenError → Type 0
RefusesPair m journal spare journal' spare' opening why =
    RefusedFor (λ first. m.honest journal ≡ true → m.honest spare ≡ true → (opening ≡ Foreign) × (first ≡ eight_at (m.content journal) 0))
    (λ place. m.honest journal ≡ true → m.honest spare ≡ true → opening ≡ Damaged place)
    (Rose (m.faults journal) (m.faults journal') ⊎ Rose (m.faults spare) (m.faults spare')) why

pub show_refused : {D : Type 0} (m : DiskMeaning D) (journal spare journal' spare' : D) (why : OpenError) → AreOnlyRead m journal spare journal' spare'
    → RefusesPair m journal spare journal' spare' (found m journal spare) why → IfOk (end_of_file file.Journal why) (IsShowEnd m journal spare journal' spare')
show_refused m journal spare journal' spare' (open_error.NotAJournal first) kept h = (refl, (λ honest. (h honest.0 honest.1).0), kept)
show_refused m journal spare journal' spare' (open_error.Damaged place) kept h = (refl, (λ honest. h honest.0 honest.1), kept)
show_refused m journal spare journal' spare' open_error.DiskFault kept h = h
show_refused m journal spare journal' spare' open_error.OutOfMemory kept h = tt

pub compact_refused : {D : Type 0} (m : DiskMeaning D) (journal spare journal' spare' : D) (why : OpenError) → AreOnlyRead m journal spare journal' spare'
    → RefusesPair m journal spare journal' spare' (found m journal spare) why → IfOk (end_of_file file.Journal why) (IsCompactEnd m journal spare journal' spare')
compact_refused m journal spare journal' spare' (open_error.NotAJournal first) kept h = (refl, (λ honest. ap with_next_epoch (h honest.0 honest.1).0), kept)
compact_refused m journal spare journal' spare' (open_error.Damaged place) kept h = (refl, (λ honest. ap with_next_epoch (h honest.0 honest.1)), kept)
compact_refused m journal spare journal' spare' open_error.DiskFault kept h = h
compact_refused m journal spare journal' spare' open_error.OutOfMemory kept h = tt

pub migrate_refused : {D : Type 0} (m : DiskMeaning D) (journal spare journal' spare' : D) (why : OpenError)
    → ((why ≡ open_error.DiskFault → ⊥) → IsOnlyRead m journal journal') → ((why ≡ open_error.DiskFault → ⊥) → IsOnlyRead m spare spare')
    → RefusesPair m journal spare journal' spare' (found_of_any_version m journal spare) why → IfOk (end_of_file file.Journal why) (IsMigrateEnd m journal spare journal' spare')
migrate_refused m journal spare journal' spare' (open_error.NotAJournal first) kept kept_spare h =
    (refl, (λ honest. (h honest.0 honest.1).0), (kept (λ e. absurd (cc e)), kept_spare (λ e. absurd (cc e))))
migrate_refused m journal spare journal' spare' (open_error.Damaged place) kept kept_spare h =
    (refl, (λ honest. h honest.0 honest.1), (kept (λ e. absurd (cc e)), kept_spare (λ e. absurd (cc e))))
migrate_refused m journal spare journal' spare' open_error.DiskFault kept kept_spare h = h
migrate_refused m journal spare journal' spare' open_error.OutOfMemory kept kept_spare h = tt

pub failures_refused : {D : Type 0} (m : DiskMeaning D) (disk disk' : D) (why : OpenError) → IsOnlyRead m disk disk'
    → RefusedFor (λ first. m.honest disk ≡ true → (opened (header_of 1) (m.content disk) ≡ Foreign) × (first ≡ eight_at (m.content disk) 0))
    (λ place. m.honest disk ≡ true → opened (header_of 1) (m.content disk) ≡ Damaged place) (Rose (m.faults disk) (m.faults disk')) why
    → IfOk (end_of_file file.Failures why) (IsFailuresEnd m disk disk')
failures_refused m disk disk' (open_error.NotAJournal first) kept h = (refl, (λ honest. (h honest).0), kept)
failures_refused m disk disk' (open_error.Damaged place) kept h = (refl, h, kept)
failures_refused m disk disk' open_error.DiskFault kept h = h
failures_refused m disk disk' open_error.OutOfMemory kept h = tt

pub show_judged : {D : Type 0} (m : DiskMeaning D) (journal spare journal' spare' : D) (payloads : List (List ℕ)) → AreFound (AreHonest m journal spare) (found m journal spare) payloads
    → (e : UpkeepEnd) → IsJudged payloads e → IsShowEnd m journal spare journal' spare' e
show_judged m journal spare journal' spare' payloads f (end.Shown summary) h = record { payloads = payloads; are_found = f; shown = h }
show_judged m journal spare journal' spare' payloads f (end.BadPayload name index) h = record { name_is = h.0; payloads = payloads; are_found = f; bad = h.1 }
show_judged m journal spare journal' spare' payloads f (end.Listed lines) h = absurd h
show_judged m journal spare journal' spare' payloads f (end.Compacted before after) h = absurd h
show_judged m journal spare journal' spare' payloads f (end.Migrated count) h = absurd h
show_judged m journal spare journal' spare' payloads f end.WasVersion2 h = absurd h
show_judged m journal spare journal' spare' payloads f (end.NotAJournal name) h = absurd h
show_judged m journal spare journal' spare' payloads f (end.Damaged name place) h = absurd h
show_judged m journal spare journal' spare' payloads f end.DiskFault h = absurd h

pub failures_listed : {D : Type 0} (m : DiskMeaning D) (disk disk' : D) (payloads : List (List ℕ)) → AreFound (m.honest disk ≡ true) (opened (header_of 1) (m.content disk)) payloads
    → (e : UpkeepEnd) → IsListed payloads e → IsFailuresEnd m disk disk' e
failures_listed m disk disk' payloads f (end.Listed lines) h = record { payloads = payloads; are_found = f; lines_are = h }
failures_listed m disk disk' payloads f (end.Shown summary) h = absurd h
failures_listed m disk disk' payloads f (end.BadPayload name index) h = absurd h
failures_listed m disk disk' payloads f (end.Compacted before after) h = absurd h
failures_listed m disk disk' payloads f (end.Migrated count) h = absurd h
failures_listed m disk disk' payloads f end.WasVersion2 h = absurd h
failures_listed m disk disk' payloads f (end.NotAJournal name) h = absurd h
failures_listed m disk disk' payloads f (end.Damaged name place) h = absurd h
failures_listed m disk disk' payloads f end.DiskFault h = absurd h

pub migrate_judged : {D : Type 0} (m : DiskMeaning D) (journal spare journal' spare' : D) (payloads : List (List ℕ)) (was : ℕ)
    → ((was ≢ 2) × HasMigrated m journal spare journal' spare' payloads) ⊎ ((was ≡ 2) × HasFound m journal spare journal' spare' payloads)
    → (e : UpkeepEnd) → IsJudgedMigration payloads was e → IsMigrateEnd m journal spare journal' spare' e
migrate_judged m journal spare journal' spare' payloads was (inl f) (end.Migrated count) h = (payloads, f.1, h.0, h.1)
migrate_judged m journal spare journal' spare' payloads was (inr f) (end.Migrated count) h = absurd (h.2 f.0)
migrate_judged m journal spare journal' spare' payloads was (inl f) end.WasVersion2 h = absurd (f.0 h.1)
migrate_judged m journal spare journal' spare' payloads was (inr f) end.WasVersion2 h = (payloads, f.1, h.0)
migrate_judged m journal spare journal' spare' payloads was (inl f) (end.BadPayload name index) h = (payloads, inl f.1, h.0, h.1)
migrate_judged m journal spare journal' spare' payloads was (inr f) (end.BadPayload name index) h = (payloads, inr f.1, h.0, h.1)
migrate_judged m journal spare journal' spare' payloads was f (end.Shown summary) h = absurd h
migrate_judged m journal spare journal' spare' payloads was f (end.Listed lines) h = absurd h
migrate_judged m journal spare journal' spare' payloads was f (end.Compacted before after) h = absurd h
migrate_judged m journal spare journal' spare' payloads was f (end.NotAJournal name) h = absurd h
migrate_judged m journal spare journal' spare' payloads was f (end.Damaged name place) h = absurd h
migrate_judged m journal spare journal' spare' payloads was f end.DiskFault h = absurd h
