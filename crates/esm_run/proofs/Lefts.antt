-- Disks on which no call was made are left as each command over the files leaves them.
use Rattle.std.proofs.Common.{◌≡◌, ◌∙◌, ℕ, true, List, Result, ap, inl, refl, subst, sym, arith}
use Rattle.std.specs.Prelude.{IfOk}
use Rattle.esm_folder.specs.Init.{IsSafe, disk_of}
use Rattle.esm_folder.specs.declared.disks.Disks.{Disks}
use Rattle.esm_model.specs.declared.names.FileName.{FileName}
use Rattle.esm_io.specs.Meanings.{DiskMeaning}
use Rattle.esm_journal.specs.File.{header_of}
use Rattle.esm_journal.specs.Migrate.{is_version_2}
use Rattle.esm_journal.specs.Pair.{pair_opened}
use Rattle.esm_model.specs.declared.memory.OutOfMemory.{OutOfMemory}
use Rattle.esm_folder.specs.Upkeep.{AreKept, AreOnlyRead, IsCompacting, IsKept, IsMigrateEnd, IsMigrating}
use Rattle.esm_folder.specs.declared.ending.UpkeepEnd.{UpkeepEnd}
use Rattle.esm_run.specs.Tended.{AreLeft, IsLeft, IsUpkeepEnd}
use Rattle.esm_run.specs.World.{disks}
use Rattle.esm_run.specs.declared.tending.FilesCommand.{FilesCommand}
use Rattle.esm_run.specs.declared.tending.FilesCommand.TheVariants.{Init, Upkeep}
use Rattle.esm_run.specs.declared.tending.Upkeep.TheVariants.{Show, Failures, Compact, Migrate}
use Rattle.esm_run.proofs.Serves.{only_read_same}

-- since this moment a disk has no other image
abbrev pub OnlyNow : {D : Type 0} → DiskMeaning D → Type 0
OnlyNow {D} m = (disk : D) (bytes : List ℕ) → m.honest disk ≡ true → m.since disk (m.moment disk) bytes → m.image disk bytes

safe_same : {D : Type 0} (m : DiskMeaning D) → OnlyNow m → (disk : D) → IsSafe m disk disk
safe_same m only_now disk = record {
  honesty = refl;
  never_falls = omega arith;
  any_moment = λ honest. record { later = omega arith; each = λ bytes now. inl (only_now disk bytes honest now); before = λ t bytes early now. inl now };
  kept = λ honest has_bytes. only_read_same m disk (only_now disk);
}

kept_same : {D : Type 0} (m : DiskMeaning D) (disk : D) → IsKept m disk disk
kept_same m disk = record { honesty = refl; never_falls = omega arith }

pub pair_same : {D : Type 0} (m : DiskMeaning D) → OnlyNow m → (journal spare : D) → AreOnlyRead m journal spare journal spare
pair_same m only_now journal spare = (only_read_same m journal (only_now journal), only_read_same m spare (only_now spare))

compacting_same : {D : Type 0} (m : DiskMeaning D) → OnlyNow m → (journal spare : D) → IsCompacting m journal spare journal spare
compacting_same m only_now journal spare = λ honest settled epoch payloads found one other one_now other_now.
    let first : one ≡ m.content journal = settled.0 one (only_now journal one honest.0 one_now) in
    let second : other ≡ m.content spare = settled.1 other (only_now spare other honest.1 other_now) in
    inl (ap (λ bytes. pair_opened (header_of 2) bytes other) first ∙ ap (pair_opened (header_of 2) (m.content journal)) second ∙ found)

migrating_same : {D : Type 0} (m : DiskMeaning D) → OnlyNow m → (journal spare : D) → IsMigrating m journal spare journal spare
migrating_same m only_now journal spare = record {
  version_1 = λ honest settled version epoch payloads found one other one_now other_now.
      let first : one ≡ m.content journal = settled.0 one (only_now journal one honest.0 one_now) in
      let second : other ≡ m.content spare = settled.1 other (only_now spare other honest.1 other_now) in
      inl (
        ap (λ bytes. is_version_2 bytes other) first ∙ ap (is_version_2 (m.content journal)) second ∙ version,
        ap (λ bytes. pair_opened (header_of 1) bytes other) first ∙ ap (pair_opened (header_of 1) (m.content journal)) second ∙ found,
      );
  version_2 = λ honest version. pair_same m only_now journal spare;
}

pub left_same : {D : Type 0} (m : DiskMeaning D) → OnlyNow m → (all : Disks D) (c : FilesCommand) → AreLeft m all all c
left_same m only_now all Init = λ (f : FileName). safe_same m only_now (disk_of all f)
left_same m only_now all (Upkeep Show) = record { used = pair_same m only_now all.journal all.spare; unused = refl }
left_same m only_now all (Upkeep Failures) = record { used = only_read_same m all.failures (only_now all.failures); unused = refl }
left_same m only_now all (Upkeep Compact) = record {
  used = (compacting_same m only_now all.journal all.spare, (kept_same m all.journal, kept_same m all.spare));
  unused = refl;
}
left_same m only_now all (Upkeep Migrate) = record {
  used = (migrating_same m only_now all.journal all.spare, (kept_same m all.journal, kept_same m all.spare));
  unused = refl;
}

pub left_of_same : {D : Type 0} (m : DiskMeaning D) → OnlyNow m → (old new : Disks D) → new ≡ old → (c : FilesCommand) → AreLeft m old new c
left_of_same m only_now old new same c = subst (λ (d : Disks _). AreLeft m old d c) (sym same) (left_same m only_now old c)

-- a pair was used, and the other disks are handed back as they came

pub compact_left : {D : Type 0} (m : DiskMeaning D) (old new : Disks D) (journal spare : D) → new ≡ disks journal spare old.failures old.registry
    → IsCompacting m old.journal old.spare journal spare → AreKept m old.journal old.spare journal spare → IsLeft m old new Compact
compact_left m old new journal spare same images kept =
    subst (λ (d : Disks _). IsLeft m old d Compact) (sym same) (record { used = (images, kept); unused = refl })

pub migrate_end : {D : Type 0} (m : DiskMeaning D) (old new : Disks D) (journal spare : D) (end was : Result UpkeepEnd OutOfMemory) → new ≡ disks journal spare old.failures old.registry → end ≡ was
    → IfOk was (IsMigrateEnd m old.journal old.spare journal spare) → IfOk end (IsUpkeepEnd m Migrate old new)
migrate_end m old new journal spare end was same ends is =
    subst (λ (d : Disks _). IfOk end (IsUpkeepEnd m Migrate old d)) (sym same)
    (subst (λ (e : Result UpkeepEnd OutOfMemory). IfOk e (IsUpkeepEnd m Migrate old (disks journal spare old.failures old.registry))) (sym ends) is)
