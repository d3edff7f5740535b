-- Files that are refused are no good files, where their disks are honest and none of them failed.
use Rattle.std.proofs.Common.{◌≡◌, ◌+◌, true, Some, ap, inl, inr, subst}
use Rattle.esm_model.specs.declared.names.FileName.TheVariants as name
use Rattle.esm_io.specs.Meanings.{DiskMeaning}
use Rattle.esm_report.specs.declared.ending.Ending.{Ending}
use Rattle.esm_report.specs.declared.ending.Ending.TheVariants as ending
use Rattle.esm_folder.specs.Upkeep.{AreFound, AreHonest, found}
use Rattle.esm_folder.specs.declared.ending.JournalFile.TheVariants as file
use Rattle.esm_runner.specs.Files.{AreFoundLines, FilesState, WhyRefused, found_lines}
use Rattle.esm_runner.specs.declared.files.FilesError.{FilesError}
use Rattle.esm_runner.specs.declared.files.FilesError.TheVariants as files
use Rattle.esm_folder.specs.declared.disks.Disks.{Disks}
use Rattle.esm_mapping.specs.declared.named.NamedMapping.{NamedMapping}
use Rattle.esm_run.specs.Answers.{AreGoodFiles, AreSoundDevices, HasRefusedFiles, IsReadyFor}
use Rattle.esm_run.specs.Asks.{Asks}
use Rattle.esm_run.specs.Endings.{ending_of_files, status_of}
use Rattle.esm_run.specs.World.{RunTells, Seen}
use Rattle.esm_run.proofs.BadPayloads.{AreAny, AreGood, Holds, not_bad, not_damaged, not_foreign}

-- what good files hold

pair_holds : {D : Type 0} (m : DiskMeaning D) (disks : Disks D) → AreHonest m disks.journal disks.spare → AreGoodFiles m disks → Holds AreGood (found m disks.journal disks.spare)
pair_holds m disks honest good = (let holds = good.payloads.are_found honest in (holds.0, good.payloads.payloads, holds.1, good.payloads.good))

lines_hold : {D : Type 0} (m : DiskMeaning D) (disks : Disks D) → m.honest disks.failures ≡ true → AreGoodFiles m disks → Holds AreAny (found_lines m disks.failures)
lines_hold m disks honest good = (let holds = good.lines_found honest in (holds.0, good.lines, holds.1, tt))

-- a run's files are good
pub good_of_ready : {S D F : Type 0} (m : DiskMeaning D) (a : Asks D) (old new : Seen S D F) (mapping : NamedMapping) (f : FilesState D) → IsReadyFor m a old new mapping f → AreGoodFiles m old.disks
good_of_ready m a old new mapping f ready = record {
  payloads = record {
    payloads = f.pair.payloads;
    are_found = subst (λ d. AreFound (AreHonest m d old.disks.spare) (found m d old.disks.spare) f.pair.payloads) ready.journal
        (subst (λ d. AreFound (AreHonest m f.journal d) (found m f.journal d) f.pair.payloads) ready.spare (λ honest. (f.pair.epoch, ready.opened.opens honest)));
    good = ready.opened.good;
  };
  lines = f.dest.payloads;
  lines_found = subst (λ d. AreFoundLines m d f.dest.payloads) ready.failures ready.opened.opens_lines;
}

-- refused files

told_so : (a e : Ending) → Some a ≡ Some e → status_of e ≡ status_of a
told_so a e is = (let same : e ≡ a = cc in ap status_of same)

abbrev IsBadFiles : {D : Type 0} → DiskMeaning D → Disks D → Ending → Type 0
IsBadFiles m disks e = (status_of e ≡ 8) × (AreGoodFiles m disks → ⊥)

refused_for : {S D F : Type 0} (o : RunTells S D F) (old new : Seen S D F) (why : FilesError) (e : Ending) → AreSoundDevices o old new → ending_of_files why ≡ Some e
    → WhyRefused o.run.disk old.disks.journal old.disks.spare old.disks.failures new.disks.journal new.disks.spare new.disks.failures why → IsBadFiles o.run.disk old.disks e
refused_for o old new (files.NotAJournal file.Journal) e sound tells why = (
  told_so (ending.NotAJournal name.Journal) e tells,
  λ good. not_foreign AreGood (found o.run.disk old.disks.journal old.disks.spare) (why sound.honest) (pair_holds o.run.disk old.disks sound.honest good),
)
refused_for o old new (files.NotAJournal file.Failures) e sound tells why = (
  told_so (ending.NotAJournal name.Failures) e tells,
  λ good. not_foreign AreAny (found_lines o.run.disk old.disks.failures) (why sound.honest_failures) (lines_hold o.run.disk old.disks sound.honest_failures good),
)
refused_for o old new (files.Damaged file.Journal place) e sound tells why = (
  told_so (ending.Damaged name.Journal place) e tells,
  λ good. not_damaged AreGood (found o.run.disk old.disks.journal old.disks.spare) place (why sound.honest) (pair_holds o.run.disk old.disks sound.honest good),
)
refused_for o old new (files.Damaged file.Failures place) e sound tells why = (
  told_so (ending.Damaged name.Failures place) e tells,
  λ good. not_damaged AreAny (found_lines o.run.disk old.disks.failures) place (why sound.honest_failures) (lines_hold o.run.disk old.disks sound.honest_failures good),
)
refused_for o old new (files.BadPayload index) e sound tells why = (
  told_so (ending.BadPayload name.Journal index) e tells,
  λ good. (let holds = why.1 sound.honest in
      not_bad (found o.run.disk old.disks.journal old.disks.spare) holds.0 why.0 (index + 1) holds.1 why.2.2 (pair_holds o.run.disk old.disks sound.honest good)),
)
refused_for o old new files.DiskFault e sound tells why = absurd (elim why [ inl rose ↦ sound.no_fault rose | inr rose ↦ sound.no_failures_fault rose ])
refused_for o old new files.OutOfMemory e sound tells why = absurd (cc)

pub refused_files : {S D F : Type 0} (o : RunTells S D F) (old new : Seen S D F) (e : Ending) → AreSoundDevices o old new → HasRefusedFiles o.run.disk old new e
    → (status_of e ≡ 8) × (AreGoodFiles o.run.disk old.disks → ⊥)
refused_files o old new e sound is = refused_for o old new is.why e sound is.tells is.refused.cause
