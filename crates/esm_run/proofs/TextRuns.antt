-- A command that runs the mapping that its text gives did not come to run it.
use Rattle.std.proofs.Common.{◌≡◌, ℕ, List, [], Some, refl}
use Rattle.esm_io.specs.Meanings.{DiskMeaning}
use Rattle.esm_mapping.specs.Named.{WhyNotExpected}
use Rattle.esm_mapping.specs.declared.expected.Expected.{Expected}
use Rattle.esm_mapping.specs.declared.named.MappingError.{MappingError}
use Rattle.esm_model.specs.declared.entry.Entry.{Entry}
use Rattle.esm_report.specs.Report.{last_line}
use Rattle.esm_report.specs.declared.ending.Ending.{Ending}
use Rattle.esm_runner.specs.Files.{AreRefused}
use Rattle.esm_runner.specs.declared.files.FilesError.{FilesError}
use Rattle.esm_run.specs.Answers.{AreGoodFiles, HasNotBegun, HasNotRun}
use Rattle.esm_run.specs.Asks.{by_text}
use Rattle.esm_run.specs.Endings.{ending_of_files, ending_of_mapping}
use Rattle.esm_run.specs.Ran.{EndsWith}
use Rattle.esm_run.specs.World.{Seen}
use Rattle.esm_run.specs.declared.left.Began.TheVariants as began
use Rattle.esm_run.proofs.Alone.{files_alone, mapping_alone}
use Rattle.esm_run.proofs.RunEndings.{ends_alone, refused_run, unnamed_run}

module _ {S D F : Type 0} (m : DiskMeaning D) (expected : Expected) (config : List ℕ) (h : List Entry) (old new : Seen S D F) (cause : List ℕ → Ending → Type 0)
    (unrun : (text : List ℕ) (e : Ending) → HasNotRun m (by_text expected config) h old new text e → cause text e) (front : List ℕ) (none : front ≡ []) where
  pub text_refused : HasNotBegun m (by_text {D = D} expected config) h old new → (why : FilesError) (e : Ending)
      → AreRefused m old.disks.journal old.disks.spare old.disks.failures new.disks.journal new.disks.spare new.disks.failures why
      → new.disks.registry ≡ old.disks.registry → ending_of_files why ≡ Some e → EndsWith cause front h began.Nothing e
  text_refused unbegun why e refused unopened tells =
      ends_alone cause front h e none (unrun (last_line e) e (refused_run m (by_text expected config) h old new unbegun why e refused unopened tells)) (files_alone why e tells)

  pub text_unnamed : HasNotBegun m (by_text {D = D} expected config) h old new → AreGoodFiles m old.disks → (why : MappingError) (e : Ending)
      → WhyNotExpected expected config why → ending_of_mapping why ≡ Some e → EndsWith cause front h began.Nothing e
  text_unnamed unbegun good why e refused tells =
      ends_alone cause front h e none (unrun (last_line e) e (unnamed_run m (by_text expected config) h old new unbegun good why e new.disks.registry refl refused tells)) (mapping_alone why e tells)
