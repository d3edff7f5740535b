-- A run that began and ended, and one that did not begin.
use Rattle.std.proofs.Common.{◌≡◌, ℕ, List, Result, Ok, Err, Option, inl, subst, sym}
use Rattle.std.specs.Prelude.{IfOk, OnErr}
use Rattle.esm_io.specs.Meanings.{DiskMeaning}
use Rattle.esm_journal.specs.Pair.{first_disk, second_disk}
use Rattle.esm_journal.specs.Reads.{IsOnlyRead}
use Rattle.esm_folder.specs.Upkeep.{AreOnlyRead}
use Rattle.esm_model.specs.declared.config.Config.{Config}
use Rattle.esm_model.specs.declared.entry.Entry.{Entry}
use Rattle.esm_model.specs.declared.memory.OutOfMemory.{OutOfMemory}
use Rattle.esm_input.specs.declared.ending.InputEnd.{InputEnd}
use Rattle.esm_runner.specs.Files.{FilesState, IsOpenedFiles, AreClosed}
use Rattle.esm_replay_run.specs.declared.report.ReplayCounts.{ReplayCounts}
use Rattle.esm_replay_run.specs.declared.run.ReplayEnd.{ReplayEnd}
use Rattle.esm_replay_run.specs.declared.run.ReplayEnd.TheVariants as end
use Rattle.esm_replay_run.specs.Headline.{Disks}
use Rattle.esm_replay_run.specs.Ended.{Telling, HasRun, HasNotBegun, HasEnded, HasStoppedRun}
use Rattle.esm_replay_run.specs.Runs.{IsRefusal}

module _ {S D F : Type 0} (t : Telling D F) (faults : S → ℕ) (left : S → Option (List ℕ)) (config : Config) (calls : ℕ) (f : FilesState D) (old new : S) (reading : Option InputEnd) (old_caller new_caller : F) (h : List Entry) (counts : ReplayCounts) (disks : Disks D) where
  pub ended_so : (e : ReplayEnd) → HasRun t faults left config calls f old new reading old_caller new_caller h counts disks e → HasEnded t faults left config calls f old new reading old_caller new_caller h counts disks e
  ended_so (end.Finished why) run = run
  ended_so end.CallsSpent run = run
  ended_so end.DiskFault run = run
  ended_so (end.Changed change) run = run
  ended_so (end.BadLine index) run = absurd run.cause

  refused_end : (e : ReplayEnd) → HasNotBegun t f old new reading old_caller new_caller h disks → IsRefusal f.dest.payloads e → HasEnded t faults left config calls f old new reading old_caller new_caller h counts disks e
  refused_end (end.Finished why) none is = absurd is
  refused_end end.CallsSpent none is = absurd is
  refused_end end.DiskFault none is = absurd is
  refused_end (end.Changed change) none is = absurd is
  refused_end (end.BadLine index) none is = (is, none)

  pub refused : (why : Result ReplayEnd OutOfMemory) → HasNotBegun t f old new reading old_caller new_caller h disks → IfOk why (IsRefusal f.dest.payloads) → IfOk why (HasEnded t faults left config calls f old new reading old_caller new_caller h counts disks)
  refused (Ok e) none is = refused_end e none is
  refused (Err memory) none is = tt

  pub stopped_before : (why : Result ReplayEnd OutOfMemory) → HasNotBegun t f old new reading old_caller new_caller h disks → OnErr why (HasStoppedRun t faults left config calls f old new reading old_caller new_caller h counts disks)
  stopped_before (Ok e) none = tt
  stopped_before (Err memory) none = inl none

-- the disks as they were opened were only read
pub closed_unread : {D : Type 0} (m : DiskMeaning D) (f : FilesState D) (disks : Disks D) → IsOpenedFiles m f → disks.journal ≡ first_disk f.pair → disks.spare ≡ second_disk f.pair → disks.failures ≡ f.dest.disk → AreClosed m f disks.journal disks.spare disks.failures
closed_unread {D} m f disks files journal spare failures = (
  subst (λ (d : D). AreOnlyRead m f.journal f.spare d disks.spare) (sym journal) (subst (λ (d : D). AreOnlyRead m f.journal f.spare (first_disk f.pair) d) (sym spare) files.read),
  subst (λ (d : D). IsOnlyRead m f.failures d) (sym failures) files.lines_read,
)
