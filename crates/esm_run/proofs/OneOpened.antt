-- A failure file that is honest gives one list of lines, and no disk of a run failed since its files were opened.
use Rattle.std.proofs.Common.{◌≡◌, ◌∙◌, ◌<◌, ◌≤◌, ℕ, arith, inl, inr, subst, sym}
use Rattle.esm_io.specs.Faults.{Rose}
use Rattle.esm_io.specs.Meanings.{DiskMeaning}
use Rattle.esm_journal.specs.File.{Holding}
use Rattle.esm_journal.specs.Pair.{first_disk, second_disk}
use Rattle.esm_folder.specs.Upkeep.{OneRose}
use Rattle.esm_mapping.specs.declared.named.NamedMapping.{NamedMapping}
use Rattle.esm_runner.specs.Files.{AreFoundLines, FilesState, found_lines}
use Rattle.esm_run.specs.Answers.{AreGoodFiles, AreSoundDevices, IsReadyFor}
use Rattle.esm_run.specs.Asks.{Asks}
use Rattle.esm_run.specs.World.{RunTells, Seen, devices_of}
use Rattle.esm_run.proofs.BadPayloads.{same_payloads}
use Rattle.esm_run.proofs.OneReady.{IsFaultless, faultless, opens_to}

-- the lines that were found

pub lines_at : {S D F : Type 0} (o : RunTells S D F) (x : Asks D) (old new : Seen S D F) (mapping : NamedMapping) (f : FilesState D) → AreSoundDevices o old new → IsReadyFor o.run.disk x old new mapping f
    → (epoch : ℕ) × (found_lines o.run.disk old.disks.failures ≡ Holding epoch f.dest.payloads)
lines_at o x old new mapping f sound ready =
    subst (λ d. AreFoundLines o.run.disk d f.dest.payloads) ready.failures ready.opened.opens_lines sound.honest_failures

pub same_lines : {S D F : Type 0} (o : RunTells S D F) (x : Asks D) (old new : Seen S D F) (a b : NamedMapping) (f g : FilesState D)
    → AreSoundDevices o old new → IsReadyFor o.run.disk x old new a f → IsReadyFor o.run.disk x old new b g → f.dest.payloads ≡ g.dest.payloads
same_lines o x old new a b f g sound one other =
    let first = lines_at o x old new a f sound one in
    let second = lines_at o x old new b g sound other in
    same_payloads first.0 second.0 f.dest.payloads g.dest.payloads (sym first.1 ∙ second.1)

-- the payloads that were found

pub found_payloads : {S D F : Type 0} (o : RunTells S D F) (x : Asks D) (old new : Seen S D F) (good : AreGoodFiles o.run.disk old.disks) (mapping : NamedMapping) (f : FilesState D)
    → AreSoundDevices o old new → IsReadyFor o.run.disk x old new mapping f → good.payloads.payloads ≡ f.pair.payloads
found_payloads o x old new good mapping f sound ready =
    let first = good.payloads.are_found sound.honest in
    same_payloads first.0 f.pair.epoch good.payloads.payloads f.pair.payloads (sym first.1 ∙ opens_to o x old new mapping f sound ready)

-- since they were opened

rose_before : (a b c : ℕ) → a ≤ b → Rose b c → Rose a c
rose_before a b c le rose = λ below. (let up : b < c = rose below in omega (arith, le, up))

-- no count of faults rose, neither since the disks were handed in nor since the files were opened
pub record NoneRose {D : Type 0} (m : DiskMeaning D) (f : FilesState D) (now_journal now_spare now_failures : D) : Type 0 where
  pub pair : OneRose m f.journal f.spare now_journal now_spare → ⊥
  pub opened_pair : OneRose m (first_disk f.pair) (second_disk f.pair) now_journal now_spare → ⊥
  pub failures : Rose (m.faults f.failures) (m.faults now_failures) → ⊥
  pub opened_failures : Rose (m.faults f.dest.disk) (m.faults now_failures) → ⊥

pub none_rose : {S D F : Type 0} (o : RunTells S D F) (x : Asks D) (old new : Seen S D F) (mapping : NamedMapping) (f : FilesState D)
    → AreSoundDevices o old new → IsReadyFor o.run.disk x old new mapping f → NoneRose o.run.disk f new.disks.journal new.disks.spare new.disks.failures
none_rose o x old new mapping f sound ready =
    let m = o.run.disk in
    let sound_files : IsFaultless o.run.disk f (devices_of new) = faultless o x old new mapping f sound ready in
    let read = ready.opened.read in
    record {
      pair = sound_files.pair;
      opened_pair = λ rose. sound_files.pair (elim rose [
        | inl first ↦ inl (rose_before (m.faults f.journal) (m.faults (first_disk f.pair)) (m.faults new.disks.journal) read.0.never_falls first)
        | inr second ↦ inr (rose_before (m.faults f.spare) (m.faults (second_disk f.pair)) (m.faults new.disks.spare) read.1.never_falls second)
      ]);
      failures = sound_files.failures;
      opened_failures = λ rose. sound_files.failures (rose_before (m.faults f.failures) (m.faults f.dest.disk) (m.faults new.disks.failures) ready.opened.lines_read.never_falls rose);
    }
