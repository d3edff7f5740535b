-- A redrive as a stage of the life of its queue. This product's own.
use Rattle.std.specs.Prelude.{◌≡◌, ◌⊎◌, ◌++◌, ◌∷◌, ℕ, Bool, IsTrue, List, [], Option}
use Rattle.esm_io.specs.Meanings.{DiskMeaning}
use Rattle.esm_model.specs.declared.book.Trouble.{Trouble}
use Rattle.esm_model.specs.declared.entry.Entry.{Entry}
use Rattle.esm_model.specs.declared.item.Message.{Message}
use Rattle.esm_model.specs.Entries.{holds}
use Rattle.esm_queue_model.specs.QueueSetting.{is_fifo}
use Rattle.esm_redrive_book.specs.Keeping.{FollowsFront}
use Rattle.esm_redrive_life.specs.Life.{IsRedriveOver}
use Rattle.esm_redrive_model.specs.Due.{moved_places}
use Rattle.esm_redrive_model.specs.RedriveSetting.{RedriveSetting}
use Rattle.esm_runner.specs.Files.{FilesState, IsOpenedFiles}
use Rattle.esm_redrive_run.specs.Headline.{Disks, Headline, IsSettingOf, Words}

-- a file kept a prefix of the history; or the further entry, if there is one, behind a prefix after which only calls and
-- the input ended
abbrev pub IsLeftOf : RedriveSetting → List Entry → (further kept : List Entry) → Type 0
IsLeftOf s h further kept = ((lost : List Entry) × (h ≡ lost ++ kept)) ⊎ ((e : Entry) × (further ≡ e ∷ []) × ((front : FollowsFront s h e) × (kept ≡ e ∷ front.before)))

-- what its journal kept, whose image may have the entry in hand, and of which entries the dead-letter file has the lines;
-- if the journal has the deletion of a moved message, the file has its line
pub record IsLeft (s : RedriveSetting) (h : List Entry) (hand tried recorded lined : List Entry) : Type 0 where
  pub recorded_is : IsLeftOf s h hand recorded
  pub lined_is : IsLeftOf s h hand lined ⊎ IsLeftOf s h tried lined
  pub line_first : (i : ℕ) → IsTrue (holds (moved_places recorded) i) → IsTrue (holds (moved_places lined) i)

-- a run of which the headline holds is a redrive over what was found, whatever of it the files kept
abbrev pub IsStage : {D : Type 0} → DiskMeaning D → (ℕ → Bool) → Words → FilesState D → List Message → RedriveSetting → List Entry → Option Trouble → (hand tried : List Entry) → Disks D → (recorded lined : List Entry) → Type 0
IsStage m gave w f messages s h trouble hand tried new recorded lined =
    IsOpenedFiles m f → IsSettingOf w f messages s → Headline m gave f s h trouble hand tried new → IsLeft s h hand tried recorded lined →
    IsRedriveOver (is_fifo w.config.kind) (record { setting = s; happened = h; recorded = recorded; lined = lined }) f.pair.payloads f.dest.payloads
