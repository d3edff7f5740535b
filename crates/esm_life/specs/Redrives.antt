-- What the files hold after a redrive: what a stage of the life of its queue leaves. This product's own.
use Rattle.std.specs.Prelude.{◌≡◌, ◌++◌, ◌∷◌, ℕ, Bool, true, List, Option, Some}
use Rattle.esm_io.specs.Meanings.{DiskMeaning}
use Rattle.esm_folder.specs.Upkeep.{AreHonest, PairHolds}
use Rattle.esm_journal.specs.File.{header_of}
use Rattle.esm_journal.specs.Pair.{PairOpensTo}
use Rattle.esm_journal.specs.State.{Keeps, OpensTo}
use Rattle.esm_model.specs.declared.book.Trouble.{Trouble}
use Rattle.esm_model.specs.declared.book.Trouble.TheVariants.{Disk, Dest}
use Rattle.esm_model.specs.declared.entry.Entry.{Entry}
use Rattle.esm_model.specs.declared.item.Message.{Message}
use Rattle.esm_model.specs.Books.{lines_of}
use Rattle.esm_queue_model.specs.QueueSetting.{is_fifo}
use Rattle.esm_queue_life.specs.Life.{EachRedriveIsEarned, IsLife, Redriven, Run, Stage, content, dead_lines}
use Rattle.esm_redrive_life.specs.Content.{content_after}
use Rattle.esm_redrive_life.specs.Life.{IsRedriveOver, IsWhole, Redrive}
use Rattle.esm_redrive_model.specs.RedriveSetting.{RedriveSetting}
use Rattle.esm_runner.specs.Files.{FilesState, IsOpenedFiles}
use Rattle.esm_runner.specs.Given.{AreGiven}
use Rattle.esm_redrive_run.specs.Headline.{Disks, Headline, IsSettingOf, Words}
use Rattle.esm_redrive_run.specs.Stages.{IsLeft}
use Rattle.esm_life.specs.Left.{ArePairLeft}
use Rattle.esm_life.specs.Queues.{HasFoundLife, KeepsLaws, OpensToLife}

-- With these bytes of the disks, the pair opens to the content that was found, followed by the payloads of what the journal
-- recorded, and the dead-letter file to the lines that were found, followed by those of the entries in `lined`. A stage may
-- leave both.
pub record LeftBy {D : Type 0} (gave : ℕ → Bool) (f : FilesState D) (s : RedriveSetting) (h hand tried : List Entry) (one other bytes : List ℕ) : Type 0 where
  pub recorded : List Entry
  pub lined : List Entry
  -- each of their moments is one that the clock gave, those of the entry in hand and of the tried one included
  pub moments : AreGiven gave recorded
  pub lines_given : AreGiven gave lined
  pub left : IsLeft s h hand tried recorded lined
  pub content_is : PairOpensTo (header_of 2) f.pair.epoch (content_after s.queue recorded f.pair.payloads) one other
  pub lines_are : OpensTo (header_of 1) (f.dest.payloads ++ lines_of lined) bytes

-- A crash may leave these bytes: of the journal at any moment since the run's start, or since its files were opened; of the
-- dead-letter file now.
pub record MayBeLeft {D : Type 0} (m : DiskMeaning D) (f : FilesState D) (new : Disks D) (one other bytes : List ℕ) : Type 0 where
  pub honest : AreHonest m f.journal f.spare
  pub honest_lines : m.honest f.failures ≡ true
  pub left : ArePairLeft m f new.journal new.spare one other
  pub dead : m.image new.dead bytes

-- the redrive as a stage, with what its files kept of it
abbrev pub stage_of : RedriveSetting → (h recorded lined : List Entry) → Redrive
stage_of s h recorded lined = record { setting = s; happened = h; recorded = recorded; lined = lined }

-- Whatever a crash leaves after a run whose headline holds is what a redrive over what was found leaves: the content and the
-- lines by the same `recorded` and `lined`.
abbrev pub IsLeftByStage : {D : Type 0} → DiskMeaning D → (ℕ → Bool) → Words → FilesState D → List Message → RedriveSetting → List Entry → Option Trouble → (hand tried : List Entry) → Disks D → (one other bytes : List ℕ) → Type 0
IsLeftByStage m gave w f messages s h trouble hand tried new one other bytes =
    IsOpenedFiles m f → IsSettingOf w f messages s → Headline m gave f s h trouble hand tried new → MayBeLeft m f new one other bytes →
    (left : LeftBy gave f s h hand tried one other bytes) × IsRedriveOver (is_fifo w.config.kind) (stage_of s h left.recorded left.lined) f.pair.payloads f.dest.payloads

-- If no device failed, the redrive is whole, the pair opens to the content that it leaves, the dead-letter file reads as the
-- lines that it leaves, and a crash leaves nothing else.
pub record IsLeftWhole {D : Type 0} (m : DiskMeaning D) (f : FilesState D) (s : RedriveSetting) (h hand tried : List Entry) (new : Disks D) : Type 0 where
  pub left : IsLeft s h hand tried h h
  pub whole : IsWhole (stage_of s h h h)
  pub content_is : AreHonest m f.journal f.spare → PairHolds m f.pair.epoch (content_after s.queue h f.pair.payloads) new.journal new.spare
  pub lines_are : m.honest f.failures ≡ true → Keeps m (header_of 1) (f.dest.payloads ++ lines_of h) new.dead

abbrev pub IsWholeStage : {D : Type 0} → DiskMeaning D → (ℕ → Bool) → FilesState D → RedriveSetting → List Entry → Option Trouble → (hand tried : List Entry) → Disks D → Type 0
IsWholeStage m gave f s h trouble hand tried new =
    Headline m gave f s h trouble hand tried new → (trouble ≡ Some Disk → ⊥) → (trouble ≡ Some Dest → ⊥) → IsLeftWhole m f s h hand tried new

-- a life

-- with this redrive as a further stage the life is still one, and the bytes open to what it leaves
pub record LeavesLife (gave : ℕ → Bool) (fifo : Bool) (life : List Stage) (s : RedriveSetting) (h : List Entry) (epoch : ℕ) (one other bytes : List ℕ) : Type 0 where
  pub recorded : List Entry
  pub lined : List Entry
  pub moments : AreGiven gave recorded
  pub lines_given : AreGiven gave lined
  pub opens : OpensToLife fifo (Redriven (stage_of s h recorded lined) ∷ life) epoch one other bytes

-- a run that found what a life leaves
abbrev pub GoesOnWithStage : {D : Type 0} → DiskMeaning D → (ℕ → Bool) → Words → FilesState D → List Message → RedriveSetting → List Entry → Option Trouble → (hand tried : List Entry) → Disks D → (one other bytes : List ℕ) → List Stage → Type 0
GoesOnWithStage m gave w f messages s h trouble hand tried new one other bytes life =
    IsOpenedFiles m f → IsSettingOf w f messages s → Headline m gave f s h trouble hand tried new → MayBeLeft m f new one other bytes →
    HasFoundLife (is_fifo w.config.kind) f life → LeavesLife gave (is_fifo w.config.kind) life s h f.pair.epoch one other bytes

-- the redrive as a run of its queue
abbrev pub run_in : RedriveSetting → (h recorded : List Entry) → Run
run_in s h recorded = record { setting = s.queue; happened = h; recorded = recorded }

-- it keeps the laws of the whole life, and each deletion that it adds is earned in it
abbrev pub KeepsLawsInLife : Bool → RedriveSetting → (h recorded lined : List Entry) → List Stage → Type 0
KeepsLawsInLife fifo s h recorded lined life =
    IsLife fifo life → IsRedriveOver fifo (stage_of s h recorded lined) (content life) (dead_lines life) →
    KeepsLaws fifo (Redriven (stage_of s h recorded lined)) (run_in s h recorded) life × EachRedriveIsEarned fifo (stage_of s h recorded lined) life
