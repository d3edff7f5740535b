-- What the clauses of `esm` say of a run of a queue's mapping, or of a redrive, that a command made. Each definition takes
-- disks and callers first as they were handed in, and then as they were handed back. This product's own.
use Rattle.std.specs.Prelude.{◌≡◌, ◌≢◌, ◌⊎◌, ℕ, List, Option, Some, None}
use Rattle.esm_folder.specs.Upkeep.{OneRose}
use Rattle.esm_io.specs.Faults.{Rose}
use Rattle.esm_io.specs.Meanings.{DiskMeaning}
use Rattle.esm_io.specs.Told.{Grows}
use Rattle.esm_mapping.specs.Named.{IsExpected}
use Rattle.esm_mapping.specs.declared.expected.Expected.TheVariants as expected
use Rattle.esm_mapping.specs.declared.named.NamedMapping.{NamedMapping}
use Rattle.esm_model.specs.declared.book.Trouble.{Trouble}
use Rattle.esm_model.specs.declared.book.Trouble.TheVariants as trouble
use Rattle.esm_model.specs.declared.entry.Entry.{Entry}
use Rattle.esm_model.specs.declared.item.Item.{Item}
use Rattle.esm_queue_model.specs.QueueSetting.{QueueSetting}
use Rattle.esm_redrive_model.specs.RedriveReport.{redrive_calls}
use Rattle.esm_redrive_model.specs.RedriveSetting.{RedriveSetting}
use Rattle.esm_redrive_run.specs.Ended as redrive_ended
use Rattle.esm_redrive_run.specs.Headline.{Disks as RedriveDisks, Headline as RedriveHeadline, IsSettingOf as IsRedriveSettingOf}
use Rattle.esm_run.specs.FirstCaller.{IsFirstUsed}
use Rattle.esm_run.specs.Redrive.{words_of}
use Rattle.esm_run.specs.declared.asked.RedriveWords.{RedriveWords}
use Rattle.esm_runner.specs.Files.{FilesState, IsOpenedFiles}
use Rattle.esm_runner.specs.Headline.{Devices, Telling}
use Rattle.esm_runner.specs.QueueComing.{messages_in_items}
use Rattle.esm_runner.specs.QueueHeadline.{CallsMade, CallsMadeOrOneMore, Headline, IsSettingOf}
use Rattle.esm_runner.specs.QueueStopping.{HasLogged}

-- statuses

-- the status hides no fault of a disk: with 6 one of the pair failed, with 7 the dead-letter file did, with 5 the output
-- failed and a disk may have failed before, and 70 says nothing of a fault
pub record HidesNoFault (status : ℕ) : Type 0 where
  pub output : status ≢ 5
  pub disk : status ≢ 6
  pub lines : status ≢ 7
  pub memory : status ≢ 70

-- the status reports no trouble: it hides no fault of a disk, and it is not 8, which reports a message that differs from the
-- kept one
pub record TellsNoTrouble (status : ℕ) : Type 0 where
  pub hides : HidesNoFault status
  pub changed : status ≢ 8

-- the status reports a fault, or hides one
abbrev pub Shows : (status : ℕ) → Type 0
Shows status = HidesNoFault status → ⊥

-- one of three disks failed
abbrev pub AnyRose : {D : Type 0} → DiskMeaning D → (journal spare failures journal' spare' failures' : D) → Type 0
AnyRose m journal spare failures journal' spare' failures' = OneRose m journal spare journal' spare' ⊎ Rose (m.faults failures) (m.faults failures')

-- runs

-- a queue's mapping ran over these disks, whatever ended or stopped the run; if a disk failed, `told` holds too
pub record HasRanOver {D F : Type 0} (t : Telling D F) (told : Type 0) (status : ℕ) (names : NamedMapping → Type 0) (reads : NamedMapping → List Item → Type 0) (calls visibility : ℕ) (h : List Entry) (journal spare failures : D) (old : List F) (new : Devices D F) : Type 0 where
  pub mapping : NamedMapping
  pub named : names mapping
  pub files : FilesState D
  pub journal_is : files.journal ≡ journal
  pub spare_is : files.spare ≡ spare
  pub failures_is : files.failures ≡ failures
  pub opened : IsOpenedFiles t.disk files
  pub items : List Item
  pub read : reads mapping items
  pub setting : QueueSetting
  pub is_setting : IsSettingOf mapping.config calls visibility files.said (messages_in_items items) setting
  pub trouble_is : Option Trouble
  pub hand : List Entry
  pub headline : Headline t files setting h trouble_is hand new
  pub calls_made : CallsMadeOrOneMore t setting h old new.callers
  pub calls_ended : status ≢ 70 → CallsMade t setting h old new.callers
  pub no_trouble : TellsNoTrouble status → trouble_is ≡ None
  pub fault : trouble_is ≡ Some trouble.Disk → AnyRose t.disk journal spare failures new.journal new.spare new.failures × told

-- a redrive ran over these disks, whatever ended or stopped it; if a disk failed, `told` holds too
pub record HasRedriven {D F : Type 0} (t : redrive_ended.Telling D F) (told : Type 0) (status : ℕ) (w : RedriveWords) (reads : NamedMapping → List Item → Type 0) (h : List Entry) (journal spare failures : D) (old new_callers : List F) (new : RedriveDisks D) : Type 0 where
  pub mapping : NamedMapping
  pub named : IsExpected expected.Queue w.config mapping
  pub files : FilesState D
  pub journal_is : files.journal ≡ journal
  pub spare_is : files.spare ≡ spare
  pub failures_is : files.failures ≡ failures
  pub opened : IsOpenedFiles t.disk files
  pub items : List Item
  pub read : reads mapping items
  pub setting : RedriveSetting
  pub is_setting : IsRedriveSettingOf (words_of w mapping.config) files (messages_in_items items) setting
  pub trouble_is : Option Trouble
  pub hand : List Entry
  pub tried : List Entry
  pub headline : RedriveHeadline t.disk t.callers.gave files setting h trouble_is hand tried new
  pub caller : F
  pub caller_left : F
  pub first_used : IsFirstUsed old new_callers caller caller_left
  pub calls_made : HasLogged t.callers.sends setting.queue h 0 (t.callers.log caller) (t.callers.log caller_left)
  pub calls_ended : status ≢ 70 → Grows (t.callers.log caller) (t.callers.log caller_left) (redrive_calls setting t.callers.sends h)
  pub fault : (trouble_is ≡ Some trouble.Disk) ⊎ (trouble_is ≡ Some trouble.Dest) → AnyRose t.disk journal spare failures new.journal new.spare new.dead × told
