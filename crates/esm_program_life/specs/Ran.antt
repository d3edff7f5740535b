-- What the clauses of `esm` say of a run of a stream's mapping, or of a replay, that a command made. Each definition takes
-- disks and callers first as they were handed in, and then as they were handed back. This product's own.
use Rattle.std.specs.Prelude.{◌≡◌, ◌≢◌, ℕ, List, [], Option, Some, None}
use Rattle.esm_folder.specs.Upkeep.{OneRose}
use Rattle.esm_io.specs.Told.{Grows}
use Rattle.esm_mapping.specs.Named.{IsExpected}
use Rattle.esm_mapping.specs.declared.expected.Expected.TheVariants as expected
use Rattle.esm_mapping.specs.declared.named.NamedMapping.{NamedMapping}
use Rattle.esm_model.specs.declared.book.Trouble.{Trouble}
use Rattle.esm_model.specs.declared.book.Trouble.TheVariants as trouble
use Rattle.esm_model.specs.declared.entry.Entry.{Entry}
use Rattle.esm_model.specs.declared.item.Item.{Item}
use Rattle.esm_model.specs.Records.{Record}
use Rattle.esm_model.specs.Setting.{Setting}
use Rattle.esm_replay.specs.Coming.{first_change}
use Rattle.esm_replay_book.specs.Serving.{records_in_items as replay_records_in_items}
use Rattle.esm_replay_model.specs.ReplayRun.{replay_calls}
use Rattle.esm_replay_model.specs.ReplaySetting.{ReplaySetting}
use Rattle.esm_replay_run.specs.Ended as replay_ended
use Rattle.esm_replay_run.specs.Headline.{Disks as ReplayDisks, Headline as ReplayHeadline, IsSettingOf as IsReplaySettingOf, SomeCame}
use Rattle.esm_run.specs.FirstCaller.{IsFirstUsed}
use Rattle.esm_runner.specs.Coming.{records_in_items}
use Rattle.esm_runner.specs.Files.{FilesState, IsOpenedFiles}
use Rattle.esm_runner.specs.Headline.{CallsMade, CallsMadeOrOneMore, Devices, Headline, IsSettingOf, Telling}

-- statuses

-- the status hides no fault of a disk: with 6 one failed, with 5 the output failed and a disk may have failed before, and 70
-- says nothing of a fault
pub record HidesNoFault (status : ℕ) : Type 0 where
  pub output : status ≢ 5
  pub disk : status ≢ 6
  pub memory : status ≢ 70

-- the status reports no trouble: it hides no fault of a disk, and it is neither 7, which reports a fault of the failure
-- file, nor 8, which reports a record that differs from the kept one
pub record TellsNoTrouble (status : ℕ) : Type 0 where
  pub hides : HidesNoFault status
  pub lines : status ≢ 7
  pub changed : status ≢ 8

-- the status reports a fault, or hides one
abbrev pub Shows : (status : ℕ) → Type 0
Shows status = HidesNoFault status → ⊥

-- runs

-- a stream's mapping ran over these disks, whatever ended or stopped the run; if a disk failed, `told` holds too
pub record HasRanOver {D F : Type 0} (t : Telling D F) (told : Type 0) (status : ℕ) (names : NamedMapping → Type 0) (reads : NamedMapping → List Item → Type 0) (calls : ℕ) (h : List Entry) (journal spare : D) (old : List F) (new : Devices D F) : Type 0 where
  pub mapping : NamedMapping
  pub named : names mapping
  pub files : FilesState D
  pub journal_is : files.journal ≡ journal
  pub spare_is : files.spare ≡ spare
  pub opened : IsOpenedFiles t.disk files
  pub items : List Item
  pub read : reads mapping items
  pub setting : Setting
  pub is_setting : IsSettingOf mapping.config calls files.said (records_in_items items) setting
  pub trouble_is : Option Trouble
  pub hand : List Entry
  pub headline : Headline t files setting h trouble_is hand new
  pub calls_made : CallsMadeOrOneMore t setting h old new.callers
  pub calls_ended : status ≢ 70 → CallsMade t setting h old new.callers
  pub no_trouble : TellsNoTrouble status → trouble_is ≡ None
  pub fault : trouble_is ≡ Some trouble.Disk → OneRose t.disk journal spare new.journal new.spare × told

-- a replay ran over these disks, whatever ended or stopped it; if a disk failed, `told` holds too
pub record HasReplayed {D F : Type 0} (t : replay_ended.Telling D F) (told : Type 0) (status : ℕ) (config : List ℕ) (reads : NamedMapping → List Item → Type 0) (calls : ℕ) (h : List Entry) (journal spare : D) (old new_callers : List F) (new : ReplayDisks D) : Type 0 where
  pub mapping : NamedMapping
  pub named : IsExpected expected.Stream config mapping
  pub files : FilesState D
  pub journal_is : files.journal ≡ journal
  pub spare_is : files.spare ≡ spare
  pub opened : IsOpenedFiles t.disk files
  pub items : List Item
  pub read : reads mapping items
  pub came : List Record
  pub some_came : SomeCame came (replay_records_in_items items)
  pub unchanged : first_change files.said [] came ≡ None
  pub setting : ReplaySetting
  pub is_setting : IsReplaySettingOf mapping.config calls files came setting
  pub trouble_is : Option Trouble
  pub hand : List Entry
  pub headline : ReplayHeadline t.disk t.callers.gave files setting h trouble_is hand new
  pub caller : F
  pub caller_left : F
  pub first_used : IsFirstUsed old new_callers caller caller_left
  pub calls_made : replay_ended.HasLogged t.callers.sends setting h (t.callers.log caller) (t.callers.log caller_left)
  pub calls_ended : status ≢ 70 → Grows (t.callers.log caller) (t.callers.log caller_left) (replay_calls setting t.callers.sends h)
  pub fault : trouble_is ≡ Some trouble.Disk → OneRose t.disk journal spare new.journal new.spare × told
