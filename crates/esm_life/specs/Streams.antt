-- What the journal holds after a run of a stream's mapping: what a stage of the mapping's life leaves. This product's own.
use Rattle.std.specs.Prelude.{◌≡◌, ◌⊎◌, ◌+◌, ◌∷◌, ◌++◌, ℕ, Bool, false, List, [], Option, Some, None}
use Rattle.esm_io.specs.Meanings.{DiskMeaning}
use Rattle.esm_folder.specs.Init.{IsInitEnd}
use Rattle.esm_folder.specs.Upkeep.{AreHonest, AreOnlyRead, AreSettled, IsCompacting, IsMigrated, IsMigrating, PairHolds}
use Rattle.esm_folder.specs.declared.disks.Disks.{Disks}
use Rattle.esm_folder.specs.declared.files.InitEnd.TheVariants.{Done}
use Rattle.esm_journal.specs.File.{header_of, Holding}
use Rattle.esm_journal.specs.Migrate.{is_version_2}
use Rattle.esm_journal.specs.Pair.{PairOpensTo, pair_opened}
use Rattle.esm_model.specs.declared.book.Trouble.{Trouble}
use Rattle.esm_model.specs.declared.book.Trouble.TheVariants.{Disk}
use Rattle.esm_model.specs.declared.config.Config.{Config}
use Rattle.esm_model.specs.declared.entry.Entry.{Entry}
use Rattle.esm_model.specs.Records.{Record}
use Rattle.esm_model.specs.Setting.{Setting}
use Rattle.esm_model.specs.Valid.{IsStreamConfig}
use Rattle.esm_replay.specs.Coming.{first_change}
use Rattle.esm_replay_life.specs.ReplayLife.{ReplayRun}
use Rattle.esm_replay_model.specs.ReplaySetting.{ReplaySetting}
use Rattle.esm_replay_run.specs.Headline.{Disks as ReplayDisks, Headline as ReplayHeadline, IsSettingOf as IsReplaySettingOf}
use Rattle.esm_runner.specs.Files.{FilesState, IsOpenedFiles}
use Rattle.esm_runner.specs.Given.{AreGiven}
use Rattle.esm_runner.specs.Headline.{Devices, Headline, IsSettingOf, telling}
use Rattle.esm_workers.specs.Working.{Outside}
use Rattle.esm_history.specs.Content.{GoesOnFrom, OwesNothing, content_after}
use Rattle.esm_life.specs.Life.{AreBetween, CheckpointIsRuns, CheckpointStays, EachFateOnce, EachIsEarned, FateStays, IsLife, IsRunOver, KeysInOrder, NoneIsCalledAgain, Ran, Replay, Rewritten, Run, Stage, content}
use Rattle.esm_life.specs.Left.{ArePairLeft}
use Rattle.esm_life.specs.Tries.{TriesGoOn}

-- one run

-- the run as a stage; `recorded` is what the journal kept of it
abbrev pub stage_of : Setting → (h recorded : List Entry) → Run
stage_of s h recorded = record { setting = s; happened = h; recorded = recorded }

-- The pair opens to the content that was found, followed by the payloads of what the journal recorded. With that, the run is
-- a stage over what was found.
pub record LeftBy {D : Type 0} (gave : ℕ → Bool) (f : FilesState D) (s : Setting) (h : List Entry) (one other : List ℕ) : Type 0 where
  pub recorded : List Entry
  -- each of its moments is one that the clock gave, that of an entry in hand included
  pub moments : AreGiven gave recorded
  pub run_over : IsRunOver (stage_of s h recorded) f.pair.payloads
  pub content_is : PairOpensTo (header_of 2) f.pair.epoch (content_after s recorded f.pair.payloads) one other

-- A crash may leave these bytes of the journal's disks, at any moment since the run's start, or since its files were opened.
pub record MayBeLeft {D : Type 0} (m : DiskMeaning D) (f : FilesState D) (journal spare : D) (one other : List ℕ) : Type 0 where
  pub honest : AreHonest m f.journal f.spare
  pub left : ArePairLeft m f journal spare one other

-- a run over opened files, whose headline holds
pub record HasRunOver {D F : Type 0} (m : DiskMeaning D) (callers : Outside F) (line : List ℕ → List ℕ) (config : Config) (calls : ℕ) (f : FilesState D) (records : List Record) (s : Setting) (h : List Entry) (trouble : Option Trouble) (hand : List Entry) (new : Devices D F) : Type 0 where
  pub opened : IsOpenedFiles m f
  pub is_setting : IsSettingOf config calls f.said records s
  pub headline : Headline (telling callers m line) f s h trouble hand new

-- If no disk of the journal failed, the journal recorded everything that happened, the pair opens to the content that the
-- run leaves, and a crash leaves nothing else. If the failure file did not fail either, and no record was found changed,
-- nothing is owed.
pub record IsLeftWhole {D F : Type 0} (m : DiskMeaning D) (f : FilesState D) (s : Setting) (h : List Entry) (trouble : Option Trouble) (new : Devices D F) : Type 0 where
  pub run_over : IsRunOver (stage_of s h h) f.pair.payloads
  pub content_is : AreHonest m f.journal f.spare → PairHolds m f.pair.epoch (content_after s h f.pair.payloads) new.journal new.spare
  pub paid : trouble ≡ None → OwesNothing s h

-- a life

-- these bytes of the journal and of its spare open to the content that a life leaves
pub record OpensToLife (life : List Stage) (epoch : ℕ) (one other : List ℕ) : Type 0 where
  pub is_life : IsLife life
  pub content_is : pair_opened (header_of 2) one other ≡ Holding epoch (content life)

-- the files opened to the content that a life leaves
abbrev pub HasFoundLife : {D : Type 0} → FilesState D → List Stage → Type 0
HasFoundLife f life = IsLife life × (f.pair.payloads ≡ content life)

-- with this run as a further stage the life is still one, and the bytes open to what it leaves
pub record LeavesLife (gave : ℕ → Bool) (life : List Stage) (s : Setting) (h : List Entry) (epoch : ℕ) (one other : List ℕ) : Type 0 where
  pub recorded : List Entry
  pub moments : AreGiven gave recorded
  pub opens : OpensToLife (Ran (stage_of s h recorded) ∷ life) epoch one other

-- the replay that left these payloads in the journal
abbrev pub replay_of : ReplaySetting → (h hand : List Entry) → (left : List (List ℕ)) → ReplayRun
replay_of s h hand left = record { setting = s; happened = h; hand = hand; left = left }

-- with this replay as a further stage the life is still one, and the bytes open to what it leaves
pub record LeavesReplayed (life : List Stage) (s : ReplaySetting) (h hand : List Entry) (epoch : ℕ) (one other : List ℕ) : Type 0 where
  pub left : List (List ℕ)
  pub opens : OpensToLife (Replay (replay_of s h hand left) ∷ life) epoch one other

-- files that were opened over disks with such bytes found that life
abbrev pub IsFoundAgain : {D : Type 0} → DiskMeaning D → FilesState D → List Stage → ℕ → Type 0
IsFoundAgain m f life epoch = IsOpenedFiles m f → AreHonest m f.journal f.spare → OpensToLife life epoch (m.content f.journal) (m.content f.spare) → HasFoundLife f life

-- Files that `init` made open to what a life without stages leaves, and a crash leaves nothing else of them.
abbrev pub IsNewLife : {D : Type 0} → DiskMeaning D → (old new : Disks D) → Type 0
IsNewLife m old new =
    IsInitEnd m old new Done → AreHonest m old.journal old.spare →
    AreSettled m new.journal new.spare × OpensToLife [] 1 (m.content new.journal) (m.content new.spare)

-- whatever a crash leaves of a compaction of the journal, the life is as before, or has the list that was written as a
-- further stage
abbrev pub IsCompactedLife : {D : Type 0} → DiskMeaning D → List Stage → ℕ → (journal spare journal' spare' : D) → (one other : List ℕ) → Type 0
IsCompactedLife m life epoch journal spare journal' spare' one other =
    IsCompacting m journal spare journal' spare' → AreHonest m journal spare → AreSettled m journal spare → OpensToLife life epoch (m.content journal) (m.content spare) →
    m.since journal' (m.moment journal) one → m.since spare' (m.moment spare) other →
    OpensToLife life epoch one other ⊎ ((list : List (List ℕ)) × OpensToLife (Rewritten list ∷ life) (epoch + 1) one other)

-- a pair of version 1 with the payloads of a life is still that life's once it was written as one of version 2
abbrev pub IsMigratedLife : {D : Type 0} → DiskMeaning D → List Stage → (journal spare journal' spare' : D) → (payloads : List (List ℕ)) → Type 0
IsMigratedLife m life journal spare journal' spare' payloads =
    IsLife life → payloads ≡ content life → (migrated : IsMigrated m journal spare journal' spare' payloads) →
    OpensToLife life (migrated.epoch + 1) (m.content journal') (m.content spare')

-- these bytes open as a pair of version 1 to the content that a life leaves
pub record OpensToLifeOfVersion1 (life : List Stage) (epoch : ℕ) (one other : List ℕ) : Type 0 where
  pub is_life : IsLife life
  pub version : is_version_2 one other ≡ false
  pub content_is : pair_opened (header_of 1) one other ≡ Holding epoch (content life)

-- whatever a crash leaves while such a pair is written as one of version 2 opens to the same life: as the pair that it was,
-- or as one of version 2 with the next epoch
abbrev pub IsMigratingLife : {D : Type 0} → DiskMeaning D → List Stage → ℕ → (journal spare journal' spare' : D) → (one other : List ℕ) → Type 0
IsMigratingLife m life epoch journal spare journal' spare' one other =
    IsMigrating m journal spare journal' spare' → AreHonest m journal spare → AreSettled m journal spare → OpensToLifeOfVersion1 life epoch (m.content journal) (m.content spare) →
    m.since journal' (m.moment journal) one → m.since spare' (m.moment spare) other →
    OpensToLifeOfVersion1 life epoch one other ⊎ OpensToLife life (epoch + 1) one other

-- whatever a crash leaves of the journal after a replay that found what a life leaves, the life has that replay as a further
-- stage
abbrev pub IsReplayedLife : {D : Type 0} → DiskMeaning D → (ℕ → Bool) → Config → (calls : ℕ) → FilesState D → (came : List Record) → ReplaySetting → List Entry → Option Trouble → (hand : List Entry) → ReplayDisks D → (one other : List ℕ) → List Stage → Type 0
IsReplayedLife m gave config calls f came s h trouble hand new one other life =
    IsOpenedFiles m f → IsReplaySettingOf config calls f came s → first_change f.said [] came ≡ None → ReplayHeadline m gave f s h trouble hand new →
    MayBeLeft m f new.journal new.spare one other → HasFoundLife f life → LeavesReplayed life s h hand f.pair.epoch one other

-- whatever a crash leaves of disks that were only read, because files were refused or no run began, opens to the same life
abbrev pub IsSameLife : {D : Type 0} → DiskMeaning D → List Stage → ℕ → (journal spare journal' spare' : D) → (one other : List ℕ) → Type 0
IsSameLife m life epoch journal spare journal' spare' one other =
    AreOnlyRead m journal spare journal' spare' → AreHonest m journal spare → AreSettled m journal spare → OpensToLife life epoch (m.content journal) (m.content spare) →
    m.since journal' (m.moment journal) one → m.since spare' (m.moment spare) other → OpensToLife life epoch one other

-- What holds over a life for a further run. A recorded fate stays, and one that is first recorded in the run is earned in
-- it. No call of the run holds a record that had a recorded fate when the run began, or was given one in it before the call;
-- and the calls of all runs together keep the order of each key. The recorded checkpoint does not fall, and is that of what
-- the journal recorded. The next run, whenever it comes, finds what this one knew; of tries too, except at most one, which
-- the end of a call counted and whose entry was not written. At most one payload says the fate of a record.
pub record KeepsLaws (r : Run) (life : List Stage) : Type 0 where
  pub fates_stay : FateStays (Ran r ∷ []) life
  pub each_is_earned : EachIsEarned r life
  pub none_is_called_again : NoneIsCalledAgain r life
  pub keys_in_order : KeysInOrder r life
  pub checkpoint_stays : CheckpointStays (Ran r ∷ []) life
  pub checkpoint_is_runs : CheckpointIsRuns r life
  pub goes_on : (next : Run) (between : List Stage) → IsLife (Ran next ∷ between ++ Ran r ∷ life) → AreBetween between → GoesOnFrom r.setting r.recorded next.setting
  pub each_fate_once : EachFateOnce (Ran r ∷ life)
  pub tries_go_on : (next : Run) (between : List Stage) → IsLife (Ran next ∷ between ++ Ran r ∷ life) → AreBetween between → TriesGoOn r.setting r.recorded next.setting

-- laws of one run

abbrev pub IsLeftByStage : {D F : Type 0} → DiskMeaning D → Outside F → (List ℕ → List ℕ) → Config → (calls : ℕ) → FilesState D → List Record → Setting → List Entry → Option Trouble → (hand : List Entry) → Devices D F → (one other : List ℕ) → Type 0
IsLeftByStage m callers line config calls f records s h trouble hand new one other =
    HasRunOver m callers line config calls f records s h trouble hand new → MayBeLeft m f new.journal new.spare one other → LeftBy callers.gave f s h one other

abbrev pub IsWholeStage : {D F : Type 0} → DiskMeaning D → Outside F → (List ℕ → List ℕ) → Config → (calls : ℕ) → FilesState D → List Record → Setting → List Entry → Option Trouble → (hand : List Entry) → Devices D F → Type 0
IsWholeStage m callers line config calls f records s h trouble hand new =
    HasRunOver m callers line config calls f records s h trouble hand new → (trouble ≡ Some Disk → ⊥) → IsLeftWhole m f s h trouble new

-- and of one that found what a life leaves

abbrev pub GoesOnWithStage : {D F : Type 0} → DiskMeaning D → Outside F → (List ℕ → List ℕ) → Config → (calls : ℕ) → FilesState D → List Record → Setting → List Entry → Option Trouble → (hand : List Entry) → Devices D F → (one other : List ℕ) → List Stage → Type 0
GoesOnWithStage m callers line config calls f records s h trouble hand new one other life =
    HasRunOver m callers line config calls f records s h trouble hand new → MayBeLeft m f new.journal new.spare one other → HasFoundLife f life → LeavesLife callers.gave life s h f.pair.epoch one other

abbrev pub KeepsLawsInLife : {D F : Type 0} → DiskMeaning D → Outside F → (List ℕ → List ℕ) → Config → (calls : ℕ) → FilesState D → List Record → Setting → List Entry → Option Trouble → (hand : List Entry) → Devices D F → List Stage → Type 0
KeepsLawsInLife m callers line config calls f records s h trouble hand new life =
    HasRunOver m callers line config calls f records s h trouble hand new → IsStreamConfig config → HasFoundLife f life → (recorded : List Entry) → IsRunOver (stage_of s h recorded) (content life) → KeepsLaws (stage_of s h recorded) life
