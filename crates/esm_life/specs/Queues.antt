-- What the files hold after a run of a queue's mapping: what a stage of the mapping's life leaves. This product's own.
use Rattle.std.specs.Prelude.{◌≡◌, ◌⊎◌, ◌+◌, ◌++◌, ◌∷◌, [], ℕ, Bool, true, false, List, Option, Some}
use Rattle.esm_io.specs.Images.{Only}
use Rattle.esm_io.specs.Meanings.{DiskMeaning}
use Rattle.esm_folder.specs.declared.disks.Disks.{Disks as FolderDisks}
use Rattle.esm_folder.specs.declared.files.InitEnd.TheVariants.{Done}
use Rattle.esm_folder.specs.Init.{AreHonest as AllAreHonest, IsInitEnd}
use Rattle.esm_folder.specs.Upkeep.{AreHonest, AreSettled, IsCompacting, IsMigrated, IsMigrating, PairHolds}
use Rattle.esm_journal.specs.File.{header_of, Holding}
use Rattle.esm_journal.specs.Migrate.{is_version_2}
use Rattle.esm_journal.specs.Pair.{PairOpensTo, pair_opened}
use Rattle.esm_journal.specs.State.{OpensTo}
use Rattle.esm_model.specs.declared.book.Trouble.{Trouble}
use Rattle.esm_model.specs.declared.book.Trouble.TheVariants.{Disk}
use Rattle.esm_model.specs.declared.config.Config.{Config}
use Rattle.esm_model.specs.declared.entry.Entry.{Entry}
use Rattle.esm_model.specs.declared.item.Message.{Message}
use Rattle.esm_queue_model.specs.QueueSetting.{QueueSetting, is_fifo}
use Rattle.esm_queue_life.specs.Life.{AreRewritten, DeletionStays, EachDeletedOnce, EachIsEarned, GoesOnFrom, GroupsInOrder, IdsAreKept, IsLife, IsRunOver, NoneIsCalledAgain, Ran, Rewritten, Run, Stage, content, dead_lines, run_of}
use Rattle.esm_redrive_life.specs.Content.{DeletionsAreRecorded, content_after}
use Rattle.esm_runner.specs.Files.{AreUnwritten, FilesState, IsOpenedFiles}
use Rattle.esm_runner.specs.Given.{AreGiven}
use Rattle.esm_runner.specs.Headline.{Devices, telling}
use Rattle.esm_runner.specs.QueueHeadline.{Headline, IsSettingOf}
use Rattle.esm_workers.specs.Working.{Outside}
use Rattle.esm_life.specs.Left.{AreLinesLeft, ArePairLeft}

-- one run

-- the run as a stage; `recorded` is what the journal kept of it
abbrev pub stage_of : QueueSetting → (h recorded : List Entry) → Run
stage_of s h recorded = record { setting = s; happened = h; recorded = recorded }

-- The pair opens to the content that was found, followed by the payloads of what the journal recorded. With that, the run is
-- a stage over what was found.
pub record LeftBy {D : Type 0} (gave : ℕ → Bool) (fifo : Bool) (f : FilesState D) (s : QueueSetting) (h : List Entry) (one other : List ℕ) : Type 0 where
  pub recorded : List Entry
  -- each of its moments is one that the clock gave, that of an entry in hand included
  pub moments : AreGiven gave recorded
  pub run_over : IsRunOver fifo (stage_of s h recorded) f.pair.payloads
  pub content_is : PairOpensTo (header_of 2) f.pair.epoch (content_after s recorded f.pair.payloads) one other

-- A crash may leave these bytes of each file, at any moment since the start of a run that only reads the dead-letter file,
-- or since its files were opened.
pub record MayBeLeft {D : Type 0} (m : DiskMeaning D) (f : FilesState D) (journal spare failures : D) (one other bytes : List ℕ) : Type 0 where
  pub honest : AreHonest m f.journal f.spare
  pub honest_lines : m.honest f.failures ≡ true
  pub left : ArePairLeft m f journal spare one other
  pub lines_left : AreLinesLeft m f failures bytes

-- a run over opened files, whose headline holds
pub record HasRunOver {D F : Type 0} (m : DiskMeaning D) (callers : Outside F) (line : List ℕ → List ℕ) (config : Config) (calls visibility : ℕ) (f : FilesState D) (messages : List Message) (s : QueueSetting) (h : List Entry) (trouble : Option Trouble) (hand : List Entry) (new : Devices D F) : Type 0 where
  pub opened : IsOpenedFiles m f
  pub is_setting : IsSettingOf config calls visibility f.said messages s
  pub headline : Headline (telling callers m line) f s h trouble hand new

-- If no disk of the journal failed, the journal recorded everything that happened, the pair opens to the content that the
-- run leaves, and a crash leaves nothing else. The dead-letter file is as it was found.
pub record IsLeftWhole {D F : Type 0} (m : DiskMeaning D) (fifo : Bool) (f : FilesState D) (s : QueueSetting) (h : List Entry) (new : Devices D F) : Type 0 where
  pub run_over : IsRunOver fifo (stage_of s h h) f.pair.payloads
  pub content_is : AreHonest m f.journal f.spare → PairHolds m f.pair.epoch (content_after s h f.pair.payloads) new.journal new.spare
  pub lines_are : new.failures ≡ f.dest.disk

-- a life

-- these bytes of the journal, of its spare and of the dead-letter file open to the content and the lines that a life leaves
pub record OpensToLife (fifo : Bool) (life : List Stage) (epoch : ℕ) (one other bytes : List ℕ) : Type 0 where
  pub is_life : IsLife fifo life
  pub content_is : pair_opened (header_of 2) one other ≡ Holding epoch (content life)
  pub lines_are : OpensTo (header_of 1) (dead_lines life) bytes

-- the files opened to the content and the lines that a life leaves
pub record HasFoundLife {D : Type 0} (fifo : Bool) (f : FilesState D) (life : List Stage) : Type 0 where
  pub is_life : IsLife fifo life
  pub content_is : f.pair.payloads ≡ content life
  pub lines_are : f.dest.payloads ≡ dead_lines life

-- with this run as a further stage the life is still one, and the bytes open to what it leaves
pub record LeavesLife (gave : ℕ → Bool) (fifo : Bool) (life : List Stage) (s : QueueSetting) (h : List Entry) (epoch : ℕ) (one other bytes : List ℕ) : Type 0 where
  pub recorded : List Entry
  pub moments : AreGiven gave recorded
  pub opens : OpensToLife fifo (Ran (stage_of s h recorded) ∷ life) epoch one other bytes

-- the files that `init` made open to what a life without stages leaves, and a crash leaves nothing else of them
pub record HasBegunLife {D : Type 0} (m : DiskMeaning D) (new : FolderDisks D) (fifo : Bool) : Type 0 where
  pub settled : AreSettled m new.journal new.spare
  pub settled_lines : Only (m.content new.failures) (m.image new.failures)
  pub opens : OpensToLife fifo [] 1 (m.content new.journal) (m.content new.spare) (m.content new.failures)

abbrev pub IsLifeBegun : {D : Type 0} → DiskMeaning D → (old new : FolderDisks D) → Bool → Type 0
IsLifeBegun m old new fifo = IsInitEnd m old new Done → AllAreHonest m old → HasBegunLife m new fifo

-- files that were opened over disks with such bytes found that life
abbrev pub IsFoundAgain : {D : Type 0} → DiskMeaning D → FilesState D → Bool → List Stage → ℕ → Type 0
IsFoundAgain m f fifo life epoch =
    IsOpenedFiles m f → AreHonest m f.journal f.spare → m.honest f.failures ≡ true →
    OpensToLife fifo life epoch (m.content f.journal) (m.content f.spare) (m.content f.failures) → HasFoundLife fifo f life

-- whatever a crash leaves of a compaction of the journal, the life is as before, or has the list that was written as a
-- further stage
abbrev pub IsCompactedLife : {D : Type 0} → DiskMeaning D → Bool → List Stage → ℕ → (journal spare journal' spare' : D) → (one other bytes : List ℕ) → Type 0
IsCompactedLife m fifo life epoch journal spare journal' spare' one other bytes =
    IsCompacting m journal spare journal' spare' → AreHonest m journal spare → AreSettled m journal spare →
    OpensToLife fifo life epoch (m.content journal) (m.content spare) bytes →
    m.since journal' (m.moment journal) one → m.since spare' (m.moment spare) other →
    OpensToLife fifo life epoch one other bytes ⊎ ((list : List (List ℕ)) × OpensToLife fifo (Rewritten list ∷ life) (epoch + 1) one other bytes)

-- a pair of version 1 with the payloads of a life is still that life's once it was written as one of version 2
abbrev pub IsMigratedLife : {D : Type 0} → DiskMeaning D → Bool → List Stage → (journal spare journal' spare' : D) → (payloads : List (List ℕ)) → (bytes : List ℕ) → Type 0
IsMigratedLife m fifo life journal spare journal' spare' payloads bytes =
    IsLife fifo life → payloads ≡ content life → OpensTo (header_of 1) (dead_lines life) bytes → (migrated : IsMigrated m journal spare journal' spare' payloads) →
    OpensToLife fifo life (migrated.epoch + 1) (m.content journal') (m.content spare') bytes

-- these bytes open, as a pair of version 1, to the content that a life leaves, and the dead-letter file to its lines
pub record OpensToLifeOfVersion1 (fifo : Bool) (life : List Stage) (epoch : ℕ) (one other bytes : List ℕ) : Type 0 where
  pub is_life : IsLife fifo life
  pub version : is_version_2 one other ≡ false
  pub content_is : pair_opened (header_of 1) one other ≡ Holding epoch (content life)
  pub lines_are : OpensTo (header_of 1) (dead_lines life) bytes

-- whatever a crash leaves while such a pair is written as one of version 2 opens to the same life: as the pair that it was,
-- or as one of version 2 with the next epoch
abbrev pub IsMigratingLife : {D : Type 0} → DiskMeaning D → Bool → List Stage → ℕ → (journal spare journal' spare' : D) → (one other bytes : List ℕ) → Type 0
IsMigratingLife m fifo life epoch journal spare journal' spare' one other bytes =
    IsMigrating m journal spare journal' spare' → AreHonest m journal spare → AreSettled m journal spare →
    OpensToLifeOfVersion1 fifo life epoch (m.content journal) (m.content spare) bytes →
    m.since journal' (m.moment journal) one → m.since spare' (m.moment spare) other →
    OpensToLifeOfVersion1 fifo life epoch one other bytes ⊎ OpensToLife fifo life (epoch + 1) one other bytes

-- whatever a crash leaves of disks that were only read, because files were refused or no run began, opens to the same life
abbrev pub IsSameLife : {D : Type 0} → DiskMeaning D → Bool → List Stage → ℕ → (journal spare failures journal' spare' failures' : D) → (one other bytes : List ℕ) → Type 0
IsSameLife m fifo life epoch journal spare failures journal' spare' failures' one other bytes =
    AreUnwritten m journal spare failures journal' spare' failures' →
    AreHonest m journal spare → AreSettled m journal spare → m.honest failures ≡ true → Only (m.content failures) (m.image failures) →
    OpensToLife fifo life epoch (m.content journal) (m.content spare) (m.content failures) →
    m.since journal' (m.moment journal) one → m.since spare' (m.moment spare) other → m.since failures' (m.moment failures) bytes →
    OpensToLife fifo life epoch one other bytes

-- What holds over a life for a further run or redrive. A recorded deletion stays, and at most one payload says it of a
-- message. The content says what it said before, and exactly what the journal kept of this stage. A message whose deletion
-- was recorded when the stage began has in it the id that was recorded. No call of the stage holds such a message, or one
-- that the stage deleted before the call; and the calls of all stages together keep the order of each message group. The
-- next run or redrive, whenever it comes, finds deleted what was deleted here.
pub record KeepsLaws (fifo : Bool) (stage : Stage) (r : Run) (life : List Stage) : Type 0 where
  pub deletions_stay : DeletionStays (stage ∷ []) life
  pub each_deleted_once : EachDeletedOnce (stage ∷ life)
  pub deletions_are_recorded : DeletionsAreRecorded (content life) r.setting r.recorded
  pub ids_are_kept : IdsAreKept r life
  pub none_is_called_again : NoneIsCalledAgain r life
  pub groups_in_order : fifo ≡ true → GroupsInOrder r life
  pub goes_on : (later : Stage) (next : Run) (between : List Stage) → IsLife fifo (later ∷ between ++ stage ∷ life) → AreRewritten between → run_of later ≡ Some next → GoesOnFrom r next

-- laws of one run

abbrev pub IsLeftByStage : {D F : Type 0} → DiskMeaning D → Outside F → (List ℕ → List ℕ) → Config → (calls visibility : ℕ) → FilesState D → List Message → QueueSetting → List Entry → Option Trouble → (hand : List Entry) → Devices D F → (one other bytes : List ℕ) → Type 0
IsLeftByStage m callers line config calls visibility f messages s h trouble hand new one other bytes =
    HasRunOver m callers line config calls visibility f messages s h trouble hand new → MayBeLeft m f new.journal new.spare new.failures one other bytes →
    LeftBy callers.gave (is_fifo config.kind) f s h one other × OpensTo (header_of 1) f.dest.payloads bytes

abbrev pub IsWholeStage : {D F : Type 0} → DiskMeaning D → Outside F → (List ℕ → List ℕ) → Config → (calls visibility : ℕ) → FilesState D → List Message → QueueSetting → List Entry → Option Trouble → (hand : List Entry) → Devices D F → Type 0
IsWholeStage m callers line config calls visibility f messages s h trouble hand new =
    HasRunOver m callers line config calls visibility f messages s h trouble hand new → (trouble ≡ Some Disk → ⊥) → IsLeftWhole m (is_fifo config.kind) f s h new

-- and of one that found what a life leaves

abbrev pub GoesOnWithStage : {D F : Type 0} → DiskMeaning D → Outside F → (List ℕ → List ℕ) → Config → (calls visibility : ℕ) → FilesState D → List Message → QueueSetting → List Entry → Option Trouble → (hand : List Entry) → Devices D F → (one other bytes : List ℕ) → List Stage → Type 0
GoesOnWithStage m callers line config calls visibility f messages s h trouble hand new one other bytes life =
    HasRunOver m callers line config calls visibility f messages s h trouble hand new → MayBeLeft m f new.journal new.spare new.failures one other bytes →
    HasFoundLife (is_fifo config.kind) f life → LeavesLife callers.gave (is_fifo config.kind) life s h f.pair.epoch one other bytes

abbrev pub KeepsLawsInLife : Bool → QueueSetting → (h recorded : List Entry) → List Stage → Type 0
KeepsLawsInLife fifo s h recorded life =
    IsLife fifo life → IsRunOver fifo (stage_of s h recorded) (content life) →
    KeepsLaws fifo (Ran (stage_of s h recorded)) (stage_of s h recorded) life × EachIsEarned (stage_of s h recorded) life
