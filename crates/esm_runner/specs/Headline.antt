-- The headline: what a run of a stream's mapping leaves. This product's own.
use Rattle.std.specs.Prelude.{◌≡◌, ◌⊎◌, ◌<◌, ◌∷◌, ◌++◌, ℕ, Bool, true, List, [], length, map, take_while, slice_index_or, Option, Some, None, is_some, option_map, reverse, IfSome, IsSome}
use Rattle.esm_io.specs.Images.{Only}
use Rattle.esm_io.specs.Told.{Grows}
use Rattle.esm_io.specs.Meanings.{DiskMeaning}
use Rattle.esm_journal.specs.File.{header_of}
use Rattle.esm_journal.specs.Pair.{PairOpensTo, first_disk, second_disk}
use Rattle.esm_journal.specs.State.{Keeps, OpensTo, StillOpens}
use Rattle.esm_model.specs.declared.config.Config.{Config}
use Rattle.esm_model.specs.Records.{Record}
use Rattle.esm_model.specs.declared.lane.LaneId.{LaneId}
use Rattle.esm_model.specs.declared.entry.Entry.{Entry}
use Rattle.esm_model.specs.declared.called.Called.{Called}
use Rattle.esm_model.specs.declared.book.Trouble.{Trouble}
use Rattle.esm_model.specs.declared.book.Trouble.TheVariants.{Disk, Dest}
use Rattle.esm_model.specs.Setting.{Setting, over, records_of}
use Rattle.esm_model.specs.Books.{entry_line}
use Rattle.esm_model.specs.Entries.{batcher, moment_of}
use Rattle.esm_model.specs.Fates.{fate, came_places}
use Rattle.esm_model.specs.Checkpoint.{checkpoint}
use Rattle.esm_model.specs.Calls.{calls, last_event}
use Rattle.esm_model.specs.Earned.{FateIsEarned, LastEnd}
use Rattle.esm_model.specs.Laws.{OrderPerKey, OneFate, NoRepeat, EveryRecordCounted, CheckpointIsLongest}
use Rattle.esm_ingest.specs.Coming.{of_shard}
use Rattle.esm_ledger.specs.Ledger.{LegalOver, opened_with}
use Rattle.esm_stream_core.specs.CoreView.{MayFollowFront, lines_of}
use Rattle.esm_journal_record.specs.declared.said.Said.{Said}
use Rattle.esm_journal_record.specs.EntryPayload.{AllMayBeSaid, entry_payload, entry_said}
use Rattle.esm_journal_record.specs.Payload.{IsSaid}
use Rattle.esm_record_bounds.specs.Bounds.{AreCountedInFourBytes}
use Rattle.esm_outcome.specs.Ending.{SettledOver}
use Rattle.esm_journal_state.specs.declared.kept.KeptFate.{KeptFate}
use Rattle.esm_journal_state.specs.Meaning.{fate_said, history}
use Rattle.esm_journal_state.specs.SaidLists.{SaidLists}
use Rattle.esm_folder.specs.Upkeep.{AreHonest, AreSettled, PairHolds}
use Rattle.esm_stream_book.specs.Books.{payloads_in}
use Rattle.esm_runner.specs.Given.{AreGiven, IsGiven}
use Rattle.esm_workers.specs.Working.{Outside}
use Rattle.esm_runner.specs.Stopping.{HasLogged}
use Rattle.esm_runner.specs.Files.{FilesState}

-- what contracts see of the clock, the callers and the disks, and what is delivered for a failure line
pub record Telling (D F : Type 0) : Type 1 where
  pub callers : Outside F
  pub disk : DiskMeaning D
  pub line : List ℕ → List ℕ

abbrev pub telling : {D F : Type 0} → Outside F → DiskMeaning D → (List ℕ → List ℕ) → Telling D F
telling callers disk line = record { callers = callers; disk = disk; line = line }

-- the devices of a run before or after it: its disks, and its callers in order
pub record Devices (D F : Type 0) : Type 0 where
  pub journal : D
  pub spare : D
  pub failures : D
  pub callers : List F

-- the setting of a run: opened with the configuration, the calls allowed and what the journal said; its lists of records are
-- those of the input, shard by shard, as far as they arrived
pub record IsSettingOf (config : Config) (calls : ℕ) (said : SaidLists) (records : List Record) (s : Setting) : Type 0 where
  pub opened : s ≡ over (opened_with config calls said) s.streams
  pub came : (n : ℕ) → (rest : List Record) × (of_shard n records ≡ records_of s n ++ rest)

-- caller k's log, if it is visible, grew by the calls of batcher k
abbrev pub CallsMade : {D F : Type 0} → Telling D F → Setting → List Entry → (old new : List F) → Type 0
CallsMade {D} {F} t s h old new = (k : ℕ) (d : F) → k < length old → Grows (t.callers.log (slice_index_or old k d)) (t.callers.log (slice_index_or new k d)) (calls s t.callers.sends h k)

-- or perhaps by one further call, of a lane that still runs
abbrev pub CallsMadeOrOneMore : {D F : Type 0} → Telling D F → Setting → List Entry → (old new : List F) → Type 0
CallsMadeOrOneMore {D} {F} t s h old new = (k : ℕ) (d : F) → k < length old → HasLogged t.callers.sends s h k (t.callers.log (slice_index_or old k d)) (t.callers.log (slice_index_or new k d))

-- the journal's content is the old one followed by the payloads of the history
abbrev pub JournalKept : {D F : Type 0} → Telling D F → FilesState D → Setting → List Entry → Devices D F → Type 0
JournalKept t f s h new = AreHonest t.disk f.journal f.spare → PairHolds t.disk f.pair.epoch (f.pair.payloads ++ payloads_in s (reverse h)) new.journal new.spare

-- a crash now may leave this image of the disk, and so may a crash since the disk was opened
abbrev pub IsLeftNow : {D : Type 0} → DiskMeaning D → (opened now : D) → List ℕ → Type 0
IsLeftNow m opened now image = m.image now image × m.since now (m.moment opened) image

-- What a crash now leaves of the pair opens to the payloads found, followed by `kept` or by `more`. The content of a disk is
-- itself one of the images that a crash now may leave.
abbrev pub PairStopped : {D : Type 0} → DiskMeaning D → FilesState D → (kept more : List (List ℕ)) → (journal spare : D) → Type 0
PairStopped m f kept more journal spare =
    AreHonest m f.journal f.spare → (one other : List ℕ) → IsLeftNow m (first_disk f.pair) journal one → IsLeftNow m (second_disk f.pair) spare other →
    PairOpensTo (header_of 2) f.pair.epoch (f.pair.payloads ++ kept) one other ⊎ PairOpensTo (header_of 2) f.pair.epoch (f.pair.payloads ++ more) one other

-- after a fault of the journal's disk: the payloads of the history, and perhaps that of the entry in hand
abbrev pub JournalStopped : {D F : Type 0} → Telling D F → FilesState D → Setting → List Entry → (hand : List Entry) → Devices D F → Type 0
JournalStopped t f s h hand new = PairStopped t.disk f (payloads_in s (reverse h)) (payloads_in s (reverse h ++ hand)) new.journal new.spare

-- the failure file's lines are the old ones followed by these
abbrev pub LinesKept : {D F : Type 0} → Telling D F → FilesState D → List (List ℕ) → Devices D F → Type 0
LinesKept t f lines new = t.disk.honest f.failures ≡ true → Keeps t.disk (header_of 1) (f.dest.payloads ++ lines) new.failures

-- the failure file failed while a line was added: a crash leaves these lines, or these and that one
abbrev pub LinesStopped : {D F : Type 0} → Telling D F → FilesState D → List (List ℕ) → Devices D F → Type 0
LinesStopped t f lines new = t.disk.honest f.failures ≡ true → StillOpens t.disk (header_of 1) (f.dest.payloads ++ lines) new.failures

-- the lines of the history as they are delivered; after a fault of the journal also that of the entry in hand, whose payload
-- was being written, if it has one
abbrev pub FailureLinesKept : {D F : Type 0} → Telling D F → FilesState D → Option Trouble → List Entry → (hand : List Entry) → Devices D F → Type 0
FailureLinesKept t f (Some Dest) h hand new = LinesStopped t f (map t.line (lines_of (reverse h))) new
FailureLinesKept t f _ h hand new = LinesKept t f (map t.line (lines_of (reverse h ++ hand))) new

-- a file opens to these lines, followed by the lines of a prefix of these entries, as they are delivered
pub record OpensToLinesOf (line : List ℕ → List ℕ) (before : List (List ℕ)) (es : List Entry) (bytes : List ℕ) : Type 0 where
  pub front : List Entry
  pub rest : List Entry
  pub split : front ++ rest ≡ es
  pub opens : OpensTo (header_of 1) (before ++ map line (lines_of front)) bytes

-- the entries whose payloads may be in the journal although they are not in the history: exactly one if a disk of it failed,
-- and none otherwise
abbrev pub IsInHand : Option Trouble → List Entry → Type 0
IsInHand (Some Disk) hand = (e : Entry) × (hand ≡ e ∷ [])
IsInHand _ hand = hand ≡ []

-- the entry in hand has a payload, which was being written
abbrev pub HandHasPayload : Setting → (hand : List Entry) → Type 0
HandHasPayload s hand = (e : Entry) → hand ≡ e ∷ [] → IsSome (entry_payload s e)

-- the entry in hand may follow the history, or a prefix of it that only ends of calls and of the input follow, over every
-- list of records that extends those that arrived
abbrev pub HandFollows : Setting → List Entry → (hand : List Entry) → Type 0
HandFollows s h hand = (e : Entry) → hand ≡ e ∷ [] → MayFollowFront s h e

-- its moment is one that the clock gave, or that of the last entry of that prefix if that is later, and at most `MAX_MOMENT`
abbrev pub HandIsGiven : (ℕ → Bool) → (s : Setting) (h hand : List Entry) → HandFollows s h hand → Type 0
HandIsGiven gave s h hand follows = (e : Entry) (some : hand ≡ e ∷ []) → IsGiven gave (follows e some).before (moment_of e)

-- the entries whose line was being delivered: exactly one, which has a line, if the failure file failed, and none otherwise
abbrev pub IsTried : Option Trouble → List Entry → Type 0
IsTried (Some Dest) tried = (e : Entry) × (line : List ℕ) × (tried ≡ e ∷ []) × (entry_line e ≡ Some line)
IsTried _ tried = tried ≡ []

-- Each image of the failure file since the run's start opens to the lines found, followed by those of a prefix of the
-- history, in their order. If a device failed, the line of the entry in hand, or that of the tried entry, may follow all of
-- them. The same holds of each image since the file was opened, whatever a crash before that might have left of it. Each
-- image that a crash now leaves has all of these lines, except that of the tried entry, which it may have. The tried entry
-- may follow the history, or a prefix of it that only ends of calls and of the input follow, and its moment is one that the
-- clock gave.
pub record FailureLinesCrashKept {D F : Type 0} (t : Telling D F) (f : FilesState D) (s : Setting) (h : List Entry) (trouble : Option Trouble) (hand : List Entry) (new : Devices D F) : Type 0 where
  pub tried : List Entry
  pub is_tried : IsTried trouble tried
  pub tried_follows : HandFollows s h tried
  pub tried_given : HandIsGiven t.callers.gave s h tried tried_follows
  pub since : t.disk.honest f.failures ≡ true → Only (t.disk.content f.failures) (t.disk.image f.failures) → (bytes : List ℕ) → t.disk.since new.failures (t.disk.moment f.failures) bytes →
      OpensToLinesOf t.line f.dest.payloads (reverse h ++ hand ++ tried) bytes
  pub since_opening : t.disk.honest f.failures ≡ true → (bytes : List ℕ) → t.disk.since new.failures (t.disk.moment f.dest.disk) bytes →
      OpensToLinesOf t.line f.dest.payloads ((reverse h ++ hand) ++ tried) bytes
  pub now : t.disk.honest f.failures ≡ true → (bytes : List ℕ) → t.disk.image new.failures bytes →
      OpensToLinesOf t.line (f.dest.payloads ++ map t.line (lines_of (reverse h ++ hand))) tried bytes

-- two disks open to the payloads found, followed by those of a prefix of these entries
pub record OpensToFrontOf (s : Setting) (epoch : ℕ) (before : List (List ℕ)) (es : List Entry) (one other : List ℕ) : Type 0 where
  pub front : List Entry
  pub rest : List Entry
  pub split : front ++ rest ≡ es
  pub opens : PairOpensTo (header_of 2) epoch (before ++ payloads_in s front) one other

-- Every image of the pair since the run's start opens to the content found, followed by a prefix of the payloads of the
-- history in their order; if a disk failed, one further whole payload may follow all of them.
abbrev pub CrashKept : {D F : Type 0} → Telling D F → FilesState D → Setting → List Entry → (hand : List Entry) → Devices D F → Type 0
CrashKept t f s h hand new =
    AreHonest t.disk f.journal f.spare → AreSettled t.disk f.journal f.spare → (one other : List ℕ) →
    t.disk.since new.journal (t.disk.moment f.journal) one → t.disk.since new.spare (t.disk.moment f.spare) other →
    OpensToFrontOf s f.pair.epoch f.pair.payloads (reverse h ++ hand) one other

-- So does each image since the pair was opened, whatever a crash before that might have left of its disks: opening synced
-- them.
abbrev pub CrashKeptSinceOpening : {D F : Type 0} → Telling D F → FilesState D → Setting → List Entry → (hand : List Entry) → Devices D F → Type 0
CrashKeptSinceOpening t f s h hand new =
    AreHonest t.disk f.journal f.spare → (one other : List ℕ) →
    t.disk.since new.journal (t.disk.moment (first_disk f.pair)) one → t.disk.since new.spare (t.disk.moment (second_disk f.pair)) other →
    OpensToFrontOf s f.pair.epoch f.pair.payloads (reverse h ++ hand) one other

-- what the journal's content says after the history: the old payloads followed by those of the history, the newest first
abbrev pub said_after : {D : Type 0} → FilesState D → Setting → List Entry → List Said
said_after f s h = history (reverse (f.pair.payloads ++ payloads_in s (reverse h)))

-- by the journal's content each place has the fate that it has after the history, and no other place has one
abbrev pub FatesAreRecorded : {D : Type 0} → FilesState D → Setting → List Entry → Type 0
FatesAreRecorded f s h = (n i : ℕ) → option_map (λ (k : KeptFate). k.fate) (fate_said (said_after f s h) n i) ≡ fate s h n i

-- the checkpoint of a shard is the length of the longest prefix of the places that arrived in which each has a fate by the
-- journal's content
abbrev pub CheckpointIsRecorded : {D : Type 0} → FilesState D → Setting → List Entry → Type 0
CheckpointIsRecorded f s h = (n : ℕ) → checkpoint s h n ≡ length (take_while (λ i. is_some (fate_said (said_after f s h) n i)) (came_places h n))

-- without trouble nothing is owed: each open record passes the filter, and no lane is owed anything
abbrev pub SettledUnless : Option Trouble → Setting → List Entry → Type 0
SettledUnless trouble s h = trouble ≡ None → SettledOver s h

-- no shard has more records than 32 bits count, and the journal's format can say what it keeps of each entry of the history
-- and of the one in hand
pub record CanBeSaid (s : Setting) (h : List Entry) (hand : List Entry) : Type 0 where
  pub counted : AreCountedInFourBytes h
  pub entries : AllMayBeSaid s h
  pub in_hand : (e : Entry) → hand ≡ e ∷ [] → IfSome (entry_said s e) IsSaid

-- the answer of each call that ended is the reply, next to the call's event, in the calls of its lane's batcher, by which
-- the log of that caller grew
abbrev pub AnswersAreLogged : {D F : Type 0} → Telling D F → Setting → List Entry → Type 0
AnswersAreLogged t s h =
    (later before : List Entry) (lane : LaneId) → h ≡ later ++ before → (end : LastEnd s before lane)
    → (earlier rest : List Called)
    × (calls s t.callers.sends h (batcher s end.earlier lane) ≡ earlier ++ record { name = s.config.function; event = t.callers.sends (last_event s end.earlier lane); reply = end.reply } ∷ rest)

-- What holds of a history (newest entry first) and of the devices after it, whatever ended the run.
pub record Headline {D F : Type 0} (t : Telling D F) (f : FilesState D) (s : Setting) (h : List Entry) (trouble : Option Trouble) (hand : List Entry) (new : Devices D F) : Type 0 where
  -- each entry may follow those before it, over every list of records that extends those that arrived
  pub legal_trace : LegalOver s h
  -- if no device failed and no record was found changed, nothing is owed
  pub settled : SettledUnless trouble s h
  -- the journal's format can say what it keeps of each entry and of the one in hand
  pub can_be_said : CanBeSaid s h hand
  -- each moment is one that the clock gave, at most `MAX_MOMENT`, or that of the entry before if that is later
  pub moments : AreGiven t.callers.gave h
  -- the journal's content is the old one followed by the payloads of the history
  pub journal_kept : (trouble ≡ Some Disk → ⊥) → JournalKept t f s h new
  -- if a disk of it failed, one further whole payload may follow, that of the entry in hand
  pub journal_stopped : trouble ≡ Some Disk → JournalStopped t f s h hand new
  -- the failure file's lines are the old ones followed by those of the history, as they are delivered; if a disk failed, one
  -- further line may follow
  pub failure_lines_kept : FailureLinesKept t f trouble h hand new
  -- what a crash leaves of it since the run's start: the old lines followed by a prefix of those
  pub failure_lines_crash : FailureLinesCrashKept t f s h trouble hand new
  -- exactly one entry is in hand if a disk of the journal failed, and none otherwise; it has a payload and may follow, and
  -- its moment is one that the clock gave
  pub in_hand : IsInHand trouble hand
  pub hand_has_payload : HandHasPayload s hand
  pub hand_follows : HandFollows s h hand
  pub hand_given : HandIsGiven t.callers.gave s h hand hand_follows
  -- what a crash leaves since the run's start: the old content followed by a prefix of the payloads of the history
  pub crash : CrashKept t f s h hand new
  -- and since its pair was opened, whatever a crash before that might have left of the disks
  pub crash_since_opening : CrashKeptSinceOpening t f s h hand new
  -- a record that has a fate, found or given, is given no other
  pub one_fate : OneFate s h
  -- each fate is earned: by the answer to a call, by the filter, by the record's age at that moment, or by more failed tries
  -- than are allowed
  pub fate_is_earned : FateIsEarned s h
  -- and the answer that earns it is in the log of its lane's caller
  pub answers_are_logged : AnswersAreLogged t s h
  -- each fate is recorded: the journal's content has exactly these
  pub fates_are_recorded : FatesAreRecorded f s h
  -- a shard's checkpoint is the longest prefix of the records that arrived in which each has a fate
  pub checkpoint_is_longest : (n : ℕ) → CheckpointIsLongest s h n
  -- and the longest in which each has one by the journal's content
  pub checkpoint_is_recorded : CheckpointIsRecorded f s h
  -- before a call begins, every earlier record of a shard that has the key of a record of the batch, and is outside the
  -- batch, has its fate
  pub order_per_key : OrderPerKey s h
  -- no call holds a record that has a found fate or was given one before that call
  pub no_repeat : NoRepeat s h
  -- the records of a shard that arrived are the succeeded, filtered, expired, exhausted and open ones together, each counted
  -- once
  pub every_record_counted : EveryRecordCounted s h
