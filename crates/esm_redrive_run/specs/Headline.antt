-- What a run of a redrive leaves of its history and of its disks. This product's own.
use Rattle.std.specs.Prelude.{◌≡◌, ◌++◌, ℕ, Bool, true, false, List, [], ◌∷◌, length, Option, Some, reverse}
use Rattle.std.specs.List.{All, filter_map}
use Rattle.esm_io.specs.Images.{Only}
use Rattle.esm_io.specs.Meanings.{DiskMeaning}
use Rattle.esm_journal.specs.File.{header_of}
use Rattle.esm_journal.specs.Pair.{PairOpensTo, first_disk, second_disk}
use Rattle.esm_journal.specs.State.{Keeps, OpensTo}
use Rattle.esm_model.specs.declared.book.Trouble.{Trouble}
use Rattle.esm_model.specs.declared.book.Trouble.TheVariants.{Disk, Dest}
use Rattle.esm_model.specs.declared.config.Config.{Config}
use Rattle.esm_model.specs.declared.called.Called.{Called}
use Rattle.esm_model.specs.declared.entry.Entry.{Entry}
use Rattle.esm_model.specs.declared.entry.Entry.TheVariants.{Ended}
use Rattle.esm_model.specs.declared.entry.Reply.{Reply}
use Rattle.esm_model.specs.declared.lane.LaneId.{LaneId}
use Rattle.esm_model.specs.declared.item.Message.{Message}
use Rattle.esm_model.specs.Books.{entry_line}
use Rattle.esm_model.specs.Entries.{CallsFollowShut, moment_of}
use Rattle.esm_folder.specs.Upkeep.{AreHonest, AreSettled, PairHolds}
use Rattle.esm_queue_model.specs.QueueSetting.{ExtendsMessages, is_fifo}
use Rattle.esm_queue_model.specs.QueueEntries.{queue_count, is_deleted}
use Rattle.esm_queue_model.specs.QueueBatch.{last_queue_event}
use Rattle.esm_queue_model.specs.HistoryLaws.{DeletedOnce, OrderPerGroup}
use Rattle.esm_queue_book.specs.Books.{payloads_in}
use Rattle.esm_redrive.specs.DeadFile.{AreLetters, GoesOnWith, dead_ids}
use Rattle.esm_redrive.specs.ReadsBack.{HasLetter}
use Rattle.esm_redrive_core.specs.RedriveView.{new_setting}
use Rattle.esm_redrive_life.specs.Content.{DeletionsAreRecorded, HasValidMessages}
use Rattle.esm_redrive_model.specs.Due.{moved_ids}
use Rattle.esm_redrive_model.specs.RedriveLines.{FoundMovesAreLined, IsLineOfDue, LeavesMovesLined, MovedWhereLined, is_lined}
use Rattle.esm_redrive_model.specs.RedriveSetting.{RedriveSetting, redrive_over}
use Rattle.esm_redrive_model.specs.RedriveReport.{redrive_calls}
use Rattle.esm_redrive_model.specs.RedriveStep.{LegalRedrive, SettledRedrive}
use Rattle.esm_redrive_model.specs.RedriveLaws.{EachHasOneEnd, HaveDifferentIds, MovedOnce, MovedAfterReceives, ReceivedAtMost, CallsAreFew}
use Rattle.esm_redrive_book.specs.Keeping.{FollowsFront}
use Rattle.esm_runner.specs.Files.{FilesState}
use Rattle.esm_runner.specs.Given.{AreGiven, IsGiven}
use Rattle.esm_redrive_run.specs.Earned.{DeletedAllEarned, DeletedOnlyEarned}
use Rattle.esm_runner.specs.Headline.{IsInHand, PairStopped}
use Rattle.esm_runner.specs.QueueHeadline.{HandHasPayload}

-- the disks as a run left them: the journal with its spare, and the dead-letter file
pub record Disks (D : Type 0) : Type 0 where
  pub journal : D
  pub spare : D
  pub dead : D

-- the words of a redrive: the configuration, the calls allowed, the visibility timeout in milliseconds, and how often a
-- message may be received
pub record Words : Type 0 where
  pub config : Config
  pub calls : ℕ
  pub visibility : ℕ
  pub max_receives : ℕ

-- the setting of a run before any message arrives: the deletions that the journal recorded, and the ids of the lines that
-- were in the dead-letter file
abbrev pub setting_before : {D : Type 0} → Words → FilesState D → RedriveSetting
setting_before w f = new_setting w.config w.calls w.visibility f.said.deletions w.max_receives (dead_ids (is_fifo w.config.kind) f.dest.payloads)

-- the setting of a run; its messages are those of the input that arrived, in order, and each payload that was in the
-- dead-letter file is a line of the queue's kind
pub record IsSettingOf {D : Type 0} (w : Words) (f : FilesState D) (messages : List Message) (s : RedriveSetting) : Type 0 where
  pub opened : s ≡ redrive_over (setting_before w f) s.queue.messages
  pub came : (rest : List Message) × (messages ≡ s.queue.messages ++ rest)
  pub letters : AreLetters (is_fifo w.config.kind) f.dest.payloads (length f.dest.payloads)

-- legal over every list that extends the messages that arrived
abbrev pub LegalOver : RedriveSetting → List Entry → Type 0
LegalOver s h = (messages : List Message) → ExtendsMessages s.queue.messages messages → LegalRedrive (redrive_over s messages) h

-- the dead letters among the lines of entries
abbrev pub dead_letters : List Entry → List (List ℕ)
dead_letters es = filter_map entry_line es

-- the journal

-- its content is the old one followed by the payloads of the history
abbrev pub JournalKept : {D : Type 0} → DiskMeaning D → FilesState D → RedriveSetting → List Entry → Disks D → Type 0
JournalKept m f s h new = AreHonest m f.journal f.spare → PairHolds m f.pair.epoch (f.pair.payloads ++ payloads_in s.queue.messages (reverse h)) new.journal new.spare

-- if a disk of it failed: what a crash now leaves opens to these, or to these and the payload of the entry in hand
abbrev pub JournalStopped : {D : Type 0} → DiskMeaning D → FilesState D → RedriveSetting → List Entry → (hand : List Entry) → Disks D → Type 0
JournalStopped m f s h hand new = PairStopped m f (payloads_in s.queue.messages (reverse h)) (payloads_in s.queue.messages (reverse h ++ hand)) new.journal new.spare

-- two disks open to the payloads found, and then to those of a prefix of these entries
pub record OpensToFrontOf (messages : List Message) (epoch : ℕ) (before : List (List ℕ)) (es : List Entry) (one other : List ℕ) : Type 0 where
  pub front : List Entry
  pub rest : List Entry
  pub split : front ++ rest ≡ es
  pub opens : PairOpensTo (header_of 2) epoch (before ++ payloads_in messages front) one other

-- Every image of the pair since the run's start opens to the content found, followed by the payloads of a prefix of the
-- history, in order. If a disk failed, the payload of the entry in hand may follow all of them.
abbrev pub CrashKept : {D : Type 0} → DiskMeaning D → FilesState D → RedriveSetting → List Entry → (hand : List Entry) → Disks D → Type 0
CrashKept m f s h hand new =
    AreHonest m f.journal f.spare → AreSettled m f.journal f.spare → (one other : List ℕ) →
    m.since new.journal (m.moment f.journal) one → m.since new.spare (m.moment f.spare) other →
    OpensToFrontOf s.queue.messages f.pair.epoch f.pair.payloads (reverse h ++ hand) one other

-- The same holds of every image since the pair was opened, whatever a crash might have left of its disks before: opening
-- synced them.
abbrev pub CrashKeptSinceOpening : {D : Type 0} → DiskMeaning D → FilesState D → RedriveSetting → List Entry → (hand : List Entry) → Disks D → Type 0
CrashKeptSinceOpening m f s h hand new =
    AreHonest m f.journal f.spare → (one other : List ℕ) →
    m.since new.journal (m.moment (first_disk f.pair)) one → m.since new.spare (m.moment (second_disk f.pair)) other →
    OpensToFrontOf s.queue.messages f.pair.epoch f.pair.payloads (reverse h ++ hand) one other

-- the dead-letter file

-- a file opens to these lines, and then to those of a prefix of these entries
pub record OpensToLettersOf (before : List (List ℕ)) (es : List Entry) (bytes : List ℕ) : Type 0 where
  pub front : List Entry
  pub rest : List Entry
  pub split : front ++ rest ≡ es
  pub opens : OpensTo (header_of 1) (before ++ dead_letters front) bytes

-- its lines are the old ones followed by these, in each image of it
abbrev pub LinesKept : {D : Type 0} → DiskMeaning D → FilesState D → List (List ℕ) → Disks D → Type 0
LinesKept m f lines new = m.honest f.failures ≡ true → Keeps m (header_of 1) (f.dest.payloads ++ lines) new.dead

-- the file failed while the line of the tried entry was added: each image has these lines, or these and that one
abbrev pub LinesStopped : {D : Type 0} → DiskMeaning D → FilesState D → List (List ℕ) → (tried : List Entry) → Disks D → Type 0
LinesStopped m f lines tried new = m.honest f.failures ≡ true → (bytes : List ℕ) → m.image new.dead bytes → OpensToLettersOf (f.dest.payloads ++ lines) tried bytes

-- The lines of the history. After a fault of the journal also that of the entry in hand, since a line is written before
-- its deletion; after a fault of the file perhaps that of the tried entry.
abbrev pub DeadLettersKept : {D : Type 0} → DiskMeaning D → FilesState D → Option Trouble → List Entry → (hand tried : List Entry) → Disks D → Type 0
DeadLettersKept m f (Some Dest) h hand tried new = LinesStopped m f (dead_letters (reverse h)) tried new
DeadLettersKept m f _ h hand tried new = LinesKept m f (dead_letters (reverse h ++ hand)) new

-- Every image of the file since the run's start opens to the lines found, followed by those of a prefix of the history,
-- in order. If a device failed, the line of the entry in hand or of the tried one may follow all of them.
abbrev pub LettersCrashKept : {D : Type 0} → DiskMeaning D → FilesState D → List Entry → (hand tried : List Entry) → Disks D → Type 0
LettersCrashKept m f h hand tried new =
    m.honest f.failures ≡ true → Only (m.content f.failures) (m.image f.failures) → (bytes : List ℕ) → m.since new.dead (m.moment f.failures) bytes →
    OpensToLettersOf f.dest.payloads (reverse h ++ hand ++ tried) bytes

-- the same holds of every image since the file was opened, whatever a crash might have left of its disk before
abbrev pub LettersCrashKeptSinceOpening : {D : Type 0} → DiskMeaning D → FilesState D → List Entry → (hand tried : List Entry) → Disks D → Type 0
LettersCrashKeptSinceOpening m f h hand tried new =
    m.honest f.failures ≡ true → (bytes : List ℕ) → m.since new.dead (m.moment f.dest.disk) bytes → OpensToLettersOf f.dest.payloads ((reverse h ++ hand) ++ tried) bytes

-- two disks open to the payloads found, and then to those of a prefix of these entries; and a file opens to the lines
-- found, those of the same prefix, and perhaps more
pub record OpensWithLetters (messages : List Message) (epoch : ℕ) (before lines : List (List ℕ)) (es : List Entry) (one other bytes : List ℕ) : Type 0 where
  pub front : List Entry
  pub rest : List Entry
  pub split : front ++ rest ≡ es
  pub opens : PairOpensTo (header_of 2) epoch (before ++ payloads_in messages front) one other
  pub more : List (List ℕ)
  pub lines_open : OpensTo (header_of 1) (lines ++ dead_letters front ++ more) bytes

-- A line is written before its deletion: each image that is left of the dead-letter file has the line of each deletion
-- that any image of the journal since the run's start has.
abbrev pub LinesStandFirst : {D : Type 0} → DiskMeaning D → FilesState D → RedriveSetting → List Entry → (hand : List Entry) → Disks D → Type 0
LinesStandFirst m f s h hand new =
    AreHonest m f.journal f.spare → AreSettled m f.journal f.spare → m.honest f.failures ≡ true → (one other bytes : List ℕ) →
    m.since new.journal (m.moment f.journal) one → m.since new.spare (m.moment f.spare) other → m.image new.dead bytes →
    OpensWithLetters s.queue.messages f.pair.epoch f.pair.payloads f.dest.payloads (reverse h ++ hand) one other bytes

-- the same of any image since the pair was opened
abbrev pub LinesStandFirstSinceOpening : {D : Type 0} → DiskMeaning D → FilesState D → RedriveSetting → List Entry → (hand : List Entry) → Disks D → Type 0
LinesStandFirstSinceOpening m f s h hand new =
    AreHonest m f.journal f.spare → m.honest f.failures ≡ true → (one other bytes : List ℕ) →
    m.since new.journal (m.moment (first_disk f.pair)) one → m.since new.spare (m.moment (second_disk f.pair)) other → m.image new.dead bytes →
    OpensWithLetters s.queue.messages f.pair.epoch f.pair.payloads f.dest.payloads (reverse h ++ hand) one other bytes

-- the entries whose line was being delivered when the dead-letter file failed: exactly one, which has a line, and none
-- otherwise
abbrev pub IsTried : Option Trouble → List Entry → Type 0
IsTried (Some Dest) tried = (e : Entry) × (line : List ℕ) × (tried ≡ e ∷ []) × (entry_line e ≡ Some line)
IsTried _ tried = tried ≡ []

-- an entry in hand, or a tried one, follows a prefix of the history, and its line is that of the first message that was
-- due there; after the whole history that message waits, and its id is in no line
pub record IsTriedMove (s : RedriveSetting) (h : List Entry) (e : Entry) (line : List ℕ) : Type 0 where
  pub front : FollowsFront s h e
  pub due : IsLineOfDue s front.before e line
  pub waits : is_deleted s.queue h due.place ≡ false
  pub fresh : is_lined s h due.message.id ≡ false

-- each reply is the one that is logged with its event among the calls, whatever the caller sends for an event
abbrev pub RepliesAreLogged : RedriveSetting → List Entry → Type 0
RepliesAreLogged s h =
    (sends : List ℕ → List ℕ) (later before : List Entry) (lane : LaneId) (reply : Reply) (m : ℕ) → h ≡ later ++ Ended lane reply m ∷ before
    → (earlier rest : List Called)
    × (redrive_calls s sends h ≡ earlier ++ record { name = s.queue.config.function; event = sends (last_queue_event s.queue before lane); reply = reply } ∷ rest)

-- What holds of a history, newest entry first, and of the disks after it, whatever ended the run.
pub record Headline {D : Type 0} (m : DiskMeaning D) (gave : ℕ → Bool) (f : FilesState D) (s : RedriveSetting) (h : List Entry) (trouble : Option Trouble) (hand tried : List Entry) (new : Disks D) : Type 0 where
  -- each entry may follow those before it, over every list that extends the messages that arrived
  pub legal_trace : LegalOver s h
  -- the messages of the setting are those that arrived in the history
  pub messages_came : queue_count h ≡ length s.queue.messages
  -- if no device failed, nothing is required: no waiting message is to be recorded or filtered, and no deletion is owed
  pub settled : (trouble ≡ Some Disk → ⊥) → (trouble ≡ Some Dest → ⊥) → SettledRedrive s h
  -- each moment is one that the clock gave, at most the greatest, or that of the entry before it if it is later
  pub moments : AreGiven gave h
  -- each call began after the end of the input
  pub read_first : CallsFollowShut h
  -- the journal's content is the old one followed by the payloads of the trace
  pub journal_kept : (trouble ≡ Some Disk → ⊥) → JournalKept m f s h new
  -- if a disk of it failed, one further whole payload may follow, that of the entry in hand
  pub journal_stopped : trouble ≡ Some Disk → JournalStopped m f s h hand new
  -- there is an entry in hand if and only if a disk of the journal failed; it is then exactly one, which has a payload
  pub in_hand : IsInHand trouble hand
  pub hand_has_payload : HandHasPayload s.queue hand
  -- it may follow a prefix of the history, after which only calls and the input ended
  pub hand_follows : (e : Entry) → hand ≡ e ∷ [] → FollowsFront s h e
  -- its moment is one that the clock gave, or that of the last entry of that prefix if it is later
  pub hand_given : (e : Entry) (some : hand ≡ e ∷ []) → IsGiven gave (hand_follows e some).before (moment_of e)
  -- if it has a line, it moves the first message that was due, which waits and had none
  pub hand_moves : (e : Entry) (line : List ℕ) → hand ≡ e ∷ [] → entry_line e ≡ Some line → IsTriedMove s h e line
  -- what a crash leaves since the run's start: the old content followed by a prefix of the payloads of the trace
  pub crash : CrashKept m f s h hand new
  -- and since the pair was opened, whatever a crash might have left of the disks before
  pub crash_since_opening : CrashKeptSinceOpening m f s h hand new
  -- the dead-letter file has the old lines followed by those of the trace; if a device failed, one further line may
  -- follow, that of the entry in hand or of the tried one
  pub dead_letters_kept : DeadLettersKept m f trouble h hand tried new
  -- there is a tried entry if and only if the dead-letter file failed; it is then exactly one, which has a line. It may
  -- follow a prefix of the history, after which only calls and the input ended; the clock also gave its moment; and its
  -- line is that of the first message that was due, which waits and had none
  pub is_tried : IsTried trouble tried
  pub tried_follows : (e : Entry) → tried ≡ e ∷ [] → FollowsFront s h e
  pub tried_given : (e : Entry) (some : tried ≡ e ∷ []) → IsGiven gave (tried_follows e some).before (moment_of e)
  pub tried_moves : (e : Entry) (line : List ℕ) → tried ≡ e ∷ [] → entry_line e ≡ Some line → IsTriedMove s h e line
  -- what a crash leaves of the file since the run's start: the old lines followed by a prefix of those
  pub letters_crash : LettersCrashKept m f h hand tried new
  -- and since the file was opened
  pub letters_since_opening : LettersCrashKeptSinceOpening m f h hand tried new
  -- each deletion that a crash leaves has its line there
  pub lines_stand_first : LinesStandFirst m f s h hand new
  pub lines_first_since_opening : LinesStandFirstSinceOpening m f s h hand new
  -- the journal's content says what it said, and then the deletions of the history with their fates and ids, and no
  -- others
  pub deletions_are_recorded : DeletionsAreRecorded f.pair.payloads s.queue h
  -- the messages that arrived are valid, and the dead letter of each reads back as it
  pub valid : HasValidMessages s.queue
  pub letters : All (HasLetter (is_fifo s.queue.config.kind)) s.queue.messages
  -- so the lines are good for the next redrive, which finds the ids of the moved messages behind those that were there
  pub letters_go_on : AreLetters (is_fifo s.queue.config.kind) f.dest.payloads (length f.dest.payloads) → GoesOnWith (is_fifo s.queue.config.kind) f.dest.payloads (dead_letters (reverse h)) (moved_ids s h)
  -- and each deletion of a moved message that the history gives has its line there
  pub leaves_moves_lined : LeavesMovesLined s h
  -- the messages that arrived have different ids
  pub different : HaveDifferentIds s.queue.messages
  -- each message that arrived is exactly one of waiting, succeeded, filtered and moved
  pub each_has_one_end : EachHasOneEnd s h
  -- the lines are those of the messages that were moved, in order; an id is in at most one of them, and in none if it was
  -- in the dead-letter file
  pub moved_once : MovedOnce s h
  -- a message has a fate only if it was found deleted with it, or that is earned: it succeeded if a reply counts it as
  -- succeeded, was filtered if it does not pass the filter, and was moved if its line was found in the dead-letter file
  -- or it was received as often as it may be
  pub only_earned : DeletedOnlyEarned s h
  -- and if no device failed, each message whose deletion is earned, except by its receives alone, is deleted
  pub all_earned : (trouble ≡ Some Disk → ⊥) → (trouble ≡ Some Dest → ⊥) → DeletedAllEarned s h
  -- no message is deleted twice, and none that was found deleted
  pub deleted_once : DeletedOnce s.queue h
  -- in a FIFO queue no batch overtakes an earlier message of one of its groups
  pub order_per_group : OrderPerGroup s.queue h
  -- each reply is the one that is logged with its event among the calls, by which the caller's log grew
  pub replies_are_logged : RepliesAreLogged s h
  -- the batcher moves a message only after it was received in this run as often as it may be
  pub moved_after_receives : MovedAfterReceives s h
  -- and no message is received more often
  pub received_at_most : ReceivedAtMost s h
  -- so there are at most as many calls as the messages that arrived, times how often each may be received
  pub calls_are_few : CallsAreFew s h
  -- if no device failed, a message that arrived is moved if and only if its line is in the file and it was not found
  -- deleted for another reason; this requires that the file that was found has a line for each message that the journal
  -- said was moved
  pub moved_where_lined : (trouble ≡ Some Disk → ⊥) → (trouble ≡ Some Dest → ⊥) → FoundMovesAreLined s → MovedWhereLined s h
