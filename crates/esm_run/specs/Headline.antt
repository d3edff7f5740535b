-- The headline: what the run of a stream's mapping leaves, clause by clause. This product's own.
use Rattle.std.specs.Prelude.{◌≡◌, ◌++◌, ℕ, Bool, true, List, Option, Some}
use Rattle.esm_ledger.specs.Ledger.{LegalOver}
use Rattle.esm_model.specs.declared.book.Trouble.{Trouble}
use Rattle.esm_model.specs.declared.book.Trouble.TheVariants.{Disk}
use Rattle.esm_model.specs.declared.config.Kind.TheVariants as kind
use Rattle.esm_model.specs.declared.entry.Entry.{Entry}
use Rattle.esm_model.specs.Earned.{FateIsEarned}
use Rattle.esm_model.specs.Entries.{CallsFollowShut}
use Rattle.esm_model.specs.Laws.{CheckpointIsLongest, EveryRecordCounted, NoRepeat, OneFate, OrderPerKey}
use Rattle.esm_model.specs.Setting.{Setting}
use Rattle.esm_runner.specs.Given.{AreGiven}
use Rattle.esm_runner.specs.Ran.{NoneRuns}
use Rattle.esm_report.specs.Report.{report_text}
use Rattle.esm_report.specs.declared.ending.Ending.{Ending}
use Rattle.esm_traced.specs.Front.{front_text}
use Rattle.esm_runner.specs.Files.{FilesState}
use Rattle.esm_runner.specs.Headline.{AnswersAreLogged, CallsMade, CanBeSaid, CheckpointIsRecorded, CrashKept, CrashKeptSinceOpening, FailureLinesCrashKept, FailureLinesKept, FatesAreRecorded, HandFollows, HandHasPayload, HandIsGiven, IsInHand, JournalKept, JournalStopped, Devices, SettledUnless, Telling}

-- The run over these files and this setting left this history, newest entry first, and this text, and ended so; `trouble` is
-- the trouble of the book, if it had any. If a disk of the journal failed, `hand` has the entry in hand, whose payload may
-- be in the journal although the entry is not in the history. `old` has the callers as they were handed in, and `new` the
-- devices as they were left.
pub record Headline {D F : Type 0} (t : Telling D F) (first traced : Bool) (f : FilesState D) (s : Setting) (h : List Entry) (trouble : Option Trouble) (ending : Ending) (hand : List Entry) (old : List F) (new : Devices D F) (text : List ℕ) : Type 0 where
  -- each entry may follow those before it, over every list of records that extends those that arrived
  pub legal_trace : LegalOver s h
  -- without trouble nothing is owed: each open record passes the filter, and no lane is owed anything
  pub settled : SettledUnless trouble s h
  -- no shard has more records than 32 bits count, and the journal's format can say what it keeps of each entry and of the
  -- one in hand
  pub can_be_said : CanBeSaid s h hand
  -- each moment is one that the clock gave, at most `MAX_MOMENT`, or that of the entry before if that is later
  pub moments : AreGiven t.callers.gave h
  -- caller k's log, if it is visible, is the old one followed by the calls of batcher k, and no lane is running
  pub calls_made : CallsMade t s h old new.callers
  pub none_runs : NoneRuns h
  -- the journal's content is the old one followed by the payloads of the history, in order
  pub journal_kept : (trouble ≡ Some Disk → ⊥) → JournalKept t f s h new
  -- if a disk of it failed, it may be followed by one further whole payload, that of the entry in hand
  pub journal_stopped : trouble ≡ Some Disk → JournalStopped t f s h hand new
  -- a crash at any moment since the run's start leaves the old content followed by a prefix of these payloads; if a disk of
  -- the journal failed, perhaps by one further, that of the entry in hand
  pub crash_kept : CrashKept t f s h hand new
  -- and so does a crash at any moment since its pair was opened, whatever a crash before that might have left of the disks
  pub crash_since_opening : CrashKeptSinceOpening t f s h hand new
  pub in_hand : IsInHand trouble hand
  -- the entry in hand has a payload, and may follow the history, or a prefix of it that only ends of calls and of the input
  -- follow
  pub hand_has_payload : HandHasPayload s hand
  pub hand_follows : HandFollows s h hand
  -- after which its moment, too, is one that the clock gave
  pub hand_given : HandIsGiven t.callers.gave s h hand hand_follows
  -- the failure file's lines are the old ones followed by what is delivered of those of the history, in order; if a disk
  -- failed, perhaps by one further line
  pub failure_lines_kept : FailureLinesKept t f trouble h hand new
  -- a crash at any moment since the run's start leaves the old lines followed by a prefix of those; if a device failed,
  -- perhaps by one further, that of the entry in hand or of the entry whose line was being delivered
  pub failure_lines_crash : FailureLinesCrashKept t f s h trouble hand new
  -- the text is the trace of the history, if it is asked for, and then the report of the history and the ending
  pub report_told : text ≡ front_text traced kind.Stream h ++ report_text s h ending
  -- before a call begins, every earlier record of a shard that has the key of a record of the batch, and is outside the
  -- batch, has its fate
  pub order_per_key : OrderPerKey s h
  -- no call holds a record that has a found fate or was given one before that call
  pub no_repeat : NoRepeat s h
  -- the records of a shard that arrived are the succeeded, filtered, expired, exhausted and open ones together, each counted
  -- once
  pub every_record_counted : EveryRecordCounted s h
  -- the checkpoint of a shard is the longest prefix of the records that arrived in which each has a fate, and also the
  -- longest in which each has one by the journal's content
  pub checkpoint_is_longest : (n : ℕ) → CheckpointIsLongest s h n
  pub checkpoint_is_recorded : CheckpointIsRecorded f s h
  -- a record that has a fate, found or given, is given no other, and each fate is recorded: the journal's content has
  -- exactly these
  pub one_fate : OneFate s h
  pub fates_are_recorded : FatesAreRecorded f s h
  -- each fate is earned: by the answer to a call, by the filter, by the record's age at that moment, or by more failed tries
  -- than are allowed; and the answer is in the log of its lane's caller
  pub fate_is_earned : FateIsEarned s h
  pub answers_are_logged : AnswersAreLogged t s h
  -- with `--read-first` no call begins before the end of the input was noted
  pub read_first : first ≡ true → CallsFollowShut h
