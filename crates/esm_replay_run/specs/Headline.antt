-- The theorem of one replay: what a run leaves of its history and of its disks. This product's own.
use Rattle.std.specs.Prelude.{◌≡◌, ◌++◌, ◌||◌, ℕ, Bool, List, [], Option, Some, reverse}
use Rattle.esm_io.specs.Meanings.{DiskMeaning}
use Rattle.esm_journal.specs.Pair.{first_disk, second_disk}
use Rattle.esm_journal.specs.Reads.{IsOnlyRead}
use Rattle.esm_model.specs.declared.book.Trouble.{Trouble}
use Rattle.esm_model.specs.declared.book.Trouble.TheVariants.{Disk}
use Rattle.esm_model.specs.declared.config.Config.{Config}
use Rattle.esm_model.specs.declared.entry.Entry.{Entry}
use Rattle.esm_model.specs.Records.{Record}
use Rattle.esm_journal_record.specs.declared.said.Said.{Said}
use Rattle.esm_journal_record.specs.EntryPayload.{AllMayBeSaid}
use Rattle.esm_journal_state.specs.Meaning.{history, fate_said, tries_said, state_said, window_tries_said, replayed_said}
use Rattle.esm_folder.specs.Upkeep.{AreHonest, AreSettled, PairHolds}
use Rattle.esm_replay.specs.Records.{of_shard, setting_with}
use Rattle.esm_replay_model.specs.declared.range.Range.{Range}
use Rattle.esm_replay_model.specs.ReplaySetting.{ReplaySetting, replay_config, is_found_replayed}
use Rattle.esm_replay_model.specs.ReplayReport.{is_replayed}
use Rattle.esm_replay_model.specs.ReplayRun.{IsReplay, owed_replay}
use Rattle.esm_replay_model.specs.ReplayLaws.{ReplayedOnce, CallsNamed, ReplayedAsAnswered, SucceededAreReplayed, ReplayedOrLeft, CallsWithin}
use Rattle.esm_replay_book.specs.Books.{payloads_in, OpensToFirst}
use Rattle.esm_replay_book.specs.Keeping.{OwesReplay}
use Rattle.esm_replay_book.specs.Opening.{GiveRanges}
use Rattle.esm_replay_book.specs.Serving.{AreGiven}
use Rattle.esm_runner.specs.Files.{FilesState}
use Rattle.esm_runner.specs.Headline.{IsInHand, PairStopped}

-- the disks as a run left them: the journal with its spare, and the failure file
pub record Disks (D : Type 0) : Type 0 where
  pub journal : D
  pub spare : D
  pub failures : D

-- The setting of a run in which these records arrived: opened with the configuration, without retries and windows, the
-- calls allowed, what the journal said, and the records that the lines of the failure file name.
pub record IsSettingOf {D : Type 0} (config : Config) (calls : ℕ) (f : FilesState D) (came : List Record) (s : ReplaySetting) : Type 0 where
  pub ranges : List Range
  pub given : GiveRanges f.dest.payloads ranges
  pub is : s ≡ setting_with (replay_config config) calls f.said ranges came

-- of each shard a prefix of the records arrived
abbrev pub SomeCame : (came records : List Record) → Type 0
SomeCame came records = (n : ℕ) → (rest : List Record) × (of_shard n records ≡ of_shard n came ++ rest)

-- the journal

-- its content is the old one followed by the payloads of the history: one of kind 7 for each `Replayed`, and no others
abbrev pub JournalKept : {D : Type 0} → DiskMeaning D → FilesState D → ReplaySetting → List Entry → Disks D → Type 0
JournalKept m f s h new = AreHonest m f.journal f.spare → PairHolds m f.pair.epoch (f.pair.payloads ++ payloads_in s (reverse h)) new.journal new.spare

-- if a disk of it failed: what a crash now leaves opens to these, or to these and the payload of the entry in hand
abbrev pub JournalStopped : {D : Type 0} → DiskMeaning D → FilesState D → ReplaySetting → List Entry → (hand : List Entry) → Disks D → Type 0
JournalStopped m f s h hand new = PairStopped m f (payloads_in s (reverse h)) (payloads_in s (reverse h ++ hand)) new.journal new.spare

-- Every image of the pair since the run's start opens to the content found, followed by a prefix of the payloads of the
-- history in their order. If a disk failed, one further whole payload may follow all of them.
abbrev pub CrashKept : {D : Type 0} → DiskMeaning D → FilesState D → ReplaySetting → List Entry → (hand : List Entry) → Disks D → Type 0
CrashKept m f s h hand new =
    AreHonest m f.journal f.spare → AreSettled m f.journal f.spare → (one other : List ℕ) →
    m.since new.journal (m.moment f.journal) one → m.since new.spare (m.moment f.spare) other →
    OpensToFirst f.pair.epoch f.pair.payloads (payloads_in s (reverse h ++ hand)) one other

-- The same holds of every image since the pair was opened, whatever a crash might have left of its disks before: opening
-- synced them.
abbrev pub CrashKeptSinceOpening : {D : Type 0} → DiskMeaning D → FilesState D → ReplaySetting → List Entry → (hand : List Entry) → Disks D → Type 0
CrashKeptSinceOpening m f s h hand new =
    AreHonest m f.journal f.spare → (one other : List ℕ) →
    m.since new.journal (m.moment (first_disk f.pair)) one → m.since new.spare (m.moment (second_disk f.pair)) other →
    OpensToFirst f.pair.epoch f.pair.payloads (payloads_in s (reverse h ++ hand)) one other

-- what the journal's content said before the run, newest first
abbrev pub said_before : {D : Type 0} → FilesState D → List Said
said_before f = history (reverse f.pair.payloads)

-- what it says after the history: the old payloads followed by those of the history
abbrev pub said_after : {D : Type 0} → FilesState D → ReplaySetting → List Entry → List Said
said_after f s h = history (reverse (f.pair.payloads ++ payloads_in s (reverse h)))

-- By the journal's content, fates, tries and what is kept of windows are as they were, and the records that are replayed
-- are those that were before and those that the history replays.
pub record JournalSays {D : Type 0} (f : FilesState D) (s : ReplaySetting) (h : List Entry) : Type 0 where
  pub fates : (n i : ℕ) → fate_said (said_after f s h) n i ≡ fate_said (said_before f) n i
  pub tries : (n i : ℕ) → tries_said (said_after f s h) n i ≡ tries_said (said_before f) n i
  pub states : (n w : ℕ) → state_said (said_after f s h) n w ≡ state_said (said_before f) n w
  pub window_tries : (n w : ℕ) → window_tries_said (said_after f s h) n w ≡ window_tries_said (said_before f) n w
  pub replays : (n i : ℕ) → replayed_said (said_after f s h) n i ≡ (is_found_replayed s n i || is_replayed h n i)

-- What holds of a history, newest entry first, and of the disks after it, whatever ended the run.
pub record Headline {D : Type 0} (m : DiskMeaning D) (gave : ℕ → Bool) (f : FilesState D) (s : ReplaySetting) (h : List Entry) (trouble : Option Trouble) (hand : List Entry) (new : Disks D) : Type 0 where
  -- the trace is a run of the replay over the records that arrived
  pub legal_trace : IsReplay s h
  -- and remains one with the entry in hand, which may follow it
  pub hand_is_run : IsReplay s (hand ++ h)
  -- each moment is one that the clock gave, at most the greatest, or that of the entry before it if it is later
  pub moments : AreGiven gave h
  -- and so is that of the entry in hand
  pub hand_given : AreGiven gave (hand ++ h)
  -- the journal's content is the old one followed by the payloads of the trace's `Replayed`
  pub journal_kept : (trouble ≡ Some Disk → ⊥) → JournalKept m f s h new
  -- if a disk of it failed, one further whole payload may follow, that of the entry in hand
  pub journal_stopped : trouble ≡ Some Disk → JournalStopped m f s h hand new
  -- the journal accepts each of these payloads, so a later run reads it
  pub may_be_said : AllMayBeSaid s.base (hand ++ h)
  -- what the journal's content then says, and what it says with the payload of the entry in hand
  pub journal_says : JournalSays f s h
  pub hand_says : JournalSays f s (hand ++ h)
  -- there is an entry in hand if and only if a disk of the journal failed: it is the `Replayed` of what the last reply
  -- counts as succeeded
  pub in_hand : IsInHand trouble hand
  pub hand_is_owed : trouble ≡ Some Disk → OwesReplay s h hand
  -- what a crash leaves since the run's start: the old content followed by a prefix of the payloads of the trace
  pub crash : CrashKept m f s h hand new
  -- and since the pair was opened, whatever a crash might have left of the disks before
  pub crash_since_opening : CrashKeptSinceOpening m f s h hand new
  -- the failure file is as it was opened, and was only read
  pub failures_same : new.failures ≡ f.dest.disk
  pub failures_read : IsOnlyRead m f.failures new.failures
  -- if no disk of the journal failed, everything that the last reply counts as succeeded is replayed
  pub all_replayed : (trouble ≡ Some Disk → ⊥) → (owed_replay s h).places ≡ []
  -- each record is replayed at most once, and only if it is named, so not if the journal had recorded its replay
  pub replayed_once : ReplayedOnce s h
  -- each call has named records alone, and none that was replayed
  pub calls_named : CallsNamed s h
  -- what is replayed is exactly what the reply before it counts as succeeded
  pub replayed_as_answered : ReplayedAsAnswered s h
  -- and what a reply counts as succeeded is replayed next, all of it
  pub succeeded_are_replayed : SucceededAreReplayed s h
  -- the same holds with the entry in hand
  pub hand_replayed_once : ReplayedOnce s (hand ++ h)
  pub hand_calls_named : CallsNamed s (hand ++ h)
  pub hand_as_answered : ReplayedAsAnswered s (hand ++ h)
  -- if nothing is left to call, each named record was replayed or its last call left it
  pub replayed_or_left : ReplayedOrLeft s h
  -- there are at most twice as many calls as named records
  pub calls_within : CallsWithin s h
