-- What holds of every stream's book, whoever made its calls. This product's own.
use Rattle.std.specs.Prelude.{◌≡◌, ◌++◌, ℕ, List, [], ◌∷◌, Option, Some, None, true, false, reverse}
use Rattle.std.specs.List.{All}
use Rattle.esm_io.specs.Meanings.{DiskMeaning, DestMeaning}
use Rattle.esm_io.specs.Told.{Grows}
use Rattle.esm_model.specs.declared.book.Trouble.{Trouble}
use Rattle.esm_model.specs.declared.book.Trouble.TheVariants.{Disk, Dest, Changed}
use Rattle.esm_model.specs.declared.entry.Entry.{Entry}
use Rattle.esm_model.specs.declared.setup.Setup.{Setup}
use Rattle.esm_model.specs.Books.{IsOfStream, entry_line, streams_told}
use Rattle.esm_book.specs.Growth.{IsHeld, ReadsFront, Takes}
use Rattle.esm_book.specs.State.{is_disk, is_dest, in_hand, in_delivery}
use Rattle.esm_journal_record.specs.EntryPayload.{entry_payload}
use Rattle.esm_ledger.specs.Ledger.{LegalOver}
use Rattle.esm_outcome.specs.Ending.{SettledOver}
use Rattle.esm_stream_core.specs.CoreView.{full_setting, MayFollowFront}
use Rattle.esm_stream_core.specs.declared.decisions.Opened.{Opened}
use Rattle.esm_stream_core.specs.Told.{told_of, IsChange}
use Rattle.esm_stream_book.specs.Books.{BookState, payloads_in, sent_of}

-- The setting has the records of the history, each `Came` has those that it covers beside it, and the history is legal over
-- all lists of records that extend them. If the book is not down, nothing more is required over any of them. The entry that
-- was being written when a disk failed may follow the history, or a prefix of it that only ends of calls and of the input
-- follow, over all of them; so may the one whose line was being delivered when the destination failed. If a disk failed,
-- exactly one entry was being written, and it has a payload; if the destination failed, the line of exactly one was being
-- delivered.
pub record IsSound {D T : Type 0} (b : BookState D T) : Type 0 where
  pub records : b.core.setting.streams ≡ streams_told (told_of b.core)
  pub of_stream : All IsOfStream (told_of b.core)
  pub legal : LegalOver b.core.setting b.core.past
  pub settled : b.trouble ≡ None → SettledOver b.core.setting b.core.past
  pub hand_follows : (e : Entry) → in_hand b.trouble b.core.owed ≡ e ∷ [] → MayFollowFront b.core.setting b.core.past e
  pub tried_follows : (e : Entry) → in_delivery b.trouble b.core.owed ≡ e ∷ [] → MayFollowFront b.core.setting b.core.past e
  pub hand_is_one : b.trouble ≡ Some Disk → (e : Entry) × (payload : List ℕ) × (in_hand b.trouble b.core.owed ≡ e ∷ []) × (entry_payload b.core.setting e ≡ Some payload)
  pub tried_is_one : b.trouble ≡ Some Dest → (e : Entry) × (line : List ℕ) × (in_delivery b.trouble b.core.owed ≡ e ∷ []) × (entry_line e ≡ Some line)

-- the setup is that of the book, whatever it says of the devices
pub record IsSetupOf {D T : Type 0} (setup : Setup) (b : BookState D T) : Type 0 where
  pub config : setup.config ≡ b.core.setting.config
  pub calls : setup.calls ≡ b.core.setting.calls
  pub fates : setup.fates ≡ b.core.setting.fates
  pub tries : setup.tries ≡ b.core.setting.tries
  pub states : setup.states ≡ b.core.setting.states
  pub window_tries : setup.window_tries ≡ b.core.setting.window_tries

-- why a book is down: a disk or the destination failed since the opening, or a record came with another sequence number
-- than was kept of it
abbrev pub IsCause : (disk_failed dest_failed : Type 0) → Opened → Option Trouble → Type 0
IsCause disk_failed dest_failed o None = Unit {0}
IsCause disk_failed dest_failed o (Some Disk) = disk_failed
IsCause disk_failed dest_failed o (Some Dest) = dest_failed
IsCause disk_failed dest_failed o (Some (Changed change)) = IsChange o change

-- the entries whose payloads a crash may leave: those of the history, and if a disk failed the one that was being written
abbrev pub entries_left : {D T : Type 0} → BookState D T → List Entry
entries_left b = reverse b.core.past ++ in_hand b.trouble b.core.owed

-- the entries whose lines it may leave: those, and if the destination failed the one whose line was being delivered
abbrev pub lines_left : {D T : Type 0} → BookState D T → List Entry
lines_left b = entries_left b ++ in_delivery b.trouble b.core.owed

-- The journal has what was found and then the payloads of the history. It is the pair that was opened, and is down if and
-- only if a disk failed.
pub record HasJournal {D T : Type 0} (m : DiskMeaning D) (b : BookState D T) : Type 0 where
  pub payloads : b.pair.payloads ≡ b.found.payloads ++ payloads_in (full_setting b.core) (reverse b.core.past)
  pub down : b.pair.down ≡ is_disk b.trouble
  pub found_up : b.found.down ≡ false
  pub epoch : b.pair.epoch ≡ b.found.epoch
  pub swapped : b.pair.swapped ≡ b.found.swapped
  pub spare : b.pair.spare ≡ b.found.spare
  pub honesty : m.honest b.pair.used ≡ m.honest b.found.used

-- The destination has what was found and then the lines of the history; if a disk failed, that of the entry that was being
-- written follows, if it has one. The destination has failed if and only if the trouble says so. Whatever a crash left of it
-- since the opening reads as the lines that were found and a prefix of those; what one leaves now reads as all of them and,
-- if the destination failed, perhaps the line that was being delivered.
pub record HasLines {D T : Type 0} (n : DestMeaning T) (b : BookState D T) : Type 0 where
  pub lines : Grows (n.lines b.found_dest) (n.lines b.dest) (sent_of n (entries_left b))
  pub failed : n.failed b.dest ≡ is_dest b.trouble
  pub found_usable : n.failed b.found_dest ≡ false
  pub honesty : n.honest b.dest ≡ n.honest b.found_dest
  pub images : n.honest b.found_dest ≡ true → (held : List (List ℕ)) → n.lines b.found_dest ≡ Some held → Takes n b.found_dest b.dest held (sent_of n (lines_left b))
  pub durable : n.honest b.found_dest ≡ true → (held : List (List ℕ)) → n.lines b.found_dest ≡ Some held → IsHeld n b.found_dest held → (left : List ℕ) → n.since b.dest (n.moment b.dest) left →
      ReadsFront n.reads_as (held ++ sent_of n (entries_left b)) (sent_of n (in_delivery b.trouble b.core.owed)) left
