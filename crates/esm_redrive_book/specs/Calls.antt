-- What calls of a redrive's book add to its history, its journal and its dead-letter file. This product's own.
use Rattle.std.specs.Prelude.{◌≡◌, ◌<◌, ◌++◌, ◌∷◌, [], List, Some, None, false, length, take, reverse}
use Rattle.esm_io.specs.Meanings.{DiskMeaning, DestMeaning}
use Rattle.esm_journal.specs.Pair.{PairKeepsWhileUp}
use Rattle.esm_model.specs.declared.item.Message.{Message}
use Rattle.esm_model.specs.declared.entry.Entry.{Entry}
use Rattle.esm_model.specs.declared.book.Trouble.{Trouble}
use Rattle.esm_model.specs.declared.book.Trouble.TheVariants.{Disk, Dest, Changed}
use Rattle.esm_model.specs.declared.book.Next.{Next}
use Rattle.esm_model.specs.declared.book.Next.TheVariants as next
use Rattle.esm_book.specs.Answers.{IsSameDest}
use Rattle.esm_book.specs.Decided.{written_of}
use Rattle.esm_book.specs.Growth.{HasGrown, LeavesFronts}
use Rattle.esm_redrive_model.specs.RedriveSetting.{redrive_over}
use Rattle.esm_redrive_core.specs.declared.decisions.RedriveEntry.{RedriveEntry}
use Rattle.esm_redrive_core.specs.RedriveView.{IsRunningJob}
use Rattle.esm_redrive_core.specs.Told.{redrive_entries}
use Rattle.esm_redrive_book.specs.Books.{BookState, payload_in, line_in, redrive_meaning}

-- These entries, oldest first, were added to the history over these messages, which are all that arrived; their lines and
-- payloads were written. Behind them there may be the payload of the entry in hand, and the line of the entry whose
-- delivery was tried. What the book was opened with is unchanged.
pub record Added {D T : Type 0} (m : DiskMeaning D) (n : DestMeaning T) (messages : List Message) (old new : BookState D T) (es : List Entry) (hand tried : List RedriveEntry) : Type 0 where
  pub past : new.core.past ≡ reverse es ++ old.core.past
  pub setting : new.core.setting ≡ redrive_over old.core.setting messages
  pub grown : HasGrown redrive_meaning m n old.pair new.pair old.dest new.dest (redrive_entries messages es) hand tried
  pub images : LeavesFronts redrive_meaning m n old.pair new.pair old.dest new.dest (redrive_entries messages es ++ hand)
  pub found : new.found ≡ old.found
  pub found_dest : new.found_dest ≡ old.found_dest

-- Everything that a call was to add was added. If it added nothing, no device was called.
pub record AddedAll {D T : Type 0} (m : DiskMeaning D) (n : DestMeaning T) (messages : List Message) (old new : BookState D T) (es : List Entry) : Type 0 where
  pub added : Added m n messages old new es [] []
  pub settled : new.core.owed ≡ []
  pub trouble : new.trouble ≡ None
  pub quiet : es ≡ [] → (new.pair ≡ old.pair) × (new.dest ≡ old.dest)
  pub kept : PairKeepsWhileUp m new.pair
  pub up : new.pair.down ≡ false

-- the entry that was being written when a disk failed, whose payload may be on the disk: the first of the rest
abbrev pub hand_of : Trouble → List Entry → List Entry
hand_of Disk rest = take 1 rest
hand_of Dest rest = []
hand_of (Changed change) rest = []

-- the entry whose line may be in the dead-letter file though its delivery failed: the first of the rest, if the file
-- failed
abbrev pub tried_of : Trouble → List Entry → List Entry
tried_of Disk rest = []
tried_of Dest rest = take 1 rest
tried_of (Changed change) rest = []

-- the first of the rest has what was being written to the device
abbrev pub WasWriting : Trouble → List RedriveEntry → Type 0
WasWriting Disk rest = 0 < length (written_of payload_in (take 1 rest))
WasWriting Dest rest = 0 < length (written_of line_in (take 1 rest))
WasWriting (Changed change) rest = ⊥

-- A device failed before all of it was added: the rest is owed. If a disk failed, the line of the entry that was being
-- written was delivered before.
pub record AddedSome {D T : Type 0} (m : DiskMeaning D) (n : DestMeaning T) (messages : List Message) (old new : BookState D T) (es : List Entry) (trouble : Trouble) : Type 0 where
  pub front : List Entry
  pub rest : List Entry
  pub split : front ++ rest ≡ es
  pub writing : WasWriting trouble (redrive_entries messages rest)
  pub added : Added m n messages old new front (redrive_entries messages (hand_of trouble rest)) (redrive_entries messages (tried_of trouble rest))
  pub owed : new.core.owed ≡ rest
  pub trouble_is : new.trouble ≡ Some trouble

-- one entry was added, of which nothing is written; everything else is as before
pub record AddedOne {D T : Type 0} (old new : BookState D T) (e : Entry) : Type 0 where
  pub past : new.core.past ≡ e ∷ old.core.past
  pub setting : new.core.setting ≡ old.core.setting
  pub owed : new.core.owed ≡ old.core.owed
  pub rest : new ≡ record old { core = new.core }

-- a call that `next` returned has begun: the batcher is running it
abbrev pub RunsCall : List Entry → Next → Type 0
RunsCall h (next.Call job) = IsRunningJob h job
RunsCall h _ = Unit {0}

-- nothing changed, except that there may be memory for more
pub record IsSame {D T : Type 0} (n : DestMeaning T) (old new : BookState D T) : Type 0 where
  pub rest : new ≡ record old { pair = record old.pair { room = new.pair.room }; dest = new.dest }
  pub dest : IsSameDest n old.dest new.dest
