-- What is true of every replay's book, whoever made its calls. This product's own.
use Rattle.std.specs.Prelude.{◌≡◌, ◌≤◌, ◌++◌, ◌∷◌, List, [], length, Option, Some, None, false, reverse}
use Rattle.std.specs.List.{All}
use Rattle.esm_io.specs.Meanings.{DiskMeaning}
use Rattle.esm_model.specs.declared.book.Trouble.{Trouble}
use Rattle.esm_model.specs.declared.book.Trouble.TheVariants.{Disk, Dest, Changed}
use Rattle.esm_model.specs.declared.entry.Entry.{Entry}
use Rattle.esm_model.specs.declared.entry.Entry.TheVariants.{Replayed}
use Rattle.esm_model.specs.Entries.{last_moment}
use Rattle.esm_model.specs.Valid.{IsValidRecord}
use Rattle.esm_book.specs.State.{is_disk, in_hand}
use Rattle.esm_replay_model.specs.ReplaySetting.{ReplaySetting}
use Rattle.esm_replay_model.specs.ReplayRun.{call_out, owed_replay, IsReplay}
use Rattle.esm_replay_core.specs.declared.decisions.Opened.{Opened}
use Rattle.esm_replay_core.specs.View.{setting_of, RunAhead, SaidAhead}
use Rattle.esm_replay.specs.Coming.{first_change}
use Rattle.esm_replay_core.specs.Told.{IsChange}
use Rattle.esm_replay_book.specs.Books.{BookState, payloads_in}

-- if a record was kept with another text, no call was made
abbrev pub IsUncalled : Option Trouble → List Entry → Type 0
IsUncalled None h = Unit {0}
IsUncalled (Some Disk) h = Unit {0}
IsUncalled (Some Dest) h = Unit {0}
IsUncalled (Some (Changed change)) h = h ≡ []

-- The last call ended, some of its records succeeded, and one entry is owed: the `Replayed` of exactly these.
pub record OwesReplay (s : ReplaySetting) (h owed : List Entry) : Type 0 where
  pub some : 1 ≤ length (owed_replay s h).places
  pub is : owed ≡ Replayed (owed_replay s h).shard (owed_replay s h).places (last_moment h) ∷ []

-- The history is a run of the replay over the records that arrived, none of which was kept with another text. It remains
-- a run with the entries that are owed, so the first of them, which may be on the disk, may follow it. The journal
-- accepts the payloads of all this. If the book is not down, nothing is owed and everything that succeeded in the last
-- call is replayed. If it is down, no call is running. If a disk failed, the `Replayed` of what succeeded in the last
-- call is owed.
pub record IsSound {D : Type 0} (b : BookState D) : Type 0 where
  pub run : IsReplay (setting_of b.core) b.core.past
  pub ahead : RunAhead b.core
  pub said : SaidAhead b.core
  pub valid : All IsValidRecord b.core.records
  pub unchanged : first_change b.core.opened.said [] b.core.records ≡ None
  pub none_coming : b.core.coming ≡ []
  pub none_owed : b.trouble ≡ None → b.core.owed ≡ []
  pub settled : b.trouble ≡ None → (owed_replay (setting_of b.core) b.core.past).places ≡ []
  pub down_rests : (b.trouble ≡ None → ⊥) → (call_out b.core.past).places ≡ []
  pub owes : b.trouble ≡ Some Disk → OwesReplay (setting_of b.core) b.core.past b.core.owed
  pub uncalled : IsUncalled b.trouble b.core.past

-- why a book is down: a disk failed since the opening, or a record arrived with another text than was kept
abbrev pub IsCause : Type 0 → Opened → Option Trouble → Type 0
IsCause disk_failed o None = Unit {0}
IsCause disk_failed o (Some Disk) = disk_failed
IsCause disk_failed o (Some Dest) = ⊥
IsCause disk_failed o (Some (Changed change)) = IsChange o change

-- The journal has what was found and then the payloads of the history. It is the pair that was opened, and it is down if
-- and only if a disk failed.
pub record HasJournal {D : Type 0} (m : DiskMeaning D) (b : BookState D) : Type 0 where
  pub payloads : b.pair.payloads ≡ b.found.payloads ++ payloads_in (setting_of b.core) (reverse b.core.past)
  pub down : b.pair.down ≡ is_disk b.trouble
  pub found_up : b.found.down ≡ false
  pub epoch : b.pair.epoch ≡ b.found.epoch
  pub swapped : b.pair.swapped ≡ b.found.swapped
  pub spare : b.pair.spare ≡ b.found.spare
  pub honesty : m.honest b.pair.used ≡ m.honest b.found.used

-- the entries whose payloads a crash may leave: those of the history, and if a disk failed, the one that was being
-- written
abbrev pub entries_left : {D : Type 0} → BookState D → List Entry
entries_left b = reverse b.core.past ++ in_hand b.trouble b.core.owed
