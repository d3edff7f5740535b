-- What contracts see of a replay's book, and what its disks show of its history. This product's own.
use Rattle.std.specs.Prelude.{◌≡◌, ◌++◌, ℕ, true, List}
use Rattle.std.specs.List.{filter_map}
use Rattle.esm_io.specs.Meanings.{DiskMeaning}
use Rattle.esm_journal.specs.File.{header_of}
use Rattle.esm_journal.specs.Pair.{PairState, PairOpensTo}
use Rattle.esm_model.specs.declared.entry.Entry.{Entry}
use Rattle.esm_journal_record.specs.EntryPayload.{entry_payload}
use Rattle.esm_book.specs.declared.nowhere.Nowhere.{Nowhere}
use Rattle.esm_book.specs.State.{DurableState}
use Rattle.esm_replay_model.specs.ReplaySetting.{ReplaySetting}
use Rattle.esm_replay_core.specs.View.{ReplayView}

-- The core has what it was opened with, the records that arrived, the history with its newest entry first, and what was
-- decided and is not yet added. The state also has the journal as it is and as it was at opening, and why the book is
-- down, if it is.
abbrev pub BookState : Type 0 → Type 0
BookState D = DurableState ReplayView D Nowhere

-- the payloads that the journal has for entries, oldest first
abbrev pub payloads_in : ReplaySetting → List Entry → List (List ℕ)
payloads_in s es = filter_map (entry_payload s.base) es

-- what a crash leaves

-- two disks, in either order, open to the payloads from before, followed by a prefix of these
pub record OpensToFirst (epoch : ℕ) (before payloads : List (List ℕ)) (one other : List ℕ) : Type 0 where
  pub front : List (List ℕ)
  pub rest : List (List ℕ)
  pub split : front ++ rest ≡ payloads
  pub opens : PairOpensTo (header_of 2) epoch (before ++ front) one other

-- the disks open so, whatever a crash left of each at any moment since the state `pair`
abbrev pub LeavesFirst : {D : Type 0} → DiskMeaning D → PairState D → PairState D → List (List ℕ) → Type 0
LeavesFirst m pair pair' payloads =
    m.honest pair.used ≡ true → m.honest pair.spare ≡ true → (one other : List ℕ) →
    m.since pair'.used (m.moment pair.used) one → m.since pair'.spare (m.moment pair.spare) other →
    OpensToFirst pair.epoch pair.payloads payloads one other
