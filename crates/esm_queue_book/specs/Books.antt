-- What contracts see of a queue's book, and what its devices have of its history. This product's own.
use Rattle.std.specs.Prelude.{◌≡◌, ◌++◌, ℕ, Bool, true, List, is_some}
use Rattle.std.specs.List.{filter_map}
use Rattle.std.specs.Coded.{Coded}
use Rattle.esm_io.specs.Meanings.{DiskMeaning}
use Rattle.esm_journal.specs.File.{header_of}
use Rattle.esm_journal.specs.Pair.{PairState, PairOpensTo, pair_code}
use Rattle.esm_model.specs.declared.item.Message.{Message}
use Rattle.esm_model.specs.declared.entry.Entry.{Entry}
use Rattle.esm_model.specs.declared.setup.Setup.{Setup}
use Rattle.esm_model.specs.Setup.{no_setup}
use Rattle.esm_journal_record.specs.EntryPayload.{queue_payload}
use Rattle.esm_book.specs.declared.nowhere.Nowhere.{Nowhere}
use Rattle.esm_book.specs.State.{DurableState}
use Rattle.esm_queue_core.specs.CoreView.{CoreView}

-- The core has what the history is judged over, the history with its newest entry first, and what was decided and is not yet
-- added. Beside it are the journal, as it is and as it was at opening, and why the book is down, if it is.
abbrev pub BookState : Type 0 → Type 0
BookState D = DurableState CoreView D Nowhere

-- what a book was opened with; the pair of its journal is named by its code
abbrev pub setup_of : {D : Type 0} → Coded D → BookState D → Setup
setup_of code b = record no_setup {
  config = b.core.setting.config;
  calls = b.core.setting.calls;
  visibility_ms = b.core.setting.visibility;
  deletions = b.core.setting.deletions;
  payloads = b.found.payloads;
  pair = (pair_code code).code b.found;
}

-- it is down
abbrev pub is_down : {D : Type 0} → BookState D → Bool
is_down b = is_some b.trouble

-- what the journal has of entries over the list of all messages, oldest first
abbrev pub payloads_in : List Message → List Entry → List (List ℕ)
payloads_in messages es = filter_map (queue_payload messages) es

-- what a crash leaves

-- two disks, in either order, open to the payloads from before and then to a prefix of these
pub record OpensToFirst (epoch : ℕ) (before payloads : List (List ℕ)) (one other : List ℕ) : Type 0 where
  pub front : List (List ℕ)
  pub rest : List (List ℕ)
  pub split : front ++ rest ≡ payloads
  pub opens : PairOpensTo (header_of 2) epoch (before ++ front) one other

-- whatever a crash left of both disks, each at any moment since they were as before, opens in this way
abbrev pub LeavesFirst : {D : Type 0} → DiskMeaning D → PairState D → PairState D → List (List ℕ) → Type 0
LeavesFirst m pair pair' payloads =
    m.honest pair.used ≡ true → m.honest pair.spare ≡ true → (one other : List ℕ) →
    m.since pair'.used (m.moment pair.used) one → m.since pair'.spare (m.moment pair.spare) other →
    OpensToFirst pair.epoch pair.payloads payloads one other
