-- What contracts see of a stream's book, and what its devices have of its history. This product's own.
use Rattle.std.specs.Prelude.{◌≡◌, ◌++◌, ℕ, Bool, true, List, [], map, Option, is_some, unwrap_or}
use Rattle.std.specs.List.{filter_map}
use Rattle.std.specs.Coded.{Coded}
use Rattle.esm_io.specs.Meanings.{DiskMeaning, DestMeaning}
use Rattle.esm_journal.specs.File.{header_of}
use Rattle.esm_journal.specs.Pair.{PairState, PairOpensTo, pair_code}
use Rattle.esm_model.specs.Setting.{Setting}
use Rattle.esm_model.specs.declared.entry.Entry.{Entry}
use Rattle.esm_model.specs.declared.setup.Setup.{Setup}
use Rattle.esm_model.specs.Setup.{no_setup}
use Rattle.esm_journal_record.specs.EntryPayload.{entry_payload}
use Rattle.esm_book.specs.Growth.{AreTold}
use Rattle.esm_book.specs.State.{DurableState}
use Rattle.esm_stream_core.specs.CoreView.{CoreView, lines_of}

-- The core has what the history is judged over, the history with its newest entry first, and what was decided and is not yet
-- added. Beside it are the journal and the destination, as they are and as they were at opening, and why the book is down,
-- if it is.
abbrev pub BookState : Type 0 → Type 0 → Type 0
BookState D T = DurableState CoreView D T

-- what a book was opened with; the pair of its journal and its destination are named by their codes
abbrev pub setup_of : {D T : Type 0} → Coded D → Coded T → (T → Option (List (List ℕ))) → BookState D T → Setup
setup_of code dest_code lines b = record no_setup {
  config = b.core.setting.config;
  calls = b.core.setting.calls;
  fates = b.core.setting.fates;
  tries = b.core.setting.tries;
  states = b.core.setting.states;
  window_tries = b.core.setting.window_tries;
  payloads = b.found.payloads;
  pair = (pair_code code).code b.found;
  lines = unwrap_or (lines b.found_dest) [];
  dest = dest_code.code b.found_dest;
}

-- it is down
abbrev pub is_down : {D T : Type 0} → BookState D T → Bool
is_down b = is_some b.trouble

-- what the journal has of entries, oldest first
abbrev pub payloads_in : Setting → List Entry → List (List ℕ)
payloads_in s es = filter_map (entry_payload s) es

-- what the destination has of them, as it sends it
abbrev pub sent_of : {T : Type 0} → DestMeaning T → List Entry → List (List ℕ)
sent_of n es = map n.sends (lines_of es)

-- what a crash leaves

-- Two disks, in either order, open to the payloads from before and then to those of a prefix of these entries; and the lines
-- of this prefix were delivered.
pub record OpensToFirst {T : Type 0} (n : DestMeaning T) (s : Setting) (epoch : ℕ) (before : List (List ℕ)) (dest dest' : T) (es : List Entry) (one other : List ℕ) : Type 0 where
  pub front : List Entry
  pub rest : List Entry
  pub split : front ++ rest ≡ es
  pub opens : PairOpensTo (header_of 2) epoch (before ++ payloads_in s front) one other
  pub delivered : AreTold (n.lines dest) (n.lines dest') (sent_of n front)

-- whatever a crash left of both disks, each at any moment since they were as before, opens in this way
abbrev pub LeavesFirst : {D T : Type 0} → DiskMeaning D → DestMeaning T → Setting → PairState D → PairState D → T → T → List Entry → Type 0
LeavesFirst m n s pair pair' dest dest' es =
    m.honest pair.used ≡ true → m.honest pair.spare ≡ true → (one other : List ℕ) →
    m.since pair'.used (m.moment pair.used) one → m.since pair'.spare (m.moment pair.spare) other →
    OpensToFirst n s pair.epoch pair.payloads dest dest' es one other
