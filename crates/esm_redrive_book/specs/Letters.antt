-- What a crash leaves of the dead-letter file of a redrive, and of its journal at the same time: a line is written before
-- its deletion. This product's own.
use Rattle.std.specs.Prelude.{◌≡◌, ◌++◌, ℕ, true, List, Some, map}
use Rattle.esm_io.specs.Meanings.{DiskMeaning, DestMeaning}
use Rattle.esm_journal.specs.File.{header_of}
use Rattle.esm_journal.specs.Pair.{PairOpensTo}
use Rattle.esm_book.specs.Decided.{written_of}
use Rattle.esm_book.specs.Growth.{ReadsFront, IsHeld}
use Rattle.esm_redrive_core.specs.declared.decisions.RedriveEntry.{RedriveEntry}
use Rattle.esm_redrive_book.specs.Books.{BookState, payload_in, line_in}
use Rattle.esm_redrive_book.specs.Keeping.{entries_left, lines_left}

-- Suppose that a crash at its opening leaves the dead-letter file with exactly these lines. Then whatever a crash leaves
-- of it at any moment since reads as these lines, followed by those of a prefix of the history's entries, in their order.
abbrev pub LeavesLetters : {D T : Type 0} → DestMeaning T → BookState D T → Type 0
LeavesLetters n b =
    n.honest b.found_dest ≡ true → (held : List (List ℕ)) → n.lines b.found_dest ≡ Some held → IsHeld n b.found_dest held → (left : List ℕ) →
    n.since b.dest (n.moment b.found_dest) left → ReadsFront n.reads_as held (map n.sends (written_of line_in (lines_left b))) left

-- Two disks, in either order, open to the payloads from before, and then to those of a prefix of these entries. A
-- dead-letter file reads as the lines from before, those of the same prefix, and perhaps more after them.
pub record OpensWithLetters {T : Type 0} (n : DestMeaning T) (epoch : ℕ) (before held : List (List ℕ)) (entries : List RedriveEntry) (one other left : List ℕ) : Type 0 where
  pub front : List RedriveEntry
  pub rest : List RedriveEntry
  pub split : front ++ rest ≡ entries
  pub opens : PairOpensTo (header_of 2) epoch (before ++ written_of payload_in front) one other
  pub more : List (List ℕ)
  pub reads : n.reads_as left (held ++ (map n.sends (written_of line_in front) ++ more))

-- Whatever a crash left of both disks of the journal, at any moment from the opening until now, and whatever one leaves
-- of the dead-letter file from now until it is the later one: the file has the line of each deletion that the journal
-- has.
abbrev pub LinesStandFirst : {D T : Type 0} → DiskMeaning D → DestMeaning T → BookState D T → (later : T) → Type 0
LinesStandFirst m n b later =
    m.honest b.found.used ≡ true → m.honest b.found.spare ≡ true → n.honest b.found_dest ≡ true → (held : List (List ℕ)) → n.lines b.found_dest ≡ Some held → IsHeld n b.found_dest held → (one other left : List ℕ) →
    m.since b.pair.used (m.moment b.found.used) one → m.since b.pair.spare (m.moment b.found.spare) other → n.since later (n.moment b.dest) left →
    OpensWithLetters n b.found.epoch b.found.payloads held (entries_left b) one other left
