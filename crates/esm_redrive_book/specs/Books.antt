-- What contracts see of the book of a redrive. This product's own.
use Rattle.std.specs.Prelude.{ℕ, List, Option}
use Rattle.esm_book.specs.Meanings.{CoreMeaning}
use Rattle.esm_book.specs.State.{DurableState}
use Rattle.esm_redrive_core.specs.declared.decisions.RedriveEntry.{RedriveEntry}
use Rattle.esm_redrive_core.specs.RedriveView.{RedriveView}
use Rattle.esm_redrive_core.specs.Told.{history_of, owed_of}

-- The core has the setting over which the history is judged, the history with its newest entry first, and what was
-- decided and is not yet added. The state also has the journal and the dead-letter file as they are and as they were at
-- opening, and why the book is down, if it is.
abbrev pub BookState : Type 0 → Type 0 → Type 0
BookState D T = DurableState RedriveView D T

-- what is written of a core's entries
abbrev pub payload_in : RedriveEntry → Option (List ℕ)
payload_in e = e.payload

abbrev pub line_in : RedriveEntry → Option (List ℕ)
line_in e = e.line

abbrev pub redrive_meaning : CoreMeaning RedriveView RedriveEntry
redrive_meaning = record { history = history_of; owed = owed_of; payload = payload_in; line = line_in }
