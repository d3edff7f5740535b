-- What records that come leave of a history that is legal and settled. This product's own.
use Rattle.std.specs.Prelude.{◌≡◌, ℕ, false, List, ◌∷◌, ◌++◌, length, None}
use Rattle.esm_model.specs.Records.{Record}
use Rattle.esm_model.specs.declared.entry.Entry.{Entry}
use Rattle.esm_model.specs.Setting.{Setting, Stream, Extends, over, records_of}
use Rattle.esm_model.specs.Entries.{came_count, is_shut}
use Rattle.esm_model.specs.Step.{IsLater, IsKept}
use Rattle.esm_model.specs.Owed.{unsorted, Settled}
use Rattle.esm_ledger.specs.Coming.{grown}
use Rattle.esm_ledger.specs.Ledger.{LegalOver}
use Rattle.esm_ingest.specs.Coming.{with_records}
use Rattle.esm_ingest.specs.Parts.{Part, parts_of, grown_by}
use Rattle.esm_ingest.specs.Changes.{first_change}
use Rattle.esm_ingest.specs.Entries.{with_entries, came_part, came_parts, arrival_entries}

-- the history requires nothing more, over all lists of records that extend the setting's own
abbrev pub SettledOver : Setting → List Entry → Type 0
SettledOver s h = (streams : List Stream) → Extends s.streams streams → Settled (over s streams) h

-- the setting with these records too
abbrev pub with_all : Setting → List Record → Setting
with_all s rs = over s (with_records s.streams rs)

-- the records may come at the moment
pub record MayArrive (s : Setting) (h : List Entry) (rs : List Record) (m : ℕ) : Type 0 where
  pub legal : LegalOver s h
  pub settled : SettledOver s h
  pub all : (n : ℕ) → came_count h n ≡ length (records_of s n)
  pub going : is_shut h ≡ false
  pub later : IsLater h m
  pub unchanged : first_change s h rs ≡ None

-- a part comes after those before it
pub record PartComes (s : Setting) (h : List Entry) (m : ℕ) (before : List Part) (p : Part) : Type 0 where
  pub first : p.first ≡ came_count (with_entries h (came_parts m before)) p.shard
  pub legal : LegalOver (grown (over s (grown_by s.streams before)) p.shard p.records) (came_part m p ∷ with_entries h (came_parts m before))

-- one part after the other
abbrev pub PartsCome : Setting → List Entry → List Record → ℕ → Type 0
PartsCome s h rs m = (before : List Part) (p : Part) (left : List Part) → before ++ p ∷ left ≡ parts_of s h rs → PartComes s h m before p

-- each entry may be added, over the setting with all records
abbrev pub ArrivalIsLegal : Setting → List Entry → List Record → ℕ → Type 0
ArrivalIsLegal s h rs m = (before : List Entry) (e : Entry) (left : List Entry) → before ++ e ∷ left ≡ arrival_entries s h rs m → LegalOver (with_all s rs) (e ∷ with_entries h before)

-- then nothing more is required
abbrev pub ArrivalIsSettled : Setting → List Entry → List Record → ℕ → Type 0
ArrivalIsSettled s h rs m = SettledOver (with_all s rs) (with_entries h (arrival_entries s h rs m))

-- once all came, the refused places of each part are those that are open and do not pass
abbrev pub RefusedAreUnsorted : Setting → List Entry → List Record → ℕ → Type 0
RefusedAreUnsorted s h rs m =
    (before : List Part) (p : Part) (left : List Part) → before ++ p ∷ left ≡ parts_of s h rs
    → p.refused ≡ unsorted (with_all s rs) (with_entries h (came_parts m (parts_of s h rs))) p.shard

-- each record of the parts has the sequence number that was kept of it
abbrev pub PartsAreKept : Setting → List Entry → List Record → Type 0
PartsAreKept s h rs =
    (before : List Part) (p : Part) (left : List Part) → before ++ p ∷ left ≡ parts_of s h rs
    → (streams : List Stream) → Extends (with_records s.streams rs) streams → IsKept (over s streams) p.shard p.first (length p.records)
