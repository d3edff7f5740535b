-- What a list of records brings, as it is gathered part by part. Only this crate's proofs cite this.
use Rattle.std.specs.Prelude.{◌≡◌, ℕ, ◌+◌, ◌-◌, ◌<◌, ◌≤◌, List, [], ◌∷◌, ◌++◌, length, map, filter_map, slice_get, Some, None, ⊤}
use Rattle.std.specs.List.{All}
use Rattle.esm_model.specs.declared.limits.TheConstants.{MAX_BATCH}
use Rattle.esm_model.specs.Records.{Record}
use Rattle.esm_model.specs.declared.entry.Fate.TheVariants.{Filtered}
use Rattle.esm_model.specs.declared.entry.Entry.{Entry}
use Rattle.esm_model.specs.Valid.{IsValidRecord}
use Rattle.esm_model.specs.Setting.{Setting}
use Rattle.esm_journal_record.specs.declared.said.Said.{Said}
use Rattle.esm_journal_record.specs.declared.said.Said.TheVariants.{Fates}
use Rattle.esm_journal_record.specs.Payload.{payload_of, IsSaid}
use Rattle.esm_ledger.specs.declared.ledger.Ledger.{Ledger}
use Rattle.esm_ledger.specs.declared.coming.Coming.{Coming}
use Rattle.esm_ledger.specs.Coming.{IsComing}
use Rattle.esm_ingest.specs.Coming.{FitPlaces}
use Rattle.esm_ingest.specs.Parts.{Part, parts_of as parts_in, refused_from, CanCome}
use Rattle.esm_ingest.specs.Sound.{MayArrive}
use Rattle.esm_stream_core.specs.declared.owed.Owed.{Owed}
use Rattle.esm_stream_core.specs.declared.owed.Act.TheVariants as act
use Rattle.esm_stream_core.specs.declared.arriving.Gathered.{Gathered}
use Rattle.esm_stream_core.specs.Calls.{stream_of, streams_of}
use Rattle.esm_stream_core.specs.Acts.{part_of, parts_of}

-- the place is one of `count` from `first` on
abbrev pub IsFrom : ℕ → ℕ → ℕ → Type 0
IsFrom first count i = (first ≤ i) × (i < first + count)

-- the sequence numbers of the records at the places; the first of the records is at the place `first`
abbrev pub names_in : ℕ → List Record → List ℕ → List (List ℕ)
names_in first records places = map (λ (r : Record). r.seq) (filter_map (λ (i : ℕ). slice_get records (i - first)) places)

-- what is said of the refused places of a part
abbrev pub part_said : ℕ → Part → Said
part_said m p = Fates p.shard Filtered m None p.refused (names_in p.first p.records p.refused)

-- the `Came` of the part
abbrev pub came_owed : ℕ → Part → Owed
came_owed m p = record { act = act.Came p.shard p.first (length p.records) m; payload = None }

-- the entry by which its refused places are filtered
abbrev pub filtered_owed : ℕ → Part → Owed
filtered_owed m p = record { act = act.Gave None p.shard p.refused Filtered None None None m; payload = Some (payload_of (part_said m p)) }

-- if it has any
abbrev pub filtered_if_any : ℕ → Part → List ℕ → List Owed
filtered_if_any m p [] = []
filtered_if_any m p (i ∷ places) = filtered_owed m p ∷ []

abbrev pub filtered_of : ℕ → Part → List Owed
filtered_of m p = filtered_if_any m p p.refused

abbrev pub all_came : ℕ → List Part → List Owed
all_came m ps = map (came_owed m) ps

abbrev pub all_filtered : ℕ → List Part → List Owed
all_filtered m [] = []
all_filtered m (p ∷ ps) = filtered_of m p ++ all_filtered m ps

-- the parts are those of a list of valid records, not more than a batch has, which may come at the moment
pub record MayBring (s : Setting) (h : List Entry) (ps : List Part) (m : ℕ) : Type 0 where
  pub items : List Record
  pub parts : ps ≡ parts_in s h items
  pub may : MayArrive s h items m
  pub valid : All IsValidRecord items
  pub few : length items ≤ MAX_BATCH
  pub places : FitPlaces h items

-- a ledger can prepare the records of the part, and what is refused of them can be said
pub record CanTake (s : Setting) (h : List Entry) (m : ℕ) (p : Part) : Type 0 where
  pub can : CanCome h p
  pub valid : All IsValidRecord p.records
  pub refused : p.refused ≡ refused_from s p.shard p.first p.records
  pub said : 1 ≤ length p.refused → IsSaid (part_said m p)

-- there is memory for each
abbrev pub AreComing : Ledger → List Coming → Type 0
AreComing c [] = ⊤
AreComing c (x ∷ xs) = IsComing c x × AreComing c xs

-- the records of these parts are prepared, and all that they bring is gathered
pub record IsGathered (c : Ledger) (m : ℕ) (ps : List Part) (g : Gathered) : Type 0 where
  pub coming : parts_of g.coming.items ≡ streams_of ps
  pub prepared : AreComing c g.coming.items
  pub came : g.came.items ≡ all_came m ps
  pub filtered : g.filtered.items ≡ all_filtered m ps

-- the records of one more part are prepared
pub record IsTaken (c : Ledger) (p : Part) (before after : List Coming) : Type 0 where
  pub item : Coming
  pub items : after ≡ before ++ item ∷ []
  pub coming : IsComing c item
  pub part : part_of item ≡ stream_of p
