-- When arriving records differ from what the journal kept of them. This product's own.
use Rattle.std.specs.Prelude.{◌≡◌, ℕ, List, [], ◌∷◌, ◌++◌, length, slice_get, Option, Some, None, option_map, if◌then◌else◌}
use Rattle.std.specs.Option.{option_or}
use Rattle.std.specs.Str.{bytes_eq}
use Rattle.esm_model.specs.Records.{Record}
use Rattle.esm_model.specs.declared.book.Change.{Change}
use Rattle.esm_model.specs.declared.setup.FoundFate.{FoundFate}
use Rattle.esm_model.specs.declared.setup.FoundTries.{FoundTries}
use Rattle.esm_journal_state.specs.SaidLists.{SaidLists, fate_told, tries_told}
use Rattle.esm_replay.specs.Records.{of_shard}

-- the kept text, if it differs from the sequence number
abbrev pub other_text : List ℕ → Option (List ℕ) → Option (List ℕ)
other_text seq None = None
other_text seq (Some kept) = if bytes_eq kept seq then None else Some kept

-- the text kept with the fate of the place, or else that kept with its tries, if it differs
abbrev pub kept_otherwise : SaidLists → ℕ → ℕ → List ℕ → Option (List ℕ)
kept_otherwise told n i seq =
    option_or (other_text seq (option_map (λ (f : FoundFate). f.text) (fate_told told n i))) (other_text seq (option_map (λ (f : FoundTries). f.text) (tries_told told n i)))

abbrev pub change_of : Record → ℕ → List ℕ → Change
change_of r i kept = record { shard = r.shard; place = i; kept = kept; given = r.seq }

-- how the record differs, if it arrives after these
abbrev pub change_at : SaidLists → List Record → Record → Option Change
change_at told before r =
    let place = length (of_shard r.shard before) in
    option_map (change_of r place) (kept_otherwise told r.shard place r.seq)

-- the first of the records that differs, if these arrived before
abbrev pub first_change : SaidLists → List Record → List Record → Option Change
first_change told before [] = None
first_change told before (r ∷ rs) = option_or (change_at told before r) (first_change told (before ++ r ∷ []) rs)

-- no record of any shard differs from what was kept of its place
abbrev pub NoneDiffers : SaidLists → List Record → Type 0
NoneDiffers told rs = (n i : ℕ) (r : Record) → slice_get (of_shard n rs) i ≡ Some r → kept_otherwise told n i r.seq ≡ None

-- the journal kept this text of the place, and another is given now
pub record IsKeptChange (told : SaidLists) (change : Change) : Type 0 where
  pub found : kept_otherwise told change.shard change.place change.given ≡ Some change.kept
