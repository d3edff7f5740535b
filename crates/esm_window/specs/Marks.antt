-- What a scan of an answer has found when it is at some place. Only this crate's proofs cite this.
use Rattle.std.specs.Prelude.{ℕ, ◌<◌, List, [], ◌∷◌, ◌++◌, Option, ⊤}
use Rattle.std.specs.Option.{option_or, IfSome}
use Rattle.esm_window.specs.Scan.{Part, outside, in_text, in_escape, last_state}
use Rattle.esm_window.specs.declared.part.Part as scanned
use Rattle.esm_window.specs.declared.part.Part.TheVariants as variant
use Rattle.esm_window.specs.declared.marks.Marks.{Marks}
use Rattle.esm_window.specs.declared.marks.Marks.TheVariants.{Nothing, Opened, Keyed}
use Rattle.esm_window.specs.declared.marks.Scan.{Scan}

abbrev pub part_of : scanned.Part → Part
part_of variant.Outside = outside
part_of variant.InText = in_text
part_of variant.InEscape = in_escape

-- the marks of the member whose end was not reached yet
abbrev pub pending : Marks → List ℕ
pending Nothing = []
pending (Opened start) = start ∷ []
pending (Keyed start colon) = start ∷ colon ∷ []

-- the last member whose key reads as `state`, where these marks follow
abbrev pub finds : List ℕ → Scan → List ℕ → Option (ℕ × ℕ)
finds text scan more = option_or (last_state text (pending scan.marks ++ more)) scan.found

abbrev pub AreBefore : ℕ → Marks → Type 0
AreBefore place Nothing = ⊤
AreBefore place (Opened start) = start < place
AreBefore place (Keyed start colon) = (start < colon) × (colon < place)

-- what was found is before the place
pub record IsBefore (place : ℕ) (scan : Scan) : Type 0 where
  pub marks : AreBefore place scan.marks
  pub found : IfSome scan.found (λ p. (p.0 < p.1) × (p.1 < place))
