-- Texts that are parts of one text. Only this crate's proofs cite this.
use Rattle.std.specs.Prelude.{ℕ, List, map, IsUtf8}
use Rattle.std.specs.List.{AllByRecursion}
use Rattle.esm_model.specs.Records.{part_of, IsWithin}
use Rattle.esm_model.specs.declared.part.Part.{Part}

-- the part is a text
abbrev pub IsTextIn : List ℕ → Part → Type 0
IsTextIn text p = IsWithin text p × IsUtf8 (part_of text p)

abbrev pub AreTextsIn : List ℕ → List Part → Type 0
AreTextsIn text parts = AllByRecursion (IsTextIn text) parts

-- the bytes of the parts
abbrev pub parts_in : List ℕ → List Part → List (List ℕ)
parts_in text parts = map (part_of text) parts
