-- What the index of a batch's identifiers finds. Only this crate's proofs cite this.
use Rattle.std.specs.Prelude.{◌≡◌, ℕ, List, Option}
use Rattle.std.specs.BTreeMap.{get_by}
use Rattle.std.specs.Cmp.Lexicographic.{slice_cmp}
use Rattle.std.specs.List.{position}
use Rattle.std.specs.Ordering.{nat_cmp}
use Rattle.std.specs.Str.{bytes_eq}
use Rattle.esm_verdict.specs.declared.index.Index.{Index}

abbrev pub finds : Index → List ℕ → Option ℕ
finds index id = get_by (λ k. slice_cmp nat_cmp id k.now) index.positions

-- the index finds the first position of each identifier, and nothing for any other text
abbrev pub Indexes : List (List ℕ) → Index → Type 0
Indexes ids index = (id : List ℕ) → finds index id ≡ position (λ i. bytes_eq i id) ids
