-- The elements of a list after its first one, each preceded by a comma. Only this crate's proofs cite this.
use Rattle.std.specs.Prelude.{ℕ, List, ◌++◌, codes}
use Rattle.esm_model.specs.Numbers.{decimal}

unfoldable pub following_place : ℕ → List ℕ
following_place place = codes "," ++ decimal place
