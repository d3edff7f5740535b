-- The one caller of a command that makes its calls one after the other. This product's own.
use Rattle.std.specs.Prelude.{◌≡◌, ◌∷◌, List}

-- only the first caller was used: it was `before`, and is now `after`
pub record IsFirstUsed {F : Type 0} (old new : List F) (before after : F) : Type 0 where
  pub rest : List F
  pub was : old ≡ before ∷ rest
  pub is : new ≡ after ∷ rest
