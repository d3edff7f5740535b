-- Bytes that are cut at their line feeds.
use Rattle.std.specs.Prelude.{◌≡◌, ℕ, false, List, ◌∷◌, ◌++◌}
use Rattle.std.specs.List.{All}
use Rattle.esm_record.specs.Input.{is_line_feed}

-- none of the bytes is a line feed
abbrev pub NoLineFeed : List ℕ → Type 0
NoLineFeed bytes = All (λ b. is_line_feed b ≡ false) bytes

-- the bytes up to the first line feed, and what follows it
pub record IsFirstLine (bytes line after : List ℕ) : Type 0 where
  pub parts : bytes ≡ line ++ 10 ∷ after
  pub none : NoLineFeed line
