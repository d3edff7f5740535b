-- Entries that are kept for windows, in the order of the windows, and the look-ups in them. This product's own.
use Rattle.std.specs.Prelude.{ℕ, Bool, List, Option, Some, None, is_some, unwrap_or}
use Rattle.std.specs.Map.{lookup}
use Rattle.std.specs.BTreeMap.{is_at}
use Rattle.std.specs.Ordering.{nat_cmp}

-- what is kept for the window
abbrev pub entry_at : {X : Type 0} → List (ℕ × X) → ℕ → Option X
entry_at entries w = lookup (is_at (nat_cmp w)) entries

-- the window has an entry
abbrev pub has_entry : {X : Type 0} → List (ℕ × X) → ℕ → Bool
has_entry entries w = is_some (entry_at entries w)

-- the number that is kept for the window, or 0
abbrev pub count_at : List (ℕ × ℕ) → ℕ → ℕ
count_at entries w = unwrap_or (entry_at entries w) 0

abbrev pub text_in : Option (Option (List ℕ)) → Option (List ℕ)
text_in None = None
text_in (Some text) = text

-- the text that is kept for the window, if there is one
abbrev pub text_at : List (ℕ × Option (List ℕ)) → ℕ → Option (List ℕ)
text_at entries w = text_in (entry_at entries w)
