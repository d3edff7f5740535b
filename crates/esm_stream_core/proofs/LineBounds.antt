-- The lines of what is owed.
use Rattle.std.proofs.Common.{◌≡◌, ℕ, ◌+◌, ◌<◌, ◌≤◌, List, [], ◌∷◌, ◌++◌, take, drop, reverse, length, refl, sym, ap, ap₂, ◌∙◌, subst, Option, Some, None, arith}
use Rattle.std.specs.Prelude.{get_or}
use Rattle.std.specs.List.{cons_option}
use Rattle.std.proofs.lemmas.List.{reverse-append, map-append, take-append-drop, take_more}
use Rattle.std.proofs.lemmas.List.Elements.{filter_map-append}
use Rattle.esm_model.specs.Books.{entry_line}
use Rattle.esm_stream_core.specs.declared.owed.Owed.{Owed}
use Rattle.esm_stream_core.specs.CoreView.{lines_of}
use Rattle.esm_book.specs.Decided.{IsLineWithin}
use Rattle.esm_stream_core.specs.Acts.{owed_entry, entries_of}

-- of entries of which the first stands last
abbrev pub lines_in : List Owed → List (List ℕ)
lines_in xs = lines_of (entries_of (reverse xs))

lines_append : (xs ys : List Owed) → lines_in (xs ++ ys) ≡ lines_in ys ++ lines_in xs
lines_append xs ys =
    ap (λ (zs : List Owed). lines_of (entries_of zs)) (reverse-append xs ys)
    ∙ ap lines_of (map-append owed_entry (reverse ys) (reverse xs))
    ∙ filter_map-append entry_line (entries_of (reverse ys)) (entries_of (reverse xs))

lines_more : (xs : List Owed) (i : ℕ) (o : Owed) → i < length xs → o ≡ get_or xs i o → lines_in (take (i + 1) xs) ≡ cons_option (entry_line (owed_entry o)) [] ++ lines_in (take i xs)
lines_more xs i o low is =
    ap lines_in (take_more xs i o low ∙ ap (λ (x : Owed). take i xs ++ x ∷ []) (sym is))
    ∙ lines_append (take i xs) (o ∷ [])

-- none of them has one so far
pub none_more : (xs : List Owed) (i : ℕ) (o : Owed) → i < length xs → o ≡ get_or xs i o → entry_line (owed_entry o) ≡ None → lines_in (take i xs) ≡ [] → lines_in (take (i + 1) xs) ≡ []
none_more xs i o low is none so_far =
    lines_more xs i o low is ∙ ap₂ (λ (l : Option (List ℕ)) (ls : List (List ℕ)). cons_option l [] ++ ls) none so_far

-- the one that is found is the only one

only_one : (before after : List (List ℕ)) (line : List ℕ) → length (before ++ line ∷ after) ≤ 1 → before ++ line ∷ after ≡ line ∷ []
only_one [] [] line few = refl
only_one [] (x ∷ after) line few = absurd (omega (arith, few))
only_one (x ∷ before) after line few = absurd (at_least before few)
  where
    at_least : (before : List (List ℕ)) → length (x ∷ before ++ line ∷ after) ≤ 1 → ⊥
    at_least [] few = omega (arith, few)
    at_least (y ∷ before) few = omega (arith, few)

pub line_found : (xs : List Owed) (i : ℕ) (o : Owed) (line : List ℕ) → i < length xs → o ≡ get_or xs i o → entry_line (owed_entry o) ≡ Some line → length (lines_in xs) ≤ 1 → lines_in xs ≡ line ∷ []
line_found xs i o line low is has few =
    let all : lines_in xs ≡ lines_in (drop (i + 1) xs) ++ line ∷ lines_in (take i xs) =
    ap lines_in (sym (take-append-drop (i + 1) xs))
    ∙ lines_append (take (i + 1) xs) (drop (i + 1) xs)
    ∙ ap (λ (ls : List (List ℕ)). lines_in (drop (i + 1) xs) ++ ls) (lines_more xs i o low is ∙ ap (λ (l : Option (List ℕ)). cons_option l [] ++ lines_in (take i xs)) has) in
    all ∙ only_one (lines_in (drop (i + 1) xs)) (lines_in (take i xs)) line (subst (λ (ls : List (List ℕ)). length ls ≤ 1) all few)

pub line_within : (xs : List Owed) (i : ℕ) (o : Owed) (line : List ℕ) → i < length xs → o ≡ get_or xs i o → entry_line (owed_entry o) ≡ Some line → length (lines_in xs) ≤ 1 → IsLineWithin (lines_in xs) (length line)
line_within xs i o line low is has few =
    subst (λ (ls : List (List ℕ)). IsLineWithin ls (length line)) (sym (line_found xs i o line low is has few)) (omega arith, refl)
