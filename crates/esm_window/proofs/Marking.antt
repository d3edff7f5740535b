-- Over good lexemes the scan of the bytes marks what the scan of the lexemes marks.
use Rattle.std.proofs.Common.{◌≡◌, ℕ, ◌+◌, List, [], ◌∷◌, true, if◌then◌else◌, Option, Some, None, refl, sym, ap, ◌∙◌, subst}
use Rattle.json.specs.Word.{word}
use Rattle.json.specs.Lex.{Lexeme, class, Mode, lex}
use Rattle.json.specs.Align.{is_good}
use Rattle.esm_window.specs.Scan as scan
use Rattle.esm_window.specs.Layout.{next, begin, put, Placed, put_at, lay, begins_mark, begins_deep, marked, scanned, AllGood, GoodBegin, clean_byte, clean, InWord}
use Rattle.esm_window.proofs.Layouts.{lex-cons}
use Rattle.esm_window.proofs.Words.{word_clean}
use Rattle.esm_window.proofs.Bytes.{facts, Stepped, step}

good_parts : (o : Option Lexeme) (ls : List Lexeme) → AllGood (put o ls) → GoodBegin o × AllGood ls
good_parts None ls g = (tt, g)
good_parts (Some l) ls g = g

put_marked : (depth p : ℕ) (o : Option Lexeme) (ls : Placed)
    → (if begins_mark depth o then p ∷ marked (begins_deep depth o) ls else marked (begins_deep depth o) ls) ≡ marked depth (put_at p o ls)
unfolding marked
put_marked depth p None ls = refl
put_marked depth p (Some l) ls = refl

clean-cons : (x : ℕ) (xs : List ℕ) → clean (x ∷ xs) ≡ clean_byte (class x) (clean xs)
unfolding clean
clean-cons x xs = refl

in_word_cons : (m : Mode) (x : ℕ) (xs : List ℕ) → InWord m (clean (x ∷ xs)) → InWord m (clean_byte (class x) (clean xs))
in_word_cons m x xs w = subst (InWord m) (clean-cons x xs) w

pub marks_are : (m : Mode) (depth p : ℕ) (xs : List ℕ) → InWord m (clean xs) → AllGood (lex m xs) → scan.marks (scanned m) depth p xs ≡ marked depth (lay m p xs)
unfolding scan.marks lay marked
marks_are m depth p [] w g = refl
marks_are m depth p (x ∷ xs) w g =
    let o = begin m (class x) x xs in
    let n = next m (class x) in
    let parts : GoodBegin o × AllGood (lex n xs) = good_parts o (lex n xs) (subst AllGood (lex-cons m x xs) g) in
    let words : is_good (word (x ∷ xs)) ≡ true → clean_byte (class x) (clean xs) ≡ true = λ good. sym (clean-cons x xs) ∙ word_clean (x ∷ xs) good in
    let s : Stepped m (class x) x xs = step m (class x) x xs (facts x) (in_word_cons m x xs w) parts.0 words in
    let rest = marks_are n (begins_deep depth o) (p + 1) xs s.word parts.1 in
    (λ i. if s.mark depth i then p ∷ scan.marks (s.part i) (s.depth depth i) (p + 1) xs else scan.marks (s.part i) (s.depth depth i) (p + 1) xs)
    ∙ ap (λ r. if begins_mark depth o then p ∷ r else r) rest ∙ put_marked depth p o (lay n (p + 1) xs)
