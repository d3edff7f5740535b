-- The lexemes of a text with their places are the lexer's, and the places are those where one lexeme more begins.
use Rattle.std.proofs.Common.{◌≡◌, ℕ, ◌+◌, List, [], ◌∷◌, ◌++◌, length, map, nat_lt, if◌then◌else◌, Option, Some, None, is_some, refl, sym, ap, ap₂, ◌∙◌, arith, length-append}
use Rattle.std.proofs.lemmas.Bool.{lt-ltb, le-ltb}
use Rattle.json.specs.Lex.{Lexeme, Class, quote, backslash, operator, space, other, class, Mode, between, in_word, in_string, in_escape, lex_byte, lex}
use Rattle.esm_model.specs.State.{begun, places}
use Rattle.esm_window.specs.Layout.{next, begin, put, Placed, put_at, lay, mode_at}

pub lex_step : (m : Mode) (c : Class) (x : ℕ) (xs : List ℕ) (k : Mode → List Lexeme) → lex_byte m c x xs k ≡ put (begin m c x xs) (k (next m c))
lex_step between quote x xs k = refl
lex_step between backslash x xs k = refl
lex_step between operator x xs k = refl
lex_step between space x xs k = refl
lex_step between other x xs k = refl
lex_step in_word quote x xs k = refl
lex_step in_word backslash x xs k = refl
lex_step in_word operator x xs k = refl
lex_step in_word space x xs k = refl
lex_step in_word other x xs k = refl
lex_step in_string quote x xs k = refl
lex_step in_string backslash x xs k = refl
lex_step in_string operator x xs k = refl
lex_step in_string space x xs k = refl
lex_step in_string other x xs k = refl
lex_step in_escape c x xs k = refl

pub lex-cons : (m : Mode) (x : ℕ) (xs : List ℕ) → lex m (x ∷ xs) ≡ put (begin m (class x) x xs) (lex (next m (class x)) xs)
unfolding lex
lex-cons m x xs = lex_step m (class x) x xs (λ n. lex n xs)

pub lex-nil : (m : Mode) → lex m [] ≡ []
unfolding lex
lex-nil m = refl

put_lexemes : (p : ℕ) (o : Option Lexeme) (ls : Placed) → map (λ q. q.1) (put_at p o ls) ≡ put o (map (λ q. q.1) ls)
put_lexemes p None ls = refl
put_lexemes p (Some l) ls = refl

pub lexemes-lay : (m : Mode) (p : ℕ) (xs : List ℕ) → map (λ q. q.1) (lay m p xs) ≡ lex m xs
unfolding lay
lexemes-lay m p [] = sym (lex-nil m)
lexemes-lay m p (x ∷ xs) =
    put_lexemes p (begin m (class x) x xs) (lay (next m (class x)) (p + 1) xs)
    ∙ ap (put (begin m (class x) x xs)) (lexemes-lay (next m (class x)) (p + 1) xs) ∙ sym (lex-cons m x xs)

-- ---- counting

abbrev count : Option Lexeme → ℕ
count None = 0
count (Some l) = 1

length_put : (o : Option Lexeme) (ls : List Lexeme) → length (put o ls) ≡ count o + length ls
length_put None ls = omega arith
length_put (Some l) ls = omega arith

-- what follows plays no part
same_count : (m : Mode) (c : Class) (x : ℕ) (xs ys : List ℕ) → count (begin m c x xs) ≡ count (begin m c x ys)
same_count between quote x xs ys = refl
same_count between backslash x xs ys = refl
same_count between operator x xs ys = refl
same_count between space x xs ys = refl
same_count between other x xs ys = refl
same_count in_word quote x xs ys = refl
same_count in_word backslash x xs ys = refl
same_count in_word operator x xs ys = refl
same_count in_word space x xs ys = refl
same_count in_word other x xs ys = refl
same_count in_string c x xs ys = refl
same_count in_escape c x xs ys = refl

length_cons : (m : Mode) (x : ℕ) (xs : List ℕ) → length (lex m (x ∷ xs)) ≡ count (begin m (class x) x xs) + length (lex (next m (class x)) xs)
length_cons m x xs = ap length (lex-cons m x xs) ∙ length_put (begin m (class x) x xs) (lex (next m (class x)) xs)

one_more : (m : Mode) (before : List ℕ) (x : ℕ) → length (lex m (before ++ x ∷ [])) ≡ length (lex m before) + count (begin (mode_at m before) (class x) x [])
one_more m [] x = omega (arith, length_cons m x [], ap length (lex-nil m), ap length (lex-nil (next m (class x))))
one_more m (y ∷ ys) x =
    omega (arith, length_cons m y (ys ++ x ∷ []), length_cons m y ys, same_count m (class y) y (ys ++ x ∷ []) ys, one_more (next m (class y)) ys x)

counted : (n : ℕ) (o : Option Lexeme) → nat_lt n (n + count o) ≡ is_some o
counted n None = le-ltb n (n + 0) (omega arith)
counted n (Some l) = lt-ltb n (n + 1) (omega arith)

some_same : (o r : Option Lexeme) → count o ≡ count r → is_some o ≡ is_some r
some_same None None e = refl
some_same None (Some l) e = absurd (omega arith)
some_same (Some l) None e = absurd (omega arith)
some_same (Some l) (Some k) e = refl

mode_at-push : (m : Mode) (before : List ℕ) (x : ℕ) → mode_at m (before ++ x ∷ []) ≡ next (mode_at m before) (class x)
mode_at-push m [] x = refl
mode_at-push m (y ∷ ys) x = mode_at-push (next m (class y)) ys x

put_places : (p : ℕ) (o : Option Lexeme) (ls : Placed) → (if is_some o then p ∷ [] else []) ++ map (λ q. q.0) ls ≡ map (λ q. q.0) (put_at p o ls)
put_places p None ls = refl
put_places p (Some l) ls = refl

pub places_are : (before xs : List ℕ) → places before xs ≡ map (λ q. q.0) (lay (mode_at between before) (length before) xs)
unfolding places lay
places_are before [] = refl
places_are before (x ∷ xs) =
    let m = mode_at between before in
    let o = begin m (class x) x xs in
    let more : nat_lt (begun before) (begun (before ++ x ∷ [])) ≡ is_some o =
    ap (nat_lt (begun before)) (one_more between before x) ∙ counted (begun before) (begin m (class x) x [])
    ∙ some_same (begin m (class x) x []) o (same_count m (class x) x [] xs) in
    let long : length (before ++ x ∷ []) ≡ length before + 1 = length-append before (x ∷ []) in
    let rest : places (before ++ x ∷ []) xs ≡ map (λ q. q.0) (lay (next m (class x)) (length before + 1) xs) =
    places_are (before ++ x ∷ []) xs ∙ ap₂ (λ n p. map (λ q. q.0) (lay n p xs)) (mode_at-push between before x) long in
    ap₂ (λ b r. (if b then length before ∷ [] else []) ++ r) more rest ∙ put_places (length before) o (lay (next m (class x)) (length before + 1) xs)
