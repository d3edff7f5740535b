-- What a text in quotes stands for does not depend on the bytes after the next lexeme.
use Rattle.std.proofs.Common.{◌≡◌, ℕ, suc, ◌+◌, ◌*◌, Bool, true, false, cond, ◌&&◌, ◌==◌, nat_lt, List, [], ◌∷◌, take, Option, Some, None, refl, ap, ◌∙◌, arith}
use Rattle.std.specs.Prelude.{⊤}
use Rattle.std.specs.Option.{option_and_then}
use Rattle.std.proofs.lemmas.Bool.{eqb-true, and_parts}
use Rattle.std.specs.Char.{is_digit, digit_value, encode_utf8}
use Rattle.json.specs.Text.{code_unit, short_escape, is_high_surrogate, is_low_surrogate, surrogate_pair, Within, plain, after_backslash, after_u, after_high, prepend, content}
use Rattle.json.specs.Word.{is_operator, is_space}
use Rattle.json.specs.Lex.{Lexeme, Class, quote, backslash, operator, space, other, class, Mode, between, in_word, in_string, in_escape, lex}
use Rattle.esm_window.specs.Layout.{next, begin, put, Placed, put_at, lay, gap_before, gap}
use Rattle.esm_window.proofs.Layouts.{lex-cons, lex-nil}
use Rattle.esm_window.proofs.Located.{same_heads}

pub take_one : (n x : ℕ) (xs : List ℕ) → take (1 + n) (x ∷ xs) ≡ x ∷ take n xs
take_one n x xs = let same : 1 + n ≡ suc n = omega arith in ap (λ k. take k (x ∷ xs)) same

-- ---- up to the next lexeme

gap_step : (m : Mode) (x p : ℕ) (xs : List ℕ) (q : ℕ × Lexeme) (rest : Placed) (o : Option Lexeme)
    → (lay (next m (class x)) (p + 1) xs ≡ q ∷ rest → q.0 ≡ p + 1 + gap (next m (class x)) xs)
    → put_at p o (lay (next m (class x)) (p + 1) xs) ≡ q ∷ rest → q.0 ≡ p + gap_before o (gap (next m (class x)) xs)
gap_step m x p xs q rest None ih e = omega (arith, ih e)
gap_step m x p xs q rest (Some l) ih e = omega (arith, (same_heads (p, l) q (lay (next m (class x)) (p + 1) xs) rest e).0)

pub gap_place : (m : Mode) (p : ℕ) (xs : List ℕ) (q : ℕ × Lexeme) (rest : Placed) → lay m p xs ≡ q ∷ rest → q.0 ≡ p + gap m xs
unfolding lay gap
gap_place m p [] q rest e = cc
gap_place m p (x ∷ xs) q rest e = gap_step m x p xs q rest (begin m (class x) x xs) (gap_place (next m (class x)) (p + 1) xs q rest) e

none_same : (m : Mode) (c : Class) (x : ℕ) (xs ys : List ℕ) → begin m c x xs ≡ None → begin m c x ys ≡ None
none_same between quote x xs ys e = cc
none_same between backslash x xs ys e = cc
none_same between operator x xs ys e = cc
none_same between space x xs ys e = refl
none_same between other x xs ys e = cc
none_same in_word quote x xs ys e = refl
none_same in_word backslash x xs ys e = refl
none_same in_word operator x xs ys e = cc
none_same in_word space x xs ys e = refl
none_same in_word other x xs ys e = refl
none_same in_string c x xs ys e = refl
none_same in_escape c x xs ys e = refl

empty_step : (m : Mode) (x : ℕ) (xs : List ℕ) (o : Option Lexeme) → begin m (class x) x xs ≡ o → lex (next m (class x)) (take (gap (next m (class x)) xs) xs) ≡ []
    → lex m (take (gap_before o (gap (next m (class x)) xs)) (x ∷ xs)) ≡ []
empty_step m x xs None e ih =
    let ys = take (gap (next m (class x)) xs) xs in
    ap (lex m) (take_one (gap (next m (class x)) xs) x xs) ∙ lex-cons m x ys ∙ ap (λ o. put o (lex (next m (class x)) ys)) (none_same m (class x) x xs ys e) ∙ ih
empty_step m x xs (Some l) e ih = lex-nil m

pub gap_empty : (m : Mode) (xs : List ℕ) → lex m (take (gap m xs) xs) ≡ []
unfolding gap
gap_empty m [] = lex-nil m
gap_empty m (x ∷ xs) = empty_step m x xs (begin m (class x) x xs) refl (gap_empty (next m (class x)) xs)

-- ---- bytes in a text

gap_quote : (xs : List ℕ) → gap in_string (34 ∷ xs) ≡ 1 + gap between xs
unfolding gap
gap_quote xs = refl

gap_slash : (xs : List ℕ) → gap in_string (92 ∷ xs) ≡ 1 + gap in_escape xs
unfolding gap
gap_slash xs = refl

gap_escape : (x : ℕ) (xs : List ℕ) → gap in_escape (x ∷ xs) ≡ 1 + gap in_string xs
unfolding gap
gap_escape x xs = refl

stays : (o s : Bool) (xs : List ℕ) → gap (next in_string (cond o operator (cond s space other))) xs ≡ gap in_string xs
stays true s xs = refl
stays false true xs = refl
stays false false xs = refl

gap_plain : (x : ℕ) (xs : List ℕ) → (x == 34) ≡ false → (x == 92) ≡ false → gap in_string (x ∷ xs) ≡ 1 + gap in_string xs
unfolding gap
gap_plain x xs q b =
    (λ i. 1 + gap (next in_string (cond (q i) quote (cond (b i) backslash (cond (is_operator x) operator (cond (is_space x) space other))))) xs)
    ∙ ap (λ n. 1 + n) (stays (is_operator x) (is_space x) xs)

not_hex : (c x : ℕ) (t : Bool) → (x == c) ≡ t → is_digit c 16 ≡ false → is_digit x 16 ≡ true → (x == c) ≡ false
not_hex c x false e never h = e
not_hex c x true e never h = let same : is_digit x 16 ≡ is_digit c 16 = ap (λ y. is_digit y 16) (eqb-true x c e) in cc

gap_hex : (x : ℕ) (xs : List ℕ) → is_digit x 16 ≡ true → gap in_string (x ∷ xs) ≡ 1 + gap in_string xs
gap_hex x xs h = gap_plain x xs (not_hex 34 x (x == 34) refl refl h) (not_hex 92 x (x == 92) refl refl h)

test_of : (b : Bool) (n u : ℕ) → cond b (Some n) None ≡ Some u → b ≡ true
test_of true n u e = refl
test_of false n u e = cc

gap_unit : (a b c d u : ℕ) (xs : List ℕ) → code_unit a b c d ≡ Some u → gap in_string (a ∷ b ∷ c ∷ d ∷ xs) ≡ 4 + gap in_string xs
unfolding code_unit
gap_unit a b c d u xs e =
    let all = test_of (is_digit a 16 && is_digit b 16 && is_digit c 16 && is_digit d 16) (digit_value a * 4096 + digit_value b * 256 + digit_value c * 16 + digit_value d) u e in
    let hd = and_parts (is_digit a 16 && is_digit b 16 && is_digit c 16) (is_digit d 16) all in
    let hc = and_parts (is_digit a 16 && is_digit b 16) (is_digit c 16) hd.0 in
    let hb = and_parts (is_digit a 16) (is_digit b 16) hc.0 in
    omega (arith, gap_hex a (b ∷ c ∷ d ∷ xs) hb.0, gap_hex b (c ∷ d ∷ xs) hb.1, gap_hex c (d ∷ xs) hc.1, gap_hex d xs hd.1)

take_four : (n k a b c d : ℕ) (xs : List ℕ) → k ≡ 4 + n → take k (a ∷ b ∷ c ∷ d ∷ xs) ≡ a ∷ b ∷ c ∷ d ∷ take n xs
take_four n k a b c d xs e = let same : k ≡ suc (suc (suc (suc n))) = omega arith in ap (λ i. take i (a ∷ b ∷ c ∷ d ∷ xs)) same

take_six : (n k s u a b c d : ℕ) (xs : List ℕ) → k ≡ 6 + n → take k (s ∷ u ∷ a ∷ b ∷ c ∷ d ∷ xs) ≡ s ∷ u ∷ a ∷ b ∷ c ∷ d ∷ take n xs
take_six n k s u a b c d xs e = let same : k ≡ suc (suc (suc (suc (suc (suc n))))) = omega arith in ap (λ i. take i (s ∷ u ∷ a ∷ b ∷ c ∷ d ∷ xs)) same

-- ---- the content

-- where the first is something, the second is the same
abbrev Kept : Option (List ℕ) → Option (List ℕ) → Type 0
Kept None p = ⊤
Kept (Some s) p = p ≡ Some s

kept_as : (o p r : Option (List ℕ)) → Kept o p → r ≡ p → Kept o r
kept_as None p r h e = tt
kept_as (Some s) p r h e = e ∙ h

kept_if : (b : Bool) (x y p q : Option (List ℕ)) → Kept x p → Kept y q → Kept (cond b x y) (cond b p q)
kept_if true x y p q h k = h
kept_if false x y p q h k = k

kept_then : (f g : ℕ → Option (List ℕ)) (o : Option ℕ) → ((u : ℕ) → Kept (f u) (g u)) → Kept (option_and_then f o) (option_and_then g o)
kept_then f g None h = tt
kept_then f g (Some u) h = h u

kept_after : (a : List ℕ) (o p : Option (List ℕ)) → Kept o p → Kept (prepend a o) (prepend a p)
kept_after a None p h = tt
kept_after a (Some s) p h = ap (prepend a) h

abbrev mode : Within → Mode
mode plain = in_string
mode after_backslash = in_escape
mode after_u = in_string
mode (after_high h) = in_string

abbrev Front : Within → List ℕ → Type 0
Front w xs = Kept (content w xs) (content w (take (gap (mode w) xs) xs))

plain_front : (x : ℕ) (xs : List ℕ) (q b : Bool) → (x == 34) ≡ q → (x == 92) ≡ b → Front plain xs → Front after_backslash xs
    → Kept (cond q (Some []) (cond b (content after_backslash xs) (cond (nat_lt x 32) None (prepend (x ∷ []) (content plain xs))))) (content plain (take (gap in_string (x ∷ xs)) (x ∷ xs)))
unfolding content
plain_front x xs true b eq eb ih jh =
    ap (λ y. content plain (take (gap in_string (y ∷ xs)) (y ∷ xs))) (eqb-true x 34 eq) ∙ ap (λ n. content plain (take n (34 ∷ xs))) (gap_quote xs) ∙ ap (content plain) (take_one (gap between xs) 34 xs)
plain_front x xs false true eq eb ih jh =
    kept_as (content after_backslash xs) (content after_backslash (take (gap in_escape xs) xs)) (content plain (take (gap in_string (x ∷ xs)) (x ∷ xs))) jh
    (ap (λ y. content plain (take (gap in_string (y ∷ xs)) (y ∷ xs))) (eqb-true x 92 eb) ∙ ap (λ n. content plain (take n (92 ∷ xs))) (gap_slash xs) ∙ ap (content plain) (take_one (gap in_escape xs) 92 xs))
plain_front x xs false false eq eb ih jh =
    let ys = take (gap in_string xs) xs in
    kept_as (cond (nat_lt x 32) None (prepend (x ∷ []) (content plain xs))) (cond (nat_lt x 32) None (prepend (x ∷ []) (content plain ys))) (content plain (take (gap in_string (x ∷ xs)) (x ∷ xs)))
    (kept_if (nat_lt x 32) None (prepend (x ∷ []) (content plain xs)) None (prepend (x ∷ []) (content plain ys)) tt (kept_after (x ∷ []) (content plain xs) (content plain ys) ih))
    (ap (λ n. content plain (take n (x ∷ xs))) (gap_plain x xs eq eb) ∙ ap (content plain) (take_one (gap in_string xs) x xs)
    ∙ (λ i. cond (eq i) (Some []) (cond (eb i) (content after_backslash ys) (cond (nat_lt x 32) None (prepend (x ∷ []) (content plain ys))))))

escape_front : (x : ℕ) (xs : List ℕ) → Front plain xs → Front after_u xs → Front after_backslash (x ∷ xs)
unfolding content
escape_front x xs ih jh =
    let ys = take (gap in_string xs) xs in
    kept_as (content after_backslash (x ∷ xs)) (content after_backslash (x ∷ ys)) (content after_backslash (take (gap in_escape (x ∷ xs)) (x ∷ xs)))
    (kept_if (x == 117) (content after_u xs) (option_and_then (λ c. prepend (c ∷ []) (content plain xs)) (short_escape x)) (content after_u ys) (option_and_then (λ c. prepend (c ∷ []) (content plain ys)) (short_escape x))
    jh (kept_then (λ c. prepend (c ∷ []) (content plain xs)) (λ c. prepend (c ∷ []) (content plain ys)) (short_escape x) (λ c. kept_after (c ∷ []) (content plain xs) (content plain ys) ih)))
    (ap (λ n. content after_backslash (take n (x ∷ xs))) (gap_escape x xs) ∙ ap (content after_backslash) (take_one (gap in_string xs) x xs))

abbrev unit_then : List ℕ → ℕ → Option (List ℕ)
unit_then xs u = cond (is_high_surrogate u) (content (after_high u) xs) (cond (is_low_surrogate u) None (prepend (encode_utf8 u) (content plain xs)))

unit_front : (a b c d : ℕ) (xs : List ℕ) (o : Option ℕ) → code_unit a b c d ≡ o → Front plain xs → ((h : ℕ) → Front (after_high h) xs)
    → Kept (option_and_then (unit_then xs) o) (content after_u (take (gap in_string (a ∷ b ∷ c ∷ d ∷ xs)) (a ∷ b ∷ c ∷ d ∷ xs)))
unfolding content
unit_front a b c d xs None e ih jh = tt
unit_front a b c d xs (Some u) e ih jh =
    let n = gap in_string xs in
    let ys = take n xs in
    kept_as (unit_then xs u) (unit_then ys u) (content after_u (take (gap in_string (a ∷ b ∷ c ∷ d ∷ xs)) (a ∷ b ∷ c ∷ d ∷ xs)))
    (kept_if (is_high_surrogate u) (content (after_high u) xs) (cond (is_low_surrogate u) None (prepend (encode_utf8 u) (content plain xs))) (content (after_high u) ys)
    (cond (is_low_surrogate u) None (prepend (encode_utf8 u) (content plain ys))) (jh u)
    (kept_if (is_low_surrogate u) None (prepend (encode_utf8 u) (content plain xs)) None (prepend (encode_utf8 u) (content plain ys)) tt (kept_after (encode_utf8 u) (content plain xs) (content plain ys) ih)))
    (ap (content after_u) (take_four n (gap in_string (a ∷ b ∷ c ∷ d ∷ xs)) a b c d xs (gap_unit a b c d u xs e)) ∙ ap (option_and_then (unit_then ys)) e)

abbrev low_then : ℕ → List ℕ → ℕ → Option (List ℕ)
low_then h xs l = cond (is_low_surrogate l) (prepend (encode_utf8 (surrogate_pair h l)) (content plain xs)) None

high_front : (h s u a b c d : ℕ) (xs : List ℕ) (t : Bool) (o : Option ℕ) → ((s == 92) && (u == 117)) ≡ t → code_unit a b c d ≡ o → Front plain xs
    → Kept (cond t (option_and_then (low_then h xs) o) None) (content (after_high h) (take (gap in_string (s ∷ u ∷ a ∷ b ∷ c ∷ d ∷ xs)) (s ∷ u ∷ a ∷ b ∷ c ∷ d ∷ xs)))
unfolding content
high_front h s u a b c d xs false o et e ih = tt
high_front h s u a b c d xs true None et e ih = tt
high_front h s u a b c d xs true (Some l) et e ih =
    let n = gap in_string xs in
    let ys = take n xs in
    let slash : gap in_string (s ∷ u ∷ a ∷ b ∷ c ∷ d ∷ xs) ≡ 1 + gap in_escape (u ∷ a ∷ b ∷ c ∷ d ∷ xs) =
    let is : s ≡ 92 = eqb-true s 92 (and_parts (s == 92) (u == 117) et).0 in
    ap (λ y. gap in_string (y ∷ u ∷ a ∷ b ∷ c ∷ d ∷ xs)) is ∙ gap_slash (u ∷ a ∷ b ∷ c ∷ d ∷ xs) in
    let six : gap in_string (s ∷ u ∷ a ∷ b ∷ c ∷ d ∷ xs) ≡ 6 + n = omega (arith, slash, gap_escape u (a ∷ b ∷ c ∷ d ∷ xs), gap_unit a b c d l xs e) in
    kept_as (low_then h xs l) (low_then h ys l) (content (after_high h) (take (gap in_string (s ∷ u ∷ a ∷ b ∷ c ∷ d ∷ xs)) (s ∷ u ∷ a ∷ b ∷ c ∷ d ∷ xs)))
    (kept_if (is_low_surrogate l) (prepend (encode_utf8 (surrogate_pair h l)) (content plain xs)) None (prepend (encode_utf8 (surrogate_pair h l)) (content plain ys)) None
    (kept_after (encode_utf8 (surrogate_pair h l)) (content plain xs) (content plain ys) ih) tt)
    (ap (content (after_high h)) (take_six n (gap in_string (s ∷ u ∷ a ∷ b ∷ c ∷ d ∷ xs)) s u a b c d xs six) ∙ (λ i. cond (et i) (option_and_then (low_then h ys) (e i)) None))

front : (w : Within) (xs : List ℕ) → Front w xs
unfolding content
front plain [] = tt
front plain (x ∷ xs) = plain_front x xs (x == 34) (x == 92) refl refl (front plain xs) (front after_backslash xs)
front after_backslash [] = tt
front after_backslash (x ∷ xs) = escape_front x xs (front plain xs) (front after_u xs)
front after_u [] = tt
front after_u (a ∷ []) = tt
front after_u (a ∷ b ∷ []) = tt
front after_u (a ∷ b ∷ c ∷ []) = tt
front after_u (a ∷ b ∷ c ∷ d ∷ xs) = unit_front a b c d xs (code_unit a b c d) refl (front plain xs) (λ h. front (after_high h) xs)
front (after_high h) [] = tt
front (after_high h) (s ∷ []) = tt
front (after_high h) (s ∷ u ∷ []) = tt
front (after_high h) (s ∷ u ∷ a ∷ []) = tt
front (after_high h) (s ∷ u ∷ a ∷ b ∷ []) = tt
front (after_high h) (s ∷ u ∷ a ∷ b ∷ c ∷ []) = tt
front (after_high h) (s ∷ u ∷ a ∷ b ∷ c ∷ d ∷ xs) = high_front h s u a b c d xs ((s == 92) && (u == 117)) (code_unit a b c d) refl refl (front plain xs)

kept_some : (o p : Option (List ℕ)) (s : List ℕ) → Kept o p → o ≡ Some s → p ≡ Some s
kept_some None p s h e = cc
kept_some (Some r) p s h e = h ∙ e

pub content_front : (xs s : List ℕ) → content plain xs ≡ Some s → content plain (take (gap in_string xs) xs) ≡ Some s
content_front xs s e = kept_some (content plain xs) (content plain (take (gap in_string xs) xs)) s (front plain xs) e
