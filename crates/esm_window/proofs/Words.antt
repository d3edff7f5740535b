-- A good word runs to an operator, a space or the end, with no quote or backslash in it.
use Rattle.std.proofs.Common.{◌≡◌, ℕ, suc, ◌+◌, ◌≤◌, Bool, true, false, ◌||◌, ◌==◌, cond, List, [], ◌∷◌, ◌++◌, length, take, drop, ◌-◌, nat_eq, nat_le, Option, Some, None, refl, sym, ap, ◌∙◌, arith, inl, inr}
use Rattle.std.specs.Option.{option_and_then}
use Rattle.std.proofs.lemmas.Bool.{eqb-true, leb-true, ne_eqb, and_parts, or_cases}
use Rattle.std.proofs.lemmas.List.{take-append-drop}
use Rattle.std.proofs.lemmas.Slice.Eq.{bytes_eq-Decides}
use Rattle.std.specs.Prelude.{⊤}
use Rattle.std.specs.List.{prefix_len, starts_with}
use Rattle.std.specs.Char.{is_ascii_digit}
use Rattle.json.specs.Token.{Token}
use Rattle.json.specs.Word.{is_operator, is_space, head, ends_word, after_digits, after_minus, after_sign, after_whole, after_fraction, after_exponent, after_number, number_before, literal, word}
use Rattle.json.specs.Lex.{quote, backslash, operator, space, other, class}
use Rattle.json.specs.Align.{is_good}
use Rattle.esm_window.specs.Layout.{clean_byte, clean}

-- where the second text is clean, so is the first
abbrev Leads : List ℕ → List ℕ → Type 0
Leads t r = clean r ≡ true → clean t ≡ true

abbrev LeadsTo : List ℕ → Option (List ℕ) → Type 0
LeadsTo t None = ⊤
LeadsTo t (Some r) = Leads t r

then : (t : List ℕ) (f : List ℕ → Option (List ℕ)) (o : Option (List ℕ)) → LeadsTo t o → ((r : List ℕ) → LeadsTo r (f r)) → LeadsTo t (option_and_then f o)
then t f None h k = tt
then t f (Some r) h k = onward (f r) (k r)
  where
    onward : (o : Option (List ℕ)) → LeadsTo r o → LeadsTo t o
    onward None g = tt
    onward (Some u) g = λ e. h (g e)

from : (t u : List ℕ) (o : Option (List ℕ)) → Leads t u → LeadsTo u o → LeadsTo t o
from t u None h g = tt
from t u (Some r) h g = λ e. h (g e)

choice : (t : List ℕ) (b : Bool) (x y : Option (List ℕ)) → (b ≡ true → LeadsTo t x) → LeadsTo t y → LeadsTo t (cond b x y)
choice t true x y f g = f refl
choice t false x y f g = g

-- one byte that is no mark of its own
passes : (c : ℕ) (t : List ℕ) → class c ≡ other → (head t == c) ≡ true → Leads t (drop 1 t)
unfolding clean
passes c [] k e h = refl
passes c (x ∷ xs) k e h = ap (λ y. clean_byte (class y) (clean xs)) (eqb-true x c e) ∙ ap (λ d. clean_byte d (clean xs)) k ∙ h

passes_either : (a b : ℕ) (t : List ℕ) → class a ≡ other → class b ≡ other → ((head t == a) || (head t == b)) ≡ true → Leads t (drop 1 t)
passes_either a b t p q e = elim (or_cases (head t == a) (head t == b) e) [ inl h ↦ passes a t p h | inr h ↦ passes b t q h ]

skips : (t : List ℕ) (b : Bool) → (b ≡ true → Leads t (drop 1 t)) → Leads t (cond b (drop 1 t) t)
skips t true f = f refl
skips t false f = λ e. e

digit_class : (x : ℕ) → is_ascii_digit x ≡ true → class x ≡ other
digit_class x h =
    let both = and_parts (nat_le 48 x) (nat_le x 57) h in
    let low : 48 ≤ x = leb-true 48 x both.0 in
    let high : x ≤ 57 = leb-true x 57 both.1 in
    let e34 : (x == 34) ≡ false = ne_eqb x 34 (λ e. omega arith) in
    let e92 : (x == 92) ≡ false = ne_eqb x 92 (λ e. omega arith) in
    let e123 : (x == 123) ≡ false = ne_eqb x 123 (λ e. omega arith) in
    let e125 : (x == 125) ≡ false = ne_eqb x 125 (λ e. omega arith) in
    let e91 : (x == 91) ≡ false = ne_eqb x 91 (λ e. omega arith) in
    let e93 : (x == 93) ≡ false = ne_eqb x 93 (λ e. omega arith) in
    let e58 : (x == 58) ≡ false = ne_eqb x 58 (λ e. omega arith) in
    let e44 : (x == 44) ≡ false = ne_eqb x 44 (λ e. omega arith) in
    let e32 : (x == 32) ≡ false = ne_eqb x 32 (λ e. omega arith) in
    let e9 : (x == 9) ≡ false = ne_eqb x 9 (λ e. omega arith) in
    let e10 : (x == 10) ≡ false = ne_eqb x 10 (λ e. omega arith) in
    let e13 : (x == 13) ≡ false = ne_eqb x 13 (λ e. omega arith) in
    λ i. cond (e34 i) quote (cond (e92 i) backslash (cond (e123 i || e125 i || e91 i || e93 i || e58 i || e44 i) operator (cond (e32 i || e9 i || e10 i || e13 i) space other)))

digit_at : (d : Bool) (x : ℕ) (xs : List ℕ) (n : ℕ) → (d ≡ true → class x ≡ other) → Leads xs (drop n xs) → Leads (x ∷ xs) (drop (cond d (1 + n) 0) (x ∷ xs))
unfolding clean
digit_at false x xs n k ih e = e
digit_at true x xs n k ih e =
    let same : 1 + n ≡ suc n = omega arith in
    ap (λ d. clean_byte d (clean xs)) (k refl) ∙ ih (ap (λ m. clean (drop m (x ∷ xs))) (sym same) ∙ e)

digit_run : (t : List ℕ) → Leads t (drop (prefix_len is_ascii_digit t) t)
digit_run [] e = e
digit_run (x ∷ xs) e = digit_at (is_ascii_digit x) x xs (prefix_len is_ascii_digit xs) (digit_class x) (digit_run xs) e

digits : (t : List ℕ) → LeadsTo t (after_digits t)
digits t = choice t (prefix_len is_ascii_digit t == 0) None (Some (drop (prefix_len is_ascii_digit t) t)) (λ e. tt) (digit_run t)

whole : (t : List ℕ) → LeadsTo t (after_whole t)
whole t = choice t (head t == 48) (Some (drop 1 t)) (after_digits t) (λ e. passes 48 t refl e) (digits t)

fraction : (t : List ℕ) → LeadsTo t (after_fraction t)
fraction t = choice t (head t == 46) (after_digits (drop 1 t)) (Some t) (λ e. from t (drop 1 t) (after_digits (drop 1 t)) (passes 46 t refl e) (digits (drop 1 t))) (λ e. e)

signed : (t : List ℕ) → LeadsTo t (after_digits (after_sign t))
signed t =
    from t (after_sign t) (after_digits (after_sign t)) (skips t ((head t == 45) || (head t == 43)) (λ e. passes_either 45 43 t refl refl e)) (digits (after_sign t))

exponent : (t : List ℕ) → LeadsTo t (after_exponent t)
exponent t =
    choice t ((head t == 101) || (head t == 69)) (after_digits (after_sign (drop 1 t))) (Some t)
    (λ e. from t (drop 1 t) (after_digits (after_sign (drop 1 t))) (passes_either 101 69 t refl refl e) (signed (drop 1 t))) (λ e. e)

number : (t : List ℕ) → LeadsTo t (after_number t)
unfolding after_number
number t =
    let whole_after = from t (after_minus t) (after_whole (after_minus t)) (skips t (head t == 45) (λ e. passes 45 t refl e)) (whole (after_minus t)) in
    then t after_exponent (option_and_then after_fraction (after_whole (after_minus t))) (then t after_fraction (after_whole (after_minus t)) whole_after fraction) exponent

-- ---- a word ends at an operator, a space or the end

ended : (q b o s rest : Bool) → (q ≡ true → (o || s) ≡ false) → (b ≡ true → (o || s) ≡ false) → (o || s) ≡ true
    → clean_byte (cond q quote (cond b backslash (cond o operator (cond s space other)))) rest ≡ true
ended true b o s rest hq hb h = let no = hq refl in cc
ended false true o s rest hq hb h = let no = hb refl in cc
ended false false true s rest hq hb h = refl
ended false false false true rest hq hb h = refl
ended false false false false rest hq hb h = cc

clean_end : (t : List ℕ) → ends_word t ≡ true → clean t ≡ true
unfolding clean
clean_end [] h = refl
clean_end (x ∷ xs) h =
    ended (x == 34) (x == 92) (is_operator x) (is_space x) (clean xs)
    (λ e. ap (λ y. is_operator y || is_space y) (eqb-true x 34 e)) (λ e. ap (λ y. is_operator y || is_space y) (eqb-true x 92 e)) h

kept : (b : Bool) (k : Token) → is_good (cond b k Token.bad) ≡ true → b ≡ true
kept true k h = refl
kept false k h = h

number_clean : (t : List ℕ) (o : Option (List ℕ)) → LeadsTo t o → is_good (number_before t o) ≡ true → clean t ≡ true
number_clean t None h g = cc
number_clean t (Some r) h g = h (clean_end r (kept (ends_word r) (Token.number (take (length t - length r) t)) g))

literal_clean : (name : List ℕ) (k : Token) (t : List ℕ) → ((rest : List ℕ) → Leads (name ++ rest) rest) → is_good (literal name k t) ≡ true → clean t ≡ true
literal_clean name k t passed h =
    let both = and_parts (starts_with nat_eq t name) (ends_word (drop (length name) t)) (kept _ k h) in
    let front : name ≡ take (length name) t = (bytes_eq-Decides name (take (length name) t)).0 both.0 in
    ap clean (sym (take-append-drop (length name) t) ∙ ap (λ l. l ++ drop (length name) t) (sym front)) ∙ passed (drop (length name) t) (clean_end (drop (length name) t) both.1)

choose : (b : Bool) (x y : Token) (P : Type 0) → (is_good x ≡ true → P) → (is_good y ≡ true → P) → is_good (cond b x y) ≡ true → P
choose true x y P f g = f
choose false x y P f g = g

true_passes : (rest : List ℕ) → Leads (116 ∷ 114 ∷ 117 ∷ 101 ∷ rest) rest
unfolding clean
true_passes rest e = e

false_passes : (rest : List ℕ) → Leads (102 ∷ 97 ∷ 108 ∷ 115 ∷ 101 ∷ rest) rest
unfolding clean
false_passes rest e = e

null_passes : (rest : List ℕ) → Leads (110 ∷ 117 ∷ 108 ∷ 108 ∷ rest) rest
unfolding clean
null_passes rest e = e

pub word_clean : (t : List ℕ) → is_good (word t) ≡ true → clean t ≡ true
unfolding word
word_clean t =
    choose (head t == 116) _ _ _ (literal_clean (116 ∷ 114 ∷ 117 ∷ 101 ∷ []) (Token.boolean true) t true_passes)
    (choose (head t == 102) _ _ _ (literal_clean (102 ∷ 97 ∷ 108 ∷ 115 ∷ 101 ∷ []) (Token.boolean false) t false_passes)
    (choose (head t == 110) _ _ _ (literal_clean (110 ∷ 117 ∷ 108 ∷ 108 ∷ []) Token.null t null_passes) (number_clean t (after_number t) (number t))))
