-- A text whose lexemes are good has the same lexemes where another text follows that begins with an operator or a space.
use Rattle.std.proofs.Common.{◌≡◌, ◌∙◌, ℕ, ◌+◌, ◌-◌, ◌*◌, min, arith, Bool, true, false, cond, ◌&&◌, ◌||◌, ◌==◌, nat_eq, nat_lt, refl, sym, ap, ap₂, subst, List, [], ◌∷◌, ◌++◌, append_assoc, length, take, drop, Option, Some, None, is_some, option_and_then}
use Rattle.std.specs.Prelude.{⊤}
use Rattle.std.specs.Char.{digit_value, encode_utf8, is_ascii_digit, is_digit}
use Rattle.std.specs.Cmp.Lexicographic.{pointwise}
use Rattle.std.specs.List.{prefix_len, starts_with}
use Rattle.std.proofs.lemmas.Bool.{and_parts, eqb-true, false≢true}
use Rattle.std.proofs.lemmas.List.{drop-drop, drop_min, length-drop, take-append-drop}
use Rattle.json.specs.Ascii.{true_text, false_text, null_text}
use Rattle.json.specs.Token.{Token}
use Rattle.json.specs.Text.{Within, plain, after_backslash, after_u, after_high, code_unit, content, is_high_surrogate, is_low_surrogate, prepend, short_escape, surrogate_pair}
use Rattle.json.specs.Word.{after_digits, after_exponent, after_fraction, after_minus, after_number, after_sign, ends_word, head, is_operator, is_space, literal, number_before, word}
use Rattle.json.specs.Lex.{Lexeme, token, Class, quote, backslash, operator, space, other, class, Mode, between, in_word, in_string, in_escape, lex, string_token}
use Rattle.json.specs.Align.{is_good}
use Rattle.json.specs.Print.{IsNumber}
use Rattle.json.proofs.Printed.Numbers.{lex-number, number_alone}
use Rattle.esm_window.specs.Layout.{AllGood, GoodBegin, begin, mode_at, next, put}
use Rattle.esm_window.proofs.Layouts.{lex-cons, lex-nil}

-- ---- the content of a text

-- where the first is something, the second is the same
abbrev pub Kept : Option (List ℕ) → Option (List ℕ) → Type 0
Kept None p = ⊤
Kept (Some s) p = p ≡ Some s

kept_if : (b : Bool) (x y p q : Option (List ℕ)) → Kept x p → Kept y q → Kept (cond b x y) (cond b p q)
kept_if true x y p q h k = h
kept_if false x y p q h k = k

kept_then : (f g : ℕ → Option (List ℕ)) (o : Option ℕ) → ((u : ℕ) → Kept (f u) (g u)) → Kept (option_and_then f o) (option_and_then g o)
kept_then f g None h = tt
kept_then f g (Some u) h = h u

kept_after : (a : List ℕ) (o p : Option (List ℕ)) → Kept o p → Kept (prepend a o) (prepend a p)
kept_after a None p h = tt
kept_after a (Some s) p h = ap (prepend a) h

pub content_on : (w : Within) (xs ys : List ℕ) → Kept (content w xs) (content w (xs ++ ys))
unfolding content
content_on plain [] ys = tt
content_on plain (x ∷ xs) ys =
    kept_if (x == 34) (Some []) _ (Some []) _ refl
    (kept_if (x == 92) (content after_backslash xs) _ (content after_backslash (xs ++ ys)) _ (content_on after_backslash xs ys)
    (kept_if (nat_lt x 32) None (prepend (x ∷ []) (content plain xs)) None (prepend (x ∷ []) (content plain (xs ++ ys))) tt
    (kept_after (x ∷ []) (content plain xs) (content plain (xs ++ ys)) (content_on plain xs ys))))
content_on after_backslash [] ys = tt
content_on after_backslash (x ∷ xs) ys =
    kept_if (x == 117) (content after_u xs) _ (content after_u (xs ++ ys)) _ (content_on after_u xs ys)
    (kept_then (λ c. prepend (c ∷ []) (content plain xs)) (λ c. prepend (c ∷ []) (content plain (xs ++ ys))) (short_escape x)
    (λ c. kept_after (c ∷ []) (content plain xs) (content plain (xs ++ ys)) (content_on plain xs ys)))
content_on after_u [] ys = tt
content_on after_u (a ∷ []) ys = tt
content_on after_u (a ∷ b ∷ []) ys = tt
content_on after_u (a ∷ b ∷ c ∷ []) ys = tt
content_on after_u (a ∷ b ∷ c ∷ d ∷ xs) ys =
    kept_then _ _ (code_unit a b c d) (λ u.
    kept_if (is_high_surrogate u) (content (after_high u) xs) _ (content (after_high u) (xs ++ ys)) _ (content_on (after_high u) xs ys)
    (kept_if (is_low_surrogate u) None _ None _ tt (kept_after (encode_utf8 u) (content plain xs) (content plain (xs ++ ys)) (content_on plain xs ys))))
content_on (after_high h) [] ys = tt
content_on (after_high h) (s ∷ []) ys = tt
content_on (after_high h) (s ∷ u ∷ []) ys = tt
content_on (after_high h) (s ∷ u ∷ a ∷ []) ys = tt
content_on (after_high h) (s ∷ u ∷ a ∷ b ∷ []) ys = tt
content_on (after_high h) (s ∷ u ∷ a ∷ b ∷ c ∷ []) ys = tt
content_on (after_high h) (s ∷ u ∷ a ∷ b ∷ c ∷ d ∷ xs) ys =
    kept_if ((s == 92) && (u == 117)) _ None _ None
    (kept_then _ _ (code_unit a b c d) (λ l.
    kept_if (is_low_surrogate l) (prepend (encode_utf8 (surrogate_pair h l)) (content plain xs)) None (prepend (encode_utf8 (surrogate_pair h l)) (content plain (xs ++ ys))) None
    (kept_after (encode_utf8 (surrogate_pair h l)) (content plain xs) (content plain (xs ++ ys)) (content_on plain xs ys)) tt)) tt

text_on : (o p : Option (List ℕ)) → Kept o p → is_good (string_token o) ≡ true → string_token p ≡ string_token o
text_on None p h good = absurd (false≢true good)
text_on (Some s) p h good = ap string_token h

-- ---- words

good_if : (b : Bool) (u : Token) → is_good (cond b u Token.bad) ≡ true → b ≡ true
good_if true u h = refl
good_if false u h = absurd (false≢true h)

ends_on : (r ys : List ℕ) → ends_word r ≡ true → ends_word ys ≡ true → ends_word (r ++ ys) ≡ true
ends_on [] ys h ends = ends
ends_on (x ∷ r) ys h ends = h

starts_on : (needle t ys : List ℕ) → pointwise nat_eq needle (take (length needle) t) ≡ true
    → (take (length needle) (t ++ ys) ≡ take (length needle) t) × (drop (length needle) (t ++ ys) ≡ drop (length needle) t ++ ys)
starts_on [] t ys h = (refl, refl)
starts_on (n ∷ ns) [] ys h = absurd (false≢true h)
starts_on (n ∷ ns) (x ∷ xs) ys h =
    let p = and_parts (nat_eq n x) (pointwise nat_eq ns (take (length ns) xs)) h in
    let r = starts_on ns xs ys p.1 in
    (ap (λ l. x ∷ l) r.0, r.1)

literal_on : (name : List ℕ) (u : Token) (t ys : List ℕ) → is_good (literal name u t) ≡ true → ends_word ys ≡ true → literal name u (t ++ ys) ≡ literal name u t
literal_on name u t ys good ends =
    let test = good_if (starts_with nat_eq t name && ends_word (drop (length name) t)) u good in
    let p = and_parts (starts_with nat_eq t name) (ends_word (drop (length name) t)) test in
    let s = starts_on name t ys p.0 in
    let a : starts_with nat_eq (t ++ ys) name ≡ true = ap (pointwise nat_eq name) s.0 ∙ p.0 in
    let b : ends_word (drop (length name) (t ++ ys)) ≡ true = ap ends_word s.1 ∙ ends_on (drop (length name) t) ys p.1 ends in
    ap₂ (λ x y. cond (x && y) u Token.bad) a b ∙ sym (ap (λ x. cond x u Token.bad) test)

-- what a part of a number leaves is an end of the text
abbrev EndOf : List ℕ → List ℕ → Type 0
EndOf t r = (k : ℕ) × (r ≡ drop k t)

abbrev Leaves : List ℕ → Option (List ℕ) → Type 0
Leaves t None = ⊤
Leaves t (Some r) = EndOf t r

further : (t u : List ℕ) (o : Option (List ℕ)) → EndOf t u → Leaves u o → Leaves t o
further t u None e h = tt
further t u (Some r) e h = (e.0 + h.0, h.1 ∙ ap (drop h.0) e.1 ∙ drop-drop h.0 e.0 t)

either : (t : List ℕ) (b : Bool) (x y : Option (List ℕ)) → Leaves t x → Leaves t y → Leaves t (cond b x y)
either t true x y p q = p
either t false x y p q = q

optional : (t : List ℕ) (b : Bool) → EndOf t (cond b (drop 1 t) t)
optional t true = (1, refl)
optional t false = (0, refl)

digits : (t : List ℕ) → Leaves t (after_digits t)
digits t = either t (prefix_len is_ascii_digit t == 0) None _ tt (prefix_len is_ascii_digit t, refl)

then : (t : List ℕ) (f : List ℕ → Option (List ℕ)) → ((u : List ℕ) → Leaves u (f u)) → (o : Option (List ℕ)) → Leaves t o → Leaves t (option_and_then f o)
then t f g None h = tt
then t f g (Some r) h = further t r (f r) h (g r)

fraction : (t : List ℕ) → Leaves t (after_fraction t)
fraction t = either t (head t == 46) _ (Some t) (further t (drop 1 t) _ (1, refl) (digits (drop 1 t))) (0, refl)

exponent : (t : List ℕ) → Leaves t (after_exponent t)
exponent t =
    let u = drop 1 t in
    either t ((head t == 101) || (head t == 69)) _ (Some t) (further t u _ (1, refl) (further u (after_sign u) _ (optional u _) (digits (after_sign u)))) (0, refl)

leaves_number : (t : List ℕ) → Leaves t (after_number t)
unfolding after_number
leaves_number t =
    let u = after_minus t in
    then t after_exponent exponent _ (then t after_fraction fraction _ (further t u _ (optional t _) (either u (head u == 48) (Some (drop 1 u)) _ (1, refl) (digits u))))

front_and_rest : (t r : List ℕ) → EndOf t r → take (length t - length r) t ++ r ≡ t
front_and_rest t r e =
    let n : length t - length r ≡ min e.0 (length t) = omega (arith, ap length e.1, length-drop e.0 t) in
    ap (λ x. take (length t - length r) t ++ x) (e.1 ∙ sym (drop_min e.0 t) ∙ ap (λ k. drop k t) (sym n)) ∙ take-append-drop _ t

lex_other : (x : ℕ) (xs : List ℕ) → class x ≡ other → lex between (x ∷ xs) ≡ token (word (x ∷ xs)) ∷ lex in_word xs
lex_other x xs e = lex-cons between x xs ∙ ap (λ c. put (begin between c x xs) (lex (next between c) xs)) e

first_same : (t u : Token) (ls ks : List Lexeme) → token t ∷ ls ≡ token u ∷ ks → t ≡ u
first_same t u ls ks h = cc

number_case : (x : ℕ) (xs ys : List ℕ) (o : Option (List ℕ)) → class x ≡ other → after_number (x ∷ xs) ≡ o → Leaves (x ∷ xs) o → is_good (number_before (x ∷ xs) o) ≡ true → ends_word ys ≡ true
    → word (x ∷ (xs ++ ys)) ≡ number_before (x ∷ xs) o
number_case x xs ys None e is h good ends = absurd (false≢true good)
number_case x xs ys (Some r) e is h good ends =
    let t : List ℕ = x ∷ xs in
    let s = take (length t - length r) t in
    let ended = good_if (ends_word r) (Token.number s) good in
    let parts = front_and_rest t r h in
    let number : IsNumber s = number_alone s r ended (ap after_number parts ∙ is) in
    let whole : s ++ (r ++ ys) ≡ x ∷ (xs ++ ys) = sym (append_assoc s r ys) ∙ ap (λ l. l ++ ys) parts in
    let lexed = sym (lex_other x (xs ++ ys) e) ∙ ap (lex between) (sym whole) ∙ lex-number s (r ++ ys) number (ends_on r ys ended ends) in
    first_same (word (x ∷ (xs ++ ys))) (Token.number s) (lex in_word (xs ++ ys)) (lex between (r ++ ys)) lexed ∙ sym (ap (λ b. cond b (Token.number s) Token.bad) ended)

abbrev words : (b c d : Bool) (t : List ℕ) → Token → Token
words b c d t n = cond b (literal true_text (Token.boolean true) t) (cond c (literal false_text (Token.boolean false) t) (cond d (literal null_text Token.null t) n))

word_is : (x : ℕ) (xs : List ℕ) → word (x ∷ xs) ≡ words (x == 116) (x == 102) (x == 110) (x ∷ xs) (number_before (x ∷ xs) (after_number (x ∷ xs)))
unfolding word
word_is x xs = refl

words_on : (b c d : Bool) (t ys : List ℕ) (n m : Token) → is_good (words b c d t n) ≡ true → ends_word ys ≡ true → (is_good n ≡ true → words b c d (t ++ ys) m ≡ m → m ≡ n)
    → words b c d (t ++ ys) m ≡ words b c d t n
words_on true c d t ys n m good ends number = literal_on true_text (Token.boolean true) t ys good ends
words_on false true d t ys n m good ends number = literal_on false_text (Token.boolean false) t ys good ends
words_on false false true t ys n m good ends number = literal_on null_text Token.null t ys good ends
words_on false false false t ys n m good ends number = number good refl

word_on : (x : ℕ) (xs ys : List ℕ) → class x ≡ other → is_good (word (x ∷ xs)) ≡ true → ends_word ys ≡ true → word (x ∷ (xs ++ ys)) ≡ word (x ∷ xs)
word_on x xs ys e good ends =
    let t : List ℕ = x ∷ xs in
    let n = number_before t (after_number t) in
    let long : List ℕ = x ∷ (xs ++ ys) in
    let m = number_before long (after_number long) in
    word_is x (xs ++ ys)
    ∙ words_on (x == 116) (x == 102) (x == 110) t ys n m (ap is_good (sym (word_is x xs)) ∙ good) ends
    (λ fine same. sym same ∙ sym (word_is x (xs ++ ys)) ∙ number_case x xs ys (after_number t) e refl (leaves_number t) fine ends)
    ∙ sym (word_is x xs)

-- ---- lexemes

abbrev Classed : Class → ℕ → Type 0
Classed c x = class x ≡ c

begin_on : (m : Mode) (c : Class) (x : ℕ) (xs ys : List ℕ) → Classed c x → GoodBegin (begin m c x xs) → ends_word ys ≡ true → begin m c x (xs ++ ys) ≡ begin m c x xs
begin_on between quote x xs ys e good ends = ap (λ t. Some (token t)) (text_on (content plain xs) (content plain (xs ++ ys)) (content_on plain xs ys) good)
begin_on between backslash x xs ys e good ends = refl
begin_on between operator x xs ys e good ends = refl
begin_on between space x xs ys e good ends = refl
begin_on between other x xs ys e good ends = ap (λ t. Some (token t)) (word_on x xs ys e good ends)
begin_on in_word quote x xs ys e good ends = refl
begin_on in_word backslash x xs ys e good ends = refl
begin_on in_word operator x xs ys e good ends = refl
begin_on in_word space x xs ys e good ends = refl
begin_on in_word other x xs ys e good ends = refl
begin_on in_string c x xs ys e good ends = refl
begin_on in_escape c x xs ys e good ends = refl

pub put_good : (o : Option Lexeme) (ls : List Lexeme) → AllGood (put o ls) → GoodBegin o × AllGood ls
put_good None ls h = (tt, h)
put_good (Some l) ls h = h

pub put_more : (o : Option Lexeme) (ls ks : List Lexeme) → put o (ls ++ ks) ≡ put o ls ++ ks
put_more None ls ks = refl
put_more (Some l) ls ks = refl

pub lexed_on : (m : Mode) (xs ys : List ℕ) → AllGood (lex m xs) → ends_word ys ≡ true → lex m (xs ++ ys) ≡ lex m xs ++ lex (mode_at m xs) ys
lexed_on m [] ys good ends = sym (ap (λ ls. ls ++ lex m ys) (lex-nil m))
lexed_on m (x ∷ xs) ys good ends =
    let n = next m (class x) in
    let p = put_good (begin m (class x) x xs) (lex n xs) (subst AllGood (lex-cons m x xs) good) in
    lex-cons m x (xs ++ ys)
    ∙ ap₂ put (begin_on m (class x) x xs ys refl p.0 ends) (lexed_on n xs ys p.1 ends)
    ∙ put_more (begin m (class x) x xs) (lex n xs) (lex (mode_at n xs) ys)
    ∙ ap (λ ls. ls ++ lex (mode_at n xs) ys) (sym (lex-cons m x xs))

-- ---- no text is open behind it

abbrev pub IsOut : Mode → Type 0
IsOut between = ⊤
IsOut in_word = ⊤
IsOut in_string = ⊥
IsOut in_escape = ⊥

abbrev mode : Within → Mode
mode plain = in_string
mode after_backslash = in_escape
mode after_u = in_string
mode (after_high h) = in_string

abbrev Closes : Mode → List ℕ → Type 0
Closes m xs = AllGood (lex m xs) → IsOut (mode_at m xs)

some_if : (b : Bool) (x : Option (List ℕ)) → is_some (cond b None x) ≡ true → is_some x ≡ true
some_if true x h = absurd (false≢true h)
some_if false x h = h

some_prepended : (a : List ℕ) (o : Option (List ℕ)) → is_some (prepend a o) ≡ true → is_some o ≡ true
some_prepended a None h = h
some_prepended a (Some s) h = refl

some_then : (f : ℕ → Option (List ℕ)) (o : Option ℕ) → is_some (option_and_then f o) ≡ true → (u : ℕ) × (o ≡ Some u) × (is_some (f u) ≡ true)
some_then f None h = absurd (false≢true h)
some_then f (Some u) h = (u, refl, h)

inside : (m : Mode) (x : ℕ) (xs : List ℕ) → begin m (class x) x xs ≡ None → AllGood (lex m (x ∷ xs)) → AllGood (lex (next m (class x)) xs)
inside m x xs none good = subst AllGood (lex-cons m x xs ∙ ap (λ o. put o (lex (next m (class x)) xs)) none) good

plain_step : (q b o s : Bool) (x : ℕ) (xs : List ℕ)
    → is_some (cond q (Some []) (cond b (content after_backslash xs) (cond (nat_lt x 32) None (prepend (x ∷ []) (content plain xs))))) ≡ true
    → AllGood (lex (next in_string (cond q quote (cond b backslash (cond o operator (cond s space other))))) xs)
    → Closes between xs → (is_some (content after_backslash xs) ≡ true → Closes in_escape xs) → (is_some (content plain xs) ≡ true → Closes in_string xs)
    → IsOut (mode_at (next in_string (cond q quote (cond b backslash (cond o operator (cond s space other))))) xs)
plain_step true b o s x xs some good out escape text = out good
plain_step false true o s x xs some good out escape text = escape some good
plain_step false false true s x xs some good out escape text = text (some_prepended (x ∷ []) (content plain xs) (some_if (nat_lt x 32) (prepend (x ∷ []) (content plain xs)) some)) good
plain_step false false false true x xs some good out escape text = text (some_prepended (x ∷ []) (content plain xs) (some_if (nat_lt x 32) (prepend (x ∷ []) (content plain xs)) some)) good
plain_step false false false false x xs some good out escape text = text (some_prepended (x ∷ []) (content plain xs) (some_if (nat_lt x 32) (prepend (x ∷ []) (content plain xs)) some)) good

escape_step : (u : Bool) (x : ℕ) (xs : List ℕ) → is_some (cond u (content after_u xs) (option_and_then (λ c. prepend (c ∷ []) (content plain xs)) (short_escape x))) ≡ true
    → (is_some (content after_u xs) ≡ true → Closes in_string xs) → (is_some (content plain xs) ≡ true → Closes in_string xs) → Closes in_string xs
escape_step true x xs some unit text = unit some
escape_step false x xs some unit text =
    let c = some_then (λ c. prepend (c ∷ []) (content plain xs)) (short_escape x) some in
    text (some_prepended (c.0 ∷ []) (content plain xs) c.2)

not_hex : (c x : ℕ) (t : Bool) → (x == c) ≡ t → is_digit c 16 ≡ false → is_digit x 16 ≡ true → (x == c) ≡ false
not_hex c x false e never h = e
not_hex c x true e never h = let same : is_digit x 16 ≡ is_digit c 16 = ap (λ y. is_digit y 16) (eqb-true x c e) in cc

stays : (o s : Bool) → next in_string (cond o operator (cond s space other)) ≡ in_string
stays true s = refl
stays false true = refl
stays false false = refl

hex_stays : (x : ℕ) → is_digit x 16 ≡ true → next in_string (class x) ≡ in_string
hex_stays x h =
    let q = not_hex 34 x (x == 34) refl refl h in
    let b = not_hex 92 x (x == 92) refl refl h in
    (λ i. next in_string (cond (q i) quote (cond (b i) backslash (cond (is_operator x) operator (cond (is_space x) space other))))) ∙ stays (is_operator x) (is_space x)

hex_closes : (x : ℕ) (xs : List ℕ) → is_digit x 16 ≡ true → Closes in_string xs → Closes in_string (x ∷ xs)
hex_closes x xs h closes good =
    let same = hex_stays x h in
    subst (λ m. IsOut (mode_at m xs)) (sym same) (closes (subst (λ m. AllGood (lex m xs)) same (inside in_string x xs refl good)))

test_of : (b : Bool) (n u : ℕ) → cond b (Some n) None ≡ Some u → b ≡ true
test_of true n u e = refl
test_of false n u e = cc

unit_closes : (a b c d u : ℕ) (xs : List ℕ) → code_unit a b c d ≡ Some u → Closes in_string xs → Closes in_string (a ∷ b ∷ c ∷ d ∷ xs)
unfolding code_unit
unit_closes a b c d u xs e closes =
    let all = test_of (is_digit a 16 && is_digit b 16 && is_digit c 16 && is_digit d 16) (digit_value a * 4096 + digit_value b * 256 + digit_value c * 16 + digit_value d) u e in
    let hd = and_parts (is_digit a 16 && is_digit b 16 && is_digit c 16) (is_digit d 16) all in
    let hc = and_parts (is_digit a 16 && is_digit b 16) (is_digit c 16) hd.0 in
    let hb = and_parts (is_digit a 16) (is_digit b 16) hc.0 in
    hex_closes a (b ∷ c ∷ d ∷ xs) hb.0 (hex_closes b (c ∷ d ∷ xs) hb.1 (hex_closes c (d ∷ xs) hc.1 (hex_closes d xs hd.1 closes)))

unit_step : (h l : Bool) (u : ℕ) (xs : List ℕ) → is_some (cond h (content (after_high u) xs) (cond l None (prepend (encode_utf8 u) (content plain xs)))) ≡ true
    → (is_some (content (after_high u) xs) ≡ true → Closes in_string xs) → (is_some (content plain xs) ≡ true → Closes in_string xs) → Closes in_string xs
unit_step true l u xs some high text = high some
unit_step false l u xs some high text = text (some_prepended (encode_utf8 u) (content plain xs) (some_if l (prepend (encode_utf8 u) (content plain xs)) some))

low_step : (l : Bool) (h u : ℕ) (xs : List ℕ) → is_some (cond l (prepend (encode_utf8 (surrogate_pair h u)) (content plain xs)) None) ≡ true → is_some (content plain xs) ≡ true
low_step true h u xs some = some_prepended (encode_utf8 (surrogate_pair h u)) (content plain xs) some
low_step false h u xs some = absurd (false≢true some)

escaped_closes : (s u : ℕ) (xs : List ℕ) → ((s == 92) && (u == 117)) ≡ true → Closes in_string xs → Closes in_string (s ∷ u ∷ xs)
escaped_closes s u xs e closes good =
    let is : s ≡ 92 = eqb-true s 92 (and_parts (s == 92) (u == 117) e).0 in
    let first : next in_string (class s) ≡ in_escape = ap (λ y. next in_string (class y)) is in
    let inner : AllGood (lex in_escape (u ∷ xs)) = subst (λ m. AllGood (lex m (u ∷ xs))) first (inside in_string s (u ∷ xs) refl good) in
    subst (λ m. IsOut (mode_at m (u ∷ xs))) (sym first) (closes (inside in_escape u xs refl inner))

high_test : (b : Bool) (x : Option (List ℕ)) → is_some (cond b x None) ≡ true → (b ≡ true) × (is_some x ≡ true)
high_test true x h = (refl, h)
high_test false x h = absurd (false≢true h)

opened : (o : Option (List ℕ)) → is_good (string_token o) ≡ true → is_some o ≡ true
opened None h = absurd (false≢true h)
opened (Some s) h = refl

closes_between : (c : Class) (x : ℕ) (xs : List ℕ) → GoodBegin (begin between c x xs) → (is_some (content plain xs) ≡ true → Closes in_string xs) → Closes between xs → Closes in_word xs
    → Closes (next between c) xs
closes_between quote x xs first text out inner = text (opened (content plain xs) first)
closes_between backslash x xs first text out inner = inner
closes_between operator x xs first text out inner = out
closes_between space x xs first text out inner = out
closes_between other x xs first text out inner = inner

closes_word : (c : Class) (xs : List ℕ) → Closes between xs → Closes in_word xs → Closes (next in_word c) xs
closes_word quote xs out inner = inner
closes_word backslash xs out inner = inner
closes_word operator xs out inner = out
closes_word space xs out inner = out
closes_word other xs out inner = inner

mutual
  unfolding content

  closes : (m : Mode) (xs : List ℕ) → IsOut m → Closes m xs
  closes m [] out good = out
  closes between (x ∷ xs) out good =
      let p = put_good (begin between (class x) x xs) (lex (next between (class x)) xs) (subst AllGood (lex-cons between x xs) good) in
      closes_between (class x) x xs p.0 (λ h. text_closes plain xs h) (closes between xs tt) (closes in_word xs tt) p.1
  closes in_word (x ∷ xs) out good =
      let p = put_good (begin in_word (class x) x xs) (lex (next in_word (class x)) xs) (subst AllGood (lex-cons in_word x xs) good) in
      closes_word (class x) xs (closes between xs tt) (closes in_word xs tt) p.1
  closes in_string (x ∷ xs) out good = absurd out
  closes in_escape (x ∷ xs) out good = absurd out

  text_closes : (w : Within) (xs : List ℕ) → is_some (content w xs) ≡ true → Closes (mode w) xs
  text_closes plain [] some good = absurd (false≢true some)
  text_closes plain (x ∷ xs) some good =
      plain_step (x == 34) (x == 92) (is_operator x) (is_space x) x xs some (inside in_string x xs refl good) (closes between xs tt)
      (λ h. text_closes after_backslash xs h) (λ h. text_closes plain xs h)
  text_closes after_backslash [] some good = absurd (false≢true some)
  text_closes after_backslash (x ∷ xs) some good = escape_step (x == 117) x xs some (λ h. text_closes after_u xs h) (λ h. text_closes plain xs h) (inside in_escape x xs refl good)
  text_closes after_u [] some good = absurd (false≢true some)
  text_closes after_u (a ∷ []) some good = absurd (false≢true some)
  text_closes after_u (a ∷ b ∷ []) some good = absurd (false≢true some)
  text_closes after_u (a ∷ b ∷ c ∷ []) some good = absurd (false≢true some)
  text_closes after_u (a ∷ b ∷ c ∷ d ∷ xs) some good =
      let u = some_then _ (code_unit a b c d) some in
      unit_closes a b c d u.0 xs u.1 (unit_step (is_high_surrogate u.0) (is_low_surrogate u.0) u.0 xs u.2 (λ h. text_closes (after_high u.0) xs h) (λ h. text_closes plain xs h)) good
  text_closes (after_high h) [] some good = absurd (false≢true some)
  text_closes (after_high h) (s ∷ []) some good = absurd (false≢true some)
  text_closes (after_high h) (s ∷ u ∷ []) some good = absurd (false≢true some)
  text_closes (after_high h) (s ∷ u ∷ a ∷ []) some good = absurd (false≢true some)
  text_closes (after_high h) (s ∷ u ∷ a ∷ b ∷ []) some good = absurd (false≢true some)
  text_closes (after_high h) (s ∷ u ∷ a ∷ b ∷ c ∷ []) some good = absurd (false≢true some)
  text_closes (after_high h) (s ∷ u ∷ a ∷ b ∷ c ∷ d ∷ xs) some good =
      let t = high_test ((s == 92) && (u == 117)) _ some in
      let l = some_then _ (code_unit a b c d) t.1 in
      escaped_closes s u (a ∷ b ∷ c ∷ d ∷ xs) t.0 (unit_closes a b c d l.0 xs l.1 (text_closes plain xs (low_step (is_low_surrogate l.0) h l.0 xs l.2))) good

pub is_closed : (xs : List ℕ) → AllGood (lex between xs) → IsOut (mode_at between xs)
is_closed xs good = closes between xs tt good
