-- The texts in a value that reads from bytes are bytes, and so is what is written of it.
use Rattle.std.proofs.Common.{◌≡◌, ◌∙◌, ℕ, zero, suc, ◌+◌, ◌-◌, ◌*◌, ◌/◌, ◌%◌, ◌<◌, ◌≤◌, arith, Bool, true, false, cond, ◌&&◌, ◌==◌, nat_lt, refl, subst, List, [], ◌∷◌, ◌++◌, codes, Option, Some, None, option_map, option_and_then, ⊎_elim, Ordering, Less, Equal, Greater}
use Rattle.std.specs.Prelude.{⊤, drop, length, nat_eq, take}
use Rattle.std.specs.Char.{digit_value, encode_utf8}
use Rattle.std.specs.Fmt.{digit_glyph}
use Rattle.std.specs.Str.{is_utf8}
use Rattle.std.specs.Cmp.Lexicographic.{slice_cmp}
use Rattle.std.specs.List.{flat_map, list_all, starts_with}
use Rattle.std.specs.Ordering.{match_ordering, nat_cmp}
use Rattle.std.proofs.lemmas.Bool.{and_parts}
use Rattle.std.proofs.lemmas.Bool.Decides.{nat_tests}
use Rattle.std.proofs.lemmas.List.Folds.{list_all-append}
use Rattle.std.proofs.lemmas.Str.{IsUtf8-from_is_utf8}
use lib.Utf8.{encodes, scalar, scalar_cases, scalars}
use Rattle.json.specs.Token.{Token}
use Rattle.json.specs.Text.{Within, plain, after_backslash, after_u, after_high, code_unit, content, is_high_surrogate, is_low_surrogate, prepend, short_escape, surrogate_pair}
use Rattle.json.specs.Ascii.{true_text, false_text, null_text}
use Rattle.json.specs.Word.{after_number, ends_word, head, literal, number_before, word}
use Rattle.json.specs.Lex.{Lexeme, token, comma, colon, Class, quote, backslash, operator, space, other, class, Mode, between, in_word, in_string, in_escape, Place, fresh, after_value, after_comma, after_key, begins_colon, if_allowed, lex, lex_byte, may_begin, may_close, operator_lexeme, place_token, punctuate, string_token, tokens}
use Rattle.json.specs.Json as json
use Rattle.json.specs.Json.{Json, if_last}
use Rattle.json.specs.Tree.{json_tokens, items_tokens, members_tokens}
use Rattle.serde_json.specs.Data.{Data, Num, null, boolean, number, string, array, object, Items, no_items, item, Members, no_members, member, put}
use Rattle.serde_json.specs.Read.{max_depth, number_of, of_items, of_json, of_members, read}
use Rattle.esm_model.specs.Json.{read_json}
use Rattle.esm_model.specs.JsonText.{escape_letter, escaped_byte, escaped_with, quoted, truth_text}
use Rattle.esm_model.specs.Numbers.{last_digits, padded_hexadecimal}
use Rattle.esm_ddb.specs.ItemText.{comma_if, items_text, members_text, value_text}
use Rattle.esm_ddb.specs.ReadsBack.{is_byte}
use Rattle.esm_window.proofs.Grammar.{tokens_are}

abbrev pub AreBytes : List ℕ → Type 0
AreBytes xs = list_all is_byte xs ≡ true

both : {A : Type 0} (P : A → Type 0) (b : Bool) (x y : A) → P x → P y → P (cond b x y)
both P true x y h k = h
both P false x y h k = k

when : {A : Type 0} (P : A → Type 0) (b : Bool) (x y : A) → (b ≡ true → P x) → (b ≡ false → P y) → P (cond b x y)
when P true x y h k = h refl
when P false x y h k = k refl

-- ---- the content of a text

abbrev pub OnSome : {A : Type 0} → (A → Type 0) → Option A → Type 0
OnSome P None = ⊤
OnSome P (Some x) = P x

abbrev Text : Type 0
Text = Option (List ℕ)

abbrev Ok : Text → Type 0
Ok o = OnSome AreBytes o

byte : (x : ℕ) → x < 256 → is_byte x ≡ true
byte x h = grind (arith, nat_tests)

below : (x : ℕ) → is_byte x ≡ true → x < 256
below x h = grind (arith, nat_tests)

pub append : (xs ys : List ℕ) → AreBytes xs → AreBytes ys → AreBytes (xs ++ ys)
append xs ys h k = list_all-append is_byte xs ys ∙ rw (h, k) refl

then : {A : Type 0} (P : A → Type 0) (o : Option A) (f : A → Text) → OnSome P o → ((x : A) → P x → Ok (f x)) → Ok (option_and_then f o)
then P None f h k = tt
then P (Some x) f h k = k x h

prepended : (bytes : List ℕ) (o : Text) → AreBytes bytes → Ok o → Ok (prepend bytes o)
prepended bytes None h k = tt
prepended bytes (Some s) h k = append bytes s h k

one : (x : ℕ) → x < 256 → AreBytes (x ∷ [])
one x h = rw (byte x h) refl

two : (x y : ℕ) → x < 256 → y < 256 → AreBytes (x ∷ y ∷ [])
two x y h k = rw (byte x h, byte y k) refl

three : (x y z : ℕ) → x < 256 → y < 256 → z < 256 → AreBytes (x ∷ y ∷ z ∷ [])
three x y z h k l = rw (byte x h, byte y k, byte z l) refl

four : (x y z w : ℕ) → x < 256 → y < 256 → z < 256 → w < 256 → AreBytes (x ∷ y ∷ z ∷ w ∷ [])
four x y z w h k l m = rw (byte x h, byte y k, byte z l, byte w m) refl

lower : (c n : ℕ) → nat_lt c n ≡ true → c < n
lower c n h = grind (arith, nat_tests)

next : (c : ℕ) → 128 + c % 64 < 256
next c = omega arith

pub encoded : (c : ℕ) → c < 4194304 → AreBytes (encode_utf8 c)
unfolding encode_utf8
encoded c h =
    when AreBytes (nat_lt c 128) (c ∷ []) _ (λ t. let low = lower c 128 t in one c (omega arith)) (λ _.
    when AreBytes (nat_lt c 2048) ((192 + c / 64) ∷ (128 + c % 64) ∷ []) _ (λ t. let low = lower c 2048 t in two (192 + c / 64) (128 + c % 64) (omega arith) (next c)) (λ _.
    when AreBytes (nat_lt c 65536) ((224 + c / 4096) ∷ (128 + c / 64 % 64) ∷ (128 + c % 64) ∷ []) _
    (λ t. let low = lower c 65536 t in three (224 + c / 4096) (128 + c / 64 % 64) (128 + c % 64) (omega arith) (next (c / 64)) (next c))
    (λ _. four (240 + c / 262144) (128 + c / 4096 % 64) (128 + c / 64 % 64) (128 + c % 64) (omega arith) (next (c / 4096)) (next (c / 64)) (next c))))

digit_small : (c : ℕ) → digit_value c ≤ 36
digit_small c =
    let P : ℕ → Type 0 = λ n. n ≤ 36 in
    when P (nat_lt c 48) 36 _ (λ _. omega arith) (λ _.
    when P (nat_lt c 58) (c - 48) _ (λ t. let low = lower c 58 t in omega arith) (λ _.
    when P (nat_lt c 65) 36 _ (λ _. omega arith) (λ _.
    when P (nat_lt c 91) (c - 55) _ (λ t. let low = lower c 91 t in omega arith) (λ _.
    when P (nat_lt c 97) 36 _ (λ _. omega arith) (λ _.
    when P (nat_lt c 123) (c - 87) 36 (λ t. let low = lower c 123 t in omega arith) (λ _. omega arith))))))

abbrev IsUnit : ℕ → Type 0
IsUnit u = u < 200000

unit_small : (a b c d : ℕ) → OnSome IsUnit (code_unit a b c d)
unfolding code_unit
unit_small a b c d =
    let ha = digit_small a in
    let hb = digit_small b in
    let hc = digit_small c in
    let hd = digit_small d in
    both (OnSome IsUnit) _ (Some (digit_value a * 4096 + digit_value b * 256 + digit_value c * 16 + digit_value d)) None (omega arith) tt

abbrev IsByte : ℕ → Type 0
IsByte c = c < 256

short_small : (x : ℕ) → x < 256 → OnSome IsByte (short_escape x)
unfolding short_escape
short_small x h =
    let P : Option ℕ → Type 0 = OnSome IsByte in
    both P _ (Some x) _ h
    (both P (x == 98) (Some 8) _ (omega arith) (both P (x == 102) (Some 12) _ (omega arith) (both P (x == 110) (Some 10) _ (omega arith)
    (both P (x == 114) (Some 13) _ (omega arith) (both P (x == 116) (Some 9) None (omega arith) tt)))))

abbrev IsHigh : Within → Type 0
IsHigh plain = ⊤
IsHigh after_backslash = ⊤
IsHigh after_u = ⊤
IsHigh (after_high h) = h < 56320

high_below : (u : ℕ) → is_high_surrogate u ≡ true → u < 56320
high_below u h = grind (arith, nat_tests)

low_below : (u : ℕ) → is_low_surrogate u ≡ true → u < 57344
low_below u h = grind (arith, nat_tests)

first : (x : ℕ) (xs : List ℕ) → AreBytes (x ∷ xs) → (x < 256) × AreBytes xs
first x xs h = let p = and_parts (is_byte x) (list_all is_byte xs) h in (below x p.0, p.1)

pair_small : (h l : ℕ) → h < 56320 → l < 57344 → surrogate_pair h l < 4194304
pair_small h l a b = omega arith

content_bytes : (w : Within) (xs : List ℕ) → IsHigh w → AreBytes xs → Ok (content w xs)
unfolding content
content_bytes plain [] i h = tt
content_bytes plain (x ∷ xs) i h =
    let p = first x xs h in
    both Ok (x == 34) (Some []) _ refl
    (both Ok (x == 92) (content after_backslash xs) _ (content_bytes after_backslash xs tt p.1)
    (both Ok (nat_lt x 32) None (prepend (x ∷ []) (content plain xs)) tt (prepended (x ∷ []) (content plain xs) (one x p.0) (content_bytes plain xs tt p.1))))
content_bytes after_backslash [] i h = tt
content_bytes after_backslash (x ∷ xs) i h =
    let p = first x xs h in
    let more = content_bytes plain xs tt p.1 in
    both Ok (x == 117) (content after_u xs) _ (content_bytes after_u xs tt p.1)
    (then IsByte (short_escape x) (λ c. prepend (c ∷ []) (content plain xs)) (short_small x p.0) (λ c small. prepended (c ∷ []) (content plain xs) (one c small) more))
content_bytes after_u [] i h = tt
content_bytes after_u (a ∷ []) i h = tt
content_bytes after_u (a ∷ b ∷ []) i h = tt
content_bytes after_u (a ∷ b ∷ c ∷ []) i h = tt
content_bytes after_u (a ∷ b ∷ c ∷ d ∷ xs) i h =
    let rest = (first d xs (first c (d ∷ xs) (first b (c ∷ d ∷ xs) (first a (b ∷ c ∷ d ∷ xs) h).1).1).1).1 in
    let more = content_bytes plain xs tt rest in
    then IsUnit (code_unit a b c d) _ (unit_small a b c d) (λ u small.
    when Ok (is_high_surrogate u) (content (after_high u) xs) _ (λ t. content_bytes (after_high u) xs (high_below u t) rest)
    (λ _. both Ok (is_low_surrogate u) None _ tt (prepended (encode_utf8 u) (content plain xs) (encoded u (omega arith)) more)))
content_bytes (after_high g) [] i h = tt
content_bytes (after_high g) (s ∷ []) i h = tt
content_bytes (after_high g) (s ∷ u ∷ []) i h = tt
content_bytes (after_high g) (s ∷ u ∷ a ∷ []) i h = tt
content_bytes (after_high g) (s ∷ u ∷ a ∷ b ∷ []) i h = tt
content_bytes (after_high g) (s ∷ u ∷ a ∷ b ∷ c ∷ []) i h = tt
content_bytes (after_high g) (s ∷ u ∷ a ∷ b ∷ c ∷ d ∷ xs) i h =
    let rest = (first d xs (first c (d ∷ xs) (first b (c ∷ d ∷ xs) (first a (b ∷ c ∷ d ∷ xs) (first u (a ∷ b ∷ c ∷ d ∷ xs) (first s (u ∷ a ∷ b ∷ c ∷ d ∷ xs) h).1).1).1).1).1).1 in
    let more = content_bytes plain xs tt rest in
    both Ok _ _ None (then IsUnit (code_unit a b c d) _ (unit_small a b c d) (λ l small.
    when Ok (is_low_surrogate l) (prepend (encode_utf8 (surrogate_pair g l)) (content plain xs)) None
    (λ t. prepended (encode_utf8 (surrogate_pair g l)) (content plain xs) (encoded (surrogate_pair g l) (pair_small g l i (low_below l t))) more) (λ _. tt))) tt

abbrev TokenBytes : Token → Type 0
TokenBytes Token.begin_object = ⊤
TokenBytes Token.end_object = ⊤
TokenBytes Token.begin_array = ⊤
TokenBytes Token.end_array = ⊤
TokenBytes (Token.key s) = AreBytes s
TokenBytes (Token.string s) = AreBytes s
TokenBytes (Token.number s) = ⊤
TokenBytes (Token.boolean b) = ⊤
TokenBytes Token.null = ⊤
TokenBytes Token.bad = ⊤

abbrev AllTokens : List Token → Type 0
AllTokens [] = ⊤
AllTokens (t ∷ ts) = TokenBytes t × AllTokens ts

abbrev LexemeBytes : Lexeme → Type 0
LexemeBytes (token t) = TokenBytes t
LexemeBytes comma = ⊤
LexemeBytes colon = ⊤

abbrev AllLexemes : List Lexeme → Type 0
AllLexemes [] = ⊤
AllLexemes (l ∷ ls) = LexemeBytes l × AllLexemes ls

text_token : (o : Text) → Ok o → TokenBytes (string_token o)
text_token None h = tt
text_token (Some s) h = h

number_token : (t : List ℕ) (o : Text) → TokenBytes (number_before t o)
number_token t None = tt
number_token t (Some rest) = both TokenBytes (ends_word rest) (Token.number (take (length t - length rest) t)) Token.bad tt tt

literal_token : (name : List ℕ) (u : Token) (t : List ℕ) → TokenBytes u → TokenBytes (literal name u t)
literal_token name u t h = both TokenBytes (starts_with nat_eq t name && ends_word (drop (length name) t)) u Token.bad h tt

word_token : (t : List ℕ) → TokenBytes (word t)
unfolding word
word_token t =
    let is_true : Token = literal true_text (Token.boolean true) t in
    let is_false : Token = literal false_text (Token.boolean false) t in
    let is_null : Token = literal null_text Token.null t in
    let a_number : Token = number_before t (after_number t) in
    both TokenBytes (head t == 116) is_true (cond (head t == 102) is_false (cond (head t == 110) is_null a_number)) (literal_token true_text (Token.boolean true) t tt)
    (both TokenBytes (head t == 102) is_false (cond (head t == 110) is_null a_number) (literal_token false_text (Token.boolean false) t tt)
    (both TokenBytes (head t == 110) is_null a_number (literal_token null_text Token.null t tt) (number_token t (after_number t))))

operator_token : (x : ℕ) → LexemeBytes (operator_lexeme x)
operator_token x =
    both LexemeBytes (x == 123) (token Token.begin_object) _ tt (both LexemeBytes (x == 125) (token Token.end_object) _ tt
    (both LexemeBytes (x == 91) (token Token.begin_array) _ tt (both LexemeBytes (x == 93) (token Token.end_array) _ tt
    (both LexemeBytes (x == 44) comma colon tt tt))))

lexed : (m : Mode) (c : Class) (x : ℕ) (xs : List ℕ) (k : Mode → List Lexeme) → AreBytes xs → ((n : Mode) → AllLexemes (k n)) → AllLexemes (lex_byte m c x xs k)
lexed between quote x xs k h more = (text_token (content plain xs) (content_bytes plain xs tt h), more in_string)
lexed between backslash x xs k h more = (tt, more in_word)
lexed between operator x xs k h more = (operator_token x, more between)
lexed between space x xs k h more = more between
lexed between other x xs k h more = (word_token (x ∷ xs), more in_word)
lexed in_word quote x xs k h more = more in_word
lexed in_word backslash x xs k h more = more in_word
lexed in_word operator x xs k h more = (operator_token x, more between)
lexed in_word space x xs k h more = more between
lexed in_word other x xs k h more = more in_word
lexed in_string quote x xs k h more = more between
lexed in_string backslash x xs k h more = more in_escape
lexed in_string operator x xs k h more = more in_string
lexed in_string space x xs k h more = more in_string
lexed in_string other x xs k h more = more in_string
lexed in_escape c x xs k h more = more in_string

all_lexed : (m : Mode) (xs : List ℕ) → AreBytes xs → AllLexemes (lex m xs)
unfolding lex
all_lexed m [] h = tt
all_lexed m (x ∷ xs) h = let p = first x xs h in lexed m (class x) x xs (λ n. lex n xs) p.1 (λ n. all_lexed n xs p.1)

allowed : (b : Bool) (t : Token) (k : Place → List Token) (n : Place) → TokenBytes t → ((p : Place) → AllTokens (k p)) → AllTokens (if_allowed b t k n)
allowed true t k n h more = (h, more n)
allowed false t k n h more = (tt, tt)

placed : (p : Place) (t : Token) (b : Bool) (k : Place → List Token) → TokenBytes t → ((n : Place) → AllTokens (k n)) → AllTokens (place_token p t b k)
placed p Token.begin_object b k h more = allowed (may_begin p) Token.begin_object k fresh tt more
placed p Token.end_object b k h more = allowed (may_close p) Token.end_object k after_value tt more
placed p Token.begin_array b k h more = allowed (may_begin p) Token.begin_array k fresh tt more
placed p Token.end_array b k h more = allowed (may_close p) Token.end_array k after_value tt more
placed p (Token.key s) b k h more = (tt, tt)
placed p (Token.string s) true k h more = allowed (may_begin p) (Token.key s) k after_key h more
placed p (Token.string s) false k h more = allowed (may_begin p) (Token.string s) k after_value h more
placed p (Token.number s) b k h more = allowed (may_begin p) (Token.number s) k after_value tt more
placed p (Token.boolean c) b k h more = allowed (may_begin p) (Token.boolean c) k after_value tt more
placed p Token.null b k h more = allowed (may_begin p) Token.null k after_value tt more
placed p Token.bad b k h more = (tt, tt)

punctuated : (p : Place) (ls : List Lexeme) → AllLexemes ls → AllTokens (punctuate p ls)
unfolding punctuate
punctuated fresh [] h = tt
punctuated after_value [] h = tt
punctuated after_comma [] h = (tt, tt)
punctuated after_key [] h = (tt, tt)
punctuated fresh (token t ∷ ls) h = placed fresh t (begins_colon ls) (λ n. punctuate n ls) h.0 (λ n. punctuated n ls h.1)
punctuated after_value (token t ∷ ls) h = placed after_value t (begins_colon ls) (λ n. punctuate n ls) h.0 (λ n. punctuated n ls h.1)
punctuated after_comma (token t ∷ ls) h = placed after_comma t (begins_colon ls) (λ n. punctuate n ls) h.0 (λ n. punctuated n ls h.1)
punctuated after_key (token t ∷ ls) h = placed after_key t (begins_colon ls) (λ n. punctuate n ls) h.0 (λ n. punctuated n ls h.1)
punctuated fresh (comma ∷ ls) h = (tt, tt)
punctuated after_value (comma ∷ ls) h = punctuated after_comma ls h.1
punctuated after_comma (comma ∷ ls) h = (tt, tt)
punctuated after_key (comma ∷ ls) h = (tt, tt)
punctuated fresh (colon ∷ ls) h = (tt, tt)
punctuated after_value (colon ∷ ls) h = (tt, tt)
punctuated after_comma (colon ∷ ls) h = (tt, tt)
punctuated after_key (colon ∷ ls) h = punctuated fresh ls h.1

pub token_bytes : (text : List ℕ) → AreBytes text → AllTokens (tokens text)
token_bytes text h = punctuated fresh (lex between text) (all_lexed between text h)

-- ---- values

abbrev mutual
  JsonBytes : Json → Type 0
  JsonBytes json.null = ⊤
  JsonBytes (json.boolean b) = ⊤
  JsonBytes (json.number s) = ⊤
  JsonBytes (json.string s) = AreBytes s
  JsonBytes (json.array js) = ItemBytes js
  JsonBytes (json.object ms) = MemberBytes ms

  ItemBytes : json.Items → Type 0
  ItemBytes json.no_items = ⊤
  ItemBytes (json.item j js) = JsonBytes j × ItemBytes js

  MemberBytes : json.Members → Type 0
  MemberBytes json.no_members = ⊤
  MemberBytes (json.member k j ms) = AreBytes k × JsonBytes j × MemberBytes ms

split : (ts us : List Token) → AllTokens (ts ++ us) → AllTokens ts × AllTokens us
split [] us h = (tt, h)
split (t ∷ ts) us h = let p = split ts us h.1 in ((h.0, p.0), p.1)

mutual
  json_bytes : (j : Json) → AllTokens (json_tokens j) → JsonBytes j
  json_bytes json.null h = tt
  json_bytes (json.boolean b) h = tt
  json_bytes (json.number s) h = tt
  json_bytes (json.string s) h = h.0
  json_bytes (json.array js) h = item_bytes js h.1
  json_bytes (json.object ms) h = member_bytes ms h.1

  item_bytes : (js : json.Items) → AllTokens (items_tokens js) → ItemBytes js
  item_bytes json.no_items h = tt
  item_bytes (json.item j js) h = let p = split (json_tokens j) (items_tokens js) h in (json_bytes j p.0, item_bytes js p.1)

  member_bytes : (ms : json.Members) → AllTokens (members_tokens ms) → MemberBytes ms
  member_bytes json.no_members h = tt
  member_bytes (json.member k j ms) h = let p = split (json_tokens j) (members_tokens ms) h.1 in (h.0, json_bytes j p.0, member_bytes ms p.1)

abbrev mutual
  pub DataBytes : Data → Type 0
  DataBytes null = ⊤
  DataBytes (boolean b) = ⊤
  DataBytes (number n) = ⊤
  DataBytes (string s) = AreBytes s
  DataBytes (array ds) = DataItemBytes ds
  DataBytes (object ms) = DataMemberBytes ms

  pub DataItemBytes : Items → Type 0
  DataItemBytes no_items = ⊤
  DataItemBytes (item d ds) = DataBytes d × DataItemBytes ds

  pub DataMemberBytes : Members → Type 0
  DataMemberBytes no_members = ⊤
  DataMemberBytes (member k d ms) = AreBytes k × DataBytes d × DataMemberBytes ms

by_order : {A : Type 0} (P : A → Type 0) (o : Ordering) (x y z : A) → P x → P y → P z → P (match_ordering o x y z)
by_order P Less x y z h k l = h
by_order P Equal x y z h k l = k
by_order P Greater x y z h k l = l

put_bytes : (k : List ℕ) (d : Data) (ms : Members) → AreBytes k → DataBytes d → DataMemberBytes ms → DataMemberBytes (put k d ms)
put_bytes k d no_members hk hd h = (hk, hd, tt)
put_bytes k d (member l e ms) hk hd h =
    by_order DataMemberBytes (slice_cmp nat_cmp k l) (member k d (member l e ms)) (member l d ms) (member l e (put k d ms))
    (hk, hd, h) (h.0, hd, h.2) (h.0, h.1, put_bytes k d ms hk hd h.2)

some_number : (o : Option Num) → OnSome DataBytes (option_map number o)
some_number None = tt
some_number (Some n) = tt

some_array : (o : Option Items) → OnSome DataItemBytes o → OnSome DataBytes (option_map array o)
some_array None h = tt
some_array (Some ds) h = h

some_object : (o : Option Members) → OnSome DataMemberBytes o → OnSome DataBytes (option_map object o)
some_object None h = tt
some_object (Some ms) h = h

one_item : (d : Data) (o : Option Items) → DataBytes d → OnSome DataItemBytes o → OnSome DataItemBytes (option_map (item d) o)
one_item d None h k = tt
one_item d (Some ds) h k = (h, k)

more_items : (o : Option Data) (p : Option Items) → OnSome DataBytes o → OnSome DataItemBytes p → OnSome DataItemBytes (option_and_then (λ d. option_map (item d) p) o)
more_items None p h k = tt
more_items (Some d) p h k = one_item d p h k

more_members : (o : Option Data) (f : Data → Option Members) → OnSome DataBytes o → ((d : Data) → DataBytes d → OnSome DataMemberBytes (f d)) → OnSome DataMemberBytes (option_and_then f o)
more_members None f h k = tt
more_members (Some d) f h k = k d h

mutual
  data_bytes : (j : Json) → JsonBytes j → OnSome DataBytes (of_json j)
  data_bytes json.null h = tt
  data_bytes (json.boolean b) h = tt
  data_bytes (json.number s) h = some_number (number_of s)
  data_bytes (json.string s) h = h
  data_bytes (json.array js) h = some_array (of_items js) (data_items js h)
  data_bytes (json.object ms) h = some_object (of_members ms no_members) (data_members ms no_members h tt)

  data_items : (js : json.Items) → ItemBytes js → OnSome DataItemBytes (of_items js)
  data_items json.no_items h = tt
  data_items (json.item j js) h = more_items (of_json j) (of_items js) (data_bytes j h.0) (data_items js h.1)

  data_members : (ms : json.Members) (found : Members) → MemberBytes ms → DataMemberBytes found → OnSome DataMemberBytes (of_members ms found)
  data_members json.no_members found h k = k
  data_members (json.member l j ms) found h k =
      more_members (of_json j) (λ d. of_members ms (put l d found)) (data_bytes j h.1) (λ d hd. data_members ms (put l d found) h.2 (put_bytes l d found h.0 hd k))

whole_bytes : (ts : List Token) (o : Option (Json × List Token)) → AllTokens ts → ((j : Json) (rest : List Token) → o ≡ Some (j, rest) → ts ≡ json_tokens j ++ rest)
    → OnSome DataBytes (option_and_then of_json (option_and_then (λ (p : Json × List Token). if_last p.0 p.1) o))
whole_bytes ts None h are = tt
whole_bytes ts (Some (j, [])) h are =
    let all : AllTokens (json_tokens j ++ []) = subst AllTokens (are j [] refl) h in
    data_bytes j (json_bytes j (split (json_tokens j) [] all).0)
whole_bytes ts (Some (j, t ∷ rest)) h are = tt

read_so : (text : List ℕ) → AreBytes text → OnSome DataBytes (read text)
read_so text h = whole_bytes (tokens text) (json.value max_depth (tokens text)) (token_bytes text h) (λ j rest e. tokens_are max_depth (tokens text) j rest e)

encodes_bytes : (cs : List ℕ) → scalars cs ≡ true → AreBytes (encodes cs)
encodes_bytes [] h = refl
encodes_bytes (c ∷ cs) h =
    let p = and_parts (scalar c) (scalars cs) h in
    append (encode_utf8 c) (encodes cs) (encoded c (⊎_elim (λ low. omega arith) (λ high. omega (arith, high.1)) (scalar_cases c p.0))) (encodes_bytes cs p.1)

utf8_bytes : (text : List ℕ) → is_utf8 text ≡ true → AreBytes text
utf8_bytes text h = let u = IsUtf8-from_is_utf8 text h in subst AreBytes u.1.1 (encodes_bytes u.0 u.1.0)

read_by : (text : List ℕ) (b : Bool) → is_utf8 text ≡ b → OnSome DataBytes (cond b (read text) None)
read_by text true h = read_so text (utf8_bytes text h)
read_by text false h = tt

pub read_bytes : (text : List ℕ) (d : Data) → read_json text ≡ Some d → DataBytes d
read_bytes text d h = subst (OnSome DataBytes) h (read_by text (is_utf8 text) refl)

-- ---- what is written of them

letter_bytes : (b : ℕ) → OnSome IsByte (escape_letter b)
letter_bytes b =
    let P : Option ℕ → Type 0 = OnSome IsByte in
    both P (b == 34) (Some 34) _ (omega arith) (both P (b == 92) (Some 92) _ (omega arith) (both P (b == 8) (Some 98) _ (omega arith)
    (both P (b == 12) (Some 102) _ (omega arith) (both P (b == 10) (Some 110) _ (omega arith) (both P (b == 13) (Some 114) _ (omega arith)
    (both P (b == 9) (Some 116) None (omega arith) tt))))))

glyph : (d : ℕ) → d < 16 → digit_glyph false d < 256
glyph d h = grind (arith, nat_tests)

digits_bytes : (n v : ℕ) → AreBytes (last_digits 16 n v)
unfolding last_digits
digits_bytes zero v = refl
digits_bytes (suc n) v = append (last_digits 16 n (v / 16)) (digit_glyph false (v % 16) ∷ []) (digits_bytes n (v / 16)) (one (digit_glyph false (v % 16)) (glyph (v % 16) (omega arith)))

escaped_so : (o : Option ℕ) (b : ℕ) → b < 256 → OnSome IsByte o → AreBytes (escaped_with o b)
escaped_so (Some letter) b h k = append (codes "\\") (letter ∷ []) refl (one letter k)
escaped_so None b h k =
    both AreBytes (nat_lt b 32) (codes "\\u00" ++ padded_hexadecimal 2 b) (b ∷ []) (append (codes "\\u00") (padded_hexadecimal 2 b) refl (digits_bytes 2 b)) (one b h)

escaped_bytes : (text : List ℕ) → AreBytes text → AreBytes (flat_map escaped_byte text)
unfolding escaped_byte
escaped_bytes [] h = refl
escaped_bytes (b ∷ bs) h =
    let p = first b bs h in
    append (escaped_with (escape_letter b) b) (flat_map escaped_byte bs) (escaped_so (escape_letter b) b p.0 (letter_bytes b)) (escaped_bytes bs p.1)

pub quoted_bytes : (text : List ℕ) → AreBytes text → AreBytes (quoted text)
quoted_bytes text h = append (codes "\"" ++ flat_map escaped_byte text) (codes "\"") (append (codes "\"") (flat_map escaped_byte text) refl (escaped_bytes text h)) refl

comma_bytes : (later : Bool) → AreBytes (comma_if later)
comma_bytes true = refl
comma_bytes false = refl

truth_bytes : (b : Bool) → AreBytes (truth_text b)
truth_bytes true = refl
truth_bytes false = refl

mutual
  pub value_bytes : (d : Data) → DataBytes d → AreBytes (value_text d)
  value_bytes null h = refl
  value_bytes (boolean b) h = truth_bytes b
  value_bytes (number n) h = refl
  value_bytes (string s) h = quoted_bytes s h
  value_bytes (array ds) h = append (codes "[") (items_text false ds) refl (items_bytes false ds h)
  value_bytes (object ms) h = append (codes "{") (members_text false ms) refl (members_bytes false ms h)

  items_bytes : (later : Bool) (ds : Items) → DataItemBytes ds → AreBytes (items_text later ds)
  items_bytes later no_items h = refl
  items_bytes later (item d more) h =
      append (comma_if later) (value_text d ++ items_text true more) (comma_bytes later) (append (value_text d) (items_text true more) (value_bytes d h.0) (items_bytes true more h.1))

  members_bytes : (later : Bool) (ms : Members) → DataMemberBytes ms → AreBytes (members_text later ms)
  members_bytes later no_members h = refl
  members_bytes later (member name d more) h =
      append (comma_if later) (quoted name ++ (codes ":" ++ (value_text d ++ members_text true more))) (comma_bytes later)
      (append (quoted name) (codes ":" ++ (value_text d ++ members_text true more)) (quoted_bytes name h.0)
      (append (codes ":") (value_text d ++ members_text true more) refl (append (value_text d) (members_text true more) (value_bytes d h.1) (members_bytes true more h.2))))
