-- The lexemes of a text with their places, and the scan over them. Only this crate's proofs cite this.
use Rattle.std.specs.Prelude.{◌≡◌, ℕ, ◌+◌, ◌-◌, ◌&&◌, List, [], ◌∷◌, ◌++◌, take, drop, get_or, reverse, codes, Bool, true, false, if◌then◌else◌, Option, Some, None, ⊤}
use Rattle.std.specs.List.{prefix_len}
use Rattle.std.specs.Option.{option_or}
use Rattle.json.specs.Token.{Token}
use Rattle.json.specs.Text.{content, plain}
use Rattle.json.specs.Word.{is_space, word}
use Rattle.json.specs.Lex.{Lexeme, token, comma, colon, Class, quote, backslash, operator, space, other, class, operator_lexeme, string_token, Mode, between, in_word, in_string, in_escape, Place, fresh, after_value, after_comma, after_key}
use Rattle.json.specs.Align.{is_good}
use Rattle.json.specs.Print.{begins, ends}
use Rattle.json.specs.Json.{Members, no_members, member}
use Rattle.esm_model.specs.Json.{read_json}
use Rattle.esm_window.specs.Scan as scan
use Rattle.esm_model.specs.State.{size}

-- the lexer's mode after a byte
abbrev pub next : Mode → Class → Mode
next between quote = in_string
next between backslash = in_word
next between operator = between
next between space = between
next between other = in_word
next in_word quote = in_word
next in_word backslash = in_word
next in_word operator = between
next in_word space = between
next in_word other = in_word
next in_string quote = between
next in_string backslash = in_escape
next in_string operator = in_string
next in_string space = in_string
next in_string other = in_string
next in_escape c = in_string

-- the lexeme that begins at the byte x, which comes before xs
abbrev pub begin : Mode → Class → ℕ → List ℕ → Option Lexeme
begin between quote x xs = Some (token (string_token (content plain xs)))
begin between backslash x xs = Some (token Token.bad)
begin between operator x xs = Some (operator_lexeme x)
begin between space x xs = None
begin between other x xs = Some (token (word (x ∷ xs)))
begin in_word quote x xs = None
begin in_word backslash x xs = None
begin in_word operator x xs = Some (operator_lexeme x)
begin in_word space x xs = None
begin in_word other x xs = None
begin in_string c x xs = None
begin in_escape c x xs = None

abbrev pub put : Option Lexeme → List Lexeme → List Lexeme
put None ls = ls
put (Some l) ls = l ∷ ls

abbrev pub Placed : Type 0
Placed = List (ℕ × Lexeme)

abbrev pub put_at : ℕ → Option Lexeme → Placed → Placed
put_at p None ls = ls
put_at p (Some l) ls = (p, l) ∷ ls

-- the lexemes, with their places, of a text that continues at place p in this mode
unfoldable pub lay : Mode → ℕ → List ℕ → Placed
lay m p [] = []
lay m p (x ∷ xs) = put_at p (begin m (class x) x xs) (lay (next m (class x)) (p + 1) xs)

-- the number of bytes before the first lexeme
abbrev pub gap_before : Option Lexeme → ℕ → ℕ
gap_before None n = 1 + n
gap_before (Some l) n = 0

unfoldable pub gap : Mode → List ℕ → ℕ
gap m [] = 0
gap m (x ∷ xs) = gap_before (begin m (class x) x xs) (gap (next m (class x)) xs)

abbrev pub mode_at : Mode → List ℕ → Mode
mode_at m [] = m
mode_at m (x ∷ xs) = mode_at (next m (class x)) xs

-- ---- the scan over lexemes

-- a byte that the scan treats as it treats the lexeme
abbrev pub token_byte : Token → ℕ
token_byte Token.begin_object = 123
token_byte Token.end_object = 125
token_byte Token.begin_array = 91
token_byte Token.end_array = 93
token_byte (Token.key s) = 48
token_byte (Token.string s) = 48
token_byte (Token.number s) = 48
token_byte (Token.boolean b) = 48
token_byte Token.null = 48
token_byte Token.bad = 48

abbrev pub byte_of : Lexeme → ℕ
byte_of (token t) = token_byte t
byte_of comma = 44
byte_of colon = 58

abbrev pub is_marked : ℕ → Lexeme → Bool
is_marked depth l = scan.is_mark scan.outside depth (byte_of l)

abbrev pub deep : ℕ → Lexeme → ℕ
deep depth l = scan.depth_after scan.outside depth (byte_of l)

abbrev pub begins_mark : ℕ → Option Lexeme → Bool
begins_mark depth None = false
begins_mark depth (Some l) = is_marked depth l

abbrev pub begins_deep : ℕ → Option Lexeme → ℕ
begins_deep depth None = depth
begins_deep depth (Some l) = deep depth l

unfoldable pub marked : ℕ → Placed → List ℕ
marked depth [] = []
marked depth (q ∷ ls) = if is_marked depth q.1 then q.0 ∷ marked (deep depth q.1) ls else marked (deep depth q.1) ls

abbrev pub scanned : Mode → scan.Part
scanned between = scan.outside
scanned in_word = scan.outside
scanned in_string = scan.in_text
scanned in_escape = scan.in_escape

-- ---- the members by the marks around them

-- the brace or comma before a member's key, its colon, and the comma or brace after its value
pub record Bounds : Type 0 where
  pub before : ℕ
  pub colon : ℕ
  pub after : ℕ

-- `places` are those of the lexemes from the brace or comma before the first member on
abbrev pub bounds_at : List ℕ → Members → List Bounds
bounds_at places no_members = []
bounds_at places (member k j ms) =
    record { before = get_or places 0 0; colon = get_or places 2 0; after = get_or places (3 + size j) 0 } ∷ bounds_at (drop (3 + size j) places) ms

abbrev pub is_state : List ℕ → Bounds → Bool
is_state text b = scan.is_text (codes "state") (read_json (scan.between text b.before b.colon))

abbrev pub last_bounds : List ℕ → List Bounds → Option Bounds
last_bounds text [] = None
last_bounds text (b ∷ bs) = option_or (last_bounds text bs) (if is_state text b then Some b else None)

abbrev pub pair_of : Option Bounds → Option (ℕ × ℕ)
pair_of None = None
pair_of (Some b) = Some (b.colon, b.after)

abbrev pub inner_start : List ℕ → Bounds → ℕ
inner_start text b = b.colon + 1 + prefix_len is_space (drop (b.colon + 1) text)

abbrev pub inner_end : List ℕ → Bounds → ℕ
inner_end text b = b.after - prefix_len is_space (reverse (take b.after text))

-- ---- good lexemes and tokens

abbrev pub Good : Lexeme → Type 0
Good (token t) = is_good t ≡ true
Good comma = ⊤
Good colon = ⊤

abbrev pub AllGood : List Lexeme → Type 0
AllGood [] = ⊤
AllGood (l ∷ ls) = Good l × AllGood ls

abbrev pub GoodBegin : Option Lexeme → Type 0
GoodBegin None = ⊤
GoodBegin (Some l) = Good l

abbrev pub NoBad : List Token → Type 0
NoBad [] = ⊤
NoBad (t ∷ ts) = (is_good t ≡ true) × NoBad ts

-- the rest of a word, up to its end, has no quote and no backslash
abbrev pub clean_byte : Class → Bool → Bool
clean_byte quote rest = false
clean_byte backslash rest = false
clean_byte operator rest = true
clean_byte space rest = true
clean_byte other rest = rest

unfoldable pub clean : List ℕ → Bool
clean [] = true
clean (x ∷ xs) = clean_byte (class x) (clean xs)

abbrev pub InWord : Mode → Bool → Type 0
InWord between b = ⊤
InWord in_word b = b ≡ true
InWord in_string b = ⊤
InWord in_escape b = ⊤

-- ---- the lexemes from which tokens come, where a value came just before or not

abbrev pub token_lexemes : Token → List Lexeme
token_lexemes Token.begin_object = token Token.begin_object ∷ []
token_lexemes Token.end_object = token Token.end_object ∷ []
token_lexemes Token.begin_array = token Token.begin_array ∷ []
token_lexemes Token.end_array = token Token.end_array ∷ []
token_lexemes (Token.key s) = token (Token.string s) ∷ colon ∷ []
token_lexemes (Token.string s) = token (Token.string s) ∷ []
token_lexemes (Token.number s) = token (Token.number s) ∷ []
token_lexemes (Token.boolean b) = token (Token.boolean b) ∷ []
token_lexemes Token.null = token Token.null ∷ []
token_lexemes Token.bad = []

abbrev pub comma_if : Bool → List Lexeme
comma_if b = if b then comma ∷ [] else []

abbrev pub lexemes_of : Bool → List Token → List Lexeme
lexemes_of after [] = []
lexemes_of after (t ∷ ts) = comma_if (after && begins t) ++ (token_lexemes t ++ lexemes_of (ends t) ts)

abbrev pub lexemes_at : Place → List Token → List Lexeme
lexemes_at fresh ts = lexemes_of false ts
lexemes_at after_value ts = lexemes_of true ts
lexemes_at after_comma ts = lexemes_of false ts
lexemes_at after_key ts = colon ∷ lexemes_of false ts
