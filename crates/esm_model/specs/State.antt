-- The state in an answer, by JSON's grammar. Source: the Lambda Developer Guide, tumbling windows (the answer's field
-- `state`, an object of at most 1 MB); RFC 8259, section 4 (objects). That other states fail the batch, and that the last
-- of several counts, is this product's own.
use Rattle.std.specs.Prelude.{ℕ, ◌<◌, ◌≤◌, ⊤, ◌+◌, ◌-◌, nat_le, nat_lt, List, [], ◌∷◌, ◌++◌, length, drop, get_or, slice_range, codes, if◌then◌else◌, Option, Some, None}
use Rattle.std.specs.Option.{option_or}
use Rattle.std.specs.Str.{bytes_eq}
use Rattle.json.specs.Token.{Token}
use Rattle.json.specs.Lex.{lex, between, tokens}
use Rattle.json.specs.Json.{Json, Items, no_items, item, Members, no_members, member, value}
use Rattle.json.specs.Json as json
use Rattle.serde_json.specs.Data.{Data, null, object}
use Rattle.serde_json.specs.Find.{get_member}
use Rattle.serde_json.specs.Read.{max_depth}
use Rattle.esm_model.specs.Json.{read_json}
use Rattle.esm_model.specs.declared.limits.TheConstants.{MAX_DATA}
use Rattle.esm_model.specs.declared.verdict.StateRead.{StateRead}
use Rattle.esm_model.specs.declared.verdict.StateRead.TheVariants.{Empty, Span, Bad}

-- ---- the lexemes of a text: texts, numbers and words, brackets, colons and commas

-- how many lexemes begin in the text
abbrev pub begun : List ℕ → ℕ
begun text = length (lex between text)

-- the places at which lexemes begin, after the text `before`: one begins at a byte if with it there is one more
unfoldable pub places : List ℕ → List ℕ → List ℕ
places before [] = []
places before (x ∷ xs) = (if nat_lt (begun before) (begun (before ++ x ∷ [])) then length before ∷ [] else []) ++ places (before ++ x ∷ []) xs

-- 1 for the comma before a further item or member; there is none after the last
abbrev pub comma_before : Items → ℕ
comma_before no_items = 0
comma_before (item j js) = 1

abbrev pub comma_before_member : Members → ℕ
comma_before_member no_members = 0
comma_before_member (member k j ms) = 1

-- the number of lexemes of a value
abbrev mutual
  pub size : Json → ℕ
  size json.null = 1
  size (json.boolean b) = 1
  size (json.number s) = 1
  size (json.string s) = 1
  size (json.array js) = 1 + items_size js
  size (json.object ms) = 1 + members_size ms

  -- the items, their commas and the closing bracket
  pub items_size : Items → ℕ
  items_size no_items = 1
  items_size (item j js) = size j + (comma_before js + items_size js)

  -- the members, their commas and the closing brace; a member has a key, a colon and a value
  pub members_size : Members → ℕ
  members_size no_members = 1
  members_size (member k j ms) = 2 + (size j + (comma_before_member ms + members_size ms))

-- ---- the members of the outermost object

-- a member: its key as read, and the places of the first and of the last lexeme of its value
pub record Member : Type 0 where
  pub key : List ℕ
  pub first : ℕ
  pub last : ℕ

-- The members of an object, in the order of the text. `places` are those of the lexemes from the first key on: that key, its
-- colon, the lexemes of its value, the comma or brace after it, and then the next key.
abbrev pub members_at : List ℕ → Members → List Member
members_at places no_members = []
members_at places (member k j ms) =
    record { key = k; first = get_or places 2 0; last = get_or places (1 + size j) 0 } ∷ members_at (drop (3 + size j) places) ms

-- the members of the object that the grammar reads, if it reads one
abbrev pub members_of : Option (Json × List Token) → Members
members_of (Some (json.object ms, rest)) = ms
members_of _ = no_members

-- the members of the outermost object, behind its opening brace, which is the first lexeme
abbrev pub outermost_members : List ℕ → List Member
outermost_members text = members_at (drop 1 (places [] text)) (members_of (value max_depth (tokens text)))

abbrev pub last_named : List ℕ → List Member → Option Member
last_named name [] = None
last_named name (m ∷ ms) = option_or (last_named name ms) (if bytes_eq m.key name then Some m else None)

-- ---- the state

-- the bytes of an object, from its opening brace to its closing one, which are its first and its last lexeme; no more than a
-- state may have
abbrev pub value_span : Option Member → StateRead
value_span None = Bad
value_span (Some m) = if nat_le (m.last + 1 - m.first) MAX_DATA then Span m.first (m.last + 1) else Bad

-- the span, from the value that the answer has under `state`
abbrev pub found_span : List ℕ → Option Data → StateRead
found_span text None = Empty
found_span text (Some null) = Empty
found_span text (Some (object ms)) = value_span (last_named (codes "state") (outermost_members text))
found_span text (Some _) = Bad

-- the span, from the value of the whole answer
abbrev pub answer_span : List ℕ → Option Data → StateRead
answer_span text (Some null) = Empty
answer_span text (Some (object ms)) = found_span text (get_member (codes "state") ms)
answer_span text _ = Bad

-- `Empty` for an empty or `null` answer and for an object without `state` or with `null` there; the bytes of the last
-- `state` of the outermost object where it is an object of at most `MAX_DATA` bytes; `Bad` otherwise
unfoldable pub state_read : List ℕ → StateRead
state_read [] = Empty
state_read (x ∷ xs) = answer_span (x ∷ xs) (read_json (x ∷ xs))

-- the span lies within the text and is not empty
abbrev pub IsSpanIn : List ℕ → StateRead → Type 0
IsSpanIn text Empty = ⊤
IsSpanIn text (Span from to) = (from < to) × (to ≤ length text)
IsSpanIn text Bad = ⊤

abbrev pub span_bytes : List ℕ → StateRead → List ℕ
span_bytes body Empty = codes "{}"
span_bytes body (Span from to) = slice_range body from to
span_bytes body Bad = codes "{}"

-- the state that a window has after this answer
unfoldable pub answered_state : List ℕ → List ℕ
answered_state body = span_bytes body (state_read body)
