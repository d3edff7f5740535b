-- The scan that finds the state in an answer. Only this crate's proofs cite this.
use Rattle.std.specs.Prelude.{ℕ, ◌+◌, ◌-◌, ◌==◌, nat_le, List, [], ◌∷◌, take, drop, reverse, slice_range, codes, Bool, false, ◌&&◌, ◌||◌, if◌then◌else◌, Option, Some, None}
use Rattle.std.specs.List.{prefix_len}
use Rattle.std.specs.Option.{option_or}
use Rattle.std.specs.Str.{bytes_eq}
use Rattle.serde_json.specs.Data.{Data, null, string, object}
use Rattle.serde_json.specs.Find.{get_member}
use Rattle.esm_model.specs.Json.{read_json}
use Rattle.esm_model.specs.declared.limits.TheConstants.{MAX_DATA}
use Rattle.esm_model.specs.declared.verdict.StateRead.{StateRead}
use Rattle.esm_model.specs.declared.verdict.StateRead.TheVariants.{Empty, Span, Bad}

-- ---- where the members of the outermost object are in a text that reads as JSON

-- where a byte is: outside texts, in a text, or just after a backslash in one
pub data Part : Type 0 where
  outside : Part
  in_text : Part
  in_escape : Part

abbrev pub part_after : Part → ℕ → Part
part_after outside x = if x == 34 then in_text else outside
part_after in_text x = if x == 34 then outside else (if x == 92 then in_escape else in_text)
part_after in_escape x = in_text

-- the number of open brackets after the byte
abbrev pub depth_after : Part → ℕ → ℕ → ℕ
depth_after outside depth x = if (x == 123) || (x == 91) then depth + 1 else (if (x == 125) || (x == 93) then depth - 1 else depth)
depth_after in_text depth x = depth
depth_after in_escape depth x = depth

-- the byte is a brace of the outermost object, or one of its colons and commas
abbrev pub is_mark : Part → ℕ → ℕ → Bool
is_mark outside depth x = ((x == 123) && (depth == 0)) || (((x == 125) || (x == 58) || (x == 44)) && (depth == 1))
is_mark in_text depth x = false
is_mark in_escape depth x = false

-- The places of these marks: the opening brace, and then in turn the end of each key and of each value. The text continues
-- at `place`, in this part and with `depth` brackets open.
unfoldable pub marks : Part → ℕ → ℕ → List ℕ → List ℕ
marks part depth place [] = []
marks part depth place (x ∷ xs) =
    if is_mark part depth x
    then place ∷ marks (part_after part x) (depth_after part depth x) (place + 1) xs
    else marks (part_after part x) (depth_after part depth x) (place + 1) xs

abbrev pub is_text : List ℕ → Option Data → Bool
is_text text (Some (string s)) = bytes_eq s text
is_text text _ = false

-- the bytes between the marks `start` and `end`
abbrev pub between : List ℕ → ℕ → ℕ → List ℕ
between text start end = slice_range text (start + 1) end

-- the colon and the end of the last member whose key reads as `state`
unfoldable pub last_state : List ℕ → List ℕ → Option (ℕ × ℕ)
last_state text [] = None
last_state text (start ∷ []) = None
last_state text (start ∷ colon ∷ []) = None
last_state text (start ∷ colon ∷ end ∷ more) =
    option_or (last_state text (end ∷ more)) (if is_text (codes "state") (read_json (between text start colon)) then Some (colon, end) else None)

-- ---- what is read

abbrev pub is_space : ℕ → Bool
is_space x = (x == 32) || (x == 9) || (x == 10) || (x == 13)

-- the bytes between two marks, without the spaces around them; no more than a state may have
abbrev pub span_between : List ℕ → ℕ → ℕ → StateRead
span_between text start end =
    let from = start + 1 + prefix_len is_space (drop (start + 1) text) in
    let to = end - prefix_len is_space (reverse (take end text)) in
    if nat_le (to - from) MAX_DATA then Span from to else Bad

abbrev pub span_of : List ℕ → Option (ℕ × ℕ) → StateRead
span_of text None = Bad
span_of text (Some p) = span_between text p.0 p.1

-- from the value of the member
abbrev pub member_state : List ℕ → Option Data → StateRead
member_state text None = Empty
member_state text (Some null) = Empty
member_state text (Some (object ms)) = span_of text (last_state text (marks outside 0 0 text))
member_state text (Some _) = Bad

-- from the whole answer
abbrev pub body_state : List ℕ → Option Data → StateRead
body_state text (Some null) = Empty
body_state text (Some (object ms)) = member_state text (get_member (codes "state") ms)
body_state text _ = Bad

-- `Empty` for an empty or `null` answer and for one without `state` or with `null` there; the bytes of an object; `Bad` for
-- anything else.
unfoldable pub scanned_state : List ℕ → StateRead
scanned_state [] = Empty
scanned_state (x ∷ xs) = body_state (x ∷ xs) (read_json (x ∷ xs))
