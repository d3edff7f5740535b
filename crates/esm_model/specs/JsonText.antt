-- JSON texts as this product writes them. Source: RFC 8259, section 7. This product's own: a short escape is used wherever
-- there is one, and only what has to be escaped is.
use Rattle.std.specs.Prelude.{ℕ, List, [], ◌∷◌, ◌++◌, ◌==◌, nat_lt, if◌then◌else◌, codes, Bool, Option, Some, None}
use Rattle.std.specs.List.{flat_map}
use Rattle.esm_model.specs.Numbers.{padded_hexadecimal}

-- the character after the backslash in a byte's short escape; `"`, `\`, backspace, form feed, line feed, carriage return and
-- tab have one
abbrev pub escape_letter : ℕ → Option ℕ
escape_letter b =
    if b == 34 then Some 34
    else (if b == 92 then Some 92
    else (if b == 8 then Some 98
    else (if b == 12 then Some 102
    else (if b == 10 then Some 110
    else (if b == 13 then Some 114
    else (if b == 9 then Some 116
    else None))))))

-- a byte without a short escape: below U+0020 by its number, any other as it is
abbrev pub escaped_with : Option ℕ → ℕ → List ℕ
escaped_with (Some letter) b = codes "\\" ++ letter ∷ []
escaped_with None b = if nat_lt b 32 then codes "\\u00" ++ padded_hexadecimal 2 b else b ∷ []

-- how a byte of a text is written
unfoldable pub escaped_byte : ℕ → List ℕ
escaped_byte b = escaped_with (escape_letter b) b

-- the text of these bytes between quotation marks
abbrev pub quoted : List ℕ → List ℕ
quoted text = codes "\"" ++ flat_map escaped_byte text ++ codes "\""

-- `true` or `false`
abbrev pub truth_text : Bool → List ℕ
truth_text b = if b then codes "true" else codes "false"
