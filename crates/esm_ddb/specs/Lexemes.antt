-- Where lexemes begin, by the mode of the lexer, and how many lexemes lists and objects have. Only this crate's proofs
-- cite this.
use Rattle.std.specs.Prelude.{ℕ, ◌+◌, List, [], ◌∷◌, ◌++◌, Bool, true, false, if◌then◌else◌}
use Rattle.json.specs.Lex.{Class, quote, backslash, operator, space, other, class, Mode, between, in_word, in_string, in_escape}
use Rattle.json.specs.Json.{Items, no_items, item, Members, no_members, member}
use Rattle.esm_model.specs.State.{size}
use Rattle.esm_window.specs.Layout.{next}
use Rattle.esm_ddb.specs.declared.lexeme.Kind as code
use Rattle.esm_ddb.specs.declared.lexeme.Kind.TheVariants as kind
use Rattle.esm_ddb.specs.declared.lexeme.Mode as lexer
use Rattle.esm_ddb.specs.declared.lexeme.Mode.TheVariants as mode

abbrev pub class_of : code.Kind → Class
class_of kind.Quote = quote
class_of kind.Backslash = backslash
class_of kind.Operator = operator
class_of kind.Space = space
class_of kind.Other = other

abbrev pub mode_of : lexer.Mode → Mode
mode_of mode.Between = between
mode_of mode.InWord = in_word
mode_of mode.InText = in_string
mode_of mode.InEscape = in_escape

-- whether a lexeme begins with a byte of this class
abbrev pub begins : Mode → Class → Bool
begins between quote = true
begins between backslash = true
begins between operator = true
begins between space = false
begins between other = true
begins in_word quote = false
begins in_word backslash = false
begins in_word operator = true
begins in_word space = false
begins in_word other = false
begins in_string c = false
begins in_escape c = false

abbrev pub place_if : Bool → ℕ → List ℕ
place_if is place = if is then place ∷ [] else []

-- the places at which lexemes begin; the bytes begin at place `p`
unfoldable pub places_from : Mode → ℕ → List ℕ → List ℕ
places_from m p [] = []
places_from m p (x ∷ xs) = place_if (begins m (class x)) p ++ places_from (next m (class x)) (p + 1) xs

-- the lexemes of the items or members, each with the one behind it
abbrev pub items_sum : Items → ℕ
items_sum no_items = 0
items_sum (item j js) = size j + 1 + items_sum js

abbrev pub members_sum : Members → ℕ
members_sum no_members = 0
members_sum (member k j ms) = size j + 3 + members_sum ms
