-- How options are spelled among words. The two spellings are those of the POSIX and GNU conventions for long options;
-- that a value is not empty, and that options come in any order and each at most once, is this product's own.
use Rattle.std.specs.Prelude.{◌≡◌, ◌⊎◌, ◌<◌, ◌==◌, ◌&&◌, not, ℕ, Bool, true, false, List, [], ◌∷◌, ◌++◌, length, map, codes, Option, Some, None, is_some, find, option_and_then}
use Rattle.std.specs.List.{IsDistinct, list_all, list_any}
use Rattle.std.specs.Option.{option_map_or}
use Rattle.std.specs.Str.{bytes_eq}

-- an option as it is given: its name, and its value if it has one
pub record Given : Type 0 where
  pub name : List ℕ
  pub value : Option (List ℕ)

-- `--name`
abbrev pub dashed : List ℕ → List ℕ
dashed name = codes "--" ++ name

abbrev pub begins_dash : List ℕ → Bool
begins_dash [] = false
begins_dash (b ∷ rest) = b == 45

-- a word that begins with `-` and is not `--` with a name
abbrev pub is_stray_dash : List ℕ → Bool
is_stray_dash [] = false
is_stray_dash (a ∷ []) = a == 45
is_stray_dash (a ∷ b ∷ []) = a == 45
is_stray_dash (a ∷ b ∷ c ∷ rest) = (a == 45) && not (b == 45)

-- an option without a value is one word `--name`; one with a value is one word `--name=value`, or two words
-- `--name` and `value` if the value does not begin with `-`. A value is not empty
abbrev pub IsSpelled : List ℕ → Option (List ℕ) → List (List ℕ) → Type 0
IsSpelled name None words = words ≡ dashed name ∷ []
IsSpelled name (Some value) words = (0 < length value)
    × ((words ≡ (dashed name ++ codes "=" ++ value) ∷ []) ⊎ ((words ≡ dashed name ∷ value ∷ []) × (begins_dash value ≡ false)))

-- the words are spellings of these options, one after the other
abbrev pub AreSpelled : List Given → List (List ℕ) → Type 0
AreSpelled [] words = words ≡ []
AreSpelled (g ∷ gs) words =
    (mine rest : List (List ℕ)) × (words ≡ mine ++ rest) × IsSpelled g.name g.value mine × AreSpelled gs rest

-- the options of a command: a name, and whether it has a value
abbrev pub Options : Type 0
Options = List (List ℕ × Bool)

-- a value is given if and only if the option takes one
abbrev pub has_its_value : Bool → Option (List ℕ) → Bool
has_its_value true value = is_some value
has_its_value false value = not (is_some value)

abbrev pub listed : Options → List ℕ → Option (List ℕ × Bool)
listed options name = find (λ o. bytes_eq o.0 name) options

-- the command takes this option, given with its value if it has one
abbrev pub is_listed : Options → Given → Bool
is_listed options g = option_map_or (λ o. has_its_value o.1 g.value) (listed options g.name) false

-- the words are spellings of options of the command, in any order, each at most once
pub record AreOptions (options : Options) (gs : List Given) (words : List (List ℕ)) : Type 0 where
  pub spelled : AreSpelled gs words
  pub listed : list_all (is_listed options) gs ≡ true
  pub once : IsDistinct bytes_eq (map (λ (g : Given). g.name) gs)

abbrev pub is_given : List ℕ → List Given → Bool
is_given name gs = list_any (λ g. bytes_eq g.name name) gs

abbrev pub value_of : List ℕ → List Given → Option (List ℕ)
value_of name gs = option_and_then (λ g. g.value) (find (λ g. bytes_eq g.name name) gs)
