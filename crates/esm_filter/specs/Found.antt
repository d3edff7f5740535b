-- The JSON data that the kept part of a document represents. Only this crate's proofs cite this.
use Rattle.std.specs.Prelude.{ℕ, List, [], ◌∷◌, map, if◌then◌else◌, Option, option_map}
use Rattle.std.specs.Borrow.{Bor}
use Rattle.std.specs.Str.{bytes_eq}
use Rattle.serde_json.specs.Data.{Data, null, boolean, number, string, array, object, Items, Members, no_members, member}
use Rattle.serde_json.specs.View.{number_view, items_of}
use Rattle.esm_filter.specs.declared.found.Found.{Found, fold-Found}
use Rattle.esm_filter.specs.declared.found.Found.TheOpen.{Found-F}

abbrev pub members_of : List (Bor (List ℕ) × Data) → Members
members_of [] = no_members
members_of (m ∷ ms) = member m.0.now m.1 (members_of ms)

-- one level, whose inner values are represented already
abbrev pub found_step : Found-F Data → Data
found_step Found-F.Null = null
found_step (Found-F.Bool b) = boolean b
found_step (Found-F.Number x) = number (number_view x)
found_step (Found-F.Text s) = string s.now
found_step (Found-F.Array v) = array (items_of v.items)
found_step (Found-F.Object v) = object (members_of v.items)

abbrev pub found_view : Found → Data
found_view = fold-Found Data found_step

abbrev pub items_view : List Found → Items
items_view vs = items_of (map found_view vs)

abbrev pub seen : Bor (List ℕ) × Found → Bor (List ℕ) × Data
seen m = (m.0, found_view m.1)

abbrev pub members_view : List (Bor (List ℕ) × Found) → Members
members_view ms = members_of (map seen ms)

abbrev pub names_of : List (Bor (List ℕ) × Found) → List (List ℕ)
names_of ms = map (λ m. m.0.now) ms

-- the members with this one, which takes the place of the one of its name
abbrev pub with_member : Bor (List ℕ) × Found → List (Bor (List ℕ) × Found) → List (Bor (List ℕ) × Found)
with_member m [] = m ∷ []
with_member m (x ∷ xs) = if bytes_eq m.0.now x.0.now then m ∷ xs else x ∷ with_member m xs

abbrev pub value_of : Option (Bor Found) → Option Data
value_of v = option_map (λ x. found_view x.now) v
