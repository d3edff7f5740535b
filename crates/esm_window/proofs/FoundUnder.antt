-- What reading an object finds under a name is the last member of that name in the text.
use Rattle.std.proofs.Common.{◌≡◌, ℕ, Bool, true, false, cond, List, Option, Some, None, option_map, refl, sym, ap, ◌∙◌}
use Rattle.std.specs.Option.{option_and_then}
use Rattle.std.specs.Str.{bytes_eq}
use Rattle.std.proofs.lemmas.Slice.Eq.{bytes_eq-Decides}
use Rattle.json.specs.Json.{Json, Members, no_members, member}
use Rattle.json.specs.Json as json
use Rattle.json.specs.Find.{later_or, get_member}
use Rattle.serde_json.specs.Data.{Num, Data, number, array, object, put}
use Rattle.serde_json.specs.Data as data_of
use Rattle.serde_json.specs.Find as find
use Rattle.serde_json.specs.Read.{number_of, of_json, of_items, of_members}
use Rattle.serde_json.proofs.Views.{get_member-put, get_member-put_other}

abbrev FoundIn : Option Json → Option Data → Option Data → Type 0
FoundIn None found before = found ≡ before
FoundIn (Some j) found before = of_json j ≡ found

kept_or : (o : Option Json) (b : Bool) (k name : List ℕ) (j : Json) (d : Data) (old : data_of.Members) (found : Option Data) → bytes_eq k name ≡ b → of_json j ≡ Some d
    → FoundIn o found (find.get_member name (put k d old)) → FoundIn (later_or o (cond b (Some j) None)) found (find.get_member name old)
kept_or (Some i) b k name j d old found e is h = h
kept_or None true k name j d old found e is h =
    let same : k ≡ name = (bytes_eq-Decides k name).0 e in
    is ∙ sym (get_member-put name d old) ∙ ap (λ n. find.get_member name (put n d old)) (sym same) ∙ sym h
kept_or None false k name j d old found e is h = h ∙ get_member-put_other name k d old (λ same. (let equal = (bytes_eq-Decides k name).1 (sym same) in cc))

and_members : (o : Option Data) (k name : List ℕ) (j : Json) (ms : Members) (old dm : data_of.Members) → of_json j ≡ o
    → ((d : Data) → of_members ms (put k d old) ≡ Some dm → FoundIn (get_member name ms) (find.get_member name dm) (find.get_member name (put k d old)))
    → option_and_then (λ d. of_members ms (put k d old)) o ≡ Some dm → FoundIn (get_member name (member k j ms)) (find.get_member name dm) (find.get_member name old)
and_members None k name j ms old dm is ih e = cc
and_members (Some d) k name j ms old dm is ih e = kept_or (get_member name ms) (bytes_eq k name) k name j d old (find.get_member name dm) refl is (ih d e)

found_in : (name : List ℕ) (ms : Members) (old dm : data_of.Members) → of_members ms old ≡ Some dm → FoundIn (get_member name ms) (find.get_member name dm) (find.get_member name old)
found_in name no_members old dm e = let same : old ≡ dm = cc in ap (find.get_member name) (sym same)
found_in name (member k j ms) old dm e = and_members (of_json j) k name j ms old dm refl (λ d h. found_in name ms (put k d old) dm h) e

-- ---- an object is one by the grammar

no_number : (o : Option Num) (ms : data_of.Members) → option_map number o ≡ Some (object ms) → ⊥
no_number None ms e = cc
no_number (Some n) ms e = cc

no_array : (o : Option data_of.Items) (ms : data_of.Members) → option_map array o ≡ Some (object ms) → ⊥
no_array None ms e = cc
no_array (Some ds) ms e = cc

pub object_from : (j : Json) (ms : data_of.Members) → of_json j ≡ Some (object ms) → (os : Members) × (j ≡ json.object os)
object_from json.null ms e = cc
object_from (json.boolean b) ms e = cc
object_from (json.number s) ms e = absurd (no_number (number_of s) ms e)
object_from (json.string s) ms e = cc
object_from (json.array js) ms e = absurd (no_array (of_items js) ms e)
object_from (json.object os) ms e = (os, refl)

last_object : (o : Option Json) (found : Option Data) (ms : data_of.Members) → FoundIn o found None → found ≡ Some (object ms) → (os : Members) × (o ≡ Some (json.object os))
last_object None found ms h e = let never : None ≡ Some (object ms) = sym h ∙ e in cc
last_object (Some j) found ms h e = let from = object_from j ms (h ∙ e) in (from.0, ap Some from.1)

read_members : (o : Option data_of.Members) (dm : data_of.Members) → option_map object o ≡ Some (object dm) → o ≡ Some dm
read_members None dm e = cc
read_members (Some ms) dm e = let same : ms ≡ dm = cc in ap Some same

-- where an object is found, the last member of that name has an object
pub object_under : (name : List ℕ) (ms : Members) (dm os : data_of.Members) → of_json (json.object ms) ≡ Some (object dm) → find.get_member name dm ≡ Some (object os)
    → (is : Members) × (get_member name ms ≡ Some (json.object is))
object_under name ms dm os e h =
    last_object (get_member name ms) (find.get_member name dm) os (found_in name ms data_of.no_members dm (read_members (of_members ms data_of.no_members) dm e)) h
