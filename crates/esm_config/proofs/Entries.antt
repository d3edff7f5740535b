-- A test of the entries of an object's map is one of its members.
use Rattle.std.proofs.Common.{◌≡◌, ◌&&◌, ◌||◌, refl, ap, List, [], ◌∷◌, is_some, String}
use Rattle.std.specs.List.{list_all}
use Rattle.std.specs.String.{string_bytes}
use Rattle.std.specs.declared.alloc.Global.{Global}
use Rattle.serde_json.specs.Find.{as_null}
use Rattle.serde_json.specs.View.{members_view, view}
use Rattle.serde_json.specs.declared.value.Value.{Value}
use Rattle.esm_config.specs.Names.{is_listed, only_listed}

pub listed_members : (ms : List (String Global × Value))
    → list_all (λ (m : String Global × Value). is_some (as_null (view m.1)) || is_listed (string_bytes m.0)) ms ≡ only_listed (members_view ms)
listed_members [] = refl
listed_members (m ∷ ms) = ap (λ b. (is_some (as_null (view m.1)) || is_listed (string_bytes m.0)) && b) (listed_members ms)
