-- What a head decides alone: the rows from `host` to `body`, which command it names, and how long its body is. The forms
-- of paths and methods are those of the Lambda API Reference of 2015-03-31 (event source mappings); the order of the
-- rows, the bound on the body and the rule on its length are this product's own.
use Rattle.std.specs.Prelude.{ℕ, ◌+◌, not, nat_lt, nat_eq, ◌&&◌, ◌||◌, ◌==◌, bytes_eq, Bool, List, [], ◌∷◌, ◌++◌, length, drop, map, codes, Option, Some, None, if◌then◌else◌}
use Rattle.std.specs.Char.{is_ascii_digit}
use Rattle.std.specs.List.{list_all, list_any, starts_with}
use Rattle.std.specs.Str.Parse.{digits_value}
use Rattle.uuid.specs.Text.{parsed_hyphenated}
use Rattle.httparse.specs.Grammar.{RequestHead}
use Rattle.httparse.specs.Spans.{name_and_value}
use Rattle.http1.specs.Fields.{Header, values_named}
use Rattle.esm_api.specs.declared.length.BodyLength.{BodyLength}
use Rattle.esm_api.specs.declared.length.BodyLength.TheVariants as body
use Rattle.esm_api.specs.declared.length.TheConstants.{MAX_REQUEST_BODY}
use Rattle.esm_api.specs.declared.route.Route.{Route}
use Rattle.esm_api.specs.declared.route.Route.TheVariants as route
use Rattle.esm_api.specs.declared.refusal.Refusal.TheVariants as row
use Rattle.esm_api.specs.declared.plan.Change.{Change}
use Rattle.esm_api.specs.declared.plan.Change.TheVariants as change
use Rattle.esm_api.specs.declared.plan.Plan.{Plan}
use Rattle.esm_api.specs.declared.plan.Plan.TheVariants as plan
use Rattle.esm_api.specs.Host.{is_foreign}

-- ---- the path

abbrev pub mappings_path : List ℕ
mappings_path = codes "/2015-03-31/event-source-mappings"

-- what follows the path of the mappings and a slash
abbrev pub last_part : List ℕ → List ℕ
last_part path = drop (length mappings_path + 1) path

-- one byte or more, and no slash
abbrev pub is_segment : List ℕ → Bool
is_segment part = nat_lt 0 (length part) && list_all (λ b. not (b == 47)) part

abbrev pub is_mappings_path : List ℕ → Bool
is_mappings_path path = bytes_eq path mappings_path || bytes_eq path (mappings_path ++ 47 ∷ [])

abbrev pub is_mapping_path : List ℕ → Bool
is_mapping_path path = starts_with nat_eq path (mappings_path ++ 47 ∷ []) && is_segment (last_part path)

-- what a path names: all mappings, with or without a slash at the end, or one of them
abbrev pub route_of : List ℕ → Option Route
route_of path =
    if is_mappings_path path then Some route.Mappings
    else if is_mapping_path path then Some route.Mapping
    else None

-- ---- the body's length

-- one or more digits
abbrev pub is_digits : List ℕ → Bool
is_digits text = nat_lt 0 (length text) && list_all is_ascii_digit text

abbrev pub length_of : List ℕ → BodyLength
length_of text =
    if is_digits text then (if nat_lt MAX_REQUEST_BODY (digits_value 10 text) then body.TooLong else body.Bytes (digits_value 10 text))
    else body.Missing

-- the length that the one `Content-Length` states, where there is no `Transfer-Encoding`
abbrev pub length_by_values : List (List ℕ) → List (List ℕ) → BodyLength
length_by_values [] codings = body.Missing
length_by_values (text ∷ []) [] = length_of text
length_by_values (text ∷ []) (coding ∷ codings) = body.Missing
length_by_values (text ∷ other ∷ texts) codings = body.Missing

abbrev pub body_length : List Header → BodyLength
body_length headers = length_by_values (values_named (codes "content-length") headers) (values_named (codes "transfer-encoding") headers)

-- ---- the plan

-- a body of this length is read for the change, or the length is refused
abbrev pub reading : Change → BodyLength → Plan
reading what body.Missing = plan.Refuse row.Length
reading what body.TooLong = plan.Refuse row.Body
reading what (body.Bytes count) = plan.Read what count

-- the mapping with the UUID is looked up; a path that does not end in one is refused
abbrev pub getting : Option (List ℕ) → Plan
getting None = plan.Refuse row.Mapping
getting (Some id) = plan.Get id

abbrev pub deleting : Option (List ℕ) → Plan
deleting None = plan.Refuse row.Mapping
deleting (Some id) = plan.Delete id

-- the plan by the method: for the path of all mappings, then for that of one
abbrev pub plan_for_mappings : List ℕ → BodyLength → Plan
plan_for_mappings method length =
    if bytes_eq method (codes "POST") then reading change.Create length
    else if bytes_eq method (codes "GET") then plan.List
    else plan.Refuse row.Method

abbrev pub plan_for_mapping : List ℕ → Option (List ℕ) → BodyLength → Plan
plan_for_mapping method id length =
    if bytes_eq method (codes "GET") then getting id
    else if bytes_eq method (codes "PUT") then reading (change.Update id) length
    else if bytes_eq method (codes "DELETE") then deleting id
    else plan.Refuse row.Method

-- the UUID in hyphenated form at the end of the path
abbrev pub id_in : List ℕ → Option (List ℕ)
id_in path = parsed_hyphenated (last_part path)

abbrev pub plan_at : Option Route → List ℕ → List ℕ → BodyLength → Plan
plan_at None path method length = plan.Refuse row.Path
plan_at (Some route.Mappings) path method length = plan_for_mappings method length
plan_at (Some route.Mapping) path method length = plan_for_mapping method (id_in path) length

abbrev pub has_query : List ℕ → Bool
has_query target = list_any (λ b. b == 63) target

abbrev pub plan_by : List ℕ → List ℕ → BodyLength → Plan
plan_by target method length =
    if has_query target then plan.Refuse row.Query else plan_at (route_of target) target method length

-- a foreign request is refused before its target is read
abbrev pub plan_with : List Header → List ℕ → List ℕ → Plan
plan_with fields target method =
    if is_foreign fields then plan.Refuse row.Host else plan_by target method (body_length fields)

abbrev pub plan_of : RequestHead → Plan
plan_of tree = plan_with (map name_and_value tree.fields) tree.target tree.method

-- how many bytes of a body are expected
abbrev pub body_bytes : Plan → ℕ
body_bytes (plan.Refuse row) = 0
body_bytes plan.List = 0
body_bytes (plan.Get id) = 0
body_bytes (plan.Delete id) = 0
body_bytes (plan.Read what count) = count
