-- What a plan awaits.
use Rattle.std.proofs.Common.{ℕ, ◌+◌, ◌≤◌, List, [], ◌∷◌, length, map, Option, Some, None, ap, arith, inl, inr}
use Rattle.std.specs.Prelude.{codes, bytes_eq, nat_lt}
use Rattle.std.specs.Str.Parse.{digits_value}
use Rattle.std.proofs.lemmas.Bool.{cond_both, ltb-false}
use Rattle.httparse.specs.Grammar.{RequestHead}
use Rattle.httparse.specs.Spans.{name_and_value}
use Rattle.http1.specs.Fields.{values_named}
use Rattle.esm_api.specs.declared.length.BodyLength.{BodyLength}
use Rattle.esm_api.specs.declared.length.BodyLength.TheVariants as body
use Rattle.esm_api.specs.declared.length.TheConstants.{MAX_REQUEST_BODY}
use Rattle.esm_api.specs.declared.route.Route.{Route}
use Rattle.esm_api.specs.declared.route.Route.TheVariants as route
use Rattle.esm_api.specs.declared.plan.Change.{Change}
use Rattle.esm_api.specs.declared.plan.Change.TheVariants as change
use Rattle.esm_api.specs.declared.plan.Plan.{Plan}
use Rattle.esm_api.specs.declared.plan.Plan.TheVariants as plan
use Rattle.esm_api.specs.declared.refusal.Refusal.TheVariants as row
use Rattle.esm_model.specs.declared.limits.TheConstants.{MAX_HEAD}
use Rattle.esm_api.specs.declared.head.Head.{Head}
use Rattle.esm_api.specs.HeadRead.{IsPlanned}
use Rattle.esm_api.specs.Host.{is_foreign}
use Rattle.esm_api.specs.Plan.{is_digits, length_of, length_by_values, body_length, reading, getting, deleting, plan_at, plan_of, id_in, has_query, route_of, plan_by, body_bytes}

abbrev IsShort : Plan → Type 0
IsShort p = body_bytes p ≤ MAX_REQUEST_BODY

abbrev IsShortLength : BodyLength → Type 0
IsShortLength body.Missing = Unit {0}
IsShortLength body.TooLong = Unit {0}
IsShortLength (body.Bytes count) = count ≤ MAX_REQUEST_BODY

length_short : (text : List ℕ) → IsShortLength (length_of text)
length_short text =
    cond_both (is_digits text) _ body.Missing IsShortLength
    (λ _. cond_both (nat_lt MAX_REQUEST_BODY (digits_value 10 text)) body.TooLong (body.Bytes (digits_value 10 text)) IsShortLength (λ _. tt) (λ no. ltb-false _ _ no))
    (λ _. tt)

values_short : (texts others : List (List ℕ)) → IsShortLength (length_by_values texts others)
values_short [] others = tt
values_short (text ∷ []) [] = length_short text
values_short (text ∷ []) (coding ∷ others) = tt
values_short (text ∷ other ∷ texts) others = tt

reading_short : (what : Change) (length : BodyLength) → IsShortLength length → IsShort (reading what length)
reading_short what body.Missing short = omega arith
reading_short what body.TooLong short = omega arith
reading_short what (body.Bytes count) short = short

getting_short : (id : Option (List ℕ)) → IsShort (getting id)
getting_short None = omega arith
getting_short (Some id) = omega arith

deleting_short : (id : Option (List ℕ)) → IsShort (deleting id)
deleting_short None = omega arith
deleting_short (Some id) = omega arith

at_short : (found : Option Route) (path method : List ℕ) (length : BodyLength) → IsShortLength length → IsShort (plan_at found path method length)
at_short None path method length short = omega arith
at_short (Some route.Mappings) path method length short =
    cond_both (bytes_eq method (codes "POST")) _ _ IsShort (λ _. reading_short change.Create length short)
    (λ _. cond_both (bytes_eq method (codes "GET")) plan.List (plan.Refuse row.Method) IsShort (λ _. omega arith) (λ _. omega arith))
at_short (Some route.Mapping) path method length short =
    cond_both (bytes_eq method (codes "GET")) _ _ IsShort (λ _. getting_short (id_in path))
    (λ _. cond_both (bytes_eq method (codes "PUT")) _ _ IsShort (λ _. reading_short (change.Update (id_in path)) length short)
    (λ _. cond_both (bytes_eq method (codes "DELETE")) _ _ IsShort (λ _. deleting_short (id_in path)) (λ _. omega arith)))

by_short : (target method : List ℕ) (length : BodyLength) → IsShortLength length → IsShort (plan_by target method length)
by_short target method length short =
    cond_both (has_query target) (plan.Refuse row.Query) (plan_at (route_of target) target method length) IsShort
    (λ _. omega arith) (λ _. at_short (route_of target) target method length short)

-- no plan awaits more than the bound
pub plan_short : (tree : RequestHead) → body_bytes (plan_of tree) ≤ MAX_REQUEST_BODY
plan_short tree =
    let fields = map name_and_value tree.fields in
    cond_both (is_foreign fields) (plan.Refuse row.Host) (plan_by tree.target tree.method (body_length fields)) IsShort
    (λ _. omega arith) (λ _. by_short tree.target tree.method (body_length fields) (values_short (values_named (codes "content-length") fields) (values_named (codes "transfer-encoding") fields)))

-- nor does what was found in bytes
pub planned_short : (bytes : List ℕ) (head : Head) → IsPlanned bytes head → head.len ≤ length bytes → length bytes ≤ MAX_HEAD → head.len + body_bytes head.plan ≤ MAX_HEAD + MAX_REQUEST_BODY
planned_short bytes head planned within short =
    elim planned [
      | inl bad ↦ omega (arith, within, short, ap body_bytes bad.1)
      | inr found ↦ omega (arith, within, short, ap body_bytes found.2, plan_short found.0)
    ]
