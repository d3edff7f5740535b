use Rattle.std.proofs.Common.{◌≡◌, Bool, true, false, List, refl, Option, None, if◌then◌else◌, option_map, subst}
use Rattle.std.specs.Prelude.{is_some, IfOk}
use Rattle.std.specs.Str.{is_utf8}
use Rattle.std.proofs.lemmas.Str.{IsUtf8-from_is_utf8, is_utf8-from_IsUtf8}
use Rattle.serde_json.specs.Data.{Data}
use Rattle.serde_json.specs.Read.{read}
use Rattle.esm_ddb.specs.Event.{read_elements}
use Rattle.esm_ddb.specs.declared.elements.Element.{Element}
use Rattle.esm_ddb.proofs.Trees.{event_found}
use Rattle.esm_ddb.proofs.event.event_elements.Goals as goal

no_elements : (is : Bool) (o : Option Data) (es : Option (List Element)) → (is ≡ true → ⊥) → None ≡ (if is_some (if is then o else None) then es else None)
no_elements true o es h = absurd (h refl)
no_elements false o es h = refl

pub returns-in-Ok : goal.returns-in-Ok
returns-in-Ok c =
    subst (λ (es : Option (List Element)). IfOk c.text_elements.result (λ o. option_map (λ v. v.items) o ≡ es))
    (event_found c.args.event.now c.in-Ok.text.now (is_utf8-from_IsUtf8 c.args.event.now c.in-Ok.ensures.cases.1) c.in-Ok.ensures.cases.0)
    c.text_elements.ensures

pub returns-in-Err : goal.returns-in-Err
returns-in-Err c =
    no_elements (is_utf8 c.args.event.now) (read c.args.event.now) (read_elements c.args.event.now)
    (λ is. c.in-Err.ensures.cases.0 (IsUtf8-from_is_utf8 c.args.event.now is))
