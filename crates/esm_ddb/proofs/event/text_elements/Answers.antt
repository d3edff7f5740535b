use Rattle.std.proofs.Common.{◌≡◌, List, Option, option_map, subst}
use Rattle.std.specs.Prelude.{IfOk}
use Rattle.json.specs.Value.{value_view}
use Rattle.esm_ddb.specs.declared.elements.Element.{Element}
use Rattle.esm_ddb.proofs.Trees.{elements_in}
use Rattle.esm_ddb.proofs.event.text_elements.Goals as goal

pub returns-in-Ok : goal.returns-in-Ok
returns-in-Ok c =
    subst (λ (es : Option (List Element)). IfOk c.ranged_elements.result (λ o. option_map (λ v. v.items) o ≡ es))
    (elements_in c.args.text.now c.in_ok-reader.reader (value_view c.in-Ok.object) c.in_ok-reader.ensures.ok c.in-Ok.ensures)
    (rw c.as_bytes.ensures.value at c.ranged_elements.ensures)
