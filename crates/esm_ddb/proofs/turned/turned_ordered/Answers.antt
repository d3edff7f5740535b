use Rattle.std.proofs.Common.{◌∙◌, sym}
use Rattle.json.specs.Value.{value_view}
use Rattle.esm_ddb.proofs.Trees.{gives_tree}
use Rattle.esm_ddb.proofs.turned.turned_ordered.Goals as goal

pub returns-then-is_ordered : goal.returns-then-is_ordered
returns-then-is_ordered c =
    gives_tree (λ v. v.items) c.args.source.now c.args.text.now c.in_ok-reader.reader (value_view c.in_ok-value.value) c.turned_value.result
    c.in_ok-reader.ensures.ok c.in_ok-value.ensures (sym c.is_ordered.ensures ∙ c.if-is_ordered.true) c.turned_value.ensures
