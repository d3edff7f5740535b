use Rattle.std.proofs.Common.{◌≡◌, ◌∙◌, sym, ap, option_map, string_bytes}
use Rattle.serde_json.specs.Read.{read}
use Rattle.serde_json.specs.View.{view}
use Rattle.esm_ddb.proofs.Trees.{gives_again}
use Rattle.esm_ddb.proofs.turned.turned_unordered.Goals as goal

pub returns : goal.returns
returns c =
    let same : c.as_str.result.now ≡ string_bytes c.in_ok-ordered.ordered = c.as_str.ensures.value in
    gives_again (λ v. v.items) c.args.source.now c.args.text.now c.as_str.result.now (view c.in-Some.value) c.turned_ordered.result
    (ap (option_map view) (sym c.in-Some.is) ∙ c.in_ok-value.ensures)
    (λ low. ap read same ∙ c.in_ok-ordered.ensures.reads_back low)
    c.turned_ordered.ensures
