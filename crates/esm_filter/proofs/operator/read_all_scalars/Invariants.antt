use Rattle.std.proofs.Common.{◌≡◌, map, drop}
use Rattle.serde_json.specs.View.{items_view}
use Rattle.esm_model.specs.Pattern.{read_scalar, read_all}
use Rattle.esm_filter.specs.View.{scalar_view}
use Rattle.esm_filter.proofs.ReadLemmas.{goes_on}
use Rattle.esm_filter.proofs.operator.read_all_scalars.Given as goal

abbrev pub invariant-loop-item : goal.invariant-loop-item
invariant-loop-item l = read_all read_scalar (items_view l.items) ≡ goes_on (map scalar_view l.scalars.items) (read_all read_scalar (items_view (drop l.item-index l.items)))
