use Rattle.serde_json.specs.View.{items_view}
use Rattle.esm_model.specs.Pattern.{read_all, read_scalar}
use Rattle.esm_filter.proofs.ReadLemmas.{some_items}
use Rattle.esm_filter.proofs.operator.read_some_scalars.Goals as goal

pub returns : goal.returns
returns c = rw (some_items c.args.items.now (read_all read_scalar (items_view c.args.items.now)) c.is_empty.result c.is_empty.ensures c.if-is_empty.false) c.read_all_scalars.ensures
