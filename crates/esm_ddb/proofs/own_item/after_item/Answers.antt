use Rattle.esm_ddb.proofs.OwnItems.{item_last}
use Rattle.esm_ddb.proofs.own_item.after_item.Goals as goal

pub returns : goal.returns
returns c = item_last c.args.text.now c.in_ok-attributes.attributes.now c.after_attributes.result c.in_ok-attributes.ensures c.after_attributes.ensures
