use Rattle.std.proofs.Common.{◌≡◌, drop}
use Rattle.json.specs.Value.{items_view}
use Rattle.esm_ddb.specs.Attribute.{are_texts}
use Rattle.esm_ddb.specs.Tree.{items_in}
use Rattle.esm_ddb.proofs.attribute.are_texts.Given as goal

abbrev pub invariant-loop-item : goal.invariant-loop-item
invariant-loop-item l = are_texts (items_in (items_view (drop l.item-index l.item-items))) ≡ are_texts (items_in (items_view l.item-items))
