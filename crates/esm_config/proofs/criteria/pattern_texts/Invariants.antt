use Rattle.std.proofs.Common.{◌≡◌, drop}
use Rattle.serde_json.specs.View.{items_view}
use Rattle.esm_config.specs.Fields.{pattern_texts}
use Rattle.esm_config.proofs.Lists.{after}
use Rattle.esm_config.proofs.criteria.pattern_texts.Given as goal

abbrev pub invariant-loop-item : goal.invariant-loop-item
invariant-loop-item l = pattern_texts (items_view l.items) ≡ after l.texts.items (pattern_texts (items_view (drop l.item-index l.items)))
