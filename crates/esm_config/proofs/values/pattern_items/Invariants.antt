use Rattle.std.proofs.Common.{◌≡◌, drop}
use Rattle.esm_config.specs.Text.{pattern_items}
use Rattle.esm_config.proofs.Lists.{then_items}
use Rattle.esm_config.proofs.values.pattern_items.Given as goal

abbrev pub invariant-loop-text : goal.invariant-loop-text
invariant-loop-text l = pattern_items l.texts ≡ then_items l.items.items (pattern_items (drop l.text-index l.texts))
