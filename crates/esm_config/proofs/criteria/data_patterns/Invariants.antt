use Rattle.std.proofs.Common.{◌≡◌, drop}
use Rattle.esm_config.specs.Fields.{data_patterns}
use Rattle.esm_config.proofs.Lists.{after}
use Rattle.esm_config.proofs.criteria.data_patterns.Given as goal

abbrev pub invariant-loop-text : goal.invariant-loop-text
invariant-loop-text l = data_patterns l.texts ≡ after l.kept.items (data_patterns (drop l.text-index l.texts))
