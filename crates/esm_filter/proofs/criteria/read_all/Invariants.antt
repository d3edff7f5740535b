use Rattle.std.proofs.Common.{◌≡◌, length, drop}
use Rattle.esm_model.specs.Pattern.{read_patterns}
use Rattle.esm_filter.specs.Criteria.{patterns_view}
use Rattle.esm_filter.proofs.CriteriaLemmas.{then_patterns}
use Rattle.esm_filter.proofs.criteria.read_all.Given as goal

abbrev pub invariant-loop-text : goal.invariant-loop-text
invariant-loop-text l =
    (l.filter ≡ l.text-index) × (length (patterns_view l.patterns.items) ≡ l.filter)
    × (read_patterns l.for_stream l.texts ≡ then_patterns (patterns_view l.patterns.items) (read_patterns l.for_stream (drop l.text-index l.texts)))
