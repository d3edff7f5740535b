use Rattle.std.proofs.Common.{◌≡◌, ℕ, List, drop}
use Rattle.serde_json.specs.View.{items_view}
use Rattle.esm_model.specs.Reading.{all_reported}
use Rattle.esm_verdict.specs.Indexed.{Indexes}
use Rattle.esm_verdict.specs.Reported.{then_positions}
use Rattle.esm_verdict.proofs.reported.positions_of.Given as goal

abbrev pub invariant-loop-failure : goal.invariant-loop-failure
invariant-loop-failure l = (ids : List (List ℕ)) → Indexes ids l.index → all_reported ids (items_view l.failures) ≡ then_positions l.positions.items (all_reported ids (items_view (drop l.failure-index l.failures)))
