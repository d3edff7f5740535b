use Rattle.std.proofs.Common.{◌≡◌, map, drop}
use Rattle.serde_json.specs.View.{items_view}
use Rattle.esm_model.specs.Pattern.{read_test, read_all}
use Rattle.esm_filter.specs.View.{test_view}
use Rattle.esm_filter.proofs.ReadLemmas.{goes_on}
use Rattle.esm_filter.proofs.operator.read_tests.Given as goal

abbrev pub invariant-loop-item : goal.invariant-loop-item
invariant-loop-item l = read_all read_test (items_view l.items) ≡ goes_on (map test_view l.tests.items) (read_all read_test (items_view (drop l.item-index l.items)))
