use Rattle.std.proofs.Common.{◌≡◌, ◌++◌, drop, option_map}
use Rattle.json.specs.Value.{items_view}
use Rattle.esm_ddb.specs.Event.{elements_at}
use Rattle.esm_ddb.proofs.elements.elements_at.Given as goal

abbrev pub invariant-loop-item : goal.invariant-loop-item
invariant-loop-item l =
    elements_at l.places l.start (items_view l.item-items) ≡ option_map (λ more. l.found.items ++ more) (elements_at l.places l.at (items_view (drop l.item-index l.item-items)))
