use Rattle.std.proofs.Common.{◌≡◌, ◌++◌, drop}
use Rattle.esm_ddb.specs.Event.{replaced}
use Rattle.esm_ddb.proofs.event.push_replaced.Given as goal

abbrev pub invariant-loop-element : goal.invariant-loop-element
invariant-loop-element l =
    l.out.items ++ replaced l.from l.text (drop l.element-index l.element-items) ≡ l.fn.out.items ++ replaced 0 l.text l.element-items
