use Rattle.std.proofs.Common.{◌≡◌, ◌++◌, take}
use Rattle.std.specs.List.{flat_map}
use Rattle.esm_event.specs.Elements.{following_message}
use Rattle.esm_event.proofs.queue.push_rest.Given as goal

abbrev pub invariant-loop-item : goal.invariant-loop-item
invariant-loop-item l =
    l.out.items ≡ l.fn.out.items ++ flat_map (following_message l.config) (take l.item-index l.rest)
