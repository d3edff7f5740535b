use Rattle.std.proofs.Common.{List}
use Rattle.esm_model.specs.declared.item.Item.{Item}
use Rattle.esm_input.specs.Counting.{IsCountOf, IsWithin}
use Rattle.esm_input.proofs.Counts.{IsSoFar}
use Rattle.esm_input.proofs.counted.Counted.count_front.Given as goal

abbrev pub invariant-loop-count : goal.invariant-loop-count
invariant-loop-count l = IsWithin l.self × ((xs : List Item) → IsCountOf l.fn.self xs → IsSoFar l.factor l.self xs l.items l.count)
