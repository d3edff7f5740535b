use Rattle.std.proofs.Common.{◌≡◌, filter_map, take}
use Rattle.esm_queue.specs.Receiving.{received_at}
use Rattle.esm_queue.proofs.copying.copy_all.Given as goal

abbrev pub invariant-loop-place : goal.invariant-loop-place
invariant-loop-place l = l.given.items ≡ filter_map (received_at l.now l.messages) (take l.place-index l.places)
