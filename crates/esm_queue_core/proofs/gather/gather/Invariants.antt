use Rattle.std.proofs.Common.{◌≡◌, ◌+◌, ◌≤◌, [], take, drop, length}
use Rattle.esm_model.specs.Batches.{longest}
use Rattle.esm_queue_core.specs.Choosing.{received, fits_in}
use Rattle.esm_queue_core.proofs.Gathered.{message_bytes}
use Rattle.esm_queue_core.proofs.gather.gather.Given as goal

abbrev pub invariant-loop-i : goal.invariant-loop-i
invariant-loop-i l = record {
  so_far : longest (fits_in l.config l.queue.state l.now) (take l.i l.places) (drop l.i l.places) ≡ longest (fits_in l.config l.queue.state l.now) [] l.places;
  items : l.batch.items ≡ received l.now l.queue.state (take l.i l.places);
  count : length l.batch.items ≡ l.i;
  bytes : l.bytes ≡ 14 + message_bytes l.config l.batch.items;
  small : l.bytes ≤ 6291456;
}
