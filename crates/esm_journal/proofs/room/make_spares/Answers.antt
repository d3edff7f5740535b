use Rattle.std.proofs.Common.{arith}
use Rattle.esm_journal.proofs.Rooms.{spares_push, room_more, total_push}
use Rattle.esm_journal.proofs.room.make_spares.Goals as goal

pub loop-length-preserved : goal.loop-length-preserved
loop-length-preserved c =
    let so_far = c.loop-length.invariant in
    let spares = c.loop-length.spares.items in
    let spare = c.in_ok-with_capacity.field-0 in
    let size = c.in_ok-with_capacity.ensures.exact in
    let empty = c.in_ok-with_capacity.ensures.len in
    rw c.in_ok-push_back.ensures.items (
      spares_push spares spare so_far.0 empty (omega arith),
      room_more spares spare c.args.lengths.now c.loop-length.length-index so_far.1 size c.loop-length-test.true,
      omega (arith, total_push spares spare, so_far.2),
      omega arith,
    )
