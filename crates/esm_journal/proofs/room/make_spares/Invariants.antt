use Rattle.std.proofs.Common.{◌≡◌, ◌+◌, ◌<◌, ◌^◌, take}
use Rattle.esm_journal.specs.Room.{room_of, total_room, AreSpares}
use Rattle.esm_journal.proofs.room.make_spares.Given as goal

abbrev pub invariant-loop-length : goal.invariant-loop-length
invariant-loop-length l =
    AreSpares l.spares.items × (room_of l.spares.items ≡ take l.length-index l.lengths) × (l.last ≡ l.end + total_room l.spares.items) × (l.last < 2 ^ 64)
