use Rattle.std.proofs.Common.{◌≡◌, take}
use Rattle.esm_journal.specs.Room.{total_room}
use Rattle.esm_journal.proofs.list.room_bytes.Given as goal

abbrev pub invariant-loop-i : goal.invariant-loop-i
invariant-loop-i l = l.total ≡ total_room (take l.i l.spares.items)
