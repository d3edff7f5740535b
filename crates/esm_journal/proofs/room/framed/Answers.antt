use Rattle.std.proofs.Common.{ap, sym, refl, ◌∙◌}
use Rattle.esm_journal.specs.Room.{room_of}
use Rattle.esm_journal.proofs.Rooms.{no_room}
use Rattle.esm_journal.proofs.room.framed.Goals as goal

pub returns-in_ok-frame-in-None-clause-room : goal.returns-in_ok-frame-in-None-clause-room
returns-in_ok-frame-in-None-clause-room c = ap room_of c.clear.ensures.items ∙ sym (no_room _ _ (c.in-None.ensures.missing _ refl c.requires.spares))
