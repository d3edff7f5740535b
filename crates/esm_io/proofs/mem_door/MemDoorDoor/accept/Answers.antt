use Rattle.std.specs.List.{All}
use Rattle.std.proofs.lemmas.List.Elements.{All-drop}
use Rattle.esm_io.specs.Forms.{IsUnused}
use Rattle.esm_io.proofs.mem_door.MemDoorDoor.accept.Goals as goal

pub invariant_of-self-in-Some : goal.invariant_of-self-in-Some
invariant_of-self-in-Some c =
    let rest : All IsUnused (c.pop_front.new.self.items) = rw c.pop_front.ensures.rest (All-drop IsUnused 1 c.self.inside.links.items c.self.invariant) in
    rest
