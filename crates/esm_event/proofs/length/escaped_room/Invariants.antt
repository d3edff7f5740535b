use Rattle.std.proofs.Common.{◌≡◌, ◌*◌, ◌≤◌, take, length, min}
use Rattle.std.specs.List.{flat_map}
use Rattle.esm_model.specs.JsonText.{escaped_byte}
use Rattle.esm_event.proofs.length.escaped_room.Given as goal

abbrev pub invariant-loop-byte : goal.invariant-loop-byte
invariant-loop-byte l =
    (l.total ≡ min (length (flat_map escaped_byte (take l.byte-index l.text))) 18446744073709551615) × (l.total ≤ 6 * l.byte-index)
