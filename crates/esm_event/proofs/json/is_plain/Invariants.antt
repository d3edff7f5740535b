use Rattle.std.proofs.Common.{◌≡◌, take}
use Rattle.std.specs.List.{flat_map}
use Rattle.esm_model.specs.JsonText.{escaped_byte}
use Rattle.esm_event.proofs.json.is_plain.Given as goal

abbrev pub invariant-loop-byte : goal.invariant-loop-byte
invariant-loop-byte l = flat_map escaped_byte (take l.byte-index l.text) ≡ take l.byte-index l.text
