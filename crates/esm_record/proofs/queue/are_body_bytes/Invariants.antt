use Rattle.std.proofs.Common.{◌≡◌, take}
use Rattle.std.specs.List.{list_all}
use Rattle.esm_model.specs.ValidMessage.{is_body_byte}
use Rattle.esm_record.proofs.queue.are_body_bytes.Given as goal

abbrev pub invariant-loop-byte : goal.invariant-loop-byte
invariant-loop-byte l = l.passes ≡ list_all is_body_byte (take l.byte-index l.text)
