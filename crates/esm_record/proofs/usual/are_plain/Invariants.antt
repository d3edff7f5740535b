use Rattle.std.proofs.Common.{◌≡◌, take}
use Rattle.std.specs.List.{list_all}
use Rattle.esm_record.specs.Usual.{is_plain}
use Rattle.esm_record.proofs.usual.are_plain.Given as goal

abbrev pub invariant-loop-byte : goal.invariant-loop-byte
invariant-loop-byte l = l.passes ≡ list_all is_plain (take l.byte-index l.text)
