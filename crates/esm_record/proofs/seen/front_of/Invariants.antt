use Rattle.std.proofs.Common.{◌≡◌, take, fold}
use Rattle.esm_record.specs.Ids.{next_byte}
use Rattle.esm_record.proofs.seen.front_of.Given as goal

abbrev pub invariant-loop-byte : goal.invariant-loop-byte
invariant-loop-byte l = l.front ≡ fold next_byte 0 (take l.byte-index (take 8 l.id))
