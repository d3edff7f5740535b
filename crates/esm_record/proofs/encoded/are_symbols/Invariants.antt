use Rattle.std.proofs.Common.{◌≡◌, take}
use Rattle.std.specs.List.{list_all}
use Rattle.esm_record.specs.Base64Symbols.{is_symbol}
use Rattle.esm_record.proofs.encoded.are_symbols.Given as goal

abbrev pub invariant-loop-byte : goal.invariant-loop-byte
invariant-loop-byte l = l.passes ≡ list_all is_symbol (take l.byte-index l.text)
