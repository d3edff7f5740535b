use Rattle.std.proofs.Common.{◌≡◌, ◌++◌, take}
use Rattle.std.specs.List.{flat_map}
use Rattle.esm_model.specs.Numbers.{padded_hexadecimal}
use Rattle.esm_ddb.proofs.turned.push_hexadecimal_bytes.Given as goal

abbrev pub invariant-loop-byte : goal.invariant-loop-byte
invariant-loop-byte l =
    l.out.items ≡ l.fn.out.items ++ flat_map (padded_hexadecimal 2) (take l.byte-index l.bytes)
