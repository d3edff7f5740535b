-- One worked file, byte by byte: a pair's journal with the one payload of a record that succeeded.
use Rattle.std.specs.Prelude.{ℕ, List, [], ◌∷◌, ◌++◌}

-- kind 1, shard 0, fate 1, moment 0, no state, one place, place 0, a sequence number of one byte, "1"
abbrev pub one_record_payload : List ℕ
one_record_payload =
    1 ∷ 0 ∷ 0 ∷ 0 ∷ 0 ∷ 0 ∷ 0 ∷ 0 ∷ 0 ∷ 1 ∷ 0 ∷ 0 ∷ 0 ∷ 0 ∷ 0 ∷ 0 ∷ 0 ∷ 0 ∷ 0 ∷ 0 ∷ 0 ∷ 0 ∷ 1 ∷ 0 ∷ 0 ∷ 0 ∷ 0 ∷ 1 ∷ 49 ∷ []

-- "ESMJ0002", epoch 1, an open seal, an open gate, length 29, the payload, a closed gate: 52 bytes
abbrev pub one_record_file : List ℕ
one_record_file =
    (69 ∷ 83 ∷ 77 ∷ 74 ∷ 48 ∷ 48 ∷ 48 ∷ 50 ∷ 0 ∷ 0 ∷ 0 ∷ 0 ∷ 0 ∷ 0 ∷ 0 ∷ 1 ∷ 1 ∷ 1 ∷ 0 ∷ 0 ∷ 0 ∷ 29 ∷ []) ++ one_record_payload ++ 0 ∷ []
