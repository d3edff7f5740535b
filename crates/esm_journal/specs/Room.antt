-- Memory that was reserved for the next payloads.
use Rattle.std.specs.Prelude.{◌≡◌, ◌+◌, ◌-◌, ◌≤◌, ℕ, List, [], ◌∷◌, length, nat_le, if◌then◌else◌, Vec, vec_len, vec_capacity}
use Rattle.std.specs.declared.alloc.Global.{Global}
use Rattle.esm_model.specs.declared.limits.TheConstants.{MAX_PAYLOAD}

-- the next payload is not longer than the first of these lengths
abbrev pub HasRoom : List ℕ → ℕ → Type 0
HasRoom [] n = ⊥
HasRoom (length ∷ lengths) n = n ≤ length

-- the same, if the payload is not too long for any file
abbrev pub HasRoomIfShort : List ℕ → ℕ → Type 0
HasRoomIfShort lengths n = n ≤ MAX_PAYLOAD → HasRoom lengths n

-- the lengths that are left after a payload; a payload longer than the first of them ends the promise
abbrev pub room_after : List ℕ → ℕ → List ℕ
room_after [] n = []
room_after (length ∷ lengths) n = if nat_le n length then lengths else []

-- the lengths of payloads that fit into spare buffers: an entry has five bytes besides its payload
abbrev pub room_of : List (Vec ℕ Global) → List ℕ
room_of [] = []
room_of (spare ∷ spares) = (vec_capacity spare - 5) ∷ room_of spares

-- the bytes of all entries that fit into spare buffers
abbrev pub total_room : List (Vec ℕ Global) → ℕ
total_room [] = 0
total_room (spare ∷ spares) = vec_capacity spare + total_room spares

-- each is empty and has room for an entry
abbrev pub AreSpares : List (Vec ℕ Global) → Type 0
AreSpares [] = Unit {0}
AreSpares (spare ∷ spares) = (vec_len spare ≡ 0) × (5 ≤ vec_capacity spare) × AreSpares spares
