-- How the slots of a shard's places are cut into chunks. Only this crate's proofs cite this.
use Rattle.std.specs.Prelude.{◌≡◌, ℕ, ◌+◌, ◌*◌, ◌-◌, ◌<◌, ◌≤◌, List, [], ◌∷◌, ◌++◌, length, replicate, min, Option, None, is_some, ⊤, Vec}
use Rattle.std.specs.List.{All, count_by}
use Rattle.std.specs.declared.alloc.Global.{Global}
use Rattle.std.specs.Vec.{vec_len, vec_capacity}
use Rattle.esm_model.specs.Records.{Record}
use Rattle.esm_ledger.specs.declared.chunk.TheConstants.{CHUNK_PLACES}

-- the slots of places, each with its record if that is held, and for how many more there is memory
pub record Slotted : Type 0 where
  pub places : List (Option Record)
  pub room : ℕ

-- the slots of a chunk that holds nothing
unfoldable pub none_held : List (Option Record)
none_held = replicate CHUNK_PLACES None

-- the slots of a chunk with these in memory
abbrev pub chunk_of : List (Option Record) → List (Option Record)
chunk_of [] = none_held
chunk_of (o ∷ slots) = o ∷ slots

-- so many of the slots in memory are full; where none is, there are none, and no memory for any
pub record IsChunk (slots : Vec (Option Record) Global) (held : ℕ) : Type 0 where
  pub whole : length (chunk_of slots.items) ≡ CHUNK_PLACES
  pub count : held ≡ count_by is_some slots.items
  pub gone : held ≡ 0 → slots.items ≡ []
  pub freed : held ≡ 0 → vec_capacity slots ≡ 0

abbrev pub IsWhole : List (Option Record) → Type 0
IsWhole chunk = length chunk ≡ CHUNK_PLACES

-- the slots of chunks in a row
abbrev pub slots_of : List (List (Option Record)) → List (Option Record)
slots_of [] = []
slots_of (chunk ∷ chunks) = chunk ++ slots_of chunks

-- the slots of whole chunks, of which the first is that of the place `base`; no place before holds a record
abbrev pub places_in : ℕ → List (List (Option Record)) → List (Option Record)
places_in base chunks = replicate base None ++ slots_of chunks

-- the first chunk holds a record, if there is one
abbrev pub IsTrimmed : List (List (Option Record)) → Type 0
IsTrimmed [] = ⊤
IsTrimmed (chunk ∷ chunks) = 0 < count_by is_some chunk

-- whole chunks, of which the first holds a record, and the number of places fits 64 bits
pub record AreChunks (base : ℕ) (chunks : List (List (Option Record))) : Type 0 where
  pub whole : All IsWhole chunks
  pub trimmed : IsTrimmed chunks
  pub few : base + CHUNK_PLACES * length chunks ≤ 18446744073709551615

-- memory for a chunk
abbrev pub HasMemory : Vec (Option Record) Global → Type 0
HasMemory v = (v.items ≡ []) × (CHUNK_PLACES ≤ vec_capacity v)

-- at most a chunk's slots, and memory for more chunks only if this one has its own
pub record IsLast (last : Vec (Option Record) Global) (spare : Vec (Vec (Option Record) Global) Global) : Type 0 where
  pub short : length last.items ≤ CHUNK_PLACES
  pub memory : All HasMemory spare.items
  pub first : 0 < vec_len spare → CHUNK_PLACES ≤ vec_capacity last

-- for how many more places there is memory: in the last chunk, and in the next chunks
abbrev pub room_in : (capacity len spare room : ℕ) → ℕ
room_in capacity len spare room = (min capacity CHUNK_PLACES - len) + CHUNK_PLACES * min spare room
