-- The bytes of a journal's file. This product's own format: a header, an epoch, a seal byte, and entries, each behind
-- a gate byte that is opened only once the whole entry is on the disk. Numbers are big-endian.
use Rattle.std.specs.Prelude.{◌≢◌, ◌≡◌, ℕ, ◌+◌, ◌^◌, ◌<◌, ◌≤◌, ◌==◌, List, [], ◌∷◌, ◌++◌, length, take, drop, slice_index, nat_eq, nat_lt, if◌then◌else◌, zero, suc}
use Rattle.std.specs.List.{All, starts_with}
use Rattle.std.specs.Int.{w32, w64, to_be_bytes, from_be_bytes}
use Rattle.esm_model.specs.declared.limits.TheConstants.{MAX_PAYLOAD}

-- the text "ESMJ000" and a digit: "ESMJ0001" of a single journal, "ESMJ0002" of a pair
abbrev pub header_of : ℕ → List ℕ
header_of digit = 69 ∷ 83 ∷ 77 ∷ 74 ∷ 48 ∷ 48 ∷ 48 ∷ (48 + digit) ∷ []

-- the length and the payload, which follow a gate
abbrev pub entry : List ℕ → List ℕ
entry payload = to_be_bytes w32 (length payload) ++ payload

-- each payload behind an open gate
abbrev pub entries : List (List ℕ) → List ℕ
entries [] = []
entries (payload ∷ payloads) = 1 ∷ [] ++ entry payload ++ entries payloads

-- all that precedes the last gate
abbrev pub front : List ℕ → ℕ → List (List ℕ) → List ℕ
front header epoch payloads = header ++ to_be_bytes w64 epoch ++ 1 ∷ [] ++ entries payloads

-- the place of the last gate
abbrev pub end_of : List (List ℕ) → ℕ
end_of payloads = 17 + length (entries payloads)

-- no payload is too long
abbrev pub AreShort : List (List ℕ) → Type 0
AreShort payloads = All (λ payload. length payload ≤ MAX_PAYLOAD) payloads

-- The grammar of a file that holds these payloads: their entries behind open gates, then a gate that is not open, and
-- anything after it.
pub record IsFile (header : List ℕ) (epoch : ℕ) (payloads : List (List ℕ)) (bytes : List ℕ) : Type 0 where
  pub gate : ℕ
  pub rest : List ℕ
  pub closed : gate ≢ 1
  pub bytes_are : bytes ≡ front header epoch payloads ++ gate ∷ rest
  pub epoch_fits : epoch < 2 ^ 64
  pub short : AreShort payloads

-- what opening a file finds
pub data Opening : Type 0 where
  -- its epoch, and its payloads in order
  Holding : (epoch : ℕ) (payloads : List (List ℕ)) → Opening
  -- it does not begin with the header
  Foreign : Opening
  -- it is damaged at this place
  Damaged : (place : ℕ) → Opening

-- a payload before those that the rest of a file holds
abbrev pub preceded : List ℕ → Opening → Opening
preceded payload (Holding epoch payloads) = Holding epoch (payload ∷ payloads)
preceded payload Foreign = Foreign
preceded payload (Damaged place) = Damaged place

-- the number in the first four bytes
abbrev pub number_in : List ℕ → ℕ
number_in bytes = from_be_bytes w32 (take 4 bytes)

-- What an open entry at this place says, given what follows its open gate and what the rest of the file says. A length that
-- is cut short is damage at the file's end; one above the limit is damage at its own place.
abbrev pub opened_entry : ℕ → List ℕ → Opening → Opening
opened_entry place behind rest =
    if nat_lt (length behind) 4 then Damaged (place + 1 + length behind)
    else if nat_lt MAX_PAYLOAD (number_in behind) then Damaged (place + 1)
    else preceded (take (number_in behind) (drop 4 behind)) rest

-- What the part of a file from this place on says. There are `skip` bytes before the next gate; a file that ends before that
-- gate is damaged at its end. The first gate that is not open ends the payloads, whatever follows it.
abbrev pub read_from : ℕ → ℕ → ℕ → List ℕ → Opening
read_from epoch place skip [] = Damaged place
read_from epoch place (suc skip) (byte ∷ bytes) = read_from epoch (place + 1) skip bytes
read_from epoch place zero (gate ∷ bytes) =
    if gate == 1
    then opened_entry place bytes (read_from epoch (place + 1) (4 + number_in bytes) bytes)
    else Holding epoch []

-- the eight bytes from this place on, with 0 for each that is missing
abbrev pub eight_at : List ℕ → ℕ → List ℕ
eight_at bytes n =
    slice_index bytes n ∷ slice_index bytes (n + 1) ∷ slice_index bytes (n + 2) ∷ slice_index bytes (n + 3)
    ∷ slice_index bytes (n + 4) ∷ slice_index bytes (n + 5) ∷ slice_index bytes (n + 6) ∷ slice_index bytes (n + 7) ∷ []

-- the epoch, which follows the header
abbrev pub epoch_in : List ℕ → ℕ
epoch_in bytes = from_be_bytes w64 (eight_at bytes 8)

-- what a file that begins with the header says: it has at least 18 bytes, and its seal, at place 16, is 1
abbrev pub opened_rest : List ℕ → Opening
opened_rest bytes =
    if nat_lt (length bytes) 18 then Damaged (length bytes)
    else if slice_index bytes 16 == 1 then read_from (epoch_in bytes) 17 0 (drop 17 bytes)
    else Damaged 16

-- what opening a file with this header finds
abbrev pub opened : List ℕ → List ℕ → Opening
opened header bytes = if starts_with nat_eq bytes header then opened_rest bytes else Foreign

-- a file that was never sealed: the header, the epoch, a closed seal and a closed gate
abbrev pub blank_file : List ℕ → ℕ → List ℕ
blank_file header epoch = header ++ to_be_bytes w64 epoch ++ 0 ∷ 0 ∷ []

-- a fresh file: epoch 1, an open seal and a closed gate
abbrev pub fresh_file : List ℕ → List ℕ
fresh_file header = header ++ to_be_bytes w64 1 ++ 1 ∷ 0 ∷ []
