-- Two files of which one is in use: the sealed one with the greater epoch.
use Rattle.std.specs.Prelude.{◌++◌, ◌∷◌, [], ◌⊎◌, ◌≡◌, ◌≤◌, ◌<◌, ◌==◌, ◌&&◌, ◌||◌, not, ℕ, Bool, true, false, List, length, slice_index, nat_eq, nat_lt, if◌then◌else◌, refl}
use Rattle.std.specs.Cmp.Lexicographic.{pointwise}
use Rattle.std.specs.Coded.{Coded, code_by, coded×, coded_ℕ, coded_bool, coded_list}
use Rattle.esm_io.specs.Meanings.{DiskMeaning}
use Rattle.esm_io.specs.Images.{Only}
use Rattle.esm_io.specs.Faults.{Rose}
use Rattle.esm_journal.specs.File.{header_of, Opening, Holding, Foreign, Damaged, IsFile, eight_at, epoch_in, opened_rest}
use Rattle.esm_journal.specs.Reads.{RefusedFor}
use Rattle.esm_journal.specs.declared.error.OpenError.{OpenError}

-- it begins with the header and its seal is open
abbrev pub is_sealed : List ℕ → List ℕ → Bool
is_sealed header bytes = pointwise nat_eq (eight_at bytes 0) header && (slice_index bytes 16 == 1)

-- the first of two files is taken: it is sealed, and the other is not or has a lower epoch
abbrev pub is_taken : List ℕ → List ℕ → List ℕ → Bool
is_taken header bytes other = is_sealed header bytes && (not (is_sealed header other) || nat_lt (epoch_in other) (epoch_in bytes))

-- what the file that is taken says, beside another of `size` bytes, which has to have 18 at least
abbrev pub beside : Opening → ℕ → Opening
beside (Holding epoch payloads) size = if nat_lt size 18 then Damaged size else Holding epoch payloads
beside Foreign size = Foreign
beside (Damaged place) size = Damaged place

-- what opening a pair with this header finds
abbrev pub pair_opened : List ℕ → List ℕ → List ℕ → Opening
pair_opened header first second =
    if is_taken header first second then beside (opened_rest first) (length second)
    else if is_taken header second first then beside (opened_rest second) (length first)
    else Foreign

-- Why a pair whose bytes open so was refused: neither file is taken, and these are the first eight bytes of the first; the
-- one that is taken is damaged at a place; or a disk's faults rose.
abbrev pub PairRefusedFor : {D : Type 0} → DiskMeaning D → (List ℕ → List ℕ → Opening) → D → D → D → D → OpenError → Type 0
PairRefusedFor m opening first second first' second' why =
    RefusedFor
    (λ eight. m.honest first ≡ true → m.honest second ≡ true → (opening (m.content first) (m.content second) ≡ Foreign) × (eight ≡ eight_at (m.content first) 0))
    (λ place. m.honest first ≡ true → m.honest second ≡ true → opening (m.content first) (m.content second) ≡ Damaged place)
    (Rose (m.faults first) (m.faults first') ⊎ Rose (m.faults second) (m.faults second')) why

-- a spare: beside a file in use of this epoch it is not taken, and does not keep the other from being taken
pub record IsSpare (header : List ℕ) (epoch : ℕ) (bytes : List ℕ) : Type 0 where
  pub long : 18 ≤ length bytes
  pub lower : is_sealed header bytes ≡ true → epoch_in bytes < epoch

-- a file that may be written over: it is long enough, and whether its seal byte is 1 is known
pub record IsOther (sealed : Bool) (bytes : List ℕ) : Type 0 where
  pub long : 18 ≤ length bytes
  pub seal : sealed ≡ (slice_index bytes 16 == 1)

-- a pair: its payloads in order; the epoch of the disk in use; whether a call of a disk failed; the lengths of the next
-- payloads for which there is memory; the disk in use and the spare one; and whether the one in use is the second that
-- was handed in
pub record PairState (D : Type 0) : Type 0 where
  pub payloads : List (List ℕ)
  pub epoch : ℕ
  pub down : Bool
  pub room : List ℕ
  pub used : D
  pub spare : D
  pub swapped : Bool

-- a state is stored as the tuple of its fields
abbrev pub pair_code : {D : Type 0} → Coded D → Coded (PairState D)
pair_code {D} code =
    code_by (List (List ℕ) × (ℕ × (Bool × (List ℕ × (D × (D × Bool))))))
    (coded× (coded_list (coded_list coded_ℕ)) (coded× coded_ℕ (coded× coded_bool (coded× (coded_list coded_ℕ) (coded× code (coded× code coded_bool))))))
    (λ s. (s.payloads, (s.epoch, (s.down, (s.room, (s.used, (s.spare, s.swapped)))))))
    (λ p. record { payloads = p.0; epoch = p.1.0; down = p.1.1.0; room = p.1.1.1.0; used = p.1.1.1.1.0; spare = p.1.1.1.1.1.0; swapped = p.1.1.1.1.1.1 }) (λ _. refl)

-- the first and the second disk, as they were handed in
abbrev pub first_disk : {D : Type 0} → PairState D → D
first_disk s = if s.swapped then s.spare else s.used

abbrev pub second_disk : {D : Type 0} → PairState D → D
second_disk s = if s.swapped then s.used else s.spare

-- images of the disk in use and of the other open to these payloads, in either order
abbrev pub PairOpensTo : List ℕ → ℕ → List (List ℕ) → List ℕ → List ℕ → Type 0
PairOpensTo header epoch payloads used spare =
    (pair_opened header used spare ≡ Holding epoch payloads) × (pair_opened header spare used ≡ Holding epoch payloads)

-- What the disks of a pair hold: the one in use exactly these payloads, the other nothing that is taken; each is its
-- only image. So each image of the pair opens to the payloads, in whichever order the disks are handed in.
pub record PairKeeps {D : Type 0} (m : DiskMeaning D) (header : List ℕ) (epoch : ℕ) (payloads : List (List ℕ)) (used spare : D) : Type 0 where
  pub file : IsFile header epoch payloads (m.content used)
  pub durable : Only (m.content used) (m.image used)
  pub beside : IsSpare header epoch (m.content spare)
  pub spare_durable : Only (m.content spare) (m.image spare)
  pub opens : PairOpensTo header epoch payloads (m.content used) (m.content spare)

-- if both disks are honest and no call of them failed, they keep the payloads
abbrev pub PairKeepsWhileUp : {D : Type 0} → DiskMeaning D → PairState D → Type 0
PairKeepsWhileUp m pair = m.honest pair.used ≡ true → m.honest pair.spare ≡ true → pair.down ≡ false → PairKeeps m (header_of 2) pair.epoch pair.payloads pair.used pair.spare

-- they open to these payloads, or to these and one more
abbrev pub PairOpensToEither : List ℕ → ℕ → List (List ℕ) → List ℕ → List ℕ → List ℕ → Type 0
PairOpensToEither header epoch payloads payload used spare =
    PairOpensTo header epoch payloads used spare ⊎ PairOpensTo header epoch (payloads ++ payload ∷ []) used spare
