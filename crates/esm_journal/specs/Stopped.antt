-- What a crash may leave of a pair once a call of a disk failed.
use Rattle.std.specs.Prelude.{◌≡◌, ◌⊎◌, ℕ, true, List}
use Rattle.esm_io.specs.Meanings.{DiskMeaning}
use Rattle.esm_journal.specs.File.{header_of}
use Rattle.esm_journal.specs.Pair.{PairState, first_disk, second_disk, PairOpensToEither}
use Rattle.esm_journal.specs.Replace.{PairOpensToOldOrNew}

-- A call failed while a payload was added, or while a list was written to the file that is not in use. In the first case
-- images of both disks open to the payloads, or to these and that one; in the other to the payloads, or to that list.
abbrev pub PairStillOpens : {D : Type 0} → DiskMeaning D → List ℕ → ℕ → List (List ℕ) → D → D → Type 0
PairStillOpens m header epoch payloads first second =
    ((payload : List ℕ) × ((one other : List ℕ) → m.image first one → m.image second other → PairOpensToEither header epoch payloads payload one other))
    ⊎ ((list : List (List ℕ)) × ((one other : List ℕ) → m.image first one → m.image second other → PairOpensToOldOrNew header epoch payloads list one other))

-- this holds of the disks of a pair that is down, in the order in which they were handed in, if both are honest
abbrev pub PairKeepsWhileDown : {D : Type 0} → DiskMeaning D → PairState D → Type 0
PairKeepsWhileDown m pair =
    m.honest pair.used ≡ true → m.honest pair.spare ≡ true → pair.down ≡ true → PairStillOpens m (header_of 2) pair.epoch pair.payloads (first_disk pair) (second_disk pair)
