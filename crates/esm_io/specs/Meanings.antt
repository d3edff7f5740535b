-- The meaning of a disk and of a destination, each as one value, so that a contract takes one argument for it. This
-- product's own.
use Rattle.std.specs.Prelude.{ℕ, Bool, List, Option}
use Rattle.esm_io.specs.declared.disk.Disk.{Ghosts as Disk}
use Rattle.esm_io.specs.declared.dest.Dest.{Ghosts as Dest}

pub record DiskMeaning (D : Type 0) : Type 1 where
  pub honest : D → Bool
  pub content : D → List ℕ
  pub image : D → List ℕ → Type 0
  pub moment : D → ℕ
  pub since : D → ℕ → List ℕ → Type 0
  pub faults : D → ℕ

-- the meaning, from the ghost members of the trait
abbrev pub disk : {D : Type 0} → Disk D → DiskMeaning D
disk members = record { honest = members.honest; content = members.content; image = members.image; moment = members.moment; since = members.image_since; faults = members.faults }

pub record DestMeaning (T : Type 0) : Type 1 where
  pub honest : T → Bool
  pub faults : T → ℕ
  pub lines : T → Option (List (List ℕ))
  pub sends : List ℕ → List ℕ
  pub failed : T → Bool
  pub moment : T → ℕ
  pub since : T → ℕ → List ℕ → Type 0
  pub reads_as : List ℕ → List (List ℕ) → Type 0

-- the meaning, from the ghost members of the trait
abbrev pub destination : {T : Type 0} → Dest T → DestMeaning T
destination members = record { honest = members.honest; faults = members.faults; lines = members.lines; sends = members.sends; failed = members.failed; moment = members.moment; since = members.image_since; reads_as = members.reads_as }
