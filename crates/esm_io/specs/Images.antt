-- What a crash may leave of a disk. This product's own: the model of a disk whose writes may be torn in any way until a sync
-- succeeds.
use Rattle.std.specs.Prelude.{◌≡◌, ◌⊎◌, ℕ, ◌+◌, ◌≤◌, max, List, ◌++◌, length, take, drop}

-- the bytes, with these bytes written over them at this offset
abbrev pub overwritten : List ℕ → ℕ → List ℕ → List ℕ
overwritten old at more = take at old ++ more ++ drop (at + length more) old

-- the range of n bytes, which may extend past the old end, has any bytes, and the rest is unchanged
pub record Torn (at n : ℕ) (old new : List ℕ) : Type 0 where
  pub before : take at new ≡ take at old
  pub after : drop (at + n) new ≡ drop (at + n) old
  pub no_shorter : length old ≤ length new
  pub no_longer : length new ≤ max (length old) (at + n)

-- each new image results from an old one by a step
abbrev pub Follows : (List ℕ → List ℕ → Type 0) → (List ℕ → Type 0) → (List ℕ → Type 0) → Type 0
Follows step old new = (image : List ℕ) → new image → (was : List ℕ) × old was × step was image

-- each new image is an old one
abbrev pub Within : (List ℕ → Type 0) → (List ℕ → Type 0) → Type 0
Within old new = (image : List ℕ) → new image → old image

-- these bytes are the only image
abbrev pub Only : List ℕ → (List ℕ → Type 0) → Type 0
Only content images = (image : List ℕ) → images image → image ≡ content

-- Over a call the disk's clock does not go back. For a moment not after the call's start, the images since then are those
-- from before the call and those since its start.
pub record Elapses (start now : ℕ) (past since : ℕ → List ℕ → Type 0) : Type 0 where
  pub later : start ≤ now
  pub no_other : (t : ℕ) (image : List ℕ) → t ≤ start → since t image → past t image ⊎ since start image
  pub earlier : (t : ℕ) (image : List ℕ) → t ≤ start → past t image → since t image
  pub within : (t : ℕ) (image : List ℕ) → t ≤ start → since start image → since t image

-- Every image that a crash may have left since the call's start has P.
pub record LeavesOnly {D : Type 0} (moment : D → ℕ) (since : D → ℕ → List ℕ → Type 0) (old new : D) (P : List ℕ → Type 0) : Type 0 where
  pub later : moment old ≤ moment new
  pub each : (image : List ℕ) → since new (moment old) image → P image
  -- for a run that began before the call
  pub before : (t : ℕ) (image : List ℕ) → t ≤ moment old → since new t image → since old t image ⊎ P image

-- each image since a moment was one before the call too
abbrev pub NoOther : (ℕ → List ℕ → Type 0) → (ℕ → List ℕ → Type 0) → Type 0
NoOther past since = (t : ℕ) (image : List ℕ) → since t image → past t image
