-- The images of a disk in memory, from its steps, newest first: each step is undone to find what was there before it. This
-- product's own.
use Rattle.std.specs.Prelude.{◌≡◌, ◌⊎◌, ℕ, ◌+◌, ◌≤◌, ◌<◌, List, [], ◌∷◌, ◌++◌, length, take, drop, refl}
use Rattle.std.proofs.Common.{inl, inr, arith}
use Rattle.esm_io.specs.Schedule.{ScheduleState}
use Rattle.esm_io.specs.Images.{Torn}
use Rattle.esm_io.specs.declared.disk_step.DiskStep.{DiskStep}
use Rattle.esm_io.specs.declared.disk_step.DiskStep.TheVariants.{Wrote, Synced}

pub record DiskState : Type 0 where
  pub content : List ℕ
  -- the newest first
  pub steps : List DiskStep
  pub schedule : ScheduleState

-- what was there before a write
abbrev pub undone : ℕ → ℕ → List ℕ → List ℕ → List ℕ
undone at count before content = take at content ++ before ++ drop (at + count) content

-- a crash now may leave this image: the disk as it reads, or an earlier state since the last sync, with any bytes in the
-- range of each later write
abbrev pub IsImage : List ℕ → List DiskStep → List ℕ → Type 0
IsImage content [] image = image ≡ content
IsImage content (Synced ∷ steps) image = image ≡ content
IsImage content (Wrote at count before ∷ steps) image =
    (image ≡ content) ⊎ ((was : List ℕ) × IsImage (undone at count before content) steps was × Torn at count was image)

-- a crash may have left this image since the disk had t steps
abbrev pub IsImageSince : List ℕ → List DiskStep → ℕ → List ℕ → Type 0
IsImageSince content [] t image = image ≡ content
IsImageSince content (Synced ∷ steps) t image = (image ≡ content) ⊎ ((t ≤ length steps) × IsImageSince content steps t image)
IsImageSince content (Wrote at count before ∷ steps) t image =
    IsImage content (Wrote at count before ∷ steps) image ⊎ ((t ≤ length steps) × IsImageSince (undone at count before content) steps t image)

-- each write is within the content that it left; where it replaced fewer bytes than it wrote, it extended the end
abbrev pub AreSteps : List ℕ → List DiskStep → Type 0
AreSteps content [] = Unit {0}
AreSteps content (Synced ∷ steps) = AreSteps content steps
AreSteps content (Wrote at count before ∷ steps) =
    (at + count ≤ length content) × (length before ≤ count) × (length before < count → at + count ≡ length content)
    × AreSteps (undone at count before content) steps

pub reads_as_image : (content : List ℕ) (steps : List DiskStep) → IsImage content steps content
reads_as_image content [] = refl
reads_as_image content (Synced ∷ steps) = refl
reads_as_image content (Wrote at count before ∷ steps) = inl refl

pub counts_now : (content : List ℕ) (steps : List DiskStep) (t : ℕ) (image : List ℕ) → IsImage content steps image → IsImageSince content steps t image
counts_now content [] t image now = now
counts_now content (Synced ∷ steps) t image now = inl now
counts_now content (Wrote at count before ∷ steps) t image now = inl now

none_since : (A : Type 0) (steps : List DiskStep) (step : DiskStep) → length (step ∷ steps) ≤ length steps → A
none_since A steps step le = absurd (omega (arith, le))

pub only_now : (content : List ℕ) (steps : List DiskStep) (image : List ℕ) → IsImageSince content steps (length steps) image → IsImage content steps image
only_now content [] image since = since
only_now content (Synced ∷ steps) image (inl now) = now
only_now content (Synced ∷ steps) image (inr earlier) = none_since _ steps Synced earlier.0
only_now content (Wrote at count before ∷ steps) image (inl now) = now
only_now content (Wrote at count before ∷ steps) image (inr earlier) = none_since _ steps (Wrote at count before) earlier.0
