-- What a call of a disk in memory leaves, over its fields.
use Rattle.std.proofs.Common.{◌≡◌, ℕ, ◌≤◌, List, [], ◌∷◌, ◌++◌, length, take, drop, reverse, arith, refl, sym, subst, ap, ◌∙◌}
use Rattle.std.proofs.lemmas.List.{length-take, length-drop, reverse-append}
use Rattle.esm_io.specs.Schedule.{ScheduleState}
use Rattle.esm_io.specs.Images.{Torn, Elapses, Follows, Within, overwritten}
use Rattle.esm_io.specs.Steps.{DiskState, IsImage, IsImageSince, AreSteps}
use Rattle.esm_io.specs.declared.disk_step.DiskStep.{DiskStep}
use Rattle.esm_io.specs.declared.disk_step.DiskStep.TheVariants.{Wrote, Synced}
use Rattle.esm_io.proofs.Elapsed.{stayed, stayed_within, synced, synced_images, wrote, wrote_images, torn_same, undone_overwritten, length_overwritten}

-- the fields as a value
abbrev pub state_of : List ℕ → List DiskStep → ScheduleState → DiskState
state_of bytes steps schedule = record { content = bytes; steps = reverse steps; schedule = schedule }

abbrev IsLater : DiskState → List ℕ → List DiskStep → Type 0
IsLater v bytes steps = Elapses (length v.steps) (length steps) (IsImageSince v.content v.steps) (IsImageSince bytes steps)

abbrev Keeps : DiskState → List ℕ → List DiskStep → Type 0
Keeps v bytes steps = Within (IsImage v.content v.steps) (IsImageSince bytes steps (length v.steps))

abbrev Tears : ℕ → ℕ → DiskState → List ℕ → List DiskStep → Type 0
Tears at n v bytes steps = Follows (Torn at n) (IsImage v.content v.steps) (IsImageSince bytes steps (length v.steps))

moved : (P : DiskState → List ℕ → List DiskStep → Type 0) (v w : DiskState) (bytes bytes' : List ℕ) (steps steps' : List DiskStep) → w ≡ v → bytes' ≡ bytes → steps' ≡ steps → P w bytes steps → P v bytes' steps'
moved P v w bytes bytes' steps steps' e eb es p =
    let A : DiskState → Type 0 = λ v. P v bytes steps in
    let B : List ℕ → Type 0 = λ b. P v b steps in
    let C : List DiskStep → Type 0 = λ s. P v bytes' s in
    subst C (sym es) (subst B (sym eb) (subst A e p))

pub time_stayed : (v : DiskState) (bytes bytes' : List ℕ) (steps steps' : List DiskStep) (schedule : ScheduleState) → state_of bytes steps schedule ≡ v → bytes' ≡ bytes → steps' ≡ steps → IsLater v bytes' (reverse steps')
time_stayed v bytes bytes' steps steps' schedule e eb es = moved IsLater v (state_of bytes steps schedule) bytes bytes' (reverse steps) (reverse steps') e eb (ap reverse es) (stayed bytes (reverse steps))

pub images_stayed : (v : DiskState) (bytes bytes' : List ℕ) (steps steps' : List DiskStep) (schedule : ScheduleState) → state_of bytes steps schedule ≡ v → bytes' ≡ bytes → steps' ≡ steps → Keeps v bytes' (reverse steps')
images_stayed v bytes bytes' steps steps' schedule e eb es = moved Keeps v (state_of bytes steps schedule) bytes bytes' (reverse steps) (reverse steps') e eb (ap reverse es) (stayed_within bytes (reverse steps))

pub images_torn_not : (at n : ℕ) (v : DiskState) (bytes bytes' : List ℕ) (steps steps' : List DiskStep) (schedule : ScheduleState) → state_of bytes steps schedule ≡ v → bytes' ≡ bytes → steps' ≡ steps → Tears at n v bytes' (reverse steps')
images_torn_not at n v bytes bytes' steps steps' schedule e eb es image since = (image, images_stayed v bytes bytes' steps steps' schedule e eb es image since, torn_same at n image)

one_more_step : (step : DiskStep) (steps steps' : List DiskStep) → steps' ≡ steps ++ step ∷ [] → reverse steps' ≡ step ∷ reverse steps
one_more_step step steps steps' es = ap reverse es ∙ reverse-append steps (step ∷ [])

pub time_synced : (v : DiskState) (bytes : List ℕ) (steps steps' : List DiskStep) (schedule : ScheduleState) → state_of bytes steps schedule ≡ v → steps' ≡ steps ++ Synced ∷ [] → IsLater v bytes (reverse steps')
time_synced v bytes steps steps' schedule e es = moved IsLater v (state_of bytes steps schedule) bytes bytes (Synced ∷ reverse steps) (reverse steps') e refl (one_more_step Synced steps steps' es) (synced bytes (reverse steps))

pub images_synced : (v : DiskState) (bytes : List ℕ) (steps steps' : List DiskStep) (schedule : ScheduleState) → state_of bytes steps schedule ≡ v → steps' ≡ steps ++ Synced ∷ [] → Keeps v bytes (reverse steps')
images_synced v bytes steps steps' schedule e es = moved Keeps v (state_of bytes steps schedule) bytes bytes (Synced ∷ reverse steps) (reverse steps') e refl (one_more_step Synced steps steps' es) (synced_images bytes (reverse steps))

-- the step of a write
abbrev pub write_step : ℕ → List ℕ → List ℕ → DiskStep
write_step at more bytes = Wrote at (length more) (take (length more) (drop at bytes))

within_fields : (at : ℕ) (v w : DiskState) → w ≡ v → at ≤ length v.content → at ≤ length w.content
within_fields at v w e le = let P : DiskState → Type 0 = λ v. at ≤ length v.content in subst P (sym e) le

pub time_wrote : (at : ℕ) (more : List ℕ) (v : DiskState) (bytes bytes' : List ℕ) (steps steps' : List DiskStep) (schedule : ScheduleState) → at ≤ length v.content → state_of bytes steps schedule ≡ v → bytes' ≡ overwritten bytes at more → steps' ≡ steps ++ write_step at more bytes ∷ [] → IsLater v bytes' (reverse steps')
time_wrote at more v bytes bytes' steps steps' schedule le e eb es =
    moved IsLater v (state_of bytes steps schedule) (overwritten bytes at more) bytes' (write_step at more bytes ∷ reverse steps) (reverse steps') e eb (one_more_step (write_step at more bytes) steps steps' es)
    (wrote at more bytes (reverse steps) (within_fields at v (state_of bytes steps schedule) e le))

pub images_wrote : (at : ℕ) (more : List ℕ) (v : DiskState) (bytes bytes' : List ℕ) (steps steps' : List DiskStep) (schedule : ScheduleState) → at ≤ length v.content → state_of bytes steps schedule ≡ v → bytes' ≡ overwritten bytes at more → steps' ≡ steps ++ write_step at more bytes ∷ [] → Tears at (length more) v bytes' (reverse steps')
images_wrote at more v bytes bytes' steps steps' schedule le e eb es =
    moved (Tears at (length more)) v (state_of bytes steps schedule) (overwritten bytes at more) bytes' (write_step at more bytes ∷ reverse steps) (reverse steps') e eb (one_more_step (write_step at more bytes) steps steps' es)
    (wrote_images at more bytes (reverse steps) (within_fields at v (state_of bytes steps schedule) e le))

are_steps_wrote : (at : ℕ) (more bytes : List ℕ) (steps : List DiskStep) → at ≤ length bytes → AreSteps bytes steps → AreSteps (overwritten bytes at more) (write_step at more bytes ∷ steps)
are_steps_wrote at more bytes steps le are = (
  omega (arith, length_overwritten at more bytes le),
  omega (arith, length-take (length more) (drop at bytes)),
  λ short. omega (arith, short, length_overwritten at more bytes le, length-take (length more) (drop at bytes), length-drop at bytes),
  (let P : List ℕ → Type 0 = λ b. AreSteps b steps in subst P (sym (undone_overwritten at more bytes le)) are),
)

pub steps_wrote : (at : ℕ) (more : List ℕ) (v : DiskState) (bytes bytes' : List ℕ) (steps steps' : List DiskStep) (schedule : ScheduleState) → at ≤ length v.content → state_of bytes steps schedule ≡ v → bytes' ≡ overwritten bytes at more → steps' ≡ steps ++ write_step at more bytes ∷ [] → AreSteps bytes (reverse steps) → AreSteps bytes' (reverse steps')
steps_wrote at more v bytes bytes' steps steps' schedule le e eb es are =
    moved (λ v b s. AreSteps b s) v (state_of bytes steps schedule) (overwritten bytes at more) bytes' (write_step at more bytes ∷ reverse steps) (reverse steps') e eb (one_more_step (write_step at more bytes) steps steps' es)
    (are_steps_wrote at more bytes (reverse steps) (within_fields at v (state_of bytes steps schedule) e le) are)
