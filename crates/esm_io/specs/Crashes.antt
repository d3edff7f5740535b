-- What a disk in memory leaves when a test makes it crash. This product's own.
use Rattle.std.specs.Prelude.{ℕ, ◌+◌, ◌/◌, ◌%◌, ◌^◌, ◌==◌, Bool, List, [], ◌∷◌, drop, slice_index, if◌then◌else◌}
use Rattle.esm_io.specs.Steps.{undone}
use Rattle.esm_io.specs.declared.disk_step.DiskStep.{DiskStep}
use Rattle.esm_io.specs.declared.disk_step.DiskStep.TheVariants.{Wrote, Synced}

-- what the last sync kept: the writes since then are undone
abbrev pub kept_of : List ℕ → List DiskStep → List ℕ
kept_of content [] = content
kept_of content (Synced ∷ steps) = content
kept_of content (Wrote at count before ∷ steps) = kept_of (undone at count before content) steps

-- the byte at this place has arrived: bit `place` modulo 8 of the choice is set
abbrev pub has_arrived : ℕ → ℕ → Bool
has_arrived choice place = (choice / 2 ^ (place % 8)) % 2 == 1

-- the bytes from this place on, as far as they have arrived; for one that has not, the byte that was kept, or 0 past its end
abbrev pub arrived : ℕ → ℕ → List ℕ → List ℕ → List ℕ
arrived choice place kept [] = []
arrived choice place kept (byte ∷ bytes) =
    (if has_arrived choice place then byte else slice_index kept 0) ∷ arrived choice (place + 1) (drop 1 kept) bytes

-- with choice 0 no byte written since the last sync has arrived, and with choice 1 all have; with any other those whose bit
-- is set have, and the length is the new one
abbrev pub crashed : ℕ → List ℕ → List DiskStep → List ℕ
crashed choice content steps =
    if choice == 0 then kept_of content steps
    else if choice == 1 then content
    else arrived choice 0 (kept_of content steps) content
