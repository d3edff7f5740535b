-- The bytes that a call leaves in a file, as a function of those that were there. What follows the last gate is ignored, and
-- a call changes no more of it than it overwrites.
use Rattle.std.specs.Prelude.{ℕ, List, [], ◌∷◌, ◌++◌}
use Rattle.esm_io.specs.Images.{overwritten}
use Rattle.esm_journal.specs.File.{entry, front, end_of}

-- A file of these payloads to which one was added: in place of the last gate an open gate, the length, the payload and a
-- closed gate.
abbrev pub with_payload : List (List ℕ) → List ℕ → List ℕ → List ℕ
with_payload payloads payload bytes = overwritten bytes (end_of payloads) (1 ∷ [] ++ entry payload ++ 0 ∷ [])

-- A file over which a list was written: from its start the header, the epoch, an open seal, the entries and a closed gate.
abbrev pub rewritten : List ℕ → ℕ → List (List ℕ) → List ℕ → List ℕ
rewritten header epoch payloads bytes = overwritten bytes 0 (front header epoch payloads ++ 0 ∷ [])
