-- What contracts see of a registry, its invariant, and what a crash leaves of its disk.
use Rattle.std.specs.Prelude.{◌≡◌, ◌+◌, ℕ, List, take, map, Option, Some, None, IsSome}
use Rattle.std.specs.List.{All, IsDistinct}
use Rattle.std.specs.Str.{bytes_eq}
use Rattle.esm_journal.specs.File.{header_of}
use Rattle.esm_journal.specs.State.{JournalState, OpensTo, OpensToEither}
use Rattle.esm_config.specs.Given.{IsGiven}
use Rattle.esm_registry.specs.Lists.{Mappings}
use Rattle.esm_registry.specs.Payload.{mappings_of}

-- a registry: its mappings, and the state of its journal
pub record RegistryState (D : Type 0) : Type 0 where
  pub mappings : Mappings
  pub journal : JournalState D

-- This is the first payload with which the list is not one of a registry's.
abbrev pub IsFirstBad : List (List ℕ) → ℕ → Type 0
IsFirstBad payloads i = IsSome (mappings_of (take i payloads)) × (mappings_of (take (i + 1) payloads) ≡ None)

-- The file opens to these payloads, or to these and the one that is being written, if there is one.
abbrev pub OpensToStep : List (List ℕ) → Option (List ℕ) → List ℕ → Type 0
OpensToStep payloads None bytes = OpensTo (header_of 1) payloads bytes
OpensToStep payloads (Some payload) bytes = OpensToEither (header_of 1) payloads payload bytes

-- The invariant of every registry: its payloads say its mappings, no two mappings have the same UUID, and each
-- configuration is one that `read` or `merge` returns.
pub record IsRegistry {D : Type 0} (r : RegistryState D) : Type 0 where
  pub said : mappings_of r.journal.payloads ≡ Some r.mappings
  pub distinct : IsDistinct bytes_eq (map (λ m. m.id) r.mappings.list)
  pub given : All (λ m. IsGiven m.config) r.mappings.list
