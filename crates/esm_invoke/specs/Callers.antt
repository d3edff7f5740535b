-- What contracts see of a caller over HTTP. This product's own.
use Rattle.std.specs.Prelude.{ℕ, ◌+◌, ◌<◌}
use Rattle.esm_io.specs.Faults.{MAX_FAULTS}

-- the port of 127.0.0.1 that it calls, the limit of time of a call in nanoseconds, its count of faults, and the capacity of
-- its work area in bytes
pub record HttpState : Type 0 where
  pub port : ℕ
  pub limit : ℕ
  pub faults : ℕ
  pub room : ℕ

-- the count rose by at least two, or is at its greatest value
abbrev pub RoseTwice : ℕ → ℕ → Type 0
RoseTwice before now = now < MAX_FAULTS → before + 1 < now
