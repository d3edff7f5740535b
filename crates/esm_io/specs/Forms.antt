-- The states of the forms in memory. This product's own.
use Rattle.std.specs.Prelude.{◌≡◌, ℕ, Bool, List, Some}
use Rattle.esm_io.specs.Schedule.{ScheduleState}
use Rattle.esm_io.specs.Talks.{Talk, Closed, IsFresh}

-- bytes to read, and how many a read gives at most
pub record SourceState : Type 0 where
  pub left : List ℕ
  pub piece : ℕ
  pub schedule : ScheduleState

-- bytes taken, and how many a write takes at most
pub record SinkState : Type 0 where
  pub written : List ℕ
  pub piece : ℕ
  pub schedule : ScheduleState

-- the lines delivered; whether a delivery failed; one more than the number of bytes for which the next line surely has room,
-- or 0
pub record DestState : Type 0 where
  pub lines : List (List ℕ)
  pub failed : Bool
  pub room : ℕ
  pub schedule : ScheduleState

-- what went over a connection, and how many bytes a call gives or takes at most
pub record LinkState : Type 0 where
  pub talk : Talk
  pub piece : ℕ
  pub schedule : ScheduleState

-- no read or write was made on the connection
pub record IsUnused (link : LinkState) : Type 0 where
  pub fresh : IsFresh (Some link.talk)
  pub calls : link.schedule.calls ≡ 0
  pub faults : link.schedule.faults ≡ 0

-- a connection, as a door lists it once it is closed
abbrev pub closed_link : LinkState → Closed
closed_link link = record { talk = link.talk; faults = link.schedule.faults }

-- the connections to come, in order, and those that were closed
pub record DoorState : Type 0 where
  pub links : List LinkState
  pub closed : List LinkState
  pub schedule : ScheduleState
