-- What contracts see of the devices of the host. This product's own.
use Rattle.std.specs.Prelude.{ℕ, Bool, List, Option}
use Rattle.std.specs.Duration.{as_nanos}
use Rattle.std.specs.declared.time.Duration.{Duration}
use Rattle.esm_host.specs.declared.deadline.Deadline.{Deadline}

-- a device of which contracts see nothing but its count of faults
pub record RealState : Type 0 where
  pub faults : ℕ

-- a file as a disk: whether it is down for good, and its count of faults
pub record FileDiskState : Type 0 where
  pub down : Bool
  pub faults : ℕ

-- a disk without a file: its first bytes, 0 where nothing was written; its length in bytes, and its count of faults
pub record FleetingDiskState : Type 0 where
  pub kept : List ℕ
  pub len : ℕ
  pub faults : ℕ

-- a limit of time, in nanoseconds, and the reading of the steady clock when it began, none before
pub record TimeLimit : Type 0 where
  pub limit : ℕ
  pub begun : Option Duration

abbrev pub writing_of : Deadline → TimeLimit
writing_of d = record { limit = as_nanos d.limit; begun = d.begun }

-- a connection over TCP: whether it is there; its limit of time, in nanoseconds, and the reading of the steady clock when
-- that began, none before; the limit of its writes, if they have their own; its count of faults
pub record TcpLinkState : Type 0 where
  pub connected : Bool
  pub limit : ℕ
  pub begun : Option Duration
  pub writing : Option TimeLimit
  pub faults : ℕ

-- the host's clock: the date, in milliseconds since 1970, when it was made
pub record HostClockState : Type 0 where
  pub date : ℕ
