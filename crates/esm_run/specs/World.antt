-- What contracts see of devices, in one value for each purpose, so that a contract takes one argument for it; and what they
-- see of a world before and after a command. This product's own.
use Rattle.std.specs.Prelude.{ℕ, Bool, List, Option, reverse}
use Rattle.esm_ddb.specs.Event.{ddb_event}
use Rattle.esm_ddb.specs.FailureLine.{ddb_line}
use Rattle.esm_workers.specs.Working.{outside}
use Rattle.esm_folder.specs.declared.disks.Disks.{Disks}
use Rattle.esm_io.specs.declared.caller.Caller.{Ghosts as Caller}
use Rattle.esm_io.specs.declared.clock.Clock.{Ghosts as Clock}
use Rattle.esm_io.specs.declared.disk.Disk.{Ghosts as Disk}
use Rattle.esm_io.specs.declared.door.Door.{Ghosts as Door}
use Rattle.esm_io.specs.declared.link.Link.{Ghosts as Link}
use Rattle.esm_io.specs.declared.sink.Sink.{Ghosts as Sink}
use Rattle.esm_io.specs.declared.source.Source.{Ghosts as Source}
use Rattle.esm_io.specs.Meanings.{DiskMeaning, disk as meaning}
use Rattle.esm_io.specs.Talks.{Closed, Talk}
use Rattle.esm_model.specs.declared.called.Called.{Called}
use Rattle.esm_model.specs.declared.entry.Entry.{Entry}
use Rattle.esm_runner.specs.declared.run.MappingRun.{MappingRun}
use Rattle.esm_runner.specs.Headline.{Devices, Telling, telling}
use Rattle.esm_run.specs.declared.left.RunDevices.{RunDevices}
use Rattle.esm_run.specs.declared.world.World.{World}

-- what contracts see of the devices of a world

-- of an input, an output, a disk, a caller, a door and a connection
pub record DevicesTell (S K D F L N : Type 0) : Type 1 where
  -- which moments the clock gave
  pub gave : ℕ → Bool
  -- what a caller sends for an event, and the calls that it logged, if they are visible
  pub sends : List ℕ → List ℕ
  pub log : F → Option (List Called)
  -- what a disk means
  pub disk : DiskMeaning D
  -- how often the input failed, and the bytes that are left of it, if they are visible
  pub input_faults : S → ℕ
  pub left : S → Option (List ℕ)
  -- how often the output failed, and what it took, if that is visible
  pub output_faults : K → ℕ
  pub written : K → Option (List ℕ)
  -- how often the door failed, and the connections that it closed, if they are visible
  pub door_faults : L → ℕ
  pub closed : L → Option (List Closed)
  -- what was read and written on a connection, if that is visible, and how often it failed
  pub talk : N → Option Talk
  pub link_faults : N → ℕ

-- the devices whose traits have these members
abbrev pub devices : {S K D C F L N : Type 0} → Clock C → Caller F → Disk D → Source S → Sink K → Door L N → Link N → DevicesTell S K D F L N
devices clock caller disk source sink door link = record {
  gave = clock.gave;
  sends = caller.sends;
  log = caller.log;
  disk = meaning disk;
  input_faults = source.faults;
  left = source.left;
  output_faults = sink.faults;
  written = sink.written;
  door_faults = door.faults;
  closed = door.closed;
  talk = link.told;
  link_faults = link.faults;
}

-- the same of a run's devices: the clock, the callers, the disks and the input; failure lines are delivered as they are
pub record RunTells (S D F : Type 0) : Type 1 where
  pub run : Telling D F
  pub faults : S → ℕ
  pub left : S → Option (List ℕ)

abbrev pub run_tells : {S D C F : Type 0} → Clock C → Caller F → Disk D → Source S → RunTells S D F
run_tells clock caller disk source = record { run = telling (outside clock.gave caller.sends caller.log) (meaning disk) (λ line. line); faults = source.faults; left = source.left }

-- the same of a run over a DynamoDB stream: its callers get `ddb_event` of each event, with the records' own elements in
-- place of the records, and its failure file `ddb_line` of each line, with the table's name; either may leave its text as it
-- is
abbrev pub ddb_tells : {S D F : Type 0} → RunTells S D F → Telling D F
ddb_tells o = telling (outside o.run.callers.gave (λ event. o.run.callers.sends (ddb_event event)) o.run.callers.log) o.run.disk ddb_line

-- the same of the devices of `serve`: which moments the clock gave, what was read and written on a connection, how often it
-- failed, and what the registry's disk means
pub record ServeTells (C D : Type 0) : Type 1 where
  pub gave : ℕ → Bool
  pub told : C → Option Talk
  pub faults : C → ℕ
  pub disk : DiskMeaning D

abbrev pub serve_tells : {C D N : Type 0} → Clock C → Link N → Disk D → ServeTells N D
serve_tells clock link disk = record { gave = clock.gave; told = link.told; faults = link.faults; disk = meaning disk }

abbrev pub of_run : {S K D F L N : Type 0} → DevicesTell S K D F L N → RunTells S D F
of_run t = record { run = telling (outside t.gave t.sends t.log) t.disk (λ line. line); faults = t.input_faults; left = t.left }

abbrev pub of_serve : {S K D F L N : Type 0} → DevicesTell S K D F L N → ServeTells N D
of_serve t = record { gave = t.gave; told = t.talk; faults = t.link_faults; disk = t.disk }

-- what contracts see of a world

-- its disks
abbrev pub disks : {D : Type 0} → (journal spare failures registry : D) → Disks D
disks journal spare failures registry = record { journal = journal; spare = spare; failures = failures; registry = registry }

-- what a run uses of it: its input, disks and callers
pub record Seen (S D F : Type 0) : Type 0 where
  pub input : S
  pub disks : Disks D
  pub callers : List F

abbrev pub seen_of : {S D F : Type 0} → S → (journal spare failures registry : D) → List F → Seen S D F
seen_of input journal spare failures registry callers = record { input = input; disks = disks journal spare failures registry; callers = callers }

-- the same of a run's devices
abbrev pub seen_by : {S D F : Type 0} → RunDevices S D F → Seen S D F
seen_by run = seen_of run.input run.journal run.spare run.failures run.registry run.callers.items

-- the devices that the run of a mapping left, the registry's disk among them
abbrev pub devices_left : {S D F : Type 0} → MappingRun S D F → D → RunDevices S D F
devices_left run registry = record { input = run.input; journal = run.journal; spare = run.spare; failures = run.failures; registry = registry; callers = run.callers }

-- the disks that a run writes, and the callers
abbrev pub devices_of : {S D F : Type 0} → Seen S D F → Devices D F
devices_of w = record { journal = w.disks.journal; spare = w.disks.spare; failures = w.disks.failures; callers = w.callers }

-- an output before and after a command
pub record Written : Type 0 where
  pub faults_before : ℕ
  pub faults_now : ℕ
  pub before : Option (List ℕ)
  pub after : Option (List ℕ)

abbrev pub written_of : {K : Type 0} → (faults : K → ℕ) → (written : K → Option (List ℕ)) → (old new : K) → Written
written_of faults written old new = record { faults_before = faults old; faults_now = faults new; before = written old; after = written new }

-- a door before and after a command: its count of faults, and the connections that it closed, if they are visible
pub record DoorSeen : Type 0 where
  pub faults_before : ℕ
  pub faults_now : ℕ
  pub before : Option (List Closed)
  pub after : Option (List Closed)

abbrev pub door_of : {L : Type 0} → (faults : L → ℕ) → (closed : L → Option (List Closed)) → (old new : L) → DoorSeen
door_of faults closed old new = record { faults_before = faults old; faults_now = faults new; before = closed old; after = closed new }

-- the same of the world itself; its history is taken newest entry first

abbrev pub history : {S K D C F L : Type 0} → World S K D C F L → List Entry
history w = reverse w.trace.items

abbrev pub disks_in : {S K D C F L : Type 0} → World S K D C F L → Disks D
disks_in w = disks w.journal w.spare w.failures w.registry

abbrev pub seen : {S K D C F L : Type 0} → World S K D C F L → Seen S D F
seen w = seen_of w.input w.journal w.spare w.failures w.registry w.callers.items

abbrev pub output : {S K D C F L N : Type 0} → DevicesTell S K D F L N → (old new : World S K D C F L) → Written
output t old new = written_of t.output_faults t.written old.out new.out

abbrev pub door : {S K D C F L N : Type 0} → DevicesTell S K D F L N → (old new : World S K D C F L) → DoorSeen
door t old new = door_of t.door_faults t.closed old.door new.door
