-- How `serve` ended: why, what it left of the registry's file, what was written, and the exit status. This product's own.
use Rattle.std.specs.Prelude.{◌≡◌, ◌⊎◌, ◌≤◌, ℕ, Bool, true, false, List, [], ◌∷◌, ◌++◌, length, codes, Some}
use Rattle.std.specs.Fmt.{decimal}
use Rattle.std.specs.Option.{option_to_list}
use Rattle.esm_io.specs.Faults.{Rose}
use Rattle.esm_io.specs.Images.{LeavesOnly}
use Rattle.esm_io.specs.Meanings.{DiskMeaning}
use Rattle.esm_journal.specs.File.{header_of, opened, Foreign, Damaged}
use Rattle.esm_journal.specs.Reads.{IsOnlyRead}
use Rattle.esm_journal.specs.State.{OpensTo, KeepsWhileUp, KeepsWhileDown}
use Rattle.esm_registry.specs.Lists.{Mappings}
use Rattle.esm_registry.specs.Machine.{Asked, step}
use Rattle.esm_registry.specs.State.{RegistryState, IsRegistry, IsFirstBad}
use Rattle.esm_model.specs.Names.{file_name}
use Rattle.esm_model.specs.declared.names.FileName.TheVariants.{Registry}
use Rattle.esm_run.specs.declared.connections.Accepted.{Accepted}
use Rattle.esm_run.specs.declared.connections.Stop.{Stop}
use Rattle.esm_run.specs.declared.connections.Stop.TheVariants as stop
use Rattle.esm_run.specs.declared.registry_file.ServeEnd.{ServeEnd}
use Rattle.esm_run.specs.declared.registry_file.ServeEnd.TheVariants as end
use Rattle.esm_run.specs.Endings.{IsToldWith}
use Rattle.esm_run.specs.Initialized.{OUTPUT_FAULT}
use Rattle.esm_run.specs.Serving.{HaveServed, HaveServedUpTo, StopsFor, payloads_of}
use Rattle.esm_run.specs.World.{DoorSeen, ServeTells, Written}

-- statuses and texts

abbrev pub stop_status : Stop → ℕ
stop_status stop.Done = 0
stop_status stop.DiskFault = 6
stop_status stop.DoorFault = 11

abbrev pub serve_status : ServeEnd → ℕ
serve_status end.NotAJournal = 8
serve_status (end.Damaged place) = 8
serve_status (end.BadPayload index) = 8
serve_status end.OpenFault = 6
serve_status (end.Served accepted) = stop_status accepted.stop

abbrev pub last_line : Stop → List ℕ
last_line stop.Done = codes "done"
last_line stop.DiskFault = codes "disk fault"
last_line stop.DoorFault = codes "door fault"

-- how many connections were accepted, and the last line
abbrev pub served_text : ℕ → List ℕ → List ℕ
served_text count line = codes "served " ++ decimal count ++ codes "\n" ++ line ++ codes "\n"

abbrev pub serve_text : ServeEnd → List ℕ
serve_text end.NotAJournal = codes "not a journal " ++ file_name Registry ++ codes "\n"
serve_text (end.Damaged place) = codes "damaged " ++ file_name Registry ++ codes " " ++ decimal place ++ codes "\n"
serve_text (end.BadPayload index) = codes "bad payload " ++ file_name Registry ++ codes " " ++ decimal index ++ codes "\n"
serve_text end.OpenFault = codes "disk fault\n"
serve_text (end.Served accepted) = served_text accepted.count (last_line accepted.stop)

-- the registry's file

-- the file opened to this registry, and nothing was written
pub record IsOpened {D : Type 0} (m : DiskMeaning D) (disk : D) (registry : RegistryState D) : Type 0 where
  pub file : m.honest disk ≡ true → OpensTo (header_of 1) registry.journal.payloads (m.content disk)
  pub says : IsRegistry registry
  pub up : registry.journal.down ≡ false
  pub kept : KeepsWhileUp m registry.journal
  pub only_read : IsOnlyRead m disk registry.journal.disk

-- the file opens to the payloads followed by a prefix of `more`, each whole
pub record OpensToFront (payloads more : List (List ℕ)) (bytes : List ℕ) : Type 0 where
  pub front : List (List ℕ)
  pub rest : List (List ℕ)
  pub parts : more ≡ front ++ rest
  pub opens : OpensTo (header_of 1) (payloads ++ front) bytes

abbrev pub WasOrOpensToFront : (List ℕ → Type 0) → (payloads more : List (List ℕ)) → List ℕ → Type 0
WasOrOpensToFront before payloads more bytes = before bytes ⊎ OpensToFront payloads more bytes

-- the payload that is written for a command which these mappings accept, at a moment that the clock gave
pub record IsOfCommand (gave : ℕ → Bool) (mappings : Mappings) (payload : List ℕ) : Type 0 where
  pub asked : Asked
  pub moment : ℕ
  pub given : gave moment ≡ true
  pub written : (step mappings asked moment).payload ≡ Some payload

-- the registry's journal over this disk has the payloads found, followed by `more`
pub record HoldsMore {C D : Type 0} (o : ServeTells C D) (disk : D) (found more : List (List ℕ)) (registry : RegistryState D) : Type 0 where
  pub payloads : registry.journal.payloads ≡ found ++ more
  -- a crash now leaves exactly these; after a call that failed, these or one more
  pub kept : KeepsWhileUp o.disk registry.journal
  pub stopped : KeepsWhileDown o.disk registry.journal
  -- a crash at any moment since the opening left what one might have left before it, or the payloads found and a prefix of
  -- `more`, each whole; if a call failed while it wrote one further payload, that one may follow, and it is of a command
  -- that the mappings which are left accept
  pub further : List (List ℕ)
  pub no_further : registry.journal.down ≡ false → further ≡ []
  pub at_most_one : length further ≤ 1
  pub of_command : (payload : List ℕ) → further ≡ payload ∷ [] → IsOfCommand o.gave registry.mappings payload
  pub any_moment : o.disk.honest disk ≡ true
      → LeavesOnly o.disk.moment o.disk.since disk registry.journal.disk (WasOrOpensToFront (o.disk.image disk) found (more ++ further))

-- ends

-- nothing was written and nothing accepted
pub record IsUnserved {D : Type 0} (m : DiskMeaning D) (old new : D) (door : DoorSeen) : Type 0 where
  pub only_read : IsOnlyRead m old new
  pub no_connection : door.after ≡ door.before
  pub no_call : door.faults_now ≡ door.faults_before

-- the file opened, connections were served over its registry, and this is why no more were
pub record HasServed {C D : Type 0} (o : ServeTells C D) (old new : D) (door : DoorSeen) (requests : ℕ) (accepted : Accepted) : Type 0 where
  pub first : RegistryState D
  pub last : RegistryState D
  pub opened : IsOpened o.disk old first
  pub served : HaveServed o first last door accepted.count
  pub disk_is : new ≡ last.journal.disk
  pub journal : HoldsMore o old first.journal.payloads (payloads_of served.connections) last
  pub stop : StopsFor (o.disk.faults old) (o.disk.faults new) last.journal.down door requests accepted.count accepted.stop

-- the payload with this index is the first in the file that is not one of a registry
abbrev pub HasBadPayload : ℕ → List ℕ → Type 0
HasBadPayload index bytes = (payloads : List (List ℕ)) × OpensTo (header_of 1) payloads bytes × IsFirstBad payloads index

-- why it ended so; `old` and `new` are the registry's disk before and after it
abbrev pub IsServeEnd : {C D : Type 0} → ServeTells C D → (old new : D) → DoorSeen → (requests : ℕ) → ServeEnd → Type 0
IsServeEnd o old new door requests end.NotAJournal = IsUnserved o.disk old new door × (o.disk.honest old ≡ true → opened (header_of 1) (o.disk.content old) ≡ Foreign)
IsServeEnd o old new door requests (end.Damaged place) = IsUnserved o.disk old new door × (o.disk.honest old ≡ true → opened (header_of 1) (o.disk.content old) ≡ Damaged place)
IsServeEnd o old new door requests (end.BadPayload index) = IsUnserved o.disk old new door × (o.disk.honest old ≡ true → HasBadPayload index (o.disk.content old))
IsServeEnd o old new door requests end.OpenFault = IsUnserved o.disk old new door × Rose (o.disk.faults old) (o.disk.faults new)
IsServeEnd o old new door requests (end.Served accepted) = HasServed o old new door requests accepted

pub record ServeOutcome {C D : Type 0} (o : ServeTells C D) (old new : D) (door : DoorSeen) (output : Written) (requests status : ℕ) : Type 0 where
  pub end : ServeEnd
  pub cause : IsServeEnd o old new door requests end
  pub told : IsToldWith output.faults_before output.faults_now output.before output.after (serve_text end) (serve_status end) OUTPUT_FAULT status

-- the registry's disk is honest, and neither its count of faults nor the door's rose or is at its greatest value
pub record IsSoundServe {C D : Type 0} (o : ServeTells C D) (old new : D) (door : DoorSeen) : Type 0 where
  pub honest : o.disk.honest old ≡ true
  pub no_disk_fault : ¬ Rose (o.disk.faults old) (o.disk.faults new)
  pub no_door_fault : ¬ Rose door.faults_before door.faults_now

-- out of memory

-- the file opened, and an allocation failed while connections were served, or when the text was to be written
pub record HasServedUpTo {C D : Type 0} (o : ServeTells C D) (old new : D) (door : DoorSeen) : Type 0 where
  pub first : RegistryState D
  pub last : RegistryState D
  pub opened : IsOpened o.disk old first
  pub served : HaveServedUpTo o first last door
  pub disk_is : new ≡ last.journal.disk
  pub journal : HoldsMore o old first.journal.payloads (payloads_of (served.connections ++ option_to_list served.stopped_with)) last

-- an allocation failed before a connection was accepted, or later
abbrev pub IsServeCut : {C D : Type 0} → ServeTells C D → (old new : D) → DoorSeen → Type 0
IsServeCut o old new door = IsUnserved o.disk old new door ⊎ HasServedUpTo o old new door
