-- How `serve` ended, from what was served.
use Rattle.std.proofs.Common.{◌≡◌, ◌∙◌, ℕ, ◌≤◌, Bool, true, false, List, [], None, Result, Ok, Err, ap, arith, inl, inr, refl, subst, sym}
use Rattle.std.specs.Prelude.{IfOk, OnErr}
use Rattle.esm_io.specs.Faults.{Rose}
use Rattle.esm_io.specs.Meanings.{DiskMeaning}
use Rattle.esm_journal.specs.File.{header_of, opened, eight_at, Foreign, Damaged}
use Rattle.esm_journal.specs.Reads.{IsOnlyRead, RefusedFor}
use Rattle.esm_journal.specs.State.{JournalState, Keeps, OpensTo}
use Rattle.esm_journal.specs.declared.error.OpenError.{OpenError}
use Rattle.esm_journal.specs.declared.error.OpenError.TheVariants as open_error
use Rattle.esm_model.specs.declared.memory.OutOfMemory.{OutOfMemory}
use Rattle.esm_registry.specs.State.{IsFirstBad, IsRegistry, RegistryState}
use Rattle.esm_registry.specs.declared.command.RegistryOpen.{RegistryOpen}
use Rattle.esm_registry.specs.declared.command.RegistryOpen.TheVariants as payloads_error
use Rattle.esm_run.specs.declared.connections.Accepted.{Accepted}
use Rattle.esm_run.specs.declared.connections.Stop.{Stop}
use Rattle.esm_run.specs.declared.connections.Stop.TheVariants as stop
use Rattle.esm_run.specs.declared.registry_file.ServeEnd.{ServeEnd}
use Rattle.esm_run.specs.declared.registry_file.ServeEnd.TheVariants as end
use Rattle.esm_run.specs.Refusals.{end_of_file, end_of_payloads}
use Rattle.esm_run.specs.Serve.{HasServed, HasServedUpTo, IsOpened, IsServeCut, IsServeEnd, IsUnserved}
use Rattle.esm_run.specs.Serving.{HaveServed, HaveServedUpTo, StopsFor}
use Rattle.esm_run.specs.World.{DoorSeen, ServeTells}
use Rattle.esm_run.proofs.Kept.{holds_opened, holds_served, holds_up_to}
use Rattle.esm_run.proofs.Visits.{rose_before}

-- counts

stops_before : (first before now : ℕ) (down : Bool) (door : DoorSeen) (requests count : ℕ) (why : Stop) → first ≤ before → StopsFor before now down door requests count why → StopsFor first now down door requests count why
stops_before first before now down door requests count stop.Done lower stops = stops
stops_before first before now down door requests count stop.DiskFault lower stops = (rose_before first before now lower stops.0, stops.1)
stops_before first before now down door requests count stop.DoorFault lower stops = stops

-- over a registry that opened

pub has_served : {C D : Type 0} (o : ServeTells C D) (old new : D) (door : DoorSeen) (requests : ℕ) (accepted : Accepted) (first last : RegistryState D) → IsOpened o.disk old first → HaveServed o first last door accepted.count
    → StopsFor (o.disk.faults first.journal.disk) (o.disk.faults last.journal.disk) last.journal.down door requests accepted.count accepted.stop → new ≡ last.journal.disk
    → HasServed o old new door requests accepted
has_served o old new door requests accepted first last opened served stops is = record {
  first = first;
  last = last;
  opened = opened;
  served = served;
  disk_is = is;
  journal = (holds_served o old first.journal.payloads [] first last served.connections served.served (holds_opened o old first opened)).holds;
  stop = subst (λ d. StopsFor (o.disk.faults old) (o.disk.faults d) last.journal.down door requests accepted.count accepted.stop) (sym is)
      (stops_before (o.disk.faults old) (o.disk.faults first.journal.disk) (o.disk.faults last.journal.disk) last.journal.down door requests accepted.count accepted.stop
      opened.only_read.never_falls stops);
}

pub has_served_up_to : {C D : Type 0} (o : ServeTells C D) (old new : D) (door : DoorSeen) (first last : RegistryState D) → IsOpened o.disk old first → HaveServedUpTo o first last door → new ≡ last.journal.disk
    → HasServedUpTo o old new door
has_served_up_to o old new door first last opened served is = record {
  first = first;
  last = last;
  opened = opened;
  served = served;
  disk_is = is;
  journal = (holds_up_to o old first.journal.payloads first served.middle last served.between door.after served.connections served.stopped_with served.served served.cut (holds_opened o old first opened)).holds;
}

-- what was served to its end, and only not told

whole_up_to : {C D : Type 0} (o : ServeTells C D) (first last : RegistryState D) (door : DoorSeen) (count : ℕ) → HaveServed o first last door count → HaveServedUpTo o first last door
whole_up_to o first last door count served = record {
  connections = served.connections;
  middle = last;
  between = door.after;
  served = served.served;
  closed = served.closed;
  stopped_with = None;
  cut = (refl, refl);
}

pub cut_of_end : {C D : Type 0} (o : ServeTells C D) (old new : D) (door : DoorSeen) (requests : ℕ) (e : ServeEnd) → IsServeEnd o old new door requests e → IsServeCut o old new door
cut_of_end o old new door requests end.NotAJournal is = inl is.0
cut_of_end o old new door requests (end.Damaged place) is = inl is.0
cut_of_end o old new door requests (end.BadPayload index) is = inl is.0
cut_of_end o old new door requests end.OpenFault is = inl is.0
cut_of_end o old new door requests (end.Served accepted) is =
    inr (has_served_up_to o old new door is.first is.last is.opened (whole_up_to o is.first is.last door accepted.count is.served) is.disk_is)

pub serve_cut : {C D : Type 0} (o : ServeTells C D) (old new : D) (door : DoorSeen) (requests : ℕ) (result : Result ServeEnd OutOfMemory) → IfOk result (IsServeEnd o old new door requests) → OnErr result (IsServeCut o old new door) → IsServeCut o old new door
serve_cut o old new door requests (Ok e) ended cut = cut_of_end o old new door requests e ended
serve_cut o old new door requests (Err e) ended cut = cut

-- nothing was done to the disk

pub only_read_same : {D : Type 0} (m : DiskMeaning D) (disk : D) → ((bytes : List ℕ) → m.honest disk ≡ true → m.since disk (m.moment disk) bytes → m.image disk bytes) → IsOnlyRead m disk disk
only_read_same m disk only_now = record {
  honesty = refl;
  same = λ honest. refl;
  images = λ honest bytes is. is;
  any_moment = λ honest. record { later = omega arith; each = λ bytes now. only_now bytes honest now; before = λ t bytes early now. inl now };
  never_falls = omega arith;
  greatest = λ within. within;
}

pub unserved_same : {D : Type 0} (m : DiskMeaning D) (old new : D) (door : DoorSeen) → ((bytes : List ℕ) → m.honest old ≡ true → m.since old (m.moment old) bytes → m.image old bytes)
    → new ≡ old → door.after ≡ door.before → door.faults_now ≡ door.faults_before → IsUnserved m old new door
unserved_same m old new door only_now same closed no_call = record {
  only_read = subst (IsOnlyRead m old) (sym same) (only_read_same m old only_now);
  no_connection = closed;
  no_call = no_call;
}

-- the file was refused, or opened

pub unserved : {D : Type 0} (m : DiskMeaning D) (old new : D) (door : DoorSeen) → IsOnlyRead m old new → door.after ≡ door.before → door.faults_now ≡ door.faults_before → IsUnserved m old new door
unserved m old new door only_read same no_call = record { only_read = only_read; no_connection = same; no_call = no_call }

pub refused_file : {C D : Type 0} (o : ServeTells C D) (old new : D) (door : DoorSeen) (requests : ℕ) (why : OpenError) → IsUnserved o.disk old new door
    → RefusedFor (λ first. o.disk.honest old ≡ true → (opened (header_of 1) (o.disk.content old) ≡ Foreign) × (first ≡ eight_at (o.disk.content old) 0))
    (λ place. o.disk.honest old ≡ true → opened (header_of 1) (o.disk.content old) ≡ Damaged place) (Rose (o.disk.faults old) (o.disk.faults new)) why
    → IfOk (end_of_file why) (IsServeEnd o old new door requests)
refused_file o old new door requests (open_error.NotAJournal first) unserved why = (unserved, λ honest. (why honest).0)
refused_file o old new door requests (open_error.Damaged place) unserved why = (unserved, why)
refused_file o old new door requests open_error.DiskFault unserved why = (unserved, why)
refused_file o old new door requests open_error.OutOfMemory unserved why = tt

pub refused_payloads : {C D : Type 0} (o : ServeTells C D) (old new : D) (door : DoorSeen) (requests : ℕ) (found : List (List ℕ)) (why : RegistryOpen) → IsUnserved o.disk old new door
    → (o.disk.honest old ≡ true → OpensTo (header_of 1) found (o.disk.content old)) → ((index : ℕ) → why ≡ payloads_error.BadPayload index → IsFirstBad found index)
    → IfOk (end_of_payloads why) (IsServeEnd o old new door requests)
refused_payloads o old new door requests found (payloads_error.BadPayload index) unserved opens bad = (unserved, λ honest. (found, opens honest, bad index refl))
refused_payloads o old new door requests found payloads_error.OutOfMemory unserved opens bad = tt

pub is_opened : {D : Type 0} (m : DiskMeaning D) (disk : D) (journal : JournalState D) (registry : RegistryState D) → registry.journal ≡ journal → IsRegistry registry → journal.down ≡ false
    → (m.honest disk ≡ true → OpensTo (header_of 1) journal.payloads (m.content disk)) → (m.honest disk ≡ true → Keeps m (header_of 1) journal.payloads journal.disk) → IsOnlyRead m disk journal.disk
    → IsOpened m disk registry
is_opened m disk journal registry same says up file kept only_read =
    let back : journal ≡ registry.journal = sym same in
    record {
      file = λ honest. subst (λ (j : JournalState _). OpensTo (header_of 1) j.payloads (m.content disk)) back (file honest);
      says = says;
      up = ap (λ (j : JournalState _). j.down) same ∙ up;
      kept = λ honest down. subst (λ (j : JournalState _). Keeps m (header_of 1) j.payloads j.disk) back (kept (sym only_read.honesty ∙ ap (λ (j : JournalState _). m.honest j.disk) back ∙ honest));
      only_read = subst (λ (j : JournalState _). IsOnlyRead m disk j.disk) back only_read;
    }
