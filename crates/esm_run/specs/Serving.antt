-- The connections that `serve` served, one after the other, each over the registry that the ones before it left. This
-- product's own.
use Rattle.std.specs.Prelude.{◌≡◌, ◌⊎◌, ◌<◌, ◌≤◌, ℕ, Bool, true, false, List, [], ◌∷◌, ◌++◌, length, Option, Some, None}
use Rattle.std.specs.Option.{option_to_list}
use Rattle.esm_io.specs.Faults.{Rose}
use Rattle.esm_io.specs.Talks.{Closed, Closes, IsFresh, IsReadOut}
use Rattle.esm_registry.specs.State.{RegistryState}
use Rattle.esm_api.specs.Serving.{Responds, Waits, IsUnanswered}
use Rattle.esm_run.specs.declared.connections.Stop.{Stop}
use Rattle.esm_run.specs.declared.connections.Stop.TheVariants.{Done, DiskFault, DoorFault}
use Rattle.esm_run.specs.World.{DoorSeen, ServeTells}

-- a connection as it was accepted and as it was passed to the door to be closed, and the payload of its command, if that was
-- accepted
pub record Connection (C : Type 0) : Type 0 where
  pub came : C
  pub left : C
  pub payload : Option (List ℕ)

-- how one service leaves a connection: answered whole; ended before a whole request, with nothing left to read; or cut short
-- by a fault of its own, before a whole request or while it was answered
abbrev pub StandsServed : {C D : Type 0} → ServeTells C D → Connection C → (old new : RegistryState D) → (moment : ℕ) → Type 0
StandsServed o c old new moment =
    ((status : ℕ) × Responds o.told c.came c.left o.disk old new moment status [])
    ⊎ ((Waits (o.told c.came) (o.told c.left) old new × IsReadOut (o.told c.left))
    ⊎ ((0 < o.faults c.left) × (Waits (o.told c.came) (o.told c.left) old new
    ⊎ ((status : ℕ) × (unsent : List ℕ) × Responds o.told c.came c.left o.disk old new moment status unsent))))

-- what holds of each accepted connection: no call was made on it before, the registry was not down, it was served at a
-- moment that the clock gave, and the journal has one more payload if its command was accepted
pub record IsVisit {C D : Type 0} (o : ServeTells C D) (c : Connection C) (old new : RegistryState D) (moment : ℕ) : Type 0 where
  pub fresh : IsFresh (o.told c.came)
  pub faultless : o.faults c.came ≡ 0
  pub up : old.journal.down ≡ false
  pub given : o.gave moment ≡ true
  pub payload_is : new.journal.payloads ≡ old.journal.payloads ++ option_to_list c.payload
  pub honesty : o.disk.honest new.journal.disk ≡ o.disk.honest old.journal.disk
  pub never_falls : o.disk.faults old.journal.disk ≤ o.disk.faults new.journal.disk

-- it was accepted and served, which took the registry from `old` to `new`
pub record IsServed {C D : Type 0} (o : ServeTells C D) (c : Connection C) (old new : RegistryState D) : Type 0 where
  pub moment : ℕ
  pub visit : IsVisit o c old new moment
  pub stands : StandsServed o c old new moment

-- it was accepted, but an allocation failed before it was answered; a whole request may have taken effect
pub record IsDropped {C D : Type 0} (o : ServeTells C D) (c : Connection C) (old new : RegistryState D) : Type 0 where
  pub moment : ℕ
  pub visit : IsVisit o c old new moment
  pub unanswered : IsUnanswered (o.told c.came) (o.told c.left) o.disk old new moment

-- these were served in this order, which took the registry from `first` to `last`
abbrev pub AreServed : {C D : Type 0} → ServeTells C D → (first : RegistryState D) → List (Connection C) → (last : RegistryState D) → Type 0
AreServed o first [] last = last ≡ first
AreServed {C} {D} o first (c ∷ cs) last = (middle : RegistryState D) × IsServed o c first middle × AreServed o middle cs last

-- these were closed in this order
abbrev pub AreClosed : {C D : Type 0} → ServeTells C D → (before after : Option (List Closed)) → List (Connection C) → Type 0
AreClosed o before after [] = after ≡ before
AreClosed o before after (c ∷ cs) =
    (between : Option (List Closed)) × Closes before between (o.told c.left) (o.faults c.left) × AreClosed o between after cs

-- the payloads of their accepted commands, in order
abbrev pub payloads_of : {C : Type 0} → List (Connection C) → List (List ℕ)
payloads_of [] = []
payloads_of (c ∷ cs) = option_to_list c.payload ++ payloads_of cs

-- `count` connections were accepted, served and closed, one after the other
pub record HaveServed {C D : Type 0} (o : ServeTells C D) (first last : RegistryState D) (door : DoorSeen) (count : ℕ) : Type 0 where
  pub connections : List (Connection C)
  pub count_is : count ≡ length connections
  pub served : AreServed o first connections last
  pub closed : AreClosed o door.before door.after connections

-- why no more were accepted: they are as many as `requests`; a call of the registry's disk failed; or the door failed
abbrev pub StopsFor : (faults_before faults_now : ℕ) → (down : Bool) → DoorSeen → (requests count : ℕ) → Stop → Type 0
StopsFor before now down door requests count Done = (count ≡ requests) × (down ≡ false)
StopsFor before now down door requests count DiskFault = Rose before now × (down ≡ true)
StopsFor before now down door requests count DoorFault = Rose door.faults_before door.faults_now × (count < requests) × (down ≡ false)

-- out of memory

-- an allocation failed between two connections, or with this one, which then may be unanswered or missing in the door's list
abbrev pub IsCutAt : {C D : Type 0} → ServeTells C D → (old : RegistryState D) → Option (Connection C) → (new : RegistryState D) → (before after : Option (List Closed)) → Type 0
IsCutAt o old None new before after = (new ≡ old) × (after ≡ before)
IsCutAt o old (Some c) new before after =
    (IsServed o c old new ⊎ IsDropped o c old new) × ((after ≡ before) ⊎ Closes before after (o.told c.left) (o.faults c.left))

-- connections were accepted, served and closed, and an allocation failed
pub record HaveServedUpTo {C D : Type 0} (o : ServeTells C D) (first last : RegistryState D) (door : DoorSeen) : Type 0 where
  pub connections : List (Connection C)
  pub middle : RegistryState D
  pub between : Option (List Closed)
  pub served : AreServed o first connections middle
  pub closed : AreClosed o door.before between connections
  pub stopped_with : Option (Connection C)
  pub cut : IsCutAt o middle stopped_with last between door.after
