-- One connection more: how it stands, and the payload of its command.
use Rattle.std.proofs.Common.{◌≡◌, ◌∙◌, ℕ, ◌+◌, ◌<◌, ◌≤◌, Bool, true, false, List, [], ◌∷◌, ◌++◌, Option, Some, None, ap, arith, inl, inr, refl, subst, sym, true≢false}
use Rattle.std.specs.Prelude.{◌⊎◌, Result, Ok, Err, IfOk, OnErr}
use Rattle.std.specs.Option.{option_to_list}
use Rattle.std.proofs.lemmas.List.{append-nil, length-append}
use Rattle.esm_io.specs.Faults.{Rose}
use Rattle.esm_io.specs.Meanings.{DiskMeaning}
use Rattle.esm_io.specs.Talks.{Closed, Closes, IsFresh, IsReadOut}
use Rattle.esm_model.specs.declared.memory.OutOfMemory.{OutOfMemory}
use Rattle.esm_registry.specs.State.{RegistryState}
use Rattle.esm_api.specs.declared.serve.Served.{Served}
use Rattle.esm_api.specs.declared.serve.Served.TheVariants.{Answered, Cut, LinkFault}
use Rattle.esm_api.specs.Request.{Judgement, Unfinished, Refused, Asks}
use Rattle.esm_api.specs.Response.{asked_response}
use Rattle.esm_api.specs.Serving.{IsUnanswered, Leaves, Responds, Waits}
use Rattle.esm_run.specs.Serving.{AreClosed, AreServed, Connection, HaveServed, HaveServedUpTo, IsCutAt, IsDropped, IsServed, StandsServed}
use Rattle.esm_run.specs.World.{DoorSeen, ServeTells}

-- how it stands

above : (before now : ℕ) → before ≡ 0 → Rose before now → 0 < now
above before now zero rose = grind (arith, zero, rose)

pub stands_served : {C D : Type 0} (o : ServeTells C D) (c : Connection C) (old new : RegistryState D) (moment : ℕ) (served : Served) → o.faults c.came ≡ 0
    → ((n : ℕ) → served ≡ Answered n → Responds o.told c.came c.left o.disk old new moment n [])
    → (served ≡ Cut → Waits (o.told c.came) (o.told c.left) old new × IsReadOut (o.told c.left))
    → (served ≡ LinkFault → Waits (o.told c.came) (o.told c.left) old new ⊎ ((n : ℕ) × (unsent : List ℕ) × Responds o.told c.came c.left o.disk old new moment n unsent))
    → (served ≡ LinkFault → Rose (o.faults c.came) (o.faults c.left))
    → StandsServed o c old new moment
stands_served o c old new moment (Answered n) none answered cut fault cause = inl (n, answered n refl)
stands_served o c old new moment Cut none answered cut fault cause = inr (inl (cut refl))
stands_served o c old new moment LinkFault none answered cut fault cause = inr (inr (above (o.faults c.came) (o.faults c.left) none (cause refl), fault refl))

-- the payload of its command

abbrev pub AddsPayload : {D : Type 0} → RegistryState D → RegistryState D → Type 0
AddsPayload old new = (payload : Option (List ℕ)) × (new.journal.payloads ≡ old.journal.payloads ++ option_to_list payload)

adds_none : {D : Type 0} (old new : RegistryState D) → new ≡ old → AddsPayload old new
adds_none {D} old new same = (None, ap (λ (r : RegistryState D). r.journal.payloads) same ∙ sym (append-nil old.journal.payloads))

adds_left : {D : Type 0} (m : DiskMeaning D) (old new : RegistryState D) (judgement : Judgement) (moment : ℕ) (failed : Bool) → Leaves m old new judgement moment failed → AddsPayload old new
adds_left m old new Unfinished moment failed left = adds_none old new left
adds_left m old new (Refused row) moment failed left = adds_none old new left.0
adds_left m old new (Asks asked) moment failed left = ((asked_response old.mappings asked moment failed).payload, left.payloads)

pub adds_served : {C D : Type 0} (o : ServeTells C D) (c : Connection C) (old new : RegistryState D) (moment : ℕ) → StandsServed o c old new moment → AddsPayload old new
adds_served o c old new moment (inl answered) = adds_left o.disk old new answered.1.judgement moment answered.1.failed answered.1.leaves
adds_served o c old new moment (inr (inl cut)) = adds_none old new cut.0.same
adds_served o c old new moment (inr (inr (fault, inl waits))) = adds_none old new waits.same
adds_served o c old new moment (inr (inr (fault, inr (status, unsent, responds)))) = adds_left o.disk old new responds.judgement moment responds.failed responds.leaves

pub adds_unanswered : {C D : Type 0} (o : ServeTells C D) (c : Connection C) (old new : RegistryState D) (moment : ℕ) → IsUnanswered (o.told c.came) (o.told c.left) o.disk old new moment → AddsPayload old new
adds_unanswered o c old new moment unanswered = elim unanswered.leaves [
  | inl same ↦ adds_none old new same
  | inr applied ↦ ((asked_response old.mappings applied.0 moment applied.1).payload, applied.3.payloads)
]

-- one connection

abbrev pub connection : {C : Type 0} → C → C → Option (List ℕ) → Connection C
connection came left payload = record { came = came; left = left; payload = payload }

pub is_served : {C D : Type 0} (o : ServeTells C D) (came left : C) (old new : RegistryState D) (moment : ℕ) → IsFresh (o.told came) → o.faults came ≡ 0 → old.journal.down ≡ false → o.gave moment ≡ true
    → StandsServed o (connection came left None) old new moment → o.disk.honest new.journal.disk ≡ o.disk.honest old.journal.disk → o.disk.faults old.journal.disk ≤ o.disk.faults new.journal.disk
    → (payload : Option (List ℕ)) × IsServed o (connection came left payload) old new
is_served o came left old new moment fresh faultless up given stands honesty never_falls =
    let adds = adds_served o (connection came left None) old new moment stands in (
      adds.0,
      record {
        moment = moment;
        visit = record { fresh = fresh; faultless = faultless; up = up; given = given; payload_is = adds.1; honesty = honesty; never_falls = never_falls };
        stands = stands;
      },
    )

pub is_dropped : {C D : Type 0} (o : ServeTells C D) (came left : C) (old new : RegistryState D) (moment : ℕ) → IsFresh (o.told came) → o.faults came ≡ 0 → old.journal.down ≡ false → o.gave moment ≡ true
    → IsUnanswered (o.told came) (o.told left) o.disk old new moment → o.disk.honest new.journal.disk ≡ o.disk.honest old.journal.disk → o.disk.faults old.journal.disk ≤ o.disk.faults new.journal.disk
    → (payload : Option (List ℕ)) × IsDropped o (connection came left payload) old new
is_dropped o came left old new moment fresh faultless up given unanswered honesty never_falls =
    let adds = adds_unanswered o (connection came left None) old new moment unanswered in (
      adds.0,
      record {
        moment = moment;
        visit = record { fresh = fresh; faultless = faultless; up = up; given = given; payload_is = adds.1; honesty = honesty; never_falls = never_falls };
        unanswered = unanswered;
      },
    )

-- a service, whatever it answered
pub is_visited : {C D : Type 0} (o : ServeTells C D) (came left : C) (old new : RegistryState D) (moment : ℕ) (result : Result Served OutOfMemory) → IsFresh (o.told came) → o.faults came ≡ 0 → old.journal.down ≡ false → o.gave moment ≡ true
    → IfOk result (λ served. (n : ℕ) → served ≡ Answered n → Responds o.told came left o.disk old new moment n [])
    → IfOk result (λ served. served ≡ Cut → Waits (o.told came) (o.told left) old new × IsReadOut (o.told left))
    → IfOk result (λ served. served ≡ LinkFault → Waits (o.told came) (o.told left) old new ⊎ ((n : ℕ) × (unsent : List ℕ) × Responds o.told came left o.disk old new moment n unsent))
    → IfOk result (λ served. served ≡ LinkFault → Rose (o.faults came) (o.faults left))
    → OnErr result (IsUnanswered (o.told came) (o.told left) o.disk old new moment)
    → o.disk.honest new.journal.disk ≡ o.disk.honest old.journal.disk → o.disk.faults old.journal.disk ≤ o.disk.faults new.journal.disk
    → (payload : Option (List ℕ)) × (IsServed o (connection came left payload) old new ⊎ IsDropped o (connection came left payload) old new)
is_visited o came left old new moment (Ok served) fresh faultless up given answered cut fault cause unanswered honesty never_falls =
    let one = is_served o came left old new moment fresh faultless up given (stands_served o (connection came left None) old new moment served faultless answered cut fault cause) honesty never_falls in
    (one.0, inl one.1)
is_visited o came left old new moment (Err e) fresh faultless up given answered cut fault cause unanswered honesty never_falls =
    let one = is_dropped o came left old new moment fresh faultless up given unanswered honesty never_falls in
    (one.0, inr one.1)

-- one more behind those before it

pub served_then : {C D : Type 0} (o : ServeTells C D) (first middle last : RegistryState D) (cs : List (Connection C)) (c : Connection C) → AreServed o first cs middle → IsServed o c middle last → AreServed o first (cs ++ c ∷ []) last
served_then o first middle last [] c before served = subst (λ r. AreServed o r (c ∷ []) last) before (last, served, refl)
served_then o first middle last (b ∷ cs) c before served = (before.0, before.1, served_then o before.0 middle last cs c before.2 served)

pub closed_then : {C D : Type 0} (o : ServeTells C D) (first middle last : Option (List Closed)) (cs : List (Connection C)) (c : Connection C) → AreClosed o first middle cs → Closes middle last (o.told c.left) (o.faults c.left) → AreClosed o first last (cs ++ c ∷ [])
closed_then o first middle last [] c before closes = subst (λ d. AreClosed o d last (c ∷ [])) before (last, closes, refl)
closed_then o first middle last (b ∷ cs) c before closes = (before.0, before.1, closed_then o before.0 middle last cs c before.2 closes)

pub have_served_then : {C D : Type 0} (o : ServeTells C D) (first middle last : RegistryState D) (door door' : DoorSeen) (between : Option (List Closed)) (count : ℕ) (c : Connection C) → door'.before ≡ door.before → between ≡ door.after
    → HaveServed o first middle door count → IsServed o c middle last → Closes between door'.after (o.told c.left) (o.faults c.left) → HaveServed o first last door' (count + 1)
have_served_then o first middle last door door' between count c same kept before served closes = record {
  connections = before.connections ++ c ∷ [];
  count_is = ap (λ n. n + 1) before.count_is ∙ sym (length-append before.connections (c ∷ []));
  served = served_then o first middle last before.connections c before.served served;
  closed = subst (λ d. AreClosed o d door'.after (before.connections ++ c ∷ [])) (sym same)
      (closed_then o door.before door.after door'.after before.connections c before.closed
      (subst (λ d. Closes d door'.after (o.told c.left) (o.faults c.left)) kept closes));
}

pub have_served_up_to : {C D : Type 0} (o : ServeTells C D) (first middle last : RegistryState D) (door door' : DoorSeen) (between : Option (List Closed)) (count : ℕ) (c : Connection C) → door'.before ≡ door.before → between ≡ door.after
    → HaveServed o first middle door count → IsCutAt o middle (Some c) last between door'.after → HaveServedUpTo o first last door'
have_served_up_to o first middle last door door' between count c same kept before cut = record {
  connections = before.connections;
  middle = middle;
  between = between;
  served = before.served;
  closed = subst (λ d. AreClosed o d between before.connections) (sym same) (subst (λ d. AreClosed o door.before d before.connections) (sym kept) before.closed);
  stopped_with = Some c;
  cut = cut;
}

-- only a fault of the disk takes a registry down

down_same : {D : Type 0} (m : DiskMeaning D) (old new : RegistryState D) → old.journal.down ≡ false → new.journal.down ≡ true → new ≡ old → Rose (m.faults old.journal.disk) (m.faults new.journal.disk)
down_same {D} m old new up down same = absurd (true≢false (sym down ∙ ap (λ (r : RegistryState D). r.journal.down) same ∙ up))

down_left : {D : Type 0} (m : DiskMeaning D) (old new : RegistryState D) (judgement : Judgement) (moment : ℕ) (failed : Bool) → old.journal.down ≡ false → new.journal.down ≡ true → Leaves m old new judgement moment failed
    → Rose (m.faults old.journal.disk) (m.faults new.journal.disk)
down_left m old new Unfinished moment failed up down left = down_same m old new up down left
down_left m old new (Refused row) moment failed up down left = down_same m old new up down left.0
down_left m old new (Asks asked) moment failed up down left = left.cause (sym left.down ∙ down)

down_stands : {C D : Type 0} (o : ServeTells C D) (c : Connection C) (old new : RegistryState D) (moment : ℕ) → old.journal.down ≡ false → new.journal.down ≡ true → StandsServed o c old new moment
    → Rose (o.disk.faults old.journal.disk) (o.disk.faults new.journal.disk)
down_stands o c old new moment up down (inl answered) = down_left o.disk old new answered.1.judgement moment answered.1.failed up down answered.1.leaves
down_stands o c old new moment up down (inr (inl cut)) = down_same o.disk old new up down cut.0.same
down_stands o c old new moment up down (inr (inr (fault, inl waits))) = down_same o.disk old new up down waits.same
down_stands o c old new moment up down (inr (inr (fault, inr (status, unsent, responds)))) = down_left o.disk old new responds.judgement moment responds.failed up down responds.leaves

pub rose_before : (first before now : ℕ) → first ≤ before → Rose before now → Rose first now
rose_before first before now lower rose = λ under. (let above : before < now = rose under in omega (arith, above, lower))

pub down_served : {C D : Type 0} (o : ServeTells C D) (c : Connection C) (first : ℕ) (old new : RegistryState D) → first ≤ o.disk.faults old.journal.disk → new.journal.down ≡ true → IsServed o c old new
    → Rose first (o.disk.faults new.journal.disk)
down_served o c first old new lower down served =
    rose_before first (o.disk.faults old.journal.disk) (o.disk.faults new.journal.disk) lower (down_stands o c old new served.moment served.visit.up down served.stands)
