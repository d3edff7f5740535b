-- What connections that were served leave of the registry's file, now and after a crash at any moment.
use Rattle.std.proofs.Common.{◌≡◌, ◌∙◌, ℕ, ◌≤◌, Bool, true, false, List, [], ◌∷◌, ◌++◌, length, Option, Some, None, ap, append_assoc, arith, inl, inr, refl, subst, sym, true≢false}
use Rattle.std.specs.Prelude.{◌⊎◌}
use Rattle.std.specs.Option.{option_to_list}
use Rattle.std.proofs.lemmas.List.{append-nil}
use Rattle.esm_io.specs.Images.{LeavesOnly}
use Rattle.esm_io.specs.Meanings.{DiskMeaning}
use Rattle.esm_io.specs.Talks.{Closed}
use Rattle.esm_journal.specs.File.{header_of}
use Rattle.esm_journal.specs.State.{JournalState, KeepsWhileDown, KeepsWhileUp, OpensTo}
use Rattle.esm_registry.specs.Lists.{Mappings}
use Rattle.esm_registry.specs.Machine.{Asked, step}
use Rattle.esm_registry.specs.State.{OpensToStep, RegistryState}
use Rattle.esm_api.specs.Request.{Judgement, Unfinished, Refused, Asks}
use Rattle.esm_api.specs.Serving.{IsApplied, IsUnanswered, Leaves}
use Rattle.esm_run.specs.Serve.{HoldsMore, IsOpened, OpensToFront, WasOrOpensToFront}
use Rattle.esm_run.specs.Serving.{AreServed, Connection, IsCutAt, IsDropped, IsServed, IsVisit, StandsServed, payloads_of}
use Rattle.esm_run.specs.World.{ServeTells}

-- what a crash leaves over two runs, one after the other

leaves_then : {D : Type 0} (moment : D → ℕ) (since : D → ℕ → List ℕ → Type 0) (a b c : D) (P Q R : List ℕ → Type 0)
    → ((bytes : List ℕ) → P bytes → R bytes) → ((bytes : List ℕ) → Q bytes → R bytes)
    → LeavesOnly moment since a b P → LeavesOnly moment since b c Q → LeavesOnly moment since a c R
leaves_then moment since a b c P Q R from_first from_second first second =
    let later : moment a ≤ moment b = first.later in
    record {
      later = omega (arith, later, second.later);
      each = λ bytes now. elim (second.before (moment a) bytes later now) [
        | inl was ↦ from_first bytes (first.each bytes was)
        | inr left ↦ from_second bytes left
      ];
      before = λ t bytes early now.
          elim (second.before t bytes (omega (arith, early, later)) now) [
            | inl was ↦ elim (first.before t bytes early was) [ inl older ↦ inl older | inr left ↦ inr (from_first bytes left) ]
            | inr left ↦ inr (from_second bytes left)
          ];
    }

leaves_weaker : {D : Type 0} (moment : D → ℕ) (since : D → ℕ → List ℕ → Type 0) (a b : D) (P R : List ℕ → Type 0)
    → ((bytes : List ℕ) → P bytes → R bytes) → LeavesOnly moment since a b P → LeavesOnly moment since a b R
leaves_weaker moment since a b P R weaker only = record {
  later = only.later;
  each = λ bytes now. weaker bytes (only.each bytes now);
  before = λ t bytes early now. elim (only.before t bytes early now) [ inl older ↦ inl older | inr left ↦ inr (weaker bytes left) ];
}

-- fronts of what was written

front_of_step : (payloads : List (List ℕ)) (payload : Option (List ℕ)) (bytes : List ℕ) → OpensToStep payloads payload bytes → OpensToFront payloads (option_to_list payload) bytes
front_of_step payloads None bytes opens = record { front = []; rest = []; parts = refl; opens = subst (λ ps. OpensTo (header_of 1) ps bytes) (sym (append-nil payloads)) opens }
front_of_step payloads (Some payload) bytes (inl opens) = record { front = []; rest = payload ∷ []; parts = refl; opens = subst (λ ps. OpensTo (header_of 1) ps bytes) (sym (append-nil payloads)) opens }
front_of_step payloads (Some payload) bytes (inr opens) = record { front = payload ∷ []; rest = []; parts = refl; opens = opens }

front_grows : (found more further : List (List ℕ)) (bytes : List ℕ) → OpensToFront found more bytes → OpensToFront found (more ++ further) bytes
front_grows found more further bytes opens = record {
  front = opens.front;
  rest = opens.rest ++ further;
  parts = ap (λ l. l ++ further) opens.parts ∙ append_assoc opens.front opens.rest further;
  opens = opens.opens;
}

front_behind : (found more further : List (List ℕ)) (bytes : List ℕ) → OpensToFront (found ++ more) further bytes → OpensToFront found (more ++ further) bytes
front_behind found more further bytes opens = record {
  front = more ++ opens.front;
  rest = opens.rest;
  parts = ap (λ l. more ++ l) opens.parts ∙ sym (append_assoc more opens.front opens.rest);
  opens = subst (λ ps. OpensTo (header_of 1) ps bytes) (append_assoc found more opens.front) opens.opens;
}

-- what one connection does to the registry, at a moment
record Steps {D : Type 0} (m : DiskMeaning D) (old new : RegistryState D) (moment : ℕ) (payload : Option (List ℕ)) : Type 0 where
  payloads : new.journal.payloads ≡ old.journal.payloads ++ option_to_list payload
  kept : KeepsWhileUp m old.journal → KeepsWhileUp m new.journal
  stopped : KeepsWhileDown m old.journal → KeepsWhileDown m new.journal
  further : List (List ℕ)
  no_further : new.journal.down ≡ false → further ≡ []
  at_most_one : length further ≤ 1
  of_command : (one : List ℕ) → further ≡ one ∷ [] → (asked : Asked) × ((step new.mappings asked moment).payload ≡ Some one)
  images : (new.journal ≡ old.journal)
      ⊎ (m.honest old.journal.disk ≡ true → LeavesOnly m.moment m.since old.journal.disk new.journal.disk (OpensToFront old.journal.payloads (option_to_list payload ++ further)))

none_further : (one : List ℕ) → ◌≡◌ {A = List (List ℕ)} [] (one ∷ []) → ⊥
none_further one is = cc

steps_none : {D : Type 0} (m : DiskMeaning D) (old new : RegistryState D) (moment : ℕ) → new ≡ old → Steps m old new moment None
steps_none {D} m old new moment same = record {
  payloads = ap (λ (r : RegistryState D). r.journal.payloads) same ∙ sym (append-nil old.journal.payloads);
  kept = λ kept. subst (λ (r : RegistryState D). KeepsWhileUp m r.journal) (sym same) kept;
  stopped = λ stopped. subst (λ (r : RegistryState D). KeepsWhileDown m r.journal) (sym same) stopped;
  further = [];
  no_further = λ up. refl;
  at_most_one = omega arith;
  of_command = λ one is. absurd (none_further one is);
  images = inl (ap (λ (r : RegistryState D). r.journal) same);
}

one_at_most : {A : Type 0} (o : Option A) → length (option_to_list o) ≤ 1
one_at_most None = omega arith
one_at_most (Some x) = omega arith

same_option : {A : Type 0} (x y : Option A) → option_to_list x ≡ option_to_list y → x ≡ y
same_option None None same = refl
same_option None (Some y) same = absurd (cc)
same_option (Some x) None same = absurd (cc)
same_option (Some x) (Some y) same = (let is : x ≡ y = cc in ap Some is)

abbrev StepsBy : {D : Type 0} → DiskMeaning D → RegistryState D → RegistryState D → ℕ → Type 0
StepsBy m old new moment = (payload : Option (List ℕ)) × Steps m old new moment payload

steps_applied : {D : Type 0} (m : DiskMeaning D) (old new : RegistryState D) (asked : Asked) (moment : ℕ) (failed : Bool) → IsApplied m old new asked moment failed → StepsBy m old new moment
steps_applied m old new asked moment false applied =
    let payload : Option (List ℕ) = (step old.mappings asked moment).payload in (
      payload,
      record {
        payloads = applied.payloads;
        kept = λ kept. applied.kept;
        stopped = λ stopped. applied.stopped;
        further = [];
        no_further = λ up. refl;
        at_most_one = omega arith;
        of_command = λ one is. absurd (none_further one is);
        images = inr (λ honest. leaves_weaker m.moment m.since old.journal.disk new.journal.disk (OpensToStep old.journal.payloads payload)
            (OpensToFront old.journal.payloads (option_to_list payload ++ []))
            (λ bytes opens. subst (λ l. OpensToFront old.journal.payloads l bytes) (sym (append-nil (option_to_list payload))) (front_of_step old.journal.payloads payload bytes opens))
            (applied.any_moment honest));
      },
    )
steps_applied m old new asked moment true applied =
    let payload : Option (List ℕ) = (step old.mappings asked moment).payload in (
      None,
      record {
        payloads = applied.payloads;
        kept = λ kept. applied.kept;
        stopped = λ stopped. applied.stopped;
        further = option_to_list payload;
        no_further = λ up. absurd (true≢false (sym applied.down ∙ up));
        at_most_one = one_at_most payload;
        of_command = λ one is. (asked, ap (λ (s : Mappings). (step s asked moment).payload) applied.mappings ∙ same_option payload (Some one) is);
        images = inr (λ honest. leaves_weaker m.moment m.since old.journal.disk new.journal.disk (OpensToStep old.journal.payloads payload)
            (OpensToFront old.journal.payloads (option_to_list payload))
            (front_of_step old.journal.payloads payload)
            (applied.any_moment honest));
      },
    )

steps_same : {D : Type 0} (m : DiskMeaning D) (old new : RegistryState D) (moment : ℕ) → new ≡ old → StepsBy m old new moment
steps_same m old new moment same = (None, steps_none m old new moment same)

steps_left : {D : Type 0} (m : DiskMeaning D) (old new : RegistryState D) (judgement : Judgement) (moment : ℕ) (failed : Bool) → Leaves m old new judgement moment failed → StepsBy m old new moment
steps_left m old new Unfinished moment failed left = steps_same m old new moment left
steps_left m old new (Refused row) moment failed left = steps_same m old new moment left.0
steps_left m old new (Asks asked) moment failed left = steps_applied m old new asked moment failed left

steps_stands : {C D : Type 0} (o : ServeTells C D) (c : Connection C) (old new : RegistryState D) (moment : ℕ) → StandsServed o c old new moment → StepsBy o.disk old new moment
steps_stands o c old new moment (inl answered) = steps_left o.disk old new answered.1.judgement moment answered.1.failed answered.1.leaves
steps_stands o c old new moment (inr (inl cut)) = steps_same o.disk old new moment cut.0.same
steps_stands o c old new moment (inr (inr (fault, inl waits))) = steps_same o.disk old new moment waits.same
steps_stands o c old new moment (inr (inr (fault, inr (status, unsent, responds)))) = steps_left o.disk old new responds.judgement moment responds.failed responds.leaves

steps_unanswered : {C D : Type 0} (o : ServeTells C D) (c : Connection C) (old new : RegistryState D) (moment : ℕ) → IsUnanswered (o.told c.came) (o.told c.left) o.disk old new moment → StepsBy o.disk old new moment
steps_unanswered o c old new moment unanswered = elim unanswered.leaves [
  | inl same ↦ steps_same o.disk old new moment same
  | inr applied ↦ steps_applied o.disk old new applied.0 moment applied.1 applied.3
]

-- the payload that the journal has more is the connection's

cancel : {A : Type 0} (front x y : List A) → front ++ x ≡ front ++ y → x ≡ y
cancel [] x y same = same
cancel (a ∷ front) x y same = cancel front x y (cc)

steps_of : {D : Type 0} (m : DiskMeaning D) (old new : RegistryState D) (moment : ℕ) (payload : Option (List ℕ)) → new.journal.payloads ≡ old.journal.payloads ++ option_to_list payload → StepsBy m old new moment
    → Steps m old new moment payload
steps_of m old new moment payload is (other, steps) =
    subst (Steps m old new moment) (same_option other payload (cancel old.journal.payloads (option_to_list other) (option_to_list payload) (sym steps.payloads ∙ is))) steps

-- the registry, with a journal as honest as the disk was and with a count that did not fall

pub record Holds {C D : Type 0} (o : ServeTells C D) (disk : D) (found more : List (List ℕ)) (registry : RegistryState D) : Type 0 where
  pub holds : HoldsMore o disk found more registry
  pub honesty : o.disk.honest registry.journal.disk ≡ o.disk.honest disk
  pub never_falls : o.disk.faults disk ≤ o.disk.faults registry.journal.disk

extended : {C D : Type 0} (o : ServeTells C D) (disk : D) (found more : List (List ℕ)) (payload : Option (List ℕ)) (old new : RegistryState D) (moment : ℕ) → o.gave moment ≡ true
    → o.disk.honest old.journal.disk ≡ o.disk.honest disk → old.journal.down ≡ false → HoldsMore o disk found more old → Steps o.disk old new moment payload → HoldsMore o disk found (more ++ option_to_list payload) new
extended {C} {D} o disk found more payload old new moment given honesty up holds steps =
    let m : DiskMeaning D = o.disk in
    let paid : List (List ℕ) = option_to_list payload in
    let all : List (List ℕ) = more ++ paid ++ steps.further in
    let none : more ++ holds.further ≡ more = ap (λ l. more ++ l) (holds.no_further up) ∙ append-nil more in
    let Before : List ℕ → Type 0 = WasOrOpensToFront (m.image disk) found (more ++ holds.further) in
    let After : List ℕ → Type 0 = WasOrOpensToFront (m.image disk) found all in
    let from_before : (bytes : List ℕ) → Before bytes → After bytes = λ bytes before.
    elim before [
      | inl was ↦ inl was
      | inr opens ↦ inr (front_grows found (more ++ paid) steps.further bytes (front_grows found more paid bytes (subst (λ l. OpensToFront found l bytes) none opens)))
    ] in
    record {
      payloads = steps.payloads ∙ ap (λ l. l ++ paid) holds.payloads ∙ append_assoc found more paid;
      kept = steps.kept holds.kept;
      stopped = steps.stopped holds.stopped;
      further = steps.further;
      no_further = steps.no_further;
      at_most_one = steps.at_most_one;
      of_command = λ one is. (let command = steps.of_command one is in record { asked = command.0; moment = moment; given = given; written = command.1 });
      any_moment = λ honest. elim steps.images [
        | inl same ↦ subst (λ (j : JournalState D). LeavesOnly m.moment m.since disk j.disk After) (sym same)
            (leaves_weaker m.moment m.since disk old.journal.disk Before After from_before (holds.any_moment honest))
        | inr leaves ↦ leaves_then m.moment m.since disk old.journal.disk new.journal.disk Before (OpensToFront old.journal.payloads (paid ++ steps.further)) After
            from_before
            (λ bytes opens. inr (subst (λ l. OpensToFront found l bytes) (sym (append_assoc more paid steps.further))
            (front_behind found more (paid ++ steps.further) bytes (subst (λ ps. OpensToFront ps (paid ++ steps.further) bytes) holds.payloads opens))))
            (holds.any_moment honest) (leaves (honesty ∙ honest))
      ];
    }

visited : {C D : Type 0} (o : ServeTells C D) (c : Connection C) (old new : RegistryState D) (moment : ℕ) (disk : D) (found more : List (List ℕ))
    → IsVisit o c old new moment → StepsBy o.disk old new moment → Holds o disk found more old → Holds o disk found (more ++ option_to_list c.payload) new
visited o c old new moment disk found more visit steps before = record {
  holds = extended o disk found more c.payload old new moment visit.given before.honesty visit.up before.holds
      (steps_of o.disk old new moment c.payload visit.payload_is steps);
  honesty = visit.honesty ∙ before.honesty;
  never_falls = omega (arith, visit.never_falls, before.never_falls);
}

visited_served : {C D : Type 0} (o : ServeTells C D) (c : Connection C) (old new : RegistryState D) (disk : D) (found more : List (List ℕ))
    → IsServed o c old new → Holds o disk found more old → Holds o disk found (more ++ option_to_list c.payload) new
visited_served o c old new disk found more served before =
    visited o c old new served.moment disk found more served.visit (steps_stands o c old new served.moment served.stands) before

visited_dropped : {C D : Type 0} (o : ServeTells C D) (c : Connection C) (old new : RegistryState D) (disk : D) (found more : List (List ℕ))
    → IsDropped o c old new → Holds o disk found more old → Holds o disk found (more ++ option_to_list c.payload) new
visited_dropped o c old new disk found more dropped before =
    visited o c old new dropped.moment disk found more dropped.visit (steps_unanswered o c old new dropped.moment dropped.unanswered) before

-- over all connections

abbrev HoldsAt : {C D : Type 0} → ServeTells C D → D → List (List ℕ) → RegistryState D → List (List ℕ) → Type 0
HoldsAt o disk found registry more = Holds o disk found more registry

pub holds_served : {C D : Type 0} (o : ServeTells C D) (disk : D) (found more : List (List ℕ)) (first last : RegistryState D) (cs : List (Connection C))
    → AreServed o first cs last → Holds o disk found more first → Holds o disk found (more ++ payloads_of cs) last
holds_served o disk found more first last [] served before =
    subst (Holds o disk found (more ++ [])) (sym served)
    (subst (HoldsAt o disk found first) (sym (append-nil more)) before)
holds_served o disk found more first last (c ∷ cs) served before =
    subst (HoldsAt o disk found last) (append_assoc more (option_to_list c.payload) (payloads_of cs))
    (holds_served o disk found (more ++ option_to_list c.payload) served.0 last cs served.2 (visited_served o c first served.0 disk found more served.1 before))

payloads_then : {C : Type 0} (cs : List (Connection C)) (o : Option (Connection C)) → payloads_of (cs ++ option_to_list o) ≡ payloads_of cs ++ payloads_of (option_to_list o)
payloads_then [] o = refl
payloads_then (c ∷ cs) o = ap (λ l. option_to_list c.payload ++ l) (payloads_then cs o) ∙ sym (append_assoc (option_to_list c.payload) (payloads_of cs) (payloads_of (option_to_list o)))

holds_cut_at : {C D : Type 0} (o : ServeTells C D) (disk : D) (found more : List (List ℕ)) (middle last : RegistryState D) (before after : Option (List Closed)) (at_last : Option (Connection C))
    → IsCutAt o middle at_last last before after → Holds o disk found more middle → Holds o disk found (more ++ payloads_of (option_to_list at_last)) last
holds_cut_at o disk found more middle last before after None cut holds =
    subst (Holds o disk found (more ++ [])) (sym cut.0)
    (subst (HoldsAt o disk found middle) (sym (append-nil more)) holds)
holds_cut_at o disk found more middle last before after (Some c) (inl served, closed) holds =
    subst (HoldsAt o disk found last) (ap (λ l. more ++ l) (sym (append-nil (option_to_list c.payload)))) (visited_served o c middle last disk found more served holds)
holds_cut_at o disk found more middle last before after (Some c) (inr dropped, closed) holds =
    subst (HoldsAt o disk found last) (ap (λ l. more ++ l) (sym (append-nil (option_to_list c.payload)))) (visited_dropped o c middle last disk found more dropped holds)

pub holds_up_to : {C D : Type 0} (o : ServeTells C D) (disk : D) (found : List (List ℕ)) (first middle last : RegistryState D) (before after : Option (List Closed)) (cs : List (Connection C)) (at_last : Option (Connection C))
    → AreServed o first cs middle → IsCutAt o middle at_last last before after → Holds o disk found [] first → Holds o disk found (payloads_of (cs ++ option_to_list at_last)) last
holds_up_to o disk found first middle last before after cs at_last served cut start =
    subst (HoldsAt o disk found last) (sym (payloads_then cs at_last))
    (holds_cut_at o disk found (payloads_of cs) middle last before after at_last cut (holds_served o disk found [] first middle cs served start))

-- before the first connection

pub holds_opened : {C D : Type 0} (o : ServeTells C D) (disk : D) (registry : RegistryState D) → IsOpened o.disk disk registry → Holds o disk registry.journal.payloads [] registry
holds_opened o disk registry opened = record {
  holds = record {
    payloads = sym (append-nil registry.journal.payloads);
    kept = opened.kept;
    stopped = λ honest down. absurd (true≢false (sym down ∙ opened.up));
    further = [];
    no_further = λ up. refl;
    at_most_one = omega arith;
    of_command = λ one is. absurd (none_further one is);
    any_moment = λ honest. leaves_weaker o.disk.moment o.disk.since disk registry.journal.disk (o.disk.image disk) (WasOrOpensToFront (o.disk.image disk) registry.journal.payloads [])
        (λ bytes was. inl was) (opened.only_read.any_moment honest);
  };
  honesty = opened.only_read.honesty;
  never_falls = opened.only_read.never_falls;
}
