-- A call that begins holds a slot that no call had. Only this crate's proofs cite this.
use Rattle.std.proofs.Common.{◌≡◌, ℕ, Bool, true, false, List, [], ◌∷◌, refl, sym, ap, ◌∙◌, subst, inl, inr, arith, Option, Some, None}
use Rattle.std.specs.Prelude.{◌==◌, slice_index, take_while}
use Rattle.std.proofs.lemmas.List.Sums.{take_while-cons}
use Rattle.std.proofs.lemmas.Bool.{cases_Bool, and_parts}
use Rattle.std.proofs.lemmas.Option.{same_Some}
use Rattle.esm_model.specs.Lane.{same_lane}
use Rattle.esm_model.specs.declared.lane.LaneId.{LaneId}
use Rattle.esm_model.specs.declared.entry.Entry.{Entry}
use Rattle.esm_model.specs.declared.entry.Entry.TheVariants.{Began}
use Rattle.esm_model.specs.Setting.{Setting}
use Rattle.esm_model.specs.Entries.{Call, is_running, last_call, batch_of}
use Rattle.esm_model.specs.Fates.{open_places}
use Rattle.esm_model.specs.Tries.{mark, same_mark, tries}
use Rattle.esm_model.specs.Batches.{group, batch, fits, same_piece}
use Rattle.esm_model.specs.Owed.{debts}
use Rattle.esm_model.specs.Step.{Legal, MayBegin}
use Rattle.esm_model.proofs.Lists.{In, In-none, In-cases, In-take}
use Rattle.esm_model.proofs.Steps.{longest_front, same_lane-refl}
use Rattle.esm_model.proofs.Debts.{debt_places}
use Rattle.esm_model.proofs.Sound.{open_In, one_lane, same_lane-true}
use Rattle.esm_model.proofs.Paid.{running_In}
use Rattle.esm_model.proofs.Histories.{began_In}
use Rattle.esm_history.proofs.Finite.{Has}
use Rattle.esm_history.proofs.Spent.{Slot, slot, spent, RunsFirst, IsBusy, IsSpent, IsCalled, Charged}
use Rattle.esm_history.proofs.Marks.{same_mark-true}
use Rattle.esm_history.proofs.Stays.{first_In, not_both, spent_stays}

-- the records of a batch are marked alike

In-take_while : (p : ℕ → Bool) (xs : List ℕ) (i : ℕ) → In (take_while p xs) i → p i ≡ true
In-take_while p [] i member = absurd (In-none i member)
In-take_while p (x ∷ xs) i member =
    elim (cases_Bool (p x)) [
      | inl is ↦ elim (In-cases x (take_while p xs) i (rw (take_while-cons p x xs, is) at member)) [
        | inl here ↦ ap p (sym here) ∙ is
        | inr there ↦ In-take_while p xs i there
      ]
      | inr fails ↦ (let none : In [] i = rw (take_while-cons p x xs, fails) at member in absurd (In-none i none))
    ]

in_group : (s : Setting) (h : List Entry) (lane : LaneId) (m i : ℕ) → In (batch s h lane m) i → mark s h lane.shard (slice_index (open_places s h lane) 0) ≡ mark s h lane.shard i
in_group s h lane m i member =
    let head = slice_index (open_places s h lane) 0 in
    let front = longest_front (fits s h lane.shard m) [] (group s h lane) in
    let inside : In (group s h lane) i = In-take front.0 (group s h lane) i (subst (λ xs. In xs i) front.1 member) in
    let same : same_piece s h lane.shard head i ≡ true = In-take_while (same_piece s h lane.shard head) (open_places s h lane) i inside in
    same_mark-true (mark s h lane.shard head) (mark s h lane.shard i) (and_parts (same_mark (mark s h lane.shard head) (mark s h lane.shard i)) (tries s h lane.shard head == tries s h lane.shard i) same).0

batch_alike : (s : Setting) (h : List Entry) (lane : LaneId) (places : List ℕ) (m : ℕ) → MayBegin s h lane places m → (i j : ℕ) → In places i → In places j → mark s h lane.shard i ≡ mark s h lane.shard j
batch_alike s h lane places m may i j a b =
    sym (in_group s h lane m i (subst (λ xs. In xs i) may.exact a)) ∙ in_group s h lane m j (subst (λ xs. In xs j) may.exact b)

-- a record that one lane runs is run by no other

pub held_apart : (s : Setting) (r : ℕ) (h : List Entry) (at lane : LaneId) (i : ℕ) → Legal s h → Charged s r h → In (open_places s h at) i → lane.shard ≡ at.shard → RunsFirst h lane i → at ≡ lane
held_apart s r h at lane i legal was is_open shard runs =
    let called = was.running lane runs.call runs.runs runs.last in
    let member : In runs.call.places i = subst (λ k. In runs.call.places k) runs.first (first_In runs.call.places (called.some runs.of_batch)) in
    let there : In (open_places s h lane) i = running_In s h lane legal runs.runs i (subst (λ o. In (batch_of o) i) (sym runs.last) member) in
    one_lane s at lane i (sym shard) (open_In s h at i is_open).1 (open_In s h lane i there).1

none_owed : (s : Setting) (h : List Entry) (lane : LaneId) (i : ℕ) → debts s h lane ≡ [] → In (debt_places (debts s h lane)) i → ⊥
none_owed s h lane i none member = In-none i (subst (λ ds. In (debt_places ds) i) none member)

fresh : (s : Setting) (r : ℕ) (h : List Entry) (at : LaneId) (places : List ℕ) (m : ℕ) → Legal s h → MayBegin s h at places m → Charged s r h → Has (spent s r h) (slot at.shard (slice_index places 0) r) → ⊥
fresh s r h at places m legal may was has = busy_not ((was.meant (slot at.shard (slice_index places 0) r) has).busy refl)
  where
    is_open : In (open_places s h at) (slice_index places 0)
    is_open = began_In s h at places m may (slice_index places 0) (first_In places may.some)

    busy_not : IsBusy s h at.shard (slice_index places 0) → ⊥
    busy_not (inl fated) = not_both _ fated (open_In s h at (slice_index places 0) is_open).2
    busy_not (inr held) =
        elim held.held [
          | inl runs ↦ (
              let same : at ≡ held.lane = held_apart s r h at held.lane (slice_index places 0) legal was is_open held.shard runs in
              let rests : is_running h held.lane ≡ false = subst (λ l. is_running h l ≡ false) same may.call.rests in
              let clash : true ≡ false = sym runs.runs ∙ rests in
              cc)
          | inr owed ↦ none_owed s h held.lane (slice_index places 0) (may.call.settled.paid held.lane) owed
        ]

-- a call of one lane leaves those of others
runs_on : (h : List Entry) (at : LaneId) (places : List ℕ) (closing : Option ℕ) (m : ℕ) (lane : LaneId) (i : ℕ) → is_running h at ≡ false → RunsFirst h lane i → RunsFirst (Began at places closing m ∷ h) lane i
runs_on h at places closing m lane i rests was =
    elim (cases_Bool (same_lane at lane)) [
      | inl same ↦ (
          let clash : true ≡ false = sym was.runs ∙ subst (λ l. is_running h l ≡ false) (same_lane-true at lane same) rests in cc)
      | inr other ↦ record { runs = rw other was.runs; call = was.call; last = rw other was.last; of_batch = was.of_batch; first = was.first }
    ]

pub begins_batch : (s : Setting) (r : ℕ) (h : List Entry) (at : LaneId) (places : List ℕ) (m : ℕ) → Legal s (Began at places None m ∷ h) → Charged s r h → Charged s r (Began at places None m ∷ h)
begins_batch s r h at places m legal was = record {
  apart = (fresh s r h at places m legal.0 legal.1.1 was, was.apart);
  meant = meant;
  running = running;
}
  where
    first : ℕ
    first = slice_index places 0

    call : Call
    call = record { places = places; closing = None; moment = m }

    is_open : In (open_places s h at) (slice_index places 0)
    is_open = began_In s h at places m legal.1.1 (slice_index places 0) (first_In places legal.1.1.some)

    runs_now : is_running (Began at places None m ∷ h) at ≡ true
    runs_now = rw (same_lane-refl at) refl

    last_now : last_call (Began at places None m ∷ h) at ≡ Some (record { places = places; closing = None; moment = m })
    last_now = rw (same_lane-refl at) refl

    newest : IsSpent s r (Began at places None m ∷ h) (slot at.shard (slice_index places 0) r)
    newest = record {
      came = (open_In s h at (slice_index places 0) is_open).0;
      small = omega arith;
      tried = λ low. absurd (omega arith);
      busy = λ last. inr (record { lane = at; shard = refl; held = inl (record { runs = runs_now; call = record { places = places; closing = None; moment = m }; last = last_now; of_batch = refl; first = refl }) });
      cut = λ above. absurd (omega arith);
    }

    meant : (x : Slot) → Has (slot at.shard (slice_index places 0) r ∷ spent s r h) x → IsSpent s r (Began at places None m ∷ h) x
    meant x (inl e) = subst (IsSpent s r (Began at places None m ∷ h)) e newest
    meant x (inr has) = spent_stays s r h (Began at places None m) x legal (λ last lane shard runs. runs_on h at places None m lane x.place legal.1.1.call.rests runs) (λ cut. cut) (was.meant x has)

    here : IsCalled s r (Began at places None m ∷ h) at (record { places = places; closing = None; moment = m })
    here = record { alike = batch_alike s h at places m legal.1.1; some = λ of_batch. legal.1.1.some; charged = λ of_batch. inl refl }

    running : (lane : LaneId) (c : Call) → is_running (Began at places None m ∷ h) lane ≡ true → last_call (Began at places None m ∷ h) lane ≡ Some c → IsCalled s r (Began at places None m ∷ h) lane c
    running lane c runs last =
        elim (cases_Bool (same_lane at lane)) [
          | inl same ↦ (
              let is : record { places = places; closing = None; moment = m } ≡ c = same_Some _ c (rw same at last) in
              subst (λ l. IsCalled s r (Began at places None m ∷ h) l c) (same_lane-true at lane same) (subst (λ d. IsCalled s r (Began at places None m ∷ h) at d) is here))
          | inr other ↦ (
              let old = was.running lane c (rw other at runs) (rw other at last) in
              record { alike = old.alike; some = old.some; charged = λ of_batch. inr (old.charged of_batch) })
        ]

pub begins_final : (s : Setting) (r : ℕ) (h : List Entry) (at : LaneId) (places : List ℕ) (w m : ℕ) → Legal s (Began at places (Some w) m ∷ h) → Charged s r h → Charged s r (Began at places (Some w) m ∷ h)
begins_final s r h at places w m legal was = record {
  apart = was.apart;
  meant = λ x has. spent_stays s r h (Began at places (Some w) m) x legal (λ last lane shard runs. runs_on h at places (Some w) m lane x.place legal.1.1.call.rests runs) (λ cut. cut) (was.meant x has);
  running = running;
}
  where
    empty : (i : ℕ) → In places i → ⊥
    empty i member = In-none i (subst (λ xs. In xs i) legal.1.1.no_places member)

    here : IsCalled s r (Began at places (Some w) m ∷ h) at (record { places = places; closing = Some w; moment = m })
    here = record { alike = λ i j a b. absurd (empty i a); some = λ of_batch. cc; charged = λ of_batch. cc }

    running : (lane : LaneId) (c : Call) → is_running (Began at places (Some w) m ∷ h) lane ≡ true → last_call (Began at places (Some w) m ∷ h) lane ≡ Some c → IsCalled s r (Began at places (Some w) m ∷ h) lane c
    running lane c runs last =
        elim (cases_Bool (same_lane at lane)) [
          | inl same ↦ (
              let is : record { places = places; closing = Some w; moment = m } ≡ c = same_Some _ c (rw same at last) in
              subst (λ l. IsCalled s r (Began at places (Some w) m ∷ h) l c) (same_lane-true at lane same) (subst (λ d. IsCalled s r (Began at places (Some w) m ∷ h) at d) is here))
          | inr other ↦ (let old = was.running lane c (rw other at runs) (rw other at last) in record { alike = old.alike; some = old.some; charged = old.charged })
        ]
