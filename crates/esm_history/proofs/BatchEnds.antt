-- The end of a batch's call gives back the slot that the call held, and spends one that no call had. Only this crate's
-- proofs cite this.
use Rattle.std.proofs.Common.{◌≡◌, ℕ, zero, suc, ◌+◌, ◌<◌, ◌≤◌, true, false, List, [], ◌∷◌, ◌++◌, length, take, drop, refl, sym, ap, ◌∙◌, subst, ◌⊎◌, inl, inr, arith, Option, Some, None}
use Rattle.std.specs.Prelude.{slice_index}
use Rattle.std.proofs.lemmas.Bool.{cases_Bool, and_from, both_ways, false_from_ne_true}
use Rattle.std.proofs.lemmas.Option.{same_Some}
use Rattle.esm_model.specs.declared.limits.TheConstants.{MAX_RETRIES}
use Rattle.esm_model.specs.Lane.{same_lane}
use Rattle.esm_model.specs.declared.lane.LaneId.{LaneId}
use Rattle.esm_model.specs.declared.entry.Reply.{Reply}
use Rattle.esm_model.specs.declared.entry.WindowState.{WindowState}
use Rattle.esm_model.specs.declared.entry.Entry.{Entry}
use Rattle.esm_model.specs.declared.entry.Entry.TheVariants.{Ended}
use Rattle.esm_model.specs.declared.verdict.Rest.{Rest}
use Rattle.esm_model.specs.declared.verdict.Rest.TheVariants as rest
use Rattle.esm_model.specs.declared.verdict.Verdict.{Verdict}
use Rattle.esm_model.specs.Setting.{Setting, sequences_at}
use Rattle.esm_model.specs.Entries.{Call, holds, is_running, last_call, batch_of}
use Rattle.esm_model.specs.Fates.{open_places}
use Rattle.esm_model.specs.Reading.{reading}
use Rattle.esm_model.specs.Ruling.{ruling, capped_tries, is_counted}
use Rattle.esm_model.specs.Tries.{tries, tries_sum, counts_in_call, verdict_on, verdict_after}
use Rattle.esm_model.specs.Owed.{debts, call_debts, success_debts, rest_debts, new_state}
use Rattle.esm_model.specs.Step.{Legal}
use Rattle.esm_model.proofs.Lists.{In, In-here, In-take}
use Rattle.esm_model.proofs.Steps.{same_lane-refl, tries_ended, debts_ended}
use Rattle.esm_model.proofs.Debts.{debt_places}
use Rattle.esm_model.proofs.Sound.{open_In, same_lane-true}
use Rattle.esm_model.proofs.Paid.{running_front, running_In}
use Rattle.esm_history.proofs.Finite.{Has, AllApart, Has-right, removed, removed-Has, removed-apart, removed-kept, removed-gone}
use Rattle.esm_history.proofs.Spent.{Slot, slot, slot_from, is_slot, is_slot-true, is_slot-refl, outcome_of, outcome, after_end, spent, RunsFirst, IsSpent, IsCalled, Charged}
use Rattle.esm_history.proofs.Readings.{Follows, reading_proper, ruling_follows}
use Rattle.esm_history.proofs.Stays.{first_In, spent_stays}
use Rattle.esm_history.proofs.Begins.{held_apart}
use Rattle.esm_history.proofs.Ends.{alike_by, go_on}
use Rattle.esm_history.proofs.Cuts.{IsWithin, cut_stays, cut_made, first_low, place_In}

-- a batch's call of the lane runs, of these records, since this moment
record Runs (s : Setting) (h : List Entry) (at : LaneId) (places : List ℕ) (k : ℕ) : Type 0 where
  runs : is_running h at ≡ true
  last : last_call h at ≡ Some (record { places = places; closing = None; moment = k })
  some : 1 ≤ length places

abbrev call_of : List ℕ → ℕ → Call
call_of places k = record { places = places; closing = None; moment = k }

-- the slot that it holds
abbrev held : ℕ → LaneId → List ℕ → Slot
held r at places = slot at.shard (slice_index places 0) r

abbrev ruled : Setting → List Entry → LaneId → List ℕ → Reply → Verdict
ruled s h at places reply = ruling s.config (length places) (tries s h at.shard (slice_index places 0)) (reading s.config (sequences_at s at.shard places) false reply)

ruled_is : (s : Setting) (h : List Entry) (at : LaneId) (places : List ℕ) (k : ℕ) (reply : Reply) → Runs s h at places k → verdict_after s h at reply ≡ ruled s h at places reply
ruled_is s h at places k reply is = ap (λ o. verdict_on s h at.shard o reply) is.last

-- its records are open
is_open : (s : Setting) (h : List Entry) (at : LaneId) (places : List ℕ) (k : ℕ) → Legal s h → Runs s h at places k → (i : ℕ) → In places i → In (open_places s h at) i
is_open s h at places k legal is i member = running_In s h at legal is.runs i (subst (λ o. In (batch_of o) i) (sym is.last) member)

is_within : (s : Setting) (h : List Entry) (at : LaneId) (places : List ℕ) (k j : ℕ) → Legal s h → Runs s h at places k → 1 ≤ j → j < length places → IsWithin s h at places j
is_within s h at places k j legal is past low = record {
  front = (let front = running_front s h at legal is.runs in (front.0, front.1 ∙ ap (λ o. batch_of o ++ front.0) is.last));
  past = past;
  within = low;
}

-- what the end calls for names its first record

names_first : (x : ℕ) (xs : List ℕ) (state : Option WindowState) (tries p : ℕ) (left : Rest) → (1 ≤ p) ⊎ (left ≡ rest.Exhausted) → In (debt_places (success_debts (take p (x ∷ xs)) state ++ rest_debts left (drop p (x ∷ xs)) None tries)) x
names_first x xs state tries zero left (inl past) = absurd (omega arith)
names_first x xs state tries zero left (inr given) = rw given (In-here x _ x refl)
names_first x xs state tries (suc p) left which = In-here x _ x refl

owes_first : (s : Setting) (h : List Entry) (at : LaneId) (places : List ℕ) (k : ℕ) (reply : Reply) (m : ℕ) → Runs s h at places k
    → (1 ≤ (verdict_after s h at reply).succeeded) ⊎ ((verdict_after s h at reply).rest ≡ rest.Exhausted) → In (debt_places (debts s (Ended at reply m ∷ h) at)) (slice_index places 0)
owes_first s h at places k reply m is which =
    subst (λ ds. In (debt_places ds) (slice_index places 0)) (sym (debts_ended s at reply m h ∙ ap (λ o. call_debts s h at o reply) is.last)) (at_list places is.some)
  where
    at_list : (xs : List ℕ) → 1 ≤ length xs
        → In (debt_places (success_debts (take (verdict_after s h at reply).succeeded xs) (new_state s at.shard (call_of places k) reply) ++ rest_debts (verdict_after s h at reply).rest (drop (verdict_after s h at reply).succeeded xs) None (tries s h at.shard (slice_index places 0)))) (slice_index xs 0)
    at_list [] some = absurd (omega arith)
    at_list (x ∷ xs) some = names_first x xs (new_state s at.shard (call_of places k) reply) (tries s h at.shard (slice_index places 0)) (verdict_after s h at reply).succeeded (verdict_after s h at reply).rest which

-- the slot of a fate stays spent, where the end calls for one
held_spent : (s : Setting) (r : ℕ) (h : List Entry) (at : LaneId) (places : List ℕ) (k : ℕ) (reply : Reply) (m : ℕ) → Legal s h → Runs s h at places k
    → (1 ≤ (verdict_after s h at reply).succeeded) ⊎ ((verdict_after s h at reply).rest ≡ rest.Exhausted) → IsSpent s r (Ended at reply m ∷ h) (held r at places)
held_spent s r h at places k reply m legal is which = record {
  came = (open_In s h at (slice_index places 0) (is_open s h at places k legal is (slice_index places 0) (first_In places is.some))).0;
  small = omega arith;
  tried = λ low. absurd (omega arith);
  busy = λ last. inr (record { lane = at; shard = refl; held = inr (owes_first s h at places k reply m is which) });
  cut = λ above. absurd (omega arith);
}

-- that of a try

pub capped_le : (n : ℕ) → capped_tries n ≤ n
capped_le n = omega arith

pub capped_high : (n limit : ℕ) → capped_tries n + 1 ≤ limit → limit ≤ MAX_RETRIES → capped_tries n < n → ⊥
capped_high n limit few within low = omega arith

counted_first : (s : Setting) (h : List Entry) (at : LaneId) (places : List ℕ) (k : ℕ) (reply : Reply) (m : ℕ) → Runs s h at places k
    → (ruled s h at places reply).succeeded ≡ 0 → (ruled s h at places reply).rest ≡ rest.Counted
    → tries_sum s (Ended at reply m ∷ h) at.shard (slice_index places 0) ≡ suc (tries_sum s h at.shard (slice_index places 0))
counted_first s h at places k reply m is none counted =
    tries_ended s at reply m h (slice_index places 0)
    (ap (λ o. counts_in_call s at.shard o (tries_sum s h at.shard) reply (slice_index places 0)) is.last
    ∙ and_from (is_counted (ruled s h at places reply).rest) (holds (drop (ruled s h at places reply).succeeded places) (slice_index places 0))
    (ap is_counted counted)
    (ap (λ p. holds (drop p places) (slice_index places 0)) none ∙ first_In places is.some))

-- what the end spends, and that no call spent it
record Gains (s : Setting) (r : ℕ) (h : List Entry) (at : LaneId) (places : List ℕ) (e : Entry) (gained : List Slot) : Type 0 where
  meant : (x : Slot) → Has gained x → IsSpent s r (e ∷ h) x
  apart : AllApart (gained ++ removed (is_slot (held r at places)) (spent s r h))

gains_none : (s : Setting) (r : ℕ) (h : List Entry) (at : LaneId) (places : List ℕ) (e : Entry) → Charged s r h → Gains s r h at places e []
gains_none s r h at places e was = record { meant = λ x has. absurd has; apart = removed-apart (is_slot (held r at places)) (spent s r h) was.apart }

gains_one : (s : Setting) (r : ℕ) (h : List Entry) (at : LaneId) (places : List ℕ) (e : Entry) (x : Slot) → Charged s r h → IsSpent s r (e ∷ h) x → (Has (removed (is_slot (held r at places)) (spent s r h)) x → ⊥) → Gains s r h at places e (x ∷ [])
gains_one s r h at places e x was is fresh = record {
  meant = λ y has. elim has [ inl same ↦ subst (IsSpent s r (e ∷ h)) same is | inr none ↦ absurd none ];
  apart = (fresh, removed-apart (is_slot (held r at places)) (spent s r h) was.apart);
}

held_gone : (s : Setting) (r : ℕ) (h : List Entry) (at : LaneId) (places : List ℕ) → Charged s r h → Has (removed (is_slot (held r at places)) (spent s r h)) (held r at places) → ⊥
held_gone s r h at places was = removed-gone (is_slot (held r at places)) (held r at places) (spent s r h) (λ x is. is_slot-true (held r at places) x is) (is_slot-refl (held r at places)) was.apart

gains_held : (s : Setting) (r : ℕ) (h : List Entry) (at : LaneId) (places : List ℕ) (k : ℕ) (reply : Reply) (m : ℕ) → Legal s h → Runs s h at places k → Charged s r h
    → (1 ≤ (verdict_after s h at reply).succeeded) ⊎ ((verdict_after s h at reply).rest ≡ rest.Exhausted) → Gains s r h at places (Ended at reply m) (held r at places ∷ [])
gains_held s r h at places k reply m legal is was which =
    gains_one s r h at places (Ended at reply m) (held r at places) was (held_spent s r h at places k reply m legal is which) (held_gone s r h at places was)

gains_try : (s : Setting) (r : ℕ) (h : List Entry) (at : LaneId) (places : List ℕ) (k : ℕ) (reply : Reply) (m : ℕ) → r ≤ MAX_RETRIES → Legal s h → Runs s h at places k → Charged s r h
    → (ruled s h at places reply).succeeded ≡ 0 → (ruled s h at places reply).rest ≡ rest.Counted → tries s h at.shard (slice_index places 0) + 1 ≤ r
    → Gains s r h at places (Ended at reply m) (slot at.shard (slice_index places 0) (tries s h at.shard (slice_index places 0)) ∷ [])
gains_try s r h at places k reply m within legal is was none counted few =
    gains_one s r h at places (Ended at reply m) (slot at.shard (slice_index places 0) (tries s h at.shard (slice_index places 0))) was
    (record {
      came = (open_In s h at (slice_index places 0) (is_open s h at places k legal is (slice_index places 0) (first_In places is.some))).0;
      small = omega (arith, few);
      tried = λ low. (
          let le : tries s h at.shard (slice_index places 0) ≤ tries_sum s h at.shard (slice_index places 0) = capped_le (tries_sum s h at.shard (slice_index places 0)) in
          let more : tries_sum s (Ended at reply m ∷ h) at.shard (slice_index places 0) ≡ suc (tries_sum s h at.shard (slice_index places 0)) = counted_first s h at places k reply m is none counted in
          omega (arith, le, more));
      busy = λ last. absurd (omega (arith, few, last));
      cut = λ above. absurd (omega (arith, few, above));
    })
    (λ has. capped_high (tries_sum s h at.shard (slice_index places 0)) r few within
    ((was.meant (slot at.shard (slice_index places 0) (tries s h at.shard (slice_index places 0))) (removed-Has (is_slot (held r at places)) (spent s r h) (slot at.shard (slice_index places 0) (tries s h at.shard (slice_index places 0))) has)).tried (omega (arith, few))))

gains_cut : (s : Setting) (r : ℕ) (h : List Entry) (at : LaneId) (places : List ℕ) (k : ℕ) (reply : Reply) (m j : ℕ) → Legal s h → Runs s h at places k → Charged s r h
    → (verdict_after s h at reply).succeeded ≡ 0 → (verdict_after s h at reply).rest ≡ rest.Split j → 1 ≤ j → j < length places
    → Gains s r h at places (Ended at reply m) (slot at.shard (slice_index places j) (suc r) ∷ [])
gains_cut s r h at places k reply m j legal is was none split past low =
    let within = is_within s h at places k j legal is past low in
    let inside : In places (slice_index places j) = In-take (j + 1) places (slice_index places j) (place_In s h at places j within) in
    gains_one s r h at places (Ended at reply m) (slot at.shard (slice_index places j) (suc r)) was
    (record {
      came = (open_In s h at (slice_index places j) (is_open s h at places k legal is (slice_index places j) inside)).0;
      small = omega arith;
      tried = λ few. absurd (omega (arith, few));
      busy = λ last. absurd (omega (arith, last));
      cut = λ above. cut_made s h at reply m places j (ap batch_of is.last) none split within;
    })
    (λ has. (
    let old = was.meant (slot at.shard (slice_index places j) (suc r)) (removed-Has (is_slot (held r at places)) (spent s r h) (slot at.shard (slice_index places j) (suc r)) has) in
    old.cut refl (slice_index places 0) (first_low s h at places j within)
    (alike_by s r h at (Some (call_of places k)) was is.runs is.last (slice_index places 0) (slice_index places j) (first_In places is.some) inside)))

gains : (s : Setting) (r : ℕ) (h : List Entry) (at : LaneId) (places : List ℕ) (k : ℕ) (reply : Reply) (m : ℕ) → r ≤ MAX_RETRIES → Legal s h → Runs s h at places k → Charged s r h
    → (p : ℕ) (left : Rest) → (ruled s h at places reply).succeeded ≡ p → (ruled s h at places reply).rest ≡ left → Follows r (length places) (tries s h at.shard (slice_index places 0)) p left
    → Gains s r h at places (Ended at reply m) (outcome_of r at.shard places (tries s h at.shard (slice_index places 0)) p left)
gains s r h at places k reply m within legal is was zero rest.Again none ruled_so follows = gains_none s r h at places (Ended at reply m) was
gains s r h at places k reply m within legal is was zero rest.Nothing none ruled_so follows = (let some = is.some in absurd (omega (arith, some, follows)))
gains s r h at places k reply m within legal is was zero rest.Counted none ruled_so follows = gains_try s r h at places k reply m within legal is was none ruled_so follows
gains s r h at places k reply m within legal is was zero (rest.Split j) none ruled_so follows =
    gains_cut s r h at places k reply m j legal is was (ap (λ (v : Verdict). v.succeeded) (ruled_is s h at places k reply is) ∙ none) (ap (λ (v : Verdict). v.rest) (ruled_is s h at places k reply is) ∙ ruled_so) follows.0 follows.1
gains s r h at places k reply m within legal is was zero rest.Exhausted none ruled_so follows =
    gains_held s r h at places k reply m legal is was (inr (ap (λ (v : Verdict). v.rest) (ruled_is s h at places k reply is) ∙ ruled_so))
gains s r h at places k reply m within legal is was (suc p) left some ruled_so follows =
    gains_held s r h at places k reply m legal is was (inl (let e : (verdict_after s h at reply).succeeded ≡ suc p = ap (λ (v : Verdict). v.succeeded) (ruled_is s h at places k reply is) ∙ some in omega (arith, e)))

-- the slots after the end
spent_now : (s : Setting) (r : ℕ) (h : List Entry) (at : LaneId) (places : List ℕ) (k : ℕ) (reply : Reply) (m : ℕ) → Runs s h at places k
    → spent s r (Ended at reply m ∷ h) ≡ outcome r at.shard places (tries s h at.shard (slice_index places 0)) (ruled s h at places reply) ++ removed (is_slot (held r at places)) (spent s r h)
spent_now s r h at places k reply m is = ap (λ o. after_end s r h at.shard o reply (spent s r h)) is.last

pub split_Has : (xs ys : List Slot) (x : Slot) → Has (xs ++ ys) x → Has xs x ⊎ Has ys x
split_Has [] ys x has = inr has
split_Has (z ∷ xs) ys x (inl e) = inl (inl e)
split_Has (z ∷ xs) ys x (inr has) = elim (split_Has xs ys x has) [ inl one ↦ inl (inr one) | inr other ↦ inr other ]

pub ends_batch : (s : Setting) (r : ℕ) (h : List Entry) (at : LaneId) (reply : Reply) (m : ℕ) (places : List ℕ) (k : ℕ) → s.config.retries ≡ Some r → r ≤ MAX_RETRIES → Legal s (Ended at reply m ∷ h)
    → last_call h at ≡ Some (record { places = places; closing = None; moment = k }) → Charged s r h → Charged s r (Ended at reply m ∷ h)
ends_batch s r h at reply m places k finite within legal last was = record {
  apart = subst AllApart (sym (spent_now s r h at places k reply m is)) new.apart;
  meant = λ x has. meant x (split_Has gained left x (subst (λ xs. Has xs x) (spent_now s r h at places k reply m is) has));
  running = running;
}
  where
    is : Runs s h at places k
    is = record { runs = legal.1.1; last = last; some = (was.running at (call_of places k) legal.1.1 last).some refl }

    gained : List Slot
    gained = outcome r at.shard places (tries s h at.shard (slice_index places 0)) (ruled s h at places reply)

    left : List Slot
    left = removed (is_slot (held r at places)) (spent s r h)

    new : Gains s r h at places (Ended at reply m) (outcome r at.shard places (tries s h at.shard (slice_index places 0)) (ruled s h at places reply))
    new = gains s r h at places k reply m within legal.0 is was (ruled s h at places reply).succeeded (ruled s h at places reply).rest refl refl
        (ruling_follows s.config r (length places) (tries s h at.shard (slice_index places 0)) (reading s.config (sequences_at s at.shard places) false reply) finite (reading_proper s.config (sequences_at s at.shard places) false reply))

    runs_on : (x : Slot) → Has (removed (is_slot (held r at places)) (spent s r h)) x → x.number ≡ r → (lane : LaneId) → lane.shard ≡ x.shard → RunsFirst h lane x.place → RunsFirst (Ended at reply m ∷ h) lane x.place
    runs_on x has number lane shard runs =
        elim (cases_Bool (same_lane at lane)) [
          | inl same ↦ (
              let here : at ≡ lane = same_lane-true at lane same in
              let call_is : call_of places k ≡ runs.call = same_Some (call_of places k) runs.call (sym last ∙ subst (λ l. last_call h l ≡ Some runs.call) (sym here) runs.last) in
              let first : slice_index places 0 ≡ x.place = ap (λ (c : Call). slice_index c.places 0) call_is ∙ runs.first in
              let same_slot : x ≡ held r at places = slot_from x (held r at places) (sym shard ∙ ap (λ (l : LaneId). l.shard) (sym here)) (sym first) number in
              absurd (held_gone s r h at places was (subst (λ y. Has (removed (is_slot (held r at places)) (spent s r h)) y) same_slot has)))
          | inr other ↦ record { runs = rw other runs.runs; call = runs.call; last = runs.last; of_batch = runs.of_batch; first = runs.first }
        ]

    meant : (x : Slot) → Has (outcome r at.shard places (tries s h at.shard (slice_index places 0)) (ruled s h at places reply)) x ⊎ Has (removed (is_slot (held r at places)) (spent s r h)) x → IsSpent s r (Ended at reply m ∷ h) x
    meant x (inl has) = new.meant x has
    meant x (inr has) =
        spent_stays s r h (Ended at reply m) x legal (λ number. runs_on x has number)
        (cut_stays s h at reply m (alike_by s r h at (last_call h at) was legal.1.1 refl) x.shard x.place)
        (was.meant x (removed-Has (is_slot (held r at places)) (spent s r h) x has))

    other_slot : (lane : LaneId) (call : Call) → same_lane at lane ≡ false → is_running h lane ≡ true → last_call h lane ≡ Some call → call.closing ≡ None
        → is_slot (held r at places) (slot lane.shard (slice_index call.places 0) r) ≡ false
    other_slot lane call other ran last_there of_batch = false_from_ne_true (is_slot (held r at places) (slot lane.shard (slice_index call.places 0) r)) (λ same.
        let e : slot lane.shard (slice_index call.places 0) r ≡ held r at places = is_slot-true (held r at places) (slot lane.shard (slice_index call.places 0) r) same in
        let shards : lane.shard ≡ at.shard = ap (λ (x : Slot). x.shard) e in
        let places_same : slice_index call.places 0 ≡ slice_index places 0 = ap (λ (x : Slot). x.place) e in
        let runs : RunsFirst h lane (slice_index places 0) = record { runs = ran; call = call; last = last_there; of_batch = of_batch; first = places_same } in
        let lanes : at ≡ lane = held_apart s r h at lane (slice_index places 0) legal.0 was (is_open s h at places k legal.0 is (slice_index places 0) (first_In places is.some)) shards runs in
        let clash : same_lane at lane ≡ true = subst (λ l. same_lane at l ≡ true) lanes (same_lane-refl at) in
        both_ways (same_lane at lane) other clash)

    running : (lane : LaneId) (call : Call) → is_running (Ended at reply m ∷ h) lane ≡ true → last_call (Ended at reply m ∷ h) lane ≡ Some call → IsCalled s r (Ended at reply m ∷ h) lane call
    running lane call runs_now last_now =
        let on = go_on s r h at reply m lane call legal.0 legal.1.1 was runs_now last_now in
        let old = was.running lane call on.ran on.last in
        record {
          alike = on.alike;
          some = old.some;
          charged = λ of_batch. subst (λ xs. Has xs (slot lane.shard (slice_index call.places 0) r)) (sym (spent_now s r h at places k reply m is))
              (Has-right (outcome r at.shard places (tries s h at.shard (slice_index places 0)) (ruled s h at places reply)) (removed (is_slot (held r at places)) (spent s r h)) (slot lane.shard (slice_index call.places 0) r)
              (removed-kept (is_slot (held r at places)) (spent s r h) (slot lane.shard (slice_index call.places 0) r) (old.charged of_batch) (other_slot lane call on.other on.ran on.last of_batch)));
        }
