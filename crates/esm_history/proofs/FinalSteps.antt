-- What a slot that a final call spent tells stays, and a final call that begins holds a slot of its own. Only this crate's
-- proofs cite this.
use Rattle.std.proofs.Common.{◌≡◌, ℕ, suc, ◌<◌, ◌≤◌, Bool, true, false, cond, not, ◌&&◌, ◌||◌, List, [], ◌∷◌, refl, sym, ap, ◌∙◌, subst, ◌⊎◌, inl, inr, arith, Option, Some, None}
use Rattle.std.specs.Prelude.{◌==◌, nat_lt, is_some}
use Rattle.std.specs.List.{list_any}
use Rattle.std.proofs.lemmas.Bool.{cases_Bool, and_parts, and_from, or_cases, or_left, or_right, eqb-true, eq-eqb, both_ways, ltb-true, not-true}
use Rattle.std.proofs.lemmas.Option.{same_Some}
use Rattle.esm_model.specs.Lane.{same_lane}
use Rattle.esm_model.specs.declared.lane.LaneId.{LaneId}
use Rattle.esm_model.specs.declared.entry.Entry.{Entry}
use Rattle.esm_model.specs.declared.entry.Entry.TheVariants.{Came, Began, Ended, Gave, Tried, Closed, Replayed, Shut}
use Rattle.esm_model.specs.Valid.{HasStreamFields}
use Rattle.esm_model.specs.Setting.{Setting}
use Rattle.esm_model.specs.Entries.{Call, came_count, is_running, is_shut, last_call}
use Rattle.esm_model.specs.Fates.{below, lacks_fate}
use Rattle.esm_model.specs.Tries.{window_tries_sum, counts_in_final_call}
use Rattle.esm_model.specs.Owed.{debts}
use Rattle.esm_model.specs.Windows.{has_windows, window_of, kept_state, is_outstanding, has_open_record, has_later_record, is_due}
use Rattle.esm_model.specs.Step.{Legal, MayBeginFinal}
use Rattle.esm_model.proofs.Lists.{In, In-none, In-cases, In-here, In-there, In-below, below-In}
use Rattle.esm_model.proofs.Steps.{same_lane-refl}
use Rattle.esm_model.proofs.Sound.{same_lane-true}
use Rattle.esm_history.proofs.Finite.{Has, AllApart}
use Rattle.esm_history.proofs.Spent.{Slot, slot}
use Rattle.esm_history.proofs.Windows.{IsOver, IsGone, over_stays, gone_stays, window_stays, stated_window}
use Rattle.esm_history.proofs.Finals.{final_spent, RunsFinal, closes, IsClosing, IsFinalSpent, IsFinalCall, FinalCharged, lanes_alone, running_low, closes_none, closed_owed, stays_closing, closed_gone}

-- tries

more_or_same : (b : Bool) (k : ℕ) → k ≤ cond b (suc k) k
more_or_same true k = omega arith
more_or_same false k = omega arith

TriesStay : Setting → List Entry → Entry → ℕ → ℕ → Type 0
TriesStay s h e n w = IsGone s (e ∷ h) n w ⊎ (window_tries_sum s h n w ≤ window_tries_sum s (e ∷ h) n w)

closed_same : (s : Setting) (h : List Entry) (at : LaneId) (v m n w : ℕ) → Legal s (Closed at v m ∷ h) → ((lane : LaneId) (u : ℕ) → In (closes (debts s h lane)) u → IsOver s h lane.shard u)
    → ((at.shard == n) && (v == w)) ≡ true → IsGone s (Closed at v m ∷ h) n w
closed_same s h at v m n w legal owing same =
    let parts = and_parts (at.shard == n) (v == w) same in
    let shard : at.shard ≡ n = eqb-true at.shard n parts.0 in
    let window : v ≡ w = eqb-true v w parts.1 in
    let over : IsOver s h n w = subst (λ k. IsOver s h k w) shard (subst (λ u. IsOver s h at.shard u) window (owing at v (closed_owed s h at v m legal.1.1))) in
    record { over = over_stays s h (Closed at v m) n w legal over; gone = rw same refl }

tries_stay : (s : Setting) (h : List Entry) (e : Entry) (n w : ℕ) → Legal s (e ∷ h) → ((lane : LaneId) (u : ℕ) → In (closes (debts s h lane)) u → IsOver s h lane.shard u) → TriesStay s h e n w
unfolding TriesStay
tries_stay s h (Ended at reply m) n w legal owing = inr (more_or_same ((at.shard == n) && counts_in_final_call s n (last_call h at) w (window_tries_sum s h n w) reply) (window_tries_sum s h n w))
tries_stay s h (Closed at v m) n w legal owing =
    elim (cases_Bool ((at.shard == n) && (v == w))) [
      | inl same ↦ inl (closed_same s h at v m n w legal owing same)
      | inr other ↦ inr (rw other (omega arith))
    ]
tries_stay s h (Came k first count m) n w legal owing = inr (omega arith)
tries_stay s h (Began at places c m) n w legal owing = inr (omega arith)
tries_stay s h (Gave by k places f line state m) n w legal owing = inr (omega arith)
tries_stay s h (Tried at places c t m) n w legal owing = inr (omega arith)
tries_stay s h (Replayed k places m) n w legal owing = inr (omega arith)
tries_stay s h (Shut m) n w legal owing = inr (omega arith)

-- slots

abbrev pub FinalGoesOn : List Entry → Entry → ℕ → ℕ → Type 0
FinalGoesOn h e n w = (lane : LaneId) → lane.shard ≡ n → RunsFinal h lane w → RunsFinal (e ∷ h) lane w

pub final_stays : (s : Setting) (r : ℕ) (h : List Entry) (e : Entry) (x : Slot) → Legal s (e ∷ h) → ((lane : LaneId) (u : ℕ) → In (closes (debts s h lane)) u → IsOver s h lane.shard u)
    → (x.number ≡ r → FinalGoesOn h e x.shard x.place) → IsFinalSpent s r h x → IsFinalSpent s r (e ∷ h) x
unfolding TriesStay
final_stays s r h e x legal owing on was = record {
  windowed = was.windowed;
  window = window_stays s e h x.shard x.place was.window;
  small = was.small;
  tried = λ low. tried (was.tried low);
  ending = λ last. ending (on last) (was.ending last);
}
  where
    tried : IsGone s h x.shard x.place ⊎ (x.number < window_tries_sum s h x.shard x.place) → IsGone s (e ∷ h) x.shard x.place ⊎ (x.number < window_tries_sum s (e ∷ h) x.shard x.place)
    tried (inl gone) = inl (gone_stays s h e x.shard x.place legal gone)
    tried (inr low) = elim (tries_stay s h e x.shard x.place legal owing) [ inl gone ↦ inl gone | inr more ↦ inr (omega (arith, low, more)) ]

    ending : FinalGoesOn h e x.shard x.place → IsGone s h x.shard x.place ⊎ IsClosing s h x.shard x.place → IsGone s (e ∷ h) x.shard x.place ⊎ IsClosing s (e ∷ h) x.shard x.place
    ending goes (inl gone) = inl (gone_stays s h e x.shard x.place legal gone)
    ending goes (inr is) =
        elim is.closing [
          | inl runs ↦ inr (record { lane = is.lane; shard = is.shard; closing = inl (goes is.lane is.shard runs) })
          | inr owed ↦ elim (stays_closing s h e is.lane x.place legal owed) [
            | inl still ↦ inr (record { lane = is.lane; shard = is.shard; closing = inr still })
            | inr brought ↦ inl (subst (λ k. IsGone s (e ∷ h) k x.place) is.shard (closed_gone s r h e is.lane x.place legal (owing is.lane x.place owed) brought))
          ]
        ]

-- an entry that begins and ends no call leaves all of it
pub final_quiet : (s : Setting) (r : ℕ) (h : List Entry) (e : Entry) → Legal s (e ∷ h)
    → final_spent s r (e ∷ h) ≡ final_spent s r h
    → ((lane : LaneId) → is_running (e ∷ h) lane ≡ is_running h lane)
    → ((lane : LaneId) → last_call (e ∷ h) lane ≡ last_call h lane)
    → ((lane : LaneId) (w : ℕ) → RunsFinal h lane w → has_windows s.config ≡ true → is_some (kept_state s h lane.shard w) ≡ true → is_some (kept_state s (e ∷ h) lane.shard w) ≡ true)
    → ((lane : LaneId) (w : ℕ) → In (closes (debts s (e ∷ h) lane)) w → In (closes (debts s h lane)) w)
    → FinalCharged s r h → FinalCharged s r (e ∷ h)
final_quiet s r h e legal same_spent same_run same_call stands less was = record {
  apart = subst AllApart (sym same_spent) was.apart;
  meant = λ x has. final_stays s r h e x legal was.owing
      (λ last lane shard runs. record { runs = same_run lane ∙ runs.runs; call = runs.call; last = same_call lane ∙ runs.last; of_window = runs.of_window })
      (was.meant x (subst (λ xs. Has xs x) same_spent has));
  running = λ lane w runs. (
      let before : RunsFinal h lane w = record { runs = sym (same_run lane) ∙ runs.runs; call = runs.call; last = sym (same_call lane) ∙ runs.last; of_window = runs.of_window } in
      let old = was.running lane w before in
      record {
        over = over_stays s h e lane.shard w legal old.over;
        stands = stands lane w before old.windowed old.stands;
        charged = subst (λ xs. Has xs (slot lane.shard w r)) (sym same_spent) old.charged;
        windowed = old.windowed;
      });
  owing = λ lane w member. over_stays s h e lane.shard w legal (was.owing lane w (less lane w member));
}

-- a call that begins

runs_on : (h : List Entry) (at : LaneId) (places : List ℕ) (closing : Option ℕ) (m : ℕ) (lane : LaneId) (w : ℕ) → is_running h at ≡ false → RunsFinal h lane w → RunsFinal (Began at places closing m ∷ h) lane w
runs_on h at places closing m lane w rests was =
    elim (cases_Bool (same_lane at lane)) [
      | inl same ↦ (let clash : true ≡ false = sym was.runs ∙ subst (λ l. is_running h l ≡ false) (same_lane-true at lane same) rests in cc)
      | inr other ↦ record { runs = rw other was.runs; call = was.call; last = rw other was.last; of_window = was.of_window }
    ]

nothing_owed : (s : Setting) (h : List Entry) (at : LaneId) (places : List ℕ) (closing : Option ℕ) (m : ℕ) (lane : LaneId) (w : ℕ) → debts s h lane ≡ [] → In (closes (debts s (Began at places closing m ∷ h) lane)) w → ⊥
nothing_owed s h at places closing m lane w none member =
    elim (cases_Bool (same_lane at lane)) [
      | inl same ↦ In-none w (rw same at member)
      | inr other ↦ closes_none s h lane w none (rw other at member)
    ]

-- a call of another lane was one before
other_before : (h : List Entry) (at : LaneId) (places : List ℕ) (closing : Option ℕ) (m : ℕ) (lane : LaneId) (w : ℕ) → same_lane at lane ≡ false → RunsFinal (Began at places closing m ∷ h) lane w → RunsFinal h lane w
other_before h at places closing m lane w other runs = record { runs = rw other at runs.runs; call = runs.call; last = rw other at runs.last; of_window = runs.of_window }

-- and one of this lane is the one that began
own_now : (h : List Entry) (at : LaneId) (places : List ℕ) (closing : Option ℕ) (m : ℕ) (lane : LaneId) (w : ℕ) → same_lane at lane ≡ true → RunsFinal (Began at places closing m ∷ h) lane w → closing ≡ Some w
own_now h at places closing m lane w same runs =
    (let is : record { places = places; closing = closing; moment = m } ≡ runs.call = same_Some _ runs.call (rw same at runs.last) in ap (λ (c : Call). c.closing) is ∙ runs.of_window)

pub final_begins_batch : (s : Setting) (r : ℕ) (h : List Entry) (at : LaneId) (places : List ℕ) (m : ℕ) → Legal s (Began at places None m ∷ h) → FinalCharged s r h → FinalCharged s r (Began at places None m ∷ h)
final_begins_batch s r h at places m legal was = record {
  apart = was.apart;
  meant = λ x has. final_stays s r h (Began at places None m) x legal was.owing (λ last lane shard runs. runs_on h at places None m lane x.place legal.1.1.call.rests runs) (was.meant x has);
  running = λ lane w runs. elim (cases_Bool (same_lane at lane)) [
    | inl same ↦ (let clash : None ≡ Some w = own_now h at places None m lane w same runs in cc)
    | inr other ↦ (
        let old = was.running lane w (other_before h at places None m lane w other runs) in
        record { over = over_stays s h (Began at places None m) lane.shard w legal old.over; stands = old.stands; charged = old.charged; windowed = old.windowed })
  ];
  owing = λ lane w member. absurd (nothing_owed s h at places None m lane w (legal.1.1.call.settled.paid lane) member);
}

-- a window that is due

three : (a b c : Bool) → (a && b && c) ≡ true → (a ≡ true) × (b ≡ true) × (c ≡ true)
three true true true is = (refl, refl, refl)
three true true false is = cc
three true false c is = cc
three false b c is = cc

any_true : (p : ℕ → Bool) (xs : List ℕ) (i : ℕ) → In xs i → p i ≡ true → list_any p xs ≡ true
any_true p [] i member passes = absurd (In-none i member)
any_true p (x ∷ xs) i member passes =
    elim (In-cases x xs i member) [
      | inl same ↦ or_left (p x) (list_any p xs) (ap p same ∙ passes)
      | inr there ↦ or_right (p x) (list_any p xs) (any_true p xs i there passes)
    ]

record Passes (p : ℕ → Bool) (xs : List ℕ) : Type 0 where
  member : ℕ
  inside : In xs member
  passes : p member ≡ true

any_some : (p : ℕ → Bool) (xs : List ℕ) → list_any p xs ≡ true → Passes p xs
any_some p [] is = cc
any_some p (x ∷ xs) is =
    elim (or_cases (p x) (list_any p xs) is) [
      | inl here ↦ record { member = x; inside = In-here x xs x refl; passes = here }
      | inr there ↦ (let rest = any_some p xs there in record { member = rest.member; inside = In-there x xs rest.member rest.inside; passes = rest.passes })
    ]

due_over : (s : Setting) (h : List Entry) (n w : ℕ) → is_due s h n w ≡ true → IsOver s h n w
due_over s h n w due = record {
  none_open = λ i low lacks own. both_ways (has_open_record s h n w) (not-true (has_open_record s h n w) parts.1)
      (any_true (λ k. lacks_fate s h n k && (window_of s n k == w)) (below (came_count h n)) i (below-In (came_count h n) i low)
      (and_from (lacks_fate s h n i) (window_of s n i == w) lacks (eq-eqb (window_of s n i) w own)));
  past = elim (or_cases (has_later_record s h n w) (is_shut h) parts.2) [
    | inl later ↦ (
        let some = any_some (λ i. nat_lt w (window_of s n i)) (below (came_count h n)) later in
        inr (record { place = some.member; came = In-below (came_count h n) some.member some.inside; later = ltb-true w (window_of s n some.member) some.passes }))
    | inr shut ↦ inl shut
  ];
}
  where
    parts : (is_outstanding s h n w ≡ true) × (not (has_open_record s h n w) ≡ true) × ((has_later_record s h n w || is_shut h) ≡ true)
    parts = three (is_outstanding s h n w) (not (has_open_record s h n w)) (has_later_record s h n w || is_shut h) due

pub due_stands : (s : Setting) (h : List Entry) (n w : ℕ) → is_due s h n w ≡ true → (has_windows s.config ≡ true) × (is_some (kept_state s h n w) ≡ true)
due_stands s h n w due =
    let parts = three (is_outstanding s h n w) (not (has_open_record s h n w)) (has_later_record s h n w || is_shut h) due in
    let more = three (has_windows s.config) (nat_lt 0 (came_count h n)) (is_some (kept_state s h n w)) parts.0 in
    (more.0, more.2)

pub not_gone : (o : Option (List ℕ)) → o ≡ None → is_some o ≡ true → ⊥
not_gone None is some = cc
not_gone (Some x) is some = cc

pub final_fresh : (s : Setting) (r : ℕ) (h : List Entry) (at : LaneId) (places : List ℕ) (w m : ℕ) → HasStreamFields s.config → Legal s h → MayBeginFinal s h at places w m → FinalCharged s r h → Has (final_spent s r h) (slot at.shard w r) → ⊥
final_fresh s r h at places w m fields legal may was has = ending_not ((was.meant (slot at.shard w r) has).ending refl)
  where
    ending_not : IsGone s h at.shard w ⊎ IsClosing s h at.shard w → ⊥
    ending_not (inl gone) = not_gone (kept_state s h at.shard w) gone.gone (due_stands s h at.shard w may.due).1
    ending_not (inr is) =
        elim is.closing [
          | inl runs ↦ (
              let lanes : at ≡ is.lane = lanes_alone s at is.lane fields (due_stands s h at.shard w may.due).0 may.call.below_factor (running_low s h legal is.lane runs.runs) (sym is.shard) in
              let clash : true ≡ false = sym runs.runs ∙ subst (λ l. is_running h l ≡ false) lanes may.call.rests in
              cc)
          | inr owed ↦ closes_none s h is.lane w (may.call.settled.paid is.lane) owed
        ]

pub final_begins : (s : Setting) (r : ℕ) (h : List Entry) (at : LaneId) (places : List ℕ) (w m : ℕ) → HasStreamFields s.config → Legal s (Began at places (Some w) m ∷ h) → FinalCharged s r h → FinalCharged s r (Began at places (Some w) m ∷ h)
final_begins s r h at places w m fields legal was = record {
  apart = (final_fresh s r h at places w m fields legal.0 legal.1.1 was, was.apart);
  meant = meant;
  running = running;
  owing = λ lane v member. absurd (nothing_owed s h at places (Some w) m lane v (legal.1.1.call.settled.paid lane) member);
}
  where
    due : is_due s h at.shard w ≡ true
    due = legal.1.1.due

    runs_now : RunsFinal (Began at places (Some w) m ∷ h) at w
    runs_now = record { runs = rw (same_lane-refl at) refl; call = record { places = places; closing = Some w; moment = m }; last = rw (same_lane-refl at) refl; of_window = refl }

    newest : IsFinalSpent s r (Began at places (Some w) m ∷ h) (slot at.shard w r)
    newest = record {
      windowed = (due_stands s h at.shard w legal.1.1.due).0;
      window = stated_window s h legal.0 at.shard w (due_stands s h at.shard w legal.1.1.due).1;
      small = omega arith;
      tried = λ low. absurd (omega (arith, low));
      ending = λ last. inr (record { lane = at; shard = refl; closing = inl runs_now });
    }

    meant : (x : Slot) → Has (slot at.shard w r ∷ final_spent s r h) x → IsFinalSpent s r (Began at places (Some w) m ∷ h) x
    meant x (inl e) = subst (IsFinalSpent s r (Began at places (Some w) m ∷ h)) e newest
    meant x (inr has) = final_stays s r h (Began at places (Some w) m) x legal was.owing (λ last lane shard runs. runs_on h at places (Some w) m lane x.place legal.1.1.call.rests runs) (was.meant x has)

    here : IsFinalCall s r (Began at places (Some w) m ∷ h) at w
    here = record {
      over = over_stays s h (Began at places (Some w) m) at.shard w legal (due_over s h at.shard w legal.1.1.due);
      stands = (due_stands s h at.shard w legal.1.1.due).1;
      charged = inl refl;
      windowed = (due_stands s h at.shard w legal.1.1.due).0;
    }

    running : (lane : LaneId) (v : ℕ) → RunsFinal (Began at places (Some w) m ∷ h) lane v → IsFinalCall s r (Began at places (Some w) m ∷ h) lane v
    running lane v runs =
        elim (cases_Bool (same_lane at lane)) [
          | inl same ↦ (
              let window : w ≡ v = same_Some w v (own_now h at places (Some w) m lane v same runs) in
              subst (λ u. IsFinalCall s r (Began at places (Some w) m ∷ h) lane u) window (subst (λ l. IsFinalCall s r (Began at places (Some w) m ∷ h) l w) (same_lane-true at lane same) here))
          | inr other ↦ (
              let old = was.running lane v (other_before h at places (Some w) m lane v other runs) in
              record { over = over_stays s h (Began at places (Some w) m) lane.shard v legal old.over; stands = old.stands; charged = inr old.charged; windowed = old.windowed })
        ]
