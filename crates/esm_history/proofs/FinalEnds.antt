-- The end of a final call gives back the slot that the call held, and spends one that no call had. Only this crate's proofs
-- cite this.
use Rattle.std.proofs.Common.{◌≡◌, ℕ, suc, ◌+◌, ◌≤◌, true, false, List, [], ◌∷◌, ◌++◌, take, drop, refl, sym, ap, ◌∙◌, subst, ◌⊎◌, inl, inr, arith, Option, Some, None}
use Rattle.std.specs.Prelude.{◌==◌}
use Rattle.std.proofs.lemmas.Bool.{cases_Bool, and_from, eq-eqb, both_ways, false_from_ne_true}
use Rattle.std.proofs.lemmas.Option.{same_Some}
use Rattle.esm_model.specs.declared.limits.TheConstants.{MAX_RETRIES}
use Rattle.esm_model.specs.Lane.{same_lane}
use Rattle.esm_model.specs.declared.lane.LaneId.{LaneId}
use Rattle.esm_model.specs.declared.entry.Reply.{Reply}
use Rattle.esm_model.specs.declared.entry.WindowState.{WindowState}
use Rattle.esm_model.specs.declared.entry.Entry.{Entry}
use Rattle.esm_model.specs.declared.entry.Entry.TheVariants.{Ended}
use Rattle.esm_model.specs.declared.verdict.Rest.{Rest}
use Rattle.esm_model.specs.declared.verdict.Rest.TheVariants as rest
use Rattle.esm_model.specs.declared.verdict.Verdict.{Verdict}
use Rattle.esm_model.specs.Valid.{HasStreamFields}
use Rattle.esm_model.specs.Setting.{Setting}
use Rattle.esm_model.specs.Entries.{Call, is_running, last_call}
use Rattle.esm_model.specs.Reading.{reading}
use Rattle.esm_model.specs.Ruling.{ruling, is_counted}
use Rattle.esm_model.specs.Tries.{tries_of, window_tries, window_tries_sum, counts_in_final_call, verdict_on, verdict_after}
use Rattle.esm_model.specs.Owed.{Debt, Success, GiveUp, Try, Close, debts, call_debts, success_debts, give_up_debts, close_debts, rest_debts, new_state}
use Rattle.esm_model.specs.Windows.{has_windows, kept_state}
use Rattle.esm_model.specs.Step.{Legal}
use Rattle.esm_model.proofs.Lists.{In, In-here, In-none, In-one}
use Rattle.esm_model.proofs.Steps.{same_lane-refl, debts_ended, running_ended}
use Rattle.esm_model.proofs.Sound.{same_lane-true}
use Rattle.esm_history.proofs.Finite.{Has, AllApart, Has-right, removed, removed-Has, removed-apart, removed-kept, removed-gone}
use Rattle.esm_history.proofs.Spent.{Slot, slot, slot_from, is_slot, is_slot-true, is_slot-refl}
use Rattle.esm_history.proofs.Readings.{FollowsFinal, reading_final, final_follows}
use Rattle.esm_history.proofs.Windows.{IsOver, over_stays, stated_window}
use Rattle.esm_history.proofs.Finals.{final_outcome, final_after_end, final_spent, RunsFinal, closes, IsFinalSpent, IsFinalCall, FinalCharged, lanes_alone, running_low}
use Rattle.esm_history.proofs.FinalSteps.{final_stays, not_gone}
use Rattle.esm_history.proofs.BatchEnds.{capped_le, capped_high, split_Has}

-- what an end calls for closes the window of a final call alone

closes_append : (ds es : List Debt) → closes (ds ++ es) ≡ closes ds ++ closes es
closes_append [] es = refl
closes_append (Close w ∷ ds) es = ap (λ ws. w ∷ ws) (closes_append ds es)
closes_append (Success places state ∷ ds) es = closes_append ds es
closes_append (GiveUp places ∷ ds) es = closes_append ds es
closes_append (Try places closing t ∷ ds) es = closes_append ds es

closes_success : (xs : List ℕ) (state : Option WindowState) → closes (success_debts xs state) ≡ []
closes_success [] state = refl
closes_success (x ∷ xs) state = refl

closes_give_up : (xs : List ℕ) → closes (give_up_debts xs) ≡ []
closes_give_up [] = refl
closes_give_up (x ∷ xs) = refl

closes_close : (closing : Option ℕ) (w : ℕ) → In (closes (close_debts closing)) w → closing ≡ Some w
closes_close None w member = absurd (In-none w member)
closes_close (Some v) w member = ap (λ z. Some z) (In-one v w member)

closes_rest : (r : Rest) (xs : List ℕ) (closing : Option ℕ) (t w : ℕ) → In (closes (rest_debts r xs closing t)) w → closing ≡ Some w
closes_rest rest.Nothing xs closing t w member = closes_close closing w member
closes_rest rest.Again xs closing t w member = absurd (In-none w member)
closes_rest (rest.Split k) xs closing t w member = absurd (In-none w member)
closes_rest rest.Counted xs closing t w member = absurd (In-none w member)
closes_rest rest.Exhausted xs closing t w member =
    closes_close closing w (subst (λ ws. In ws w) (closes_append (give_up_debts xs) (close_debts closing) ∙ ap (λ ws. ws ++ closes (close_debts closing)) (closes_give_up xs)) member)

closes_call : (s : Setting) (h : List Entry) (at : LaneId) (reply : Reply) (w : ℕ) (call : Call) → In (closes (call_debts s h at (Some call) reply)) w → call.closing ≡ Some w
closes_call s h at reply w call member =
    let v = verdict_after s h at reply in
    let first = success_debts (take v.succeeded call.places) (new_state s at.shard call reply) in
    let more = rest_debts v.rest (drop v.succeeded call.places) call.closing (tries_of s h at.shard call) in
    closes_rest v.rest (drop v.succeeded call.places) call.closing (tries_of s h at.shard call) w
    (subst (λ ws. In ws w) (closes_append first more ∙ ap (λ ws. ws ++ closes more) (closes_success (take v.succeeded call.places) (new_state s at.shard call reply))) member)

-- so after an end a lane closes what it closed before, or the window of its final call
owed_over : (s : Setting) (r : ℕ) (h : List Entry) (at : LaneId) (reply : Reply) (m : ℕ) (lane : LaneId) (w : ℕ) → Legal s (Ended at reply m ∷ h) → FinalCharged s r h → In (closes (debts s (Ended at reply m ∷ h) lane)) w → IsOver s (Ended at reply m ∷ h) lane.shard w
owed_over s r h at reply m lane w legal was member =
    over_stays s h (Ended at reply m) lane.shard w legal
    (elim (cases_Bool (same_lane at lane)) [
      | inr other ↦ was.owing lane w (rw other at member)
      | inl same ↦ by_call (last_call h at) refl (subst (λ ds. In (closes ds) w) (debts_ended s at reply m h) (subst (λ l. In (closes (debts s (Ended at reply m ∷ h) l)) w) (sym (same_lane-true at lane same)) member)) same
    ])
  where
    by_call : (o : Option Call) → last_call h at ≡ o → In (closes (call_debts s h at o reply)) w → same_lane at lane ≡ true → IsOver s h lane.shard w
    by_call None last there same = absurd (In-none w there)
    by_call (Some call) last there same = subst (λ (l : LaneId). IsOver s h l.shard w) (same_lane-true at lane same) ((was.running at w (record { runs = legal.1.1; call = call; last = last; of_window = closes_call s h at reply w call there })).over)

-- other lanes go on

ran_before : (h : List Entry) (at : LaneId) (reply : Reply) (m : ℕ) (lane : LaneId) (w : ℕ) → RunsFinal (Ended at reply m ∷ h) lane w → (same_lane at lane ≡ false) × RunsFinal h lane w
ran_before h at reply m lane w runs =
    elim (cases_Bool (same_lane at lane)) [
      | inl same ↦ (let clash : false ≡ true = sym (subst (λ l. is_running (Ended at reply m ∷ h) l ≡ false) (same_lane-true at lane same) (running_ended at reply m h)) ∙ runs.runs in cc)
      | inr other ↦ (other, record { runs = rw other at runs.runs; call = runs.call; last = runs.last; of_window = runs.of_window })
    ]

runs_other : (h : List Entry) (at : LaneId) (reply : Reply) (m : ℕ) (lane : LaneId) (w : ℕ) → same_lane at lane ≡ false → RunsFinal h lane w → RunsFinal (Ended at reply m ∷ h) lane w
runs_other h at reply m lane w other runs = record { runs = rw other runs.runs; call = runs.call; last = runs.last; of_window = runs.of_window }

-- an end that leaves the slots
pub final_still : (s : Setting) (r : ℕ) (h : List Entry) (at : LaneId) (reply : Reply) (m : ℕ) → Legal s (Ended at reply m ∷ h)
    → final_spent s r (Ended at reply m ∷ h) ≡ final_spent s r h → ((w : ℕ) → RunsFinal h at w → ⊥) → FinalCharged s r h → FinalCharged s r (Ended at reply m ∷ h)
final_still s r h at reply m legal same none was = record {
  apart = subst AllApart (sym same) was.apart;
  meant = λ x has. final_stays s r h (Ended at reply m) x legal was.owing (λ last. on x.shard x.place) (was.meant x (subst (λ xs. Has xs x) same has));
  running = λ lane w runs. (
      let old = was.running lane w (ran_before h at reply m lane w runs).1 in
      record { over = over_stays s h (Ended at reply m) lane.shard w legal old.over; stands = old.stands; charged = subst (λ xs. Has xs (slot lane.shard w r)) (sym same) old.charged; windowed = old.windowed });
  owing = λ lane w member. owed_over s r h at reply m lane w legal was member;
}
  where
    on : (n w : ℕ) (lane : LaneId) → lane.shard ≡ n → RunsFinal h lane w → RunsFinal (Ended at reply m ∷ h) lane w
    on n w lane shard runs =
        elim (cases_Bool (same_lane at lane)) [
          | inl is ↦ absurd (none w (subst (λ l. RunsFinal h l w) (sym (same_lane-true at lane is)) runs))
          | inr other ↦ runs_other h at reply m lane w other runs
        ]

-- a final call that ends

abbrev final_call : ℕ → ℕ → Call
final_call w k = record { places = []; closing = Some w; moment = k }

record Runs (s : Setting) (h : List Entry) (at : LaneId) (w k : ℕ) : Type 0 where
  runs : is_running h at ≡ true
  last : last_call h at ≡ Some (record { places = []; closing = Some w; moment = k })

runs_final : (s : Setting) (h : List Entry) (at : LaneId) (w k : ℕ) → Runs s h at w k → RunsFinal h at w
runs_final s h at w k is = record { runs = is.runs; call = record { places = []; closing = Some w; moment = k }; last = is.last; of_window = refl }

abbrev held : ℕ → LaneId → ℕ → Slot
held r at w = slot at.shard w r

abbrev ruled : Setting → List Entry → LaneId → ℕ → Reply → Verdict
ruled s h at w reply = ruling s.config 0 (window_tries s h at.shard w) (reading s.config [] true reply)

ruled_is : (s : Setting) (h : List Entry) (at : LaneId) (w k : ℕ) (reply : Reply) → Runs s h at w k → verdict_after s h at reply ≡ ruled s h at w reply
ruled_is s h at w k reply is = ap (λ o. verdict_on s h at.shard o reply) is.last

-- what ends the window
abbrev Ends : Rest → Type 0
Ends r = (r ≡ rest.Nothing) ⊎ (r ≡ rest.Exhausted)

rest_closes : (r : Rest) (xs : List ℕ) (w t : ℕ) → Ends r → In (closes (rest_debts r xs (Some w) t)) w
rest_closes r xs w t (inl is) = rw is (In-here w [] w refl)
rest_closes r xs w t (inr is) = rw is (subst (λ ws. In ws w) (sym (closes_append (give_up_debts xs) (close_debts (Some w)) ∙ ap (λ ws. ws ++ closes (close_debts (Some w))) (closes_give_up xs))) (In-here w [] w refl))

owes_end : (s : Setting) (h : List Entry) (at : LaneId) (w k : ℕ) (reply : Reply) (m : ℕ) → Runs s h at w k → Ends (verdict_after s h at reply).rest → In (closes (debts s (Ended at reply m ∷ h) at)) w
owes_end s h at w k reply m is ending =
    let v = verdict_after s h at reply in
    let first = success_debts (take v.succeeded []) (new_state s at.shard (final_call w k) reply) in
    let more = rest_debts v.rest (drop v.succeeded []) (Some w) (window_tries s h at.shard w) in
    subst (λ ds. In (closes ds) w) (sym (debts_ended s at reply m h ∙ ap (λ o. call_debts s h at o reply) is.last))
    (subst (λ ws. In ws w) (sym (closes_append first more ∙ ap (λ ws. ws ++ closes more) (closes_success (take v.succeeded []) (new_state s at.shard (final_call w k) reply))))
    (rest_closes v.rest (drop v.succeeded []) w (window_tries s h at.shard w) ending))

record Gains (s : Setting) (r : ℕ) (h : List Entry) (at : LaneId) (w : ℕ) (e : Entry) (gained : List Slot) : Type 0 where
  meant : (x : Slot) → Has gained x → IsFinalSpent s r (e ∷ h) x
  apart : AllApart (gained ++ removed (is_slot (held r at w)) (final_spent s r h))

gains_none : (s : Setting) (r : ℕ) (h : List Entry) (at : LaneId) (w : ℕ) (e : Entry) → FinalCharged s r h → Gains s r h at w e []
gains_none s r h at w e was = record { meant = λ x has. absurd has; apart = removed-apart (is_slot (held r at w)) (final_spent s r h) was.apart }

gains_one : (s : Setting) (r : ℕ) (h : List Entry) (at : LaneId) (w : ℕ) (e : Entry) (x : Slot) → FinalCharged s r h → IsFinalSpent s r (e ∷ h) x → (Has (removed (is_slot (held r at w)) (final_spent s r h)) x → ⊥) → Gains s r h at w e (x ∷ [])
gains_one s r h at w e x was is fresh = record {
  meant = λ y has. elim has [ inl same ↦ subst (IsFinalSpent s r (e ∷ h)) same is | inr none ↦ absurd none ];
  apart = (fresh, removed-apart (is_slot (held r at w)) (final_spent s r h) was.apart);
}

held_gone : (s : Setting) (r : ℕ) (h : List Entry) (at : LaneId) (w : ℕ) → FinalCharged s r h → Has (removed (is_slot (held r at w)) (final_spent s r h)) (held r at w) → ⊥
held_gone s r h at w was = removed-gone (is_slot (held r at w)) (held r at w) (final_spent s r h) (λ x is. is_slot-true (held r at w) x is) (is_slot-refl (held r at w)) was.apart

gains_held : (s : Setting) (r : ℕ) (h : List Entry) (at : LaneId) (w k : ℕ) (reply : Reply) (m : ℕ) → Legal s h → Runs s h at w k → FinalCharged s r h → Ends (ruled s h at w reply).rest → Gains s r h at w (Ended at reply m) (held r at w ∷ [])
gains_held s r h at w k reply m legal is was ending =
    let own = was.running at w (runs_final s h at w k is) in
    gains_one s r h at w (Ended at reply m) (held r at w) was
    (record {
      windowed = own.windowed;
      window = stated_window s h legal at.shard w own.stands;
      small = omega arith;
      tried = λ low. absurd (omega (arith, low));
      ending = λ last. inr (record { lane = at; shard = refl; closing = inr (owes_end s h at w k reply m is (subst (λ (v : Verdict). Ends v.rest) (sym (ruled_is s h at w k reply is)) ending)) });
    })
    (held_gone s r h at w was)

counted_once : (s : Setting) (h : List Entry) (at : LaneId) (w k : ℕ) (reply : Reply) (m : ℕ) → Runs s h at w k → (ruled s h at w reply).rest ≡ rest.Counted → window_tries_sum s (Ended at reply m ∷ h) at.shard w ≡ suc (window_tries_sum s h at.shard w)
counted_once s h at w k reply m is counted =
    (let counts : counts_in_final_call s at.shard (last_call h at) w (window_tries_sum s h at.shard w) reply ≡ true =
    ap (λ o. counts_in_final_call s at.shard o w (window_tries_sum s h at.shard w) reply) is.last ∙ and_from (w == w) (is_counted (ruled s h at w reply).rest) (eq-eqb w w refl) (ap is_counted counted) in
    rw (eq-eqb at.shard at.shard refl, counts) refl)

gains_try : (s : Setting) (r : ℕ) (h : List Entry) (at : LaneId) (w k : ℕ) (reply : Reply) (m : ℕ) → r ≤ MAX_RETRIES → Legal s h → Runs s h at w k → FinalCharged s r h → (ruled s h at w reply).rest ≡ rest.Counted → window_tries s h at.shard w + 1 ≤ r
    → Gains s r h at w (Ended at reply m) (slot at.shard w (window_tries s h at.shard w) ∷ [])
gains_try s r h at w k reply m within legal is was counted few =
    let own = was.running at w (runs_final s h at w k is) in
    gains_one s r h at w (Ended at reply m) (slot at.shard w (window_tries s h at.shard w)) was
    (record {
      windowed = own.windowed;
      window = stated_window s h legal at.shard w own.stands;
      small = omega (arith, few);
      tried = λ low. inr (
          let le : window_tries s h at.shard w ≤ window_tries_sum s h at.shard w = capped_le (window_tries_sum s h at.shard w) in
          let more : window_tries_sum s (Ended at reply m ∷ h) at.shard w ≡ suc (window_tries_sum s h at.shard w) = counted_once s h at w k reply m is counted in
          omega (arith, le, more));
      ending = λ last. absurd (omega (arith, few, last));
    })
    (λ has. elim ((was.meant (slot at.shard w (window_tries s h at.shard w)) (removed-Has (is_slot (held r at w)) (final_spent s r h) (slot at.shard w (window_tries s h at.shard w)) has)).tried (omega (arith, few))) [
      | inl gone ↦ not_gone (kept_state s h at.shard w) gone.gone own.stands
      | inr low ↦ capped_high (window_tries_sum s h at.shard w) r few within low
    ])

gains : (s : Setting) (r : ℕ) (h : List Entry) (at : LaneId) (w k : ℕ) (reply : Reply) (m : ℕ) → r ≤ MAX_RETRIES → Legal s h → Runs s h at w k → FinalCharged s r h
    → (left : Rest) → (ruled s h at w reply).rest ≡ left → FollowsFinal r (window_tries s h at.shard w) left → Gains s r h at w (Ended at reply m) (final_outcome r at.shard w (window_tries s h at.shard w) left)
gains s r h at w k reply m within legal is was rest.Again ruled_so follows = gains_none s r h at w (Ended at reply m) was
gains s r h at w k reply m within legal is was rest.Nothing ruled_so follows = gains_held s r h at w k reply m legal is was (inl ruled_so)
gains s r h at w k reply m within legal is was rest.Exhausted ruled_so follows = gains_held s r h at w k reply m legal is was (inr ruled_so)
gains s r h at w k reply m within legal is was (rest.Split j) ruled_so follows = absurd follows
gains s r h at w k reply m within legal is was rest.Counted ruled_so follows = gains_try s r h at w k reply m within legal is was ruled_so follows

spent_now : (s : Setting) (r : ℕ) (h : List Entry) (at : LaneId) (w k : ℕ) (reply : Reply) (m : ℕ) → Runs s h at w k
    → final_spent s r (Ended at reply m ∷ h) ≡ final_outcome r at.shard w (window_tries s h at.shard w) (ruled s h at w reply).rest ++ removed (is_slot (held r at w)) (final_spent s r h)
spent_now s r h at w k reply m is = ap (λ o. final_after_end s r h at.shard o reply (final_spent s r h)) is.last

pub final_ends : (s : Setting) (r : ℕ) (h : List Entry) (at : LaneId) (reply : Reply) (m w k : ℕ) → HasStreamFields s.config → s.config.retries ≡ Some r → r ≤ MAX_RETRIES → Legal s (Ended at reply m ∷ h)
    → last_call h at ≡ Some (record { places = []; closing = Some w; moment = k }) → FinalCharged s r h → FinalCharged s r (Ended at reply m ∷ h)
final_ends s r h at reply m w k fields finite within legal last was = record {
  apart = subst AllApart (sym (spent_now s r h at w k reply m is)) new.apart;
  meant = λ x has. meant x (split_Has (final_outcome r at.shard w (window_tries s h at.shard w) (ruled s h at w reply).rest) (removed (is_slot (held r at w)) (final_spent s r h)) x (subst (λ xs. Has xs x) (spent_now s r h at w k reply m is) has));
  running = running;
  owing = λ lane v member. owed_over s r h at reply m lane v legal was member;
}
  where
    is : Runs s h at w k
    is = record { runs = legal.1.1; last = last }

    new : Gains s r h at w (Ended at reply m) (final_outcome r at.shard w (window_tries s h at.shard w) (ruled s h at w reply).rest)
    new = gains s r h at w k reply m within legal.0 is was (ruled s h at w reply).rest refl (final_follows s.config r (window_tries s h at.shard w) (reading s.config [] true reply) finite (reading_final s.config [] reply))

    on : (x : Slot) → Has (removed (is_slot (held r at w)) (final_spent s r h)) x → x.number ≡ r → (lane : LaneId) → lane.shard ≡ x.shard → RunsFinal h lane x.place → RunsFinal (Ended at reply m ∷ h) lane x.place
    on x has number lane shard runs =
        elim (cases_Bool (same_lane at lane)) [
          | inl same ↦ (
              let here : at ≡ lane = same_lane-true at lane same in
              let call_is : final_call w k ≡ runs.call = same_Some (final_call w k) runs.call (sym last ∙ subst (λ l. last_call h l ≡ Some runs.call) (sym here) runs.last) in
              let window : w ≡ x.place = same_Some w x.place (ap (λ (c : Call). c.closing) call_is ∙ runs.of_window) in
              let same_slot : x ≡ held r at w = slot_from x (held r at w) (sym shard ∙ ap (λ (l : LaneId). l.shard) (sym here)) (sym window) number in
              absurd (held_gone s r h at w was (subst (λ y. Has (removed (is_slot (held r at w)) (final_spent s r h)) y) same_slot has)))
          | inr other ↦ runs_other h at reply m lane x.place other runs
        ]

    meant : (x : Slot) → Has (final_outcome r at.shard w (window_tries s h at.shard w) (ruled s h at w reply).rest) x ⊎ Has (removed (is_slot (held r at w)) (final_spent s r h)) x → IsFinalSpent s r (Ended at reply m ∷ h) x
    meant x (inl has) = new.meant x has
    meant x (inr has) = final_stays s r h (Ended at reply m) x legal was.owing (λ number. on x has number) (was.meant x (removed-Has (is_slot (held r at w)) (final_spent s r h) x has))

    other_slot : (lane : LaneId) (v : ℕ) → same_lane at lane ≡ false → RunsFinal h lane v → has_windows s.config ≡ true → is_slot (held r at w) (slot lane.shard v r) ≡ false
    other_slot lane v other runs has = false_from_ne_true (is_slot (held r at w) (slot lane.shard v r)) (λ same.
        let e : slot lane.shard v r ≡ held r at w = is_slot-true (held r at w) (slot lane.shard v r) same in
        let shard : at.shard ≡ lane.shard = ap (λ (x : Slot). x.shard) (sym e) in
        let lanes : at ≡ lane = lanes_alone s at lane fields has (running_low s h legal.0 at legal.1.1) (running_low s h legal.0 lane runs.runs) shard in
        both_ways (same_lane at lane) other (subst (λ l. same_lane at l ≡ true) lanes (same_lane-refl at)))

    running : (lane : LaneId) (v : ℕ) → RunsFinal (Ended at reply m ∷ h) lane v → IsFinalCall s r (Ended at reply m ∷ h) lane v
    running lane v runs =
        let before = ran_before h at reply m lane v runs in
        let old = was.running lane v before.1 in
        record {
          over = over_stays s h (Ended at reply m) lane.shard v legal old.over;
          stands = old.stands;
          charged = subst (λ xs. Has xs (slot lane.shard v r)) (sym (spent_now s r h at w k reply m is))
              (Has-right (final_outcome r at.shard w (window_tries s h at.shard w) (ruled s h at w reply).rest) (removed (is_slot (held r at w)) (final_spent s r h)) (slot lane.shard v r)
              (removed-kept (is_slot (held r at w)) (final_spent s r h) (slot lane.shard v r) old.charged (other_slot lane v before.0 before.1 old.windowed)));
          windowed = old.windowed;
        }
