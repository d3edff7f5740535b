-- What a slot that is spent tells stays. Only this crate's proofs cite this.
use Rattle.std.proofs.Common.{◌≡◌, ℕ, suc, ◌≤◌, Bool, true, false, cond, ◌&&◌, List, [], ◌∷◌, length, refl, sym, ◌∙◌, subst, inl, inr, arith, Option, Some, None}
use Rattle.std.specs.Prelude.{◌==◌, is_none, is_some, slice_index}
use Rattle.esm_model.specs.declared.lane.LaneId.{LaneId}
use Rattle.esm_model.specs.declared.entry.Fate.{Fate}
use Rattle.esm_model.specs.declared.entry.Entry.{Entry}
use Rattle.esm_model.specs.declared.entry.Entry.TheVariants.{Came, Began, Ended, Gave, Tried, Closed, Replayed, Shut}
use Rattle.esm_model.specs.Setting.{Setting}
use Rattle.esm_model.specs.Entries.{came_count, is_running, last_call}
use Rattle.esm_model.specs.Fates.{has_fate}
use Rattle.esm_model.specs.Tries.{mark, tries_sum, counts_in_call}
use Rattle.esm_model.specs.Step.{Legal}
use Rattle.esm_model.proofs.Lists.{In, In-here}
use Rattle.esm_model.proofs.Steps.{came_grows, fated_stays}
use Rattle.esm_history.proofs.Finite.{Has, AllApart}
use Rattle.esm_history.proofs.Spent.{Slot, slot, spent, RunsFirst, IsBusy, IsCut, IsSpent, Charged}
use Rattle.esm_history.proofs.Held.{stays_owed}

-- the first of a list stands in it
pub first_In : (xs : List ℕ) → 1 ≤ length xs → In xs (slice_index xs 0)
first_In [] some = absurd (omega arith)
first_In (x ∷ xs) some = In-here x xs x refl

pub not_both : (o : Option Fate) → is_some o ≡ true → is_none o ≡ true → ⊥
not_both None a b = cc
not_both (Some f) a b = cc

more_or_same : (b : Bool) (k : ℕ) → k ≤ cond b (suc k) k
more_or_same true k = omega arith
more_or_same false k = omega arith

pub tries_grow : (s : Setting) (e : Entry) (h : List Entry) (n i : ℕ) → tries_sum s h n i ≤ tries_sum s (e ∷ h) n i
tries_grow s (Ended lane reply m) h n i = more_or_same ((lane.shard == n) && counts_in_call s n (last_call h lane) (tries_sum s h n) reply i) (tries_sum s h n i)
tries_grow s (Came n' first count m) h n i = omega arith
tries_grow s (Began lane places closing m) h n i = omega arith
tries_grow s (Gave by n' places f line state m) h n i = omega arith
tries_grow s (Tried lane places closing t m) h n i = omega arith
tries_grow s (Closed lane w m) h n i = omega arith
tries_grow s (Replayed n' places m) h n i = omega arith
tries_grow s (Shut m) h n i = omega arith

-- the calls that run with this record first go on
abbrev pub GoesOn : List Entry → Entry → ℕ → ℕ → Type 0
GoesOn h e n i = (lane : LaneId) → lane.shard ≡ n → RunsFirst h lane i → RunsFirst (e ∷ h) lane i

busy_stays : (s : Setting) (h : List Entry) (e : Entry) (n i : ℕ) → Legal s (e ∷ h) → GoesOn h e n i → IsBusy s h n i → IsBusy s (e ∷ h) n i
busy_stays s h e n i legal on (inl fated) = inl (fated_stays s e h n i fated)
busy_stays s h e n i legal on (inr was) =
    elim was.held [
      | inl runs ↦ inr (record { lane = was.lane; shard = was.shard; held = inl (on was.lane was.shard runs) })
      | inr owed ↦ elim (stays_owed s h e was.lane i legal owed) [
        | inl still ↦ inr (record { lane = was.lane; shard = was.shard; held = inr still })
        | inr fated ↦ inl (subst (λ k. has_fate s (e ∷ h) k i ≡ true) was.shard fated)
      ]
    ]

pub spent_stays : (s : Setting) (r : ℕ) (h : List Entry) (e : Entry) (x : Slot) → Legal s (e ∷ h) → (x.number ≡ r → GoesOn h e x.shard x.place) → (IsCut s h x.shard x.place → IsCut s (e ∷ h) x.shard x.place) → IsSpent s r h x → IsSpent s r (e ∷ h) x
spent_stays s r h e x legal on cut was = record {
  came = (let old = was.came in let more : came_count h x.shard ≤ came_count (e ∷ h) x.shard = came_grows e h x.shard in omega (arith, old, more));
  small = was.small;
  tried = λ low. (let old = was.tried low in let more : tries_sum s h x.shard x.place ≤ tries_sum s (e ∷ h) x.shard x.place = tries_grow s e h x.shard x.place in omega (arith, old, more));
  busy = λ last. busy_stays s h e x.shard x.place legal (on last) (was.busy last);
  cut = λ above. cut (was.cut above);
}

-- an entry that begins and ends no call leaves all of it
pub quiet : (s : Setting) (r : ℕ) (h : List Entry) (e : Entry) → Legal s (e ∷ h)
    → spent s r (e ∷ h) ≡ spent s r h
    → ((lane : LaneId) → is_running (e ∷ h) lane ≡ is_running h lane)
    → ((lane : LaneId) → last_call (e ∷ h) lane ≡ last_call h lane)
    → ((n i : ℕ) → mark s (e ∷ h) n i ≡ mark s h n i)
    → Charged s r h → Charged s r (e ∷ h)
quiet s r h e legal same_spent same_run same_call same_mark was = record {
  apart = subst AllApart (sym same_spent) was.apart;
  meant = λ x has. spent_stays s r h e x legal
      (λ last lane shard runs. record { runs = same_run lane ∙ runs.runs; call = runs.call; last = same_call lane ∙ runs.last; of_batch = runs.of_batch; first = runs.first })
      (λ cut j low same. cut j low (sym (same_mark x.shard j) ∙ same ∙ same_mark x.shard x.place))
      (was.meant x (subst (λ xs. Has xs x) same_spent has));
  running = λ lane call runs last. (
      let old = was.running lane call (sym (same_run lane) ∙ runs) (sym (same_call lane) ∙ last) in
      record {
        alike = λ i j a b. same_mark lane.shard i ∙ old.alike i j a b ∙ sym (same_mark lane.shard j);
        some = old.some;
        charged = λ of_batch. subst (λ xs. Has xs (slot lane.shard (slice_index call.places 0) r)) (sym same_spent) (old.charged of_batch);
      });
}
