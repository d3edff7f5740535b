-- The end of a call gives back the slot that the call held, and spends one that no call had. Only this crate's proofs cite
-- this.
use Rattle.std.proofs.Common.{◌≡◌, ℕ, true, false, List, ◌∷◌, refl, sym, ap, ◌∙◌, subst, inl, inr, Option, Some, None}
use Rattle.std.specs.Prelude.{◌==◌, slice_index}
use Rattle.std.proofs.lemmas.Bool.{cases_Bool, and_from, eq-eqb}
use Rattle.std.proofs.lemmas.Option.{same_Some}
use Rattle.esm_model.specs.Lane.{same_lane}
use Rattle.esm_model.specs.declared.lane.LaneId.{LaneId}
use Rattle.esm_model.specs.declared.entry.Reply.{Reply}
use Rattle.esm_model.specs.declared.entry.Entry.{Entry}
use Rattle.esm_model.specs.declared.entry.Entry.TheVariants.{Ended}
use Rattle.esm_model.specs.Setting.{Setting}
use Rattle.esm_model.specs.Entries.{Call, is_running, last_call, batch_of}
use Rattle.esm_model.specs.Fates.{open_places}
use Rattle.esm_model.specs.Tries.{mark}
use Rattle.esm_model.specs.Step.{Legal}
use Rattle.esm_model.proofs.Lists.{In, In-none}
use Rattle.esm_model.proofs.Steps.{running_ended}
use Rattle.esm_model.proofs.Sound.{open_In, one_lane, same_lane-true}
use Rattle.esm_model.proofs.Paid.{running_In}
use Rattle.esm_history.proofs.Finite.{Has, AllApart}
use Rattle.esm_history.proofs.Spent.{slot, after_end, spent, RunsFirst, Charged}
use Rattle.esm_history.proofs.Marks.{marked_out}
use Rattle.esm_history.proofs.Stays.{spent_stays}
use Rattle.esm_history.proofs.Cuts.{cut_stays}

-- the batch of the lane's call is marked alike

abbrev pub AreAlike : Setting → List Entry → LaneId → List ℕ → Type 0
AreAlike s h lane places = (i j : ℕ) → In places i → In places j → mark s h lane.shard i ≡ mark s h lane.shard j

pub alike_by : (s : Setting) (r : ℕ) (h : List Entry) (at : LaneId) (o : Option Call) → Charged s r h → is_running h at ≡ true → last_call h at ≡ o → AreAlike s h at (batch_of o)
alike_by s r h at None was runs last i j a b = absurd (In-none i a)
alike_by s r h at (Some call) was runs last i j a b = (was.running at call runs last).alike i j a b

-- other lanes

-- an end marks nothing that another lane runs
unmarked : (s : Setting) (h : List Entry) (at lane : LaneId) (reply : Reply) (m i : ℕ) → Legal s h → is_running h at ≡ true → same_lane at lane ≡ false → In (open_places s h lane) i
    → mark s (Ended at reply m ∷ h) lane.shard i ≡ mark s h lane.shard i
unmarked s h at lane reply m i legal runs other is_open =
    rw (marked_out s h at reply m lane.shard i (λ shard member.
    let there : In (open_places s h at) i = running_In s h at legal runs i member in
    let same : at ≡ lane = one_lane s at lane i shard (open_In s h at i there).1 (open_In s h lane i is_open).1 in
    apart_from same)) refl
  where
    apart_from : at ≡ lane → ⊥
    apart_from same = (let clash : same_lane at lane ≡ true = subst (λ l. same_lane at l ≡ true) same (and_from (at.shard == at.shard) (at.lane == at.lane) (eq-eqb at.shard at.shard refl) (eq-eqb at.lane at.lane refl)) in cc)

-- what another lane runs goes on, but for its slot
pub record GoOn (s : Setting) (h : List Entry) (at : LaneId) (e : Entry) (lane : LaneId) (call : Call) : Type 0 where
  pub other : same_lane at lane ≡ false
  pub ran : is_running h lane ≡ true
  pub last : last_call h lane ≡ Some call
  pub alike : AreAlike s (e ∷ h) lane call.places

pub go_on : (s : Setting) (r : ℕ) (h : List Entry) (at : LaneId) (reply : Reply) (m : ℕ) (lane : LaneId) (call : Call) → Legal s h → is_running h at ≡ true → Charged s r h
    → is_running (Ended at reply m ∷ h) lane ≡ true → last_call (Ended at reply m ∷ h) lane ≡ Some call → GoOn s h at (Ended at reply m) lane call
go_on s r h at reply m lane call legal runs was runs_now last_now =
    elim (cases_Bool (same_lane at lane)) [
      | inl same ↦ (let clash : false ≡ true = sym (subst (λ l. is_running (Ended at reply m ∷ h) l ≡ false) (same_lane-true at lane same) (running_ended at reply m h)) ∙ runs_now in cc)
      | inr other ↦ (
          let ran : is_running h lane ≡ true = rw other at runs_now in
          let old = was.running lane call ran last_now in
          let is_open : (i : ℕ) → In call.places i → In (open_places s h lane) i = λ i member. running_In s h lane legal ran i (subst (λ o. In (batch_of o) i) (sym last_now) member) in
          record {
            other = other;
            ran = ran;
            last = last_now;
            alike = λ i j a b. unmarked s h at lane reply m i legal runs other (is_open i a) ∙ old.alike i j a b ∙ sym (unmarked s h at lane reply m j legal runs other (is_open j b));
          })
    ]

-- an end that leaves the slots

still : (s : Setting) (r : ℕ) (h : List Entry) (at : LaneId) (reply : Reply) (m : ℕ) → Legal s (Ended at reply m ∷ h)
    → spent s r (Ended at reply m ∷ h) ≡ spent s r h → ((i : ℕ) → RunsFirst h at i → ⊥) → Charged s r h → Charged s r (Ended at reply m ∷ h)
still s r h at reply m legal same none was = record {
  apart = subst AllApart (sym same) was.apart;
  meant = λ x has. spent_stays s r h (Ended at reply m) x legal (λ last. runs_on x.shard x.place)
      (cut_stays s h at reply m (alike_by s r h at (last_call h at) was legal.1.1 refl) x.shard x.place)
      (was.meant x (subst (λ xs. Has xs x) same has));
  running = λ lane call runs last. (
      let on = go_on s r h at reply m lane call legal.0 legal.1.1 was runs last in
      let old = was.running lane call on.ran on.last in
      record { alike = on.alike; some = old.some; charged = λ of_batch. subst (λ xs. Has xs (slot lane.shard (slice_index call.places 0) r)) (sym same) (old.charged of_batch) });
}
  where
    runs_on : (n i : ℕ) (lane : LaneId) → lane.shard ≡ n → RunsFirst h lane i → RunsFirst (Ended at reply m ∷ h) lane i
    runs_on n i lane shard runs =
        elim (cases_Bool (same_lane at lane)) [
          | inl is ↦ absurd (none i (subst (λ l. RunsFirst h l i) (sym (same_lane-true at lane is)) runs))
          | inr other ↦ record { runs = rw other runs.runs; call = runs.call; last = runs.last; of_batch = runs.of_batch; first = runs.first }
        ]

pub ends_none : (s : Setting) (r : ℕ) (h : List Entry) (at : LaneId) (reply : Reply) (m : ℕ) → Legal s (Ended at reply m ∷ h) → last_call h at ≡ None → Charged s r h → Charged s r (Ended at reply m ∷ h)
ends_none s r h at reply m legal last was =
    still s r h at reply m legal (ap (λ o. after_end s r h at.shard o reply (spent s r h)) last) (λ i runs. (let clash : None ≡ Some runs.call = sym last ∙ runs.last in cc)) was

pub ends_final : (s : Setting) (r : ℕ) (h : List Entry) (at : LaneId) (reply : Reply) (m : ℕ) (places : List ℕ) (w k : ℕ) → Legal s (Ended at reply m ∷ h)
    → last_call h at ≡ Some (record { places = places; closing = Some w; moment = k }) → Charged s r h → Charged s r (Ended at reply m ∷ h)
ends_final s r h at reply m places w k legal last was =
    still s r h at reply m legal (ap (λ o. after_end s r h at.shard o reply (spent s r h)) last)
    (λ i runs. (
    let same : record { places = places; closing = Some w; moment = k } ≡ runs.call = same_Some _ runs.call (sym last ∙ runs.last) in
    let clash : Some w ≡ None = ap (λ (c : Call). c.closing) same ∙ runs.of_batch in
    cc))
    was
