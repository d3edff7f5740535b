-- A lane over a whole history.
use Rattle.std.proofs.Common.{◌≡◌, ℕ, ◌≤◌, Bool, true, false, cond, ◌&&◌, List, [], ◌∷◌, ◌++◌, length, drop, refl, sym, ap, ◌∙◌, subst, inl, inr, Option, Some, None, arith}
use Rattle.std.specs.Prelude.{◌==◌, filter}
use Rattle.std.proofs.lemmas.Bool.{cases_Bool, eqb-true}
use Rattle.esm_model.specs.Lane.{same_lane}
use Rattle.esm_model.specs.declared.lane.LaneId.{LaneId}
use Rattle.esm_model.specs.declared.entry.Fate.TheVariants.{Succeeded, Filtered, Expired, Exhausted}
use Rattle.esm_model.specs.declared.entry.Reply.{Reply}
use Rattle.esm_model.specs.declared.entry.WindowState.{WindowState}
use Rattle.esm_model.specs.declared.entry.Entry.{Entry}
use Rattle.esm_model.specs.declared.entry.Entry.TheVariants.{Came, Began, Ended, Gave, Tried, Closed, Replayed, Shut}
use Rattle.esm_model.specs.Setting.{Setting, is_in_lane}
use Rattle.esm_model.specs.Entries.{came_count, is_running}
use Rattle.esm_model.specs.Fates.{below, lacks_fate}
use Rattle.esm_model.specs.Tries.{verdict_after}
use Rattle.esm_model.specs.Batches.{failures, last_end}
use Rattle.esm_model.specs.Owed.{Debt, debts, pays}
use Rattle.esm_model.specs.Step.{Legal}
use Rattle.esm_model.proofs.Steps.{came_grows}
use Rattle.esm_model.proofs.Sound.{same_lane-true}
use Rattle.esm_shard_index.specs.LaneView.{empty_view, LaneView, after_began, after_ended, after_expired}
use Rattle.esm_shard_index.specs.LaneHistory.{owed_places, is_passing, IsLane, HasFoundTries}
use Rattle.esm_shard_index.specs.LaneSteps.{after_entry, lane_told}
use Rattle.esm_shard_index.proofs.LaneEntries.{lane_of_other, lane_elsewhere, lane_shut, lane_tried, lane_closed, lane_succeeded, lane_exhausted, lane_filtered}
use Rattle.esm_shard_index.proofs.LaneCalls.{lane_began, lane_began_final, lane_expired}
use Rattle.esm_shard_index.proofs.LaneArrivals.{lane_came}
use Rattle.esm_shard_index.proofs.LaneEnded.{lane_ended}

-- one more entry

came_step : (s : Setting) (h : List Entry) (lane : LaneId) (n first count m : ℕ) (v : LaneView) → HasFoundTries s lane.shard → Legal s (Came n first count m ∷ h) → IsLane s h lane v → IsLane s (Came n first count m ∷ h) lane (after_entry s h lane v (Came n first count m))
came_step s h lane n first count m v some legal is = elim (cases_Bool (n == lane.shard)) [
  | inr other ↦ rw other (lane_elsewhere s h (Came n first count m) lane v other is)
  | inl same ↦ (let e : n ≡ lane.shard = eqb-true n lane.shard same in rw same (lane_came s h lane n first count m v legal e (subst (HasFoundTries s) (sym e) some) is))
]

began_own : (s : Setting) (h : List Entry) (lane : LaneId) (places : List ℕ) (closing : Option ℕ) (m : ℕ) (v : LaneView) → Legal s (Began lane places closing m ∷ h) → IsLane s h lane v → IsLane s (Began lane places closing m ∷ h) lane (after_began (record { count = length places; closing = closing }) v)
began_own s h lane places None m v legal is = lane_began s h lane places m v legal is
began_own s h lane places (Some w) m v legal is = lane_began_final s h lane places w m v legal is

began_step : (s : Setting) (h : List Entry) (at lane : LaneId) (places : List ℕ) (closing : Option ℕ) (m : ℕ) (v : LaneView) → Legal s (Began at places closing m ∷ h) → IsLane s h lane v → IsLane s (Began at places closing m ∷ h) lane (after_entry s h lane v (Began at places closing m))
began_step s h at lane places closing m v legal is = elim (cases_Bool (same_lane at lane)) [
  | inr other ↦ rw other (lane_of_other s h (Began at places closing m) lane v legal other is)
  | inl same ↦ (
      let e : at ≡ lane = same_lane-true at lane same in
      rw same (subst (λ l. IsLane s (Began l places closing m ∷ h) lane (after_began (record { count = length places; closing = closing }) v)) (sym e)
      (began_own s h lane places closing m v (subst (λ l. Legal s (Began l places closing m ∷ h)) e legal) is)))
]

ended_step : (s : Setting) (h : List Entry) (at lane : LaneId) (reply : Reply) (m : ℕ) (v : LaneView) → Legal s (Ended at reply m ∷ h) → IsLane s h lane v → IsLane s (Ended at reply m ∷ h) lane (after_entry s h lane v (Ended at reply m))
ended_step s h at lane reply m v legal is = elim (cases_Bool (same_lane at lane)) [
  | inr other ↦ rw other (lane_of_other s h (Ended at reply m) lane v legal other is)
  | inl same ↦ (
      let e : at ≡ lane = same_lane-true at lane same in
      rw same (subst (λ l. IsLane s (Ended l reply m ∷ h) lane (after_ended (verdict_after s h lane reply) m v)) (sym e)
      (lane_ended s h lane reply m v (subst (λ l. Legal s (Ended l reply m ∷ h)) e legal) is)))
]

tried_step : (s : Setting) (h : List Entry) (at lane : LaneId) (places : List ℕ) (closing : Option ℕ) (t m : ℕ) (v : LaneView) → Legal s (Tried at places closing t m ∷ h) → IsLane s h lane v → IsLane s (Tried at places closing t m ∷ h) lane v
tried_step s h at lane places closing t m v legal is = elim (cases_Bool (same_lane at lane)) [
  | inr other ↦ lane_of_other s h (Tried at places closing t m) lane v legal other is
  | inl same ↦ (
      let e : at ≡ lane = same_lane-true at lane same in
      subst (λ l. IsLane s (Tried l places closing t m ∷ h) lane v) (sym e) (lane_tried s h lane places closing t m v (subst (λ l. Legal s (Tried l places closing t m ∷ h)) e legal) is))
]

closed_step : (s : Setting) (h : List Entry) (at lane : LaneId) (w m : ℕ) (v : LaneView) → Legal s (Closed at w m ∷ h) → IsLane s h lane v → IsLane s (Closed at w m ∷ h) lane v
closed_step s h at lane w m v legal is = elim (cases_Bool (same_lane at lane)) [
  | inr other ↦ lane_of_other s h (Closed at w m) lane v legal other is
  | inl same ↦ (
      let e : at ≡ lane = same_lane-true at lane same in
      subst (λ l. IsLane s (Closed l w m ∷ h) lane v) (sym e) (lane_closed s h lane w m v (subst (λ l. Legal s (Closed l w m ∷ h)) e legal) is))
]

module _ (s : Setting) (h : List Entry) (at lane : LaneId) (n : ℕ) (places : List ℕ) (line : Option (List ℕ)) (state : Option WindowState) (m : ℕ) (v : LaneView) where
  succeeded_step : Legal s (Gave (Some at) n places Succeeded line state m ∷ h) → IsLane s h lane v → IsLane s (Gave (Some at) n places Succeeded line state m ∷ h) lane v
  succeeded_step legal is = elim (cases_Bool (same_lane at lane)) [
    | inr other ↦ lane_of_other s h (Gave (Some at) n places Succeeded line state m) lane v legal other is
    | inl same ↦ (
        let e : at ≡ lane = same_lane-true at lane same in
        subst (λ l. IsLane s (Gave (Some l) n places Succeeded line state m ∷ h) lane v) (sym e) (lane_succeeded s h lane n places line state m v (subst (λ l. Legal s (Gave (Some l) n places Succeeded line state m ∷ h)) e legal) is))
  ]

  exhausted_step : Legal s (Gave (Some at) n places Exhausted line state m ∷ h) → IsLane s h lane v → IsLane s (Gave (Some at) n places Exhausted line state m ∷ h) lane v
  exhausted_step legal is = elim (cases_Bool (same_lane at lane)) [
    | inr other ↦ lane_of_other s h (Gave (Some at) n places Exhausted line state m) lane v legal other is
    | inl same ↦ (
        let e : at ≡ lane = same_lane-true at lane same in
        subst (λ l. IsLane s (Gave (Some l) n places Exhausted line state m ∷ h) lane v) (sym e) (lane_exhausted s h lane n places line state m v (subst (λ l. Legal s (Gave (Some l) n places Exhausted line state m ∷ h)) e legal) is))
  ]

  expired_step : Legal s (Gave (Some at) n places Expired line state m ∷ h) → IsLane s h lane v → IsLane s (Gave (Some at) n places Expired line state m ∷ h) lane (after_entry s h lane v (Gave (Some at) n places Expired line state m))
  expired_step legal is = elim (cases_Bool (same_lane at lane)) [
    | inr other ↦ rw other (lane_of_other s h (Gave (Some at) n places Expired line state m) lane v legal other is)
    | inl same ↦ (
        let e : at ≡ lane = same_lane-true at lane same in
        rw same (subst (λ l. IsLane s (Gave (Some l) n places Expired line state m ∷ h) lane (after_expired (length places) v)) (sym e)
        (lane_expired s h lane n places line state m v (subst (λ l. Legal s (Gave (Some l) n places Expired line state m ∷ h)) e legal) is)))
  ]

pub lane_step : (s : Setting) (h : List Entry) (e : Entry) (lane : LaneId) (v : LaneView) → HasFoundTries s lane.shard → Legal s (e ∷ h) → IsLane s h lane v → IsLane s (e ∷ h) lane (after_entry s h lane v e)
lane_step s h (Came n first count m) lane v some legal is = came_step s h lane n first count m v some legal is
lane_step s h (Began at places closing m) lane v some legal is = began_step s h at lane places closing m v legal is
lane_step s h (Ended at reply m) lane v some legal is = ended_step s h at lane reply m v legal is
lane_step s h (Gave None n places Filtered line state m) lane v some legal is = lane_filtered s h lane n places line state m v legal is
lane_step s h (Gave None n places Succeeded line state m) lane v some legal is = absurd legal.1.1
lane_step s h (Gave None n places Expired line state m) lane v some legal is = absurd legal.1.1
lane_step s h (Gave None n places Exhausted line state m) lane v some legal is = absurd legal.1.1
lane_step s h (Gave (Some at) n places Filtered line state m) lane v some legal is = absurd legal.1.1
lane_step s h (Gave (Some at) n places Succeeded line state m) lane v some legal is = succeeded_step s h at lane n places line state m v legal is
lane_step s h (Gave (Some at) n places Expired line state m) lane v some legal is = expired_step s h at lane n places line state m v legal is
lane_step s h (Gave (Some at) n places Exhausted line state m) lane v some legal is = exhausted_step s h at lane n places line state m v legal is
lane_step s h (Tried at places closing t m) lane v some legal is = tried_step s h at lane places closing t m v legal is
lane_step s h (Closed at w m) lane v some legal is = closed_step s h at lane w m v legal is
lane_step s h (Replayed n places m) lane v some legal is = absurd legal.1.1
lane_step s h (Shut m) lane v some legal is = lane_shut s h m lane v is

-- a lane of a shard that did not come

-- no entry is of it
pub record IsUnused (s : Setting) (h : List Entry) (lane : LaneId) : Type 0 where
  pub rests : is_running h lane ≡ false
  pub owes : debts s h lane ≡ []
  pub failures : failures s h lane ≡ 0
  pub last_end : last_end h lane ≡ 0

emptied : (b : Bool) (ds : List Debt) → ds ≡ [] → cond b (drop 1 ds) ds ≡ []
emptied true ds none = ap (drop 1) none
emptied false ds none = none

unused_began : (s : Setting) (h : List Entry) (at lane : LaneId) (places : List ℕ) (closing : Option ℕ) (m : ℕ) → (at ≡ lane → ⊥) → IsUnused s h lane → IsUnused s (Began at places closing m ∷ h) lane
unused_began s h at lane places closing m other was = elim (cases_Bool (same_lane at lane)) [
  | inl same ↦ absurd (other (same_lane-true at lane same))
  | inr off ↦ record { rests = rw off was.rests; owes = rw off was.owes; failures = was.failures; last_end = was.last_end }
]

unused_ended : (s : Setting) (h : List Entry) (at lane : LaneId) (reply : Reply) (m : ℕ) → is_running h at ≡ true → IsUnused s h lane → IsUnused s (Ended at reply m ∷ h) lane
unused_ended s h at lane reply m runs was = elim (cases_Bool (same_lane at lane)) [
  | inl same ↦ absurd (let e : true ≡ false = sym runs ∙ ap (is_running h) (same_lane-true at lane same) ∙ was.rests in cc)
  | inr off ↦ record { rests = rw off was.rests; owes = rw off was.owes; failures = rw off was.failures; last_end = rw off was.last_end }
]

call_came : (s : Setting) (h : List Entry) (at : LaneId) (places : List ℕ) (closing : Option ℕ) (m : ℕ) → Legal s (Began at places closing m ∷ h) → 1 ≤ came_count h at.shard
call_came s h at places None m legal = legal.1.1.call.came
call_came s h at places (Some w) m legal = legal.1.1.call.came

pub unused : (s : Setting) (h : List Entry) (lane : LaneId) → Legal s h → came_count h lane.shard ≡ 0 → IsUnused s h lane
unused s [] lane legal none = record { rests = refl; owes = refl; failures = refl; last_end = refl }
unused s (Came n first count m ∷ h) lane legal none =
    let grows : came_count h lane.shard ≤ came_count (Came n first count m ∷ h) lane.shard = came_grows (Came n first count m) h lane.shard in
    let was = unused s h lane legal.0 (omega (arith, grows, none)) in record { rests = was.rests; owes = was.owes; failures = was.failures; last_end = was.last_end }
unused s (Began at places closing m ∷ h) lane legal none =
    unused_began s h at lane places closing m (λ same. let some : 1 ≤ came_count h lane.shard = subst (λ l. 1 ≤ came_count h l.shard) same (call_came s h at places closing m legal) in omega (arith, some, none)) (unused s h lane legal.0 none)
unused s (Ended at reply m ∷ h) lane legal none = unused_ended s h at lane reply m legal.1.1 (unused s h lane legal.0 none)
unused s (Gave None n places f line state m ∷ h) lane legal none = (let was = unused s h lane legal.0 none in record { rests = was.rests; owes = was.owes; failures = was.failures; last_end = was.last_end })
unused s (Gave (Some at) n places f line state m ∷ h) lane legal none =
    let was = unused s h lane legal.0 none in
    record { rests = was.rests; owes = emptied (pays lane (debts s h lane) (Gave (Some at) n places f line state m)) (debts s h lane) was.owes; failures = was.failures; last_end = was.last_end }
unused s (Tried at places closing t m ∷ h) lane legal none =
    let was = unused s h lane legal.0 none in
    record { rests = was.rests; owes = emptied (pays lane (debts s h lane) (Tried at places closing t m)) (debts s h lane) was.owes; failures = was.failures; last_end = was.last_end }
unused s (Closed at w m ∷ h) lane legal none =
    let was = unused s h lane legal.0 none in
    record { rests = was.rests; owes = emptied (pays lane (debts s h lane) (Closed at w m)) (debts s h lane) was.owes; failures = was.failures; last_end = was.last_end }
unused s (Replayed n places m ∷ h) lane legal none = absurd legal.1.1
unused s (Shut m ∷ h) lane legal none = (let was = unused s h lane legal.0 none in record { rests = was.rests; owes = was.owes; failures = was.failures; last_end = was.last_end })

pub lane_begins : (s : Setting) (h : List Entry) (lane : LaneId) → Legal s h → came_count h lane.shard ≡ 0 → IsLane s h lane empty_view
lane_begins s h lane legal none =
    let is = unused s h lane legal none in
    record {
      places = ap (λ ds. owed_places ds ++ []) is.owes ∙ sym (ap (λ c. filter (is_passing s lane.shard) (filter (λ i. is_in_lane s lane i && lacks_fate s h lane.shard i) (below c))) none);
      pieces = tt;
      runs = is.rests;
      call = λ r never. absurd cc;
      failures = sym is.failures;
      last_end = sym is.last_end;
    }

-- from the start
pub lane_from_start : (s : Setting) (h : List Entry) (lane : LaneId) → HasFoundTries s lane.shard → Legal s h → IsLane s h lane (lane_told s h lane)
lane_from_start s [] lane some legal = lane_begins s [] lane legal refl
lane_from_start s (e ∷ h) lane some legal = lane_step s h e lane (lane_told s h lane) some legal (lane_from_start s h lane some legal.0)
