-- What final calls spend: of each window one slot a failed call, and one for its end. A final call that began holds the slot
-- of the end. Only this crate's proofs cite this.
use Rattle.std.proofs.Common.{◌≡◌, ℕ, ◌<◌, ◌≤◌, Bool, true, false, ◌&&◌, List, [], ◌∷◌, ◌++◌, drop, refl, sym, ap, ◌∙◌, subst, ◌⊎◌, inl, inr, arith, Option, Some, None}
use Rattle.std.specs.Prelude.{◌==◌, is_some, if◌then◌else◌}
use Rattle.std.proofs.lemmas.Bool.{cases_Bool, and_parts, and_from, or_cases, eqb-true, eq-eqb, not-true}
use Rattle.esm_model.specs.Lane.{same_lane}
use Rattle.esm_model.specs.declared.lane.LaneId.{LaneId}
use Rattle.esm_model.specs.declared.entry.Reply.{Reply}
use Rattle.esm_model.specs.declared.entry.Fate.TheVariants.{Succeeded, Filtered, Expired, Exhausted}
use Rattle.esm_model.specs.declared.entry.WindowState.{WindowState}
use Rattle.esm_model.specs.declared.entry.Entry.{Entry}
use Rattle.esm_model.specs.declared.entry.Entry.TheVariants.{Came, Began, Ended, Gave, Tried, Closed, Replayed, Shut}
use Rattle.esm_model.specs.declared.verdict.Rest.{Rest}
use Rattle.esm_model.specs.declared.verdict.Rest.TheVariants as rest
use Rattle.esm_model.specs.Valid.{HasStreamFields}
use Rattle.esm_model.specs.Setting.{Setting}
use Rattle.esm_model.specs.Entries.{Call, is_running, last_call, last_moment}
use Rattle.esm_model.specs.Tries.{tries_of, call_verdict, window_tries_sum}
use Rattle.esm_model.specs.Owed.{Debt, Success, GiveUp, Try, Close, debts, debt_entry, pays, IsOwed}
use Rattle.esm_model.specs.Windows.{has_windows, kept_state, text_for}
use Rattle.esm_model.specs.Step.{Legal}
use Rattle.esm_model.proofs.Lists.{In, In-none, In-cases, In-here, In-there}
use Rattle.esm_model.proofs.Steps.{lane_from}
use Rattle.esm_model.proofs.Debts.{first_debt, debt_paid}
use Rattle.esm_model.proofs.Sound.{same_lane-true, sound}
use Rattle.esm_history.proofs.Finite.{Has, AllApart, removed}
use Rattle.esm_history.proofs.Spent.{Slot, slot, is_slot}
use Rattle.esm_history.proofs.Windows.{IsOver, IsGone, IsWindow, over_stays}

-- with r retries: the numbers below r are of failed calls, and r is of the end

abbrev pub final_outcome : (r n w tries : ℕ) → Rest → List Slot
final_outcome r n w tries rest.Again = []
final_outcome r n w tries rest.Counted = slot n w tries ∷ []
final_outcome r n w tries rest.Nothing = slot n w r ∷ []
final_outcome r n w tries rest.Exhausted = slot n w r ∷ []
final_outcome r n w tries (rest.Split k) = slot n w r ∷ []

abbrev pub final_after_call : Option ℕ → Setting → (r n : ℕ) → (tries : ℕ) → Rest → List Slot → List Slot
final_after_call None s r n tries left before = before
final_after_call (Some w) s r n tries left before = final_outcome r n w tries left ++ removed (is_slot (slot n w r)) before

abbrev pub final_after_end : Setting → ℕ → List Entry → ℕ → Option Call → Reply → List Slot → List Slot
final_after_end s r h n None reply before = before
final_after_end s r h n (Some call) reply before = final_after_call call.closing s r n (tries_of s h n call) (call_verdict s n call (tries_of s h n call) reply).rest before

abbrev pub final_spent_after : Setting → ℕ → List Entry → List Slot → Entry → List Slot
final_spent_after s r h before (Began lane places (Some w) m) = slot lane.shard w r ∷ before
final_spent_after s r h before (Ended lane reply m) = final_after_end s r h lane.shard (last_call h lane) reply before
final_spent_after s r h before _ = before

-- the slots that the final calls of the history spent or hold
abbrev pub final_spent : Setting → ℕ → List Entry → List Slot
final_spent s r [] = []
final_spent s r (e ∷ h) = final_spent_after s r h (final_spent s r h) e

-- the lane runs a final call of the window
pub record RunsFinal (h : List Entry) (lane : LaneId) (w : ℕ) : Type 0 where
  pub runs : is_running h lane ≡ true
  pub call : Call
  pub last : last_call h lane ≡ Some call
  pub of_window : call.closing ≡ Some w

-- the windows that the debts close
abbrev pub closes : List Debt → List ℕ
closes [] = []
closes (Close w ∷ ds) = w ∷ closes ds
closes (Success places state ∷ ds) = closes ds
closes (GiveUp places ∷ ds) = closes ds
closes (Try places closing tries ∷ ds) = closes ds

-- a lane of the shard runs such a call, or owes the window its end
pub record IsClosing (s : Setting) (h : List Entry) (n w : ℕ) : Type 0 where
  pub lane : LaneId
  pub shard : lane.shard ≡ n
  pub closing : RunsFinal h lane w ⊎ In (closes (debts s h lane)) w

pub record IsFinalSpent (s : Setting) (r : ℕ) (h : List Entry) (x : Slot) : Type 0 where
  pub windowed : has_windows s.config ≡ true
  pub window : IsWindow s h x.shard x.place
  pub small : x.number ≤ r
  pub tried : x.number < r → IsGone s h x.shard x.place ⊎ (x.number < window_tries_sum s h x.shard x.place)
  pub ending : x.number ≡ r → IsGone s h x.shard x.place ⊎ IsClosing s h x.shard x.place

-- a final call that runs: its window is over and has its state, and it holds the slot of the end
pub record IsFinalCall (s : Setting) (r : ℕ) (h : List Entry) (lane : LaneId) (w : ℕ) : Type 0 where
  pub over : IsOver s h lane.shard w
  pub stands : is_some (kept_state s h lane.shard w) ≡ true
  pub charged : Has (final_spent s r h) (slot lane.shard w r)
  pub windowed : has_windows s.config ≡ true

pub record FinalCharged (s : Setting) (r : ℕ) (h : List Entry) : Type 0 where
  pub apart : AllApart (final_spent s r h)
  pub meant : (x : Slot) → Has (final_spent s r h) x → IsFinalSpent s r h x
  pub running : (lane : LaneId) (w : ℕ) → RunsFinal h lane w → IsFinalCall s r h lane w
  pub owing : (lane : LaneId) (w : ℕ) → In (closes (debts s h lane)) w → IsOver s h lane.shard w

-- with tumbling windows a shard has one lane

one_factor : (s : Setting) → HasStreamFields s.config → has_windows s.config ≡ true → s.config.factor ≡ 1
one_factor s fields has =
    elim (or_cases (s.config.tumbling_ms == 0) (s.config.factor == 1) fields.one_lane) [
      | inl none ↦ (let clash : (s.config.tumbling_ms == 0) ≡ false = not-true (s.config.tumbling_ms == 0) has in cc)
      | inr one ↦ eqb-true s.config.factor 1 one
    ]

pub lanes_alone : (s : Setting) (a b : LaneId) → HasStreamFields s.config → has_windows s.config ≡ true → a.lane < s.config.factor → b.lane < s.config.factor → a.shard ≡ b.shard → a ≡ b
lanes_alone s a b fields has low_a low_b shard =
    (let one : s.config.factor ≡ 1 = one_factor s fields has in lane_from a b shard (omega (arith, one, low_a, low_b)))

-- what closes

-- a lane that owes anything had a call
abbrev pub OwesNothing : Setting → List Entry → LaneId → Type 0
OwesNothing s h lane = (debts s h lane ≡ []) ⊎ (lane.lane < s.config.factor)

less_owed : (b : Bool) (ds : List Debt) (P : Type 0) → (ds ≡ []) ⊎ P → ((if b then drop 1 ds else ds) ≡ []) ⊎ P
less_owed true ds P (inl none) = inl (ap (drop 1) none)
less_owed false ds P (inl none) = inl none
less_owed b ds P (inr low) = inr low

pub running_low : (s : Setting) (h : List Entry) → Legal s h → (lane : LaneId) → is_running h lane ≡ true → lane.lane < s.config.factor
running_low s [] legal lane runs = cc
running_low s (Began at places None m ∷ h) legal lane runs =
    elim (cases_Bool (same_lane at lane)) [
      | inl same ↦ subst (λ (l : LaneId). l.lane < s.config.factor) (same_lane-true at lane same) legal.1.1.call.below_factor
      | inr other ↦ running_low s h legal.0 lane (rw other at runs)
    ]
running_low s (Began at places (Some w) m ∷ h) legal lane runs =
    elim (cases_Bool (same_lane at lane)) [
      | inl same ↦ subst (λ (l : LaneId). l.lane < s.config.factor) (same_lane-true at lane same) legal.1.1.call.below_factor
      | inr other ↦ running_low s h legal.0 lane (rw other at runs)
    ]
running_low s (Ended at reply m ∷ h) legal lane runs =
    elim (cases_Bool (same_lane at lane)) [
      | inl same ↦ (let clash : false ≡ true = rw same at runs in cc)
      | inr other ↦ running_low s h legal.0 lane (rw other at runs)
    ]
running_low s (Came n first count m ∷ h) legal lane runs = running_low s h legal.0 lane runs
running_low s (Gave by n places f line state m ∷ h) legal lane runs = running_low s h legal.0 lane runs
running_low s (Tried at places c t m ∷ h) legal lane runs = running_low s h legal.0 lane runs
running_low s (Closed at w m ∷ h) legal lane runs = running_low s h legal.0 lane runs
running_low s (Replayed n places m ∷ h) legal lane runs = running_low s h legal.0 lane runs
running_low s (Shut m ∷ h) legal lane runs = running_low s h legal.0 lane runs

pub owes_low : (s : Setting) (h : List Entry) → Legal s h → (lane : LaneId) → OwesNothing s h lane
owes_low s [] legal lane = inl refl
owes_low s (Began at places c m ∷ h) legal lane = elim (cases_Bool (same_lane at lane)) [ inl same ↦ inl (rw same refl) | inr other ↦ rw other (owes_low s h legal.0 lane) ]
owes_low s (Ended at reply m ∷ h) legal lane =
    elim (cases_Bool (same_lane at lane)) [
      | inl same ↦ inr (running_low s h legal.0 lane (subst (λ l. is_running h l ≡ true) (same_lane-true at lane same) legal.1.1))
      | inr other ↦ rw other (owes_low s h legal.0 lane)
    ]
owes_low s (Came n first count m ∷ h) legal lane = owes_low s h legal.0 lane
owes_low s (Gave by n places f line state m ∷ h) legal lane = less_owed (pays lane (debts s h lane) (Gave by n places f line state m)) (debts s h lane) (lane.lane < s.config.factor) (owes_low s h legal.0 lane)
owes_low s (Tried at places c t m ∷ h) legal lane = less_owed (pays lane (debts s h lane) (Tried at places c t m)) (debts s h lane) (lane.lane < s.config.factor) (owes_low s h legal.0 lane)
owes_low s (Closed at w m ∷ h) legal lane = less_owed (pays lane (debts s h lane) (Closed at w m)) (debts s h lane) (lane.lane < s.config.factor) (owes_low s h legal.0 lane)
owes_low s (Replayed n places m ∷ h) legal lane = owes_low s h legal.0 lane
owes_low s (Shut m ∷ h) legal lane = owes_low s h legal.0 lane

pub closes_none : (s : Setting) (h : List Entry) (lane : LaneId) (w : ℕ) → debts s h lane ≡ [] → In (closes (debts s h lane)) w → ⊥
closes_none s h lane w none member = In-none w (subst (λ ds. In (closes ds) w) none member)

pub closes_less : (b : Bool) (ds : List Debt) (w : ℕ) → In (closes (if b then drop 1 ds else ds)) w → In (closes ds) w
closes_less false ds w member = member
closes_less true [] w member = member
closes_less true (Close v ∷ ds) w member = In-there v (closes ds) w member
closes_less true (Success places state ∷ ds) w member = member
closes_less true (GiveUp places ∷ ds) w member = member
closes_less true (Try places closing t ∷ ds) w member = member

-- the window of the debt that an entry brings

closed_window : (s : Setting) (h : List Entry) (at : LaneId) (m w k : ℕ) (d : Debt) → debt_entry s h at k d ≡ Closed at w m → d ≡ Close w
closed_window s h at m w k (Close v) is = (let same : v ≡ w = cc in ap (λ z. Close z) same)
closed_window s h at m w k (Success places state) is = cc
closed_window s h at m w k (GiveUp places) is = cc
closed_window s h at m w k (Try places closing t) is = cc

-- a `Closed` brings the end of a window that its lane owes
pub closed_owed : (s : Setting) (h : List Entry) (at : LaneId) (w m : ℕ) → IsOwed s h at (Closed at w m) → In (closes (debts s h at)) w
closed_owed s h at w m owed =
    let first = first_debt s h at (Closed at w m) owed in
    let is : first.first ≡ Close w = closed_window s h at m w (last_moment h) first.first first.brings in
    subst (λ ds. In (closes ds) w) (sym (first.parts ∙ ap (λ d. d ∷ drop 1 (debts s h at)) is)) (In-here w (closes (drop 1 (debts s h at))) w refl)

closes_first : (d : Debt) (ds : List Debt) (w : ℕ) → In (closes (d ∷ ds)) w → (d ≡ Close w) ⊎ In (closes ds) w
closes_first (Close v) ds w member = elim (In-cases v (closes ds) w member) [ inl same ↦ inl (ap (λ z. Close z) same) | inr there ↦ inr there ]
closes_first (Success places state) ds w member = inr member
closes_first (GiveUp places) ds w member = inr member
closes_first (Try places closing t) ds w member = inr member

-- what a lane is to close stays so, or the entry brings it
abbrev StaysClosing : Setting → List Entry → Entry → LaneId → ℕ → Type 0
StaysClosing s h e lane w = In (closes (debts s (e ∷ h) lane)) w ⊎ (debt_entry s h lane (last_moment h) (Close w) ≡ e)

paid_closes : (s : Setting) (h : List Entry) (at lane : LaneId) (e : Entry) (w : ℕ) → same_lane at lane ≡ true → IsOwed s h at e → In (closes (debts s h lane)) w → StaysClosing s h e lane w
paid_closes s h at lane e w same owed member = subst (λ l. In (closes (debts s h l)) w → StaysClosing s h e l w) (same_lane-true at lane same) own member
  where
    own : In (closes (debts s h at)) w → StaysClosing s h e at w
    own there =
        let first = first_debt s h at e owed in
        elim (closes_first first.first (drop 1 (debts s h at)) w (subst (λ ds. In (closes ds) w) first.parts there)) [
          | inl is ↦ inr (ap (debt_entry s h at (last_moment h)) (sym is) ∙ first.brings)
          | inr rest ↦ inl (subst (λ ds. In (closes ds) w) (sym (debt_paid s h at e owed)) rest)
        ]

pub stays_closing : (s : Setting) (h : List Entry) (e : Entry) (lane : LaneId) (w : ℕ) → Legal s (e ∷ h) → In (closes (debts s h lane)) w → StaysClosing s h e lane w
stays_closing s h (Came n first count m) lane w legal member = inl member
stays_closing s h (Replayed n places m) lane w legal member = inl member
stays_closing s h (Shut m) lane w legal member = inl member
stays_closing s h (Began at places None m) lane w legal member = absurd (closes_none s h lane w (legal.1.1.call.settled.paid lane) member)
stays_closing s h (Began at places (Some v) m) lane w legal member = absurd (closes_none s h lane w (legal.1.1.call.settled.paid lane) member)
stays_closing s h (Ended at reply m) lane w legal member =
    elim (cases_Bool (same_lane at lane)) [
      | inl same ↦ absurd (closes_none s h lane w ((sound s h legal.0 lane).quiet (subst (λ l. is_running h l ≡ true) (same_lane-true at lane same) legal.1.1)) member)
      | inr other ↦ inl (rw other member)
    ]
stays_closing s h (Gave None n places f line state m) lane w legal member = inl member
stays_closing s h (Gave (Some at) n places Filtered line state m) lane w legal member = absurd legal.1.1
stays_closing s h (Gave (Some at) n places Expired line state m) lane w legal member = absurd (closes_none s h lane w (legal.1.1.settled.paid lane) member)
stays_closing s h (Gave (Some at) n places Succeeded line state m) lane w legal member =
    elim (cases_Bool (same_lane at lane)) [ inl same ↦ paid_closes s h at lane (Gave (Some at) n places Succeeded line state m) w same legal.1.1 member | inr other ↦ inl (rw other member) ]
stays_closing s h (Gave (Some at) n places Exhausted line state m) lane w legal member =
    elim (cases_Bool (same_lane at lane)) [ inl same ↦ paid_closes s h at lane (Gave (Some at) n places Exhausted line state m) w same legal.1.1 member | inr other ↦ inl (rw other member) ]
stays_closing s h (Tried at places c t m) lane w legal member =
    elim (cases_Bool (same_lane at lane)) [ inl same ↦ paid_closes s h at lane (Tried at places c t m) w same legal.1.1 member | inr other ↦ inl (rw other member) ]
stays_closing s h (Closed at v m) lane w legal member =
    elim (cases_Bool (same_lane at lane)) [ inl same ↦ paid_closes s h at lane (Closed at v m) w same legal.1.1 member | inr other ↦ inl (rw other member) ]

-- once it is closed the window is gone
pub closed_gone : (s : Setting) (r : ℕ) (h : List Entry) (e : Entry) (lane : LaneId) (w : ℕ) → Legal s (e ∷ h) → IsOver s h lane.shard w → debt_entry s h lane (last_moment h) (Close w) ≡ e → IsGone s (e ∷ h) lane.shard w
closed_gone s r h e lane w legal over is = record {
  over = over_stays s h e lane.shard w legal over;
  gone = subst (λ x. kept_state s (x ∷ h) lane.shard w ≡ None) is (rw (and_from (lane.shard == lane.shard) (w == w) (eq-eqb lane.shard lane.shard refl) (eq-eqb w w refl)) refl);
}

-- a state that stands stays, but for a `Closed`
some_text : (w : ℕ) (o : Option (List ℕ)) (state : Option WindowState) → is_some o ≡ true → is_some (text_for w o state) ≡ true
some_text w o None is = is
some_text w o (Some state) is = elim (cases_Bool (state.window == w)) [ inl same ↦ rw same refl | inr other ↦ rw other is ]

pub stands_gave : (s : Setting) (h : List Entry) (k : ℕ) (state : Option WindowState) (n w : ℕ) → is_some (kept_state s h n w) ≡ true → is_some (if k == n then text_for w (kept_state s h n w) state else kept_state s h n w) ≡ true
stands_gave s h k state n w is = elim (cases_Bool (k == n)) [ inl same ↦ rw same (some_text w (kept_state s h n w) state is) | inr other ↦ rw other is ]

-- a window whose final call runs is closed by no other lane
pub stands_closed : (s : Setting) (r : ℕ) (h : List Entry) (at : LaneId) (v m : ℕ) (lane : LaneId) (w : ℕ) → HasStreamFields s.config → Legal s (Closed at v m ∷ h) → RunsFinal h lane w → has_windows s.config ≡ true → is_some (kept_state s h lane.shard w) ≡ true
    → is_some (if (at.shard == lane.shard) && (v == w) then None else kept_state s h lane.shard w) ≡ true
stands_closed s r h at v m lane w fields legal runs has is =
    elim (cases_Bool ((at.shard == lane.shard) && (v == w))) [
      | inr other ↦ rw other is
      | inl same ↦ (
          let shard : at.shard ≡ lane.shard = eqb-true at.shard lane.shard (and_parts (at.shard == lane.shard) (v == w) same).0 in
          let owed : In (closes (debts s h at)) v = closed_owed s h at v m legal.1.1 in
          let low : at.lane < s.config.factor = elim (owes_low s h legal.0 at) [ inl none ↦ absurd (closes_none s h at v none owed) | inr low ↦ low ] in
          let lanes : at ≡ lane = lanes_alone s at lane fields has low (running_low s h legal.0 lane runs.runs) shard in
          absurd (closes_none s h at v ((sound s h legal.0 at).quiet (subst (λ l. is_running h l ≡ true) (sym lanes) runs.runs)) owed))
    ]
