-- The tries of windows' final calls that ends of calls counted and that are not yet noted. Only this crate's proofs cite this.
use Rattle.std.proofs.Common.{◌≡◌, ℕ, suc, ◌+◌, ◌<◌, Bool, true, false, ◌&&◌, List, [], ◌∷◌, ◌++◌, take, drop, refl, sym, ap, ◌∙◌, subst, ◌⊎◌, inl, inr, Option, Some, None}
use Rattle.std.specs.Prelude.{◌==◌, ⊤, if◌then◌else◌}
use Rattle.std.proofs.lemmas.Bool.{cases_Bool, and_parts, and_from, eqb-true, eq-eqb, both_ways}
use Rattle.std.proofs.lemmas.Option.{same_Some}
use Rattle.esm_model.specs.Lane.{same_lane}
use Rattle.esm_model.specs.declared.lane.LaneId.{LaneId}
use Rattle.esm_model.specs.declared.entry.Reply.{Reply}
use Rattle.esm_model.specs.declared.entry.WindowState.{WindowState}
use Rattle.esm_model.specs.declared.entry.Entry.{Entry}
use Rattle.esm_model.specs.declared.entry.Entry.TheVariants.{Came, Began, Ended, Gave, Tried, Closed, Replayed, Shut}
use Rattle.esm_model.specs.declared.verdict.Rest.{Rest}
use Rattle.esm_model.specs.declared.verdict.Rest.TheVariants as rest
use Rattle.esm_model.specs.declared.verdict.Verdict.{Verdict}
use Rattle.esm_model.specs.Valid.{HasStreamFields}
use Rattle.esm_model.specs.Setting.{Setting}
use Rattle.esm_model.specs.Entries.{Call, last_call}
use Rattle.esm_model.specs.Ruling.{capped_tries, is_counted}
use Rattle.esm_model.specs.Tries.{is_closed_by, window_tries, window_tries_sum, counts_in_final_call, tries_of, call_verdict, verdict_on, verdict_after}
use Rattle.esm_model.specs.Owed.{Debt, Success, GiveUp, Try, Close, debts, call_debts, success_debts, give_up_debts, close_debts, rest_debts, new_state, pays}
use Rattle.esm_model.specs.Windows.{has_windows}
use Rattle.esm_model.specs.Step.{Legal}
use Rattle.esm_model.proofs.Lists.{In, In-none, In-here, In-there, In-cases}
use Rattle.esm_model.proofs.Steps.{same_lane-refl, debts_ended}
use Rattle.esm_model.proofs.Sound.{same_lane-true}
use Rattle.esm_history.proofs.OwedTries.{capped_more}
use Rattle.esm_history.proofs.Finals.{closes, lanes_alone, running_low, owes_low, closed_owed}
use Rattle.esm_history.proofs.FinalSteps.{due_stands}

-- the windows of which the debts owe a try
abbrev pub final_tries : List Debt → List ℕ
final_tries [] = []
final_tries (Try places None k ∷ ds) = final_tries ds
final_tries (Try places (Some w) k ∷ ds) = w ∷ final_tries ds
final_tries (Success places state ∷ ds) = final_tries ds
final_tries (GiveUp places ∷ ds) = final_tries ds
final_tries (Close w ∷ ds) = final_tries ds

-- each such debt has the number of the window
abbrev pub FinalTriesAre : (ℕ → ℕ) → List Debt → Type 0
FinalTriesAre f [] = ⊤
FinalTriesAre f (Try places None k ∷ ds) = FinalTriesAre f ds
FinalTriesAre f (Try places (Some w) k ∷ ds) = (f w ≡ k) × FinalTriesAre f ds
FinalTriesAre f (Success places state ∷ ds) = FinalTriesAre f ds
FinalTriesAre f (GiveUp places ∷ ds) = FinalTriesAre f ds
FinalTriesAre f (Close w ∷ ds) = FinalTriesAre f ds

-- lists of debts

pub final_append : (ds es : List Debt) → final_tries (ds ++ es) ≡ final_tries ds ++ final_tries es
final_append [] es = refl
final_append (Try places None k ∷ ds) es = final_append ds es
final_append (Try places (Some w) k ∷ ds) es = ap (λ ws. w ∷ ws) (final_append ds es)
final_append (Success places state ∷ ds) es = final_append ds es
final_append (GiveUp places ∷ ds) es = final_append ds es
final_append (Close w ∷ ds) es = final_append ds es

pub final_success : (xs : List ℕ) (state : Option WindowState) → final_tries (success_debts xs state) ≡ []
final_success [] state = refl
final_success (x ∷ xs) state = refl

final_close : (closing : Option ℕ) → final_tries (close_debts closing) ≡ []
final_close None = refl
final_close (Some w) = refl

final_give_up : (xs : List ℕ) → final_tries (give_up_debts xs) ≡ []
final_give_up [] = refl
final_give_up (x ∷ xs) = refl

final_less : (ds : List Debt) (w : ℕ) → In (final_tries (drop 1 ds)) w → In (final_tries ds) w
final_less [] w member = member
final_less (Try places None k ∷ ds) w member = member
final_less (Try places (Some v) k ∷ ds) w member = In-there v (final_tries ds) w member
final_less (Success places state ∷ ds) w member = member
final_less (GiveUp places ∷ ds) w member = member
final_less (Close v ∷ ds) w member = member

closes_dropped : (ds : List Debt) (w : ℕ) → In (closes (drop 1 ds)) w → In (closes ds) w
closes_dropped [] w member = member
closes_dropped (Close v ∷ ds) w member = In-there v (closes ds) w member
closes_dropped (Success places state ∷ ds) w member = member
closes_dropped (GiveUp places ∷ ds) w member = member
closes_dropped (Try places closing k ∷ ds) w member = member

final_are_append : (f : ℕ → ℕ) (ds es : List Debt) → FinalTriesAre f ds → FinalTriesAre f es → FinalTriesAre f (ds ++ es)
final_are_append f [] es a b = b
final_are_append f (Try places None k ∷ ds) es a b = final_are_append f ds es a b
final_are_append f (Try places (Some w) k ∷ ds) es a b = (a.0, final_are_append f ds es a.1 b)
final_are_append f (Success places state ∷ ds) es a b = final_are_append f ds es a b
final_are_append f (GiveUp places ∷ ds) es a b = final_are_append f ds es a b
final_are_append f (Close w ∷ ds) es a b = final_are_append f ds es a b

final_are_less : (f : ℕ → ℕ) (ds : List Debt) → FinalTriesAre f ds → FinalTriesAre f (drop 1 ds)
final_are_less f [] a = tt
final_are_less f (Try places None k ∷ ds) a = a
final_are_less f (Try places (Some w) k ∷ ds) a = a.1
final_are_less f (Success places state ∷ ds) a = a
final_are_less f (GiveUp places ∷ ds) a = a
final_are_less f (Close w ∷ ds) a = a

final_are_same : (f g : ℕ → ℕ) (ds : List Debt) → ((w : ℕ) → In (final_tries ds) w → g w ≡ f w) → FinalTriesAre f ds → FinalTriesAre g ds
final_are_same f g [] same a = tt
final_are_same f g (Try places None k ∷ ds) same a = final_are_same f g ds same a
final_are_same f g (Try places (Some w) k ∷ ds) same a = (same w (In-here w (final_tries ds) w refl) ∙ a.0, final_are_same f g ds (λ v member. same v (In-there w (final_tries ds) v member)) a.1)
final_are_same f g (Success places state ∷ ds) same a = final_are_same f g ds same a
final_are_same f g (GiveUp places ∷ ds) same a = final_are_same f g ds same a
final_are_same f g (Close w ∷ ds) same a = final_are_same f g ds same a

final_are_success : (f : ℕ → ℕ) (xs : List ℕ) (state : Option WindowState) → FinalTriesAre f (success_debts xs state)
final_are_success f [] state = tt
final_are_success f (x ∷ xs) state = tt

final_are_close : (f : ℕ → ℕ) (closing : Option ℕ) → FinalTriesAre f (close_debts closing)
final_are_close f None = tt
final_are_close f (Some w) = tt

final_are_give_up : (f : ℕ → ℕ) (xs : List ℕ) → FinalTriesAre f (give_up_debts xs)
final_are_give_up f [] = tt
final_are_give_up f (x ∷ xs) = tt

-- what the end of a call owes

final_rest : (left : Rest) (xs : List ℕ) (closing : Option ℕ) (t w : ℕ) → In (final_tries (rest_debts left xs closing t)) w → (left ≡ rest.Counted) × (closing ≡ Some w)
final_rest rest.Nothing xs closing t w member = absurd (In-none w (subst (λ ws. In ws w) (final_close closing) member))
final_rest rest.Again xs closing t w member = absurd (In-none w member)
final_rest (rest.Split k) xs closing t w member = absurd (In-none w member)
final_rest rest.Counted xs None t w member = absurd (In-none w member)
final_rest rest.Counted xs (Some v) t w member = elim (In-cases v [] w member) [ inl same ↦ (refl, ap (λ z. Some z) same) | inr none ↦ absurd (In-none w none) ]
final_rest rest.Exhausted xs closing t w member =
    absurd (In-none w (subst (λ ws. In ws w) (final_append (give_up_debts xs) (close_debts closing) ∙ ap (λ ws. ws ++ final_tries (close_debts closing)) (final_give_up xs) ∙ final_close closing) member))

final_end : (s : Setting) (h : List Entry) (at : LaneId) (call : Call) (reply : Reply) (w : ℕ) → In (final_tries (call_debts s h at (Some call) reply)) w → ((verdict_after s h at reply).rest ≡ rest.Counted) × (call.closing ≡ Some w)
final_end s h at call reply w member =
    let v = verdict_after s h at reply in
    let first = success_debts (take v.succeeded call.places) (new_state s at.shard call reply) in
    let more = rest_debts v.rest (drop v.succeeded call.places) call.closing (tries_of s h at.shard call) in
    final_rest v.rest (drop v.succeeded call.places) call.closing (tries_of s h at.shard call) w
    (subst (λ ws. In ws w) (final_append first more ∙ ap (λ ws. ws ++ final_tries more) (final_success (take v.succeeded call.places) (new_state s at.shard call reply))) member)

final_are_rest : (f : ℕ → ℕ) (left : Rest) (xs : List ℕ) (closing : Option ℕ) (t : ℕ) → ((w : ℕ) → closing ≡ Some w → left ≡ rest.Counted → f w ≡ capped_tries (t + 1)) → FinalTriesAre f (rest_debts left xs closing t)
final_are_rest f rest.Nothing xs closing t counted = final_are_close f closing
final_are_rest f rest.Again xs closing t counted = tt
final_are_rest f (rest.Split k) xs closing t counted = tt
final_are_rest f rest.Counted xs None t counted = tt
final_are_rest f rest.Counted xs (Some w) t counted = (counted w refl refl, tt)
final_are_rest f rest.Exhausted xs closing t counted = final_are_append f (give_up_debts xs) (close_debts closing) (final_are_give_up f xs) (final_are_close f closing)

-- a final call is one of windows
pub final_windowed : (s : Setting) (h : List Entry) → Legal s h → (lane : LaneId) (call : Call) (w : ℕ) → last_call h lane ≡ Some call → call.closing ≡ Some w → has_windows s.config ≡ true
final_windowed s [] legal lane call w is closing = cc
final_windowed s (Began at places None m ∷ h) legal lane call w is closing =
    elim (cases_Bool (same_lane at lane)) [
      | inl same ↦ (
          let new : record { places = places; closing = None; moment = m } ≡ call = same_Some _ call (rw same at is) in
          let clash : None ≡ Some w = ap (λ (c : Call). c.closing) new ∙ closing in
          cc)
      | inr other ↦ final_windowed s h legal.0 lane call w (rw other at is) closing
    ]
final_windowed s (Began at places (Some v) m ∷ h) legal lane call w is closing =
    elim (cases_Bool (same_lane at lane)) [
      | inl same ↦ (due_stands s h at.shard v legal.1.1.due).0
      | inr other ↦ final_windowed s h legal.0 lane call w (rw other at is) closing
    ]
final_windowed s (Came n first count m ∷ h) legal lane call w is closing = final_windowed s h legal.0 lane call w is closing
final_windowed s (Ended at reply m ∷ h) legal lane call w is closing = final_windowed s h legal.0 lane call w is closing
final_windowed s (Gave by n places f line state m ∷ h) legal lane call w is closing = final_windowed s h legal.0 lane call w is closing
final_windowed s (Tried at places c t m ∷ h) legal lane call w is closing = final_windowed s h legal.0 lane call w is closing
final_windowed s (Closed at v m ∷ h) legal lane call w is closing = final_windowed s h legal.0 lane call w is closing
final_windowed s (Replayed n places m ∷ h) legal lane call w is closing = final_windowed s h legal.0 lane call w is closing
final_windowed s (Shut m ∷ h) legal lane call w is closing = final_windowed s h legal.0 lane call w is closing

-- what holds of each legal history

pub record FinalTriesOwed (s : Setting) (h : List Entry) : Type 0 where
  pub windowed_closes : (lane : LaneId) (w : ℕ) → In (closes (debts s h lane)) w → has_windows s.config ≡ true
  pub windowed_tries : (lane : LaneId) (w : ℕ) → In (final_tries (debts s h lane)) w → has_windows s.config ≡ true
  pub apart : (lane : LaneId) (v w : ℕ) → In (closes (debts s h lane)) v → In (final_tries (debts s h lane)) w → ⊥
  pub numbers : (lane : LaneId) → FinalTriesAre (window_tries s h lane.shard) (debts s h lane)

abbrev IsLess : Setting → List Entry → Entry → LaneId → Type 0
IsLess s h e lane = (debts s (e ∷ h) lane ≡ debts s h lane) ⊎ (debts s (e ∷ h) lane ≡ drop 1 (debts s h lane))

less_closes : (s : Setting) (h : List Entry) (e : Entry) (lane : LaneId) (w : ℕ) → IsLess s h e lane → In (closes (debts s (e ∷ h) lane)) w → In (closes (debts s h lane)) w
less_closes s h e lane w (inl same) member = subst (λ ds. In (closes ds) w) same member
less_closes s h e lane w (inr dropped) member = closes_dropped (debts s h lane) w (subst (λ ds. In (closes ds) w) dropped member)

less_final : (s : Setting) (h : List Entry) (e : Entry) (lane : LaneId) (w : ℕ) → IsLess s h e lane → In (final_tries (debts s (e ∷ h) lane)) w → In (final_tries (debts s h lane)) w
less_final s h e lane w (inl same) member = subst (λ ds. In (final_tries ds) w) same member
less_final s h e lane w (inr dropped) member = final_less (debts s h lane) w (subst (λ ds. In (final_tries ds) w) dropped member)

less_are : (s : Setting) (h : List Entry) (e : Entry) (lane : LaneId) (f : ℕ → ℕ) → IsLess s h e lane → FinalTriesAre f (debts s h lane) → FinalTriesAre f (debts s (e ∷ h) lane)
less_are s h e lane f (inl same) are = subst (FinalTriesAre f) (sym same) are
less_are s h e lane f (inr dropped) are = subst (FinalTriesAre f) (sym dropped) (final_are_less f (debts s h lane) are)

-- an entry that begins and ends no call, and leaves the tries of what is owed
final_owed_quiet : (s : Setting) (h : List Entry) (e : Entry) → ((lane : LaneId) → IsLess s h e lane) → ((lane : LaneId) (w : ℕ) → In (final_tries (debts s h lane)) w → window_tries s (e ∷ h) lane.shard w ≡ window_tries s h lane.shard w) → FinalTriesOwed s h → FinalTriesOwed s (e ∷ h)
final_owed_quiet s h e less same was = record {
  windowed_closes = λ lane w member. was.windowed_closes lane w (less_closes s h e lane w (less lane) member);
  windowed_tries = λ lane w member. was.windowed_tries lane w (less_final s h e lane w (less lane) member);
  apart = λ lane v w a b. was.apart lane v w (less_closes s h e lane v (less lane) a) (less_final s h e lane w (less lane) b);
  numbers = λ lane. less_are s h e lane (window_tries s (e ∷ h) lane.shard) (less lane)
      (final_are_same (window_tries s h lane.shard) (window_tries s (e ∷ h) lane.shard) (debts s h lane) (λ w member. same lane w member) (was.numbers lane));
}

-- a lane that owes a try of a window had a call
final_low : (s : Setting) (h : List Entry) (lane : LaneId) (w : ℕ) → Legal s h → In (final_tries (debts s h lane)) w → lane.lane < s.config.factor
final_low s h lane w legal member = elim (owes_low s h legal lane) [ inl none ↦ absurd (In-none w (subst (λ ds. In (final_tries ds) w) none member)) | inr low ↦ low ]

closes_low : (s : Setting) (h : List Entry) (lane : LaneId) (w : ℕ) → Legal s h → In (closes (debts s h lane)) w → lane.lane < s.config.factor
closes_low s h lane w legal member = elim (owes_low s h legal lane) [ inl none ↦ absurd (In-none w (subst (λ ds. In (closes ds) w) none member)) | inr low ↦ low ]

final_owed_closed : (s : Setting) (h : List Entry) (at : LaneId) (v m : ℕ) → HasStreamFields s.config → Legal s (Closed at v m ∷ h) → FinalTriesOwed s h → (lane : LaneId) (w : ℕ) → In (final_tries (debts s h lane)) w → window_tries s (Closed at v m ∷ h) lane.shard w ≡ window_tries s h lane.shard w
final_owed_closed s h at v m fields legal was lane w member =
    elim (cases_Bool ((at.shard == lane.shard) && (v == w))) [
      | inr other ↦ rw other refl
      | inl same ↦ (
          let shard : at.shard ≡ lane.shard = eqb-true at.shard lane.shard (and_parts (at.shard == lane.shard) (v == w) same).0 in
          let owed : In (closes (debts s h at)) v = closed_owed s h at v m legal.1.1 in
          let lanes : at ≡ lane = lanes_alone s at lane fields (was.windowed_closes at v owed) (closes_low s h at v legal.0 owed) (final_low s h lane w legal.0 member) shard in
          absurd (was.apart lane v w (subst (λ l. In (closes (debts s h l)) v) lanes owed) member))
    ]

-- a call that ends

abbrev CountsFinal : Setting → List Entry → LaneId → Reply → ℕ → ℕ → Bool
CountsFinal s h at reply n w = counts_in_final_call s n (last_call h at) w (window_tries_sum s h n w) reply

closed_by : (o : Option ℕ) (w : ℕ) → is_closed_by o w ≡ true → o ≡ Some w
closed_by None w is = cc
closed_by (Some v) w is = ap (λ z. Some z) (eqb-true v w is)

-- what an end counts is a try of its call's window
pub record CountedFinal (s : Setting) (h : List Entry) (at : LaneId) (reply : Reply) (w : ℕ) : Type 0 where
  pub call : Call
  pub last : last_call h at ≡ Some call
  pub of_window : call.closing ≡ Some w
  pub counted : (call_verdict s at.shard call (window_tries s h at.shard w) reply).rest ≡ rest.Counted

is_counted-true : (r : Rest) → is_counted r ≡ true → r ≡ rest.Counted
is_counted-true rest.Counted is = refl
is_counted-true rest.Nothing is = cc
is_counted-true rest.Again is = cc
is_counted-true (rest.Split k) is = cc
is_counted-true rest.Exhausted is = cc

pub counted_final : (s : Setting) (h : List Entry) (at : LaneId) (reply : Reply) (w : ℕ) (o : Option Call) → last_call h at ≡ o → counts_in_final_call s at.shard o w (window_tries_sum s h at.shard w) reply ≡ true → CountedFinal s h at reply w
counted_final s h at reply w None last is = cc
counted_final s h at reply w (Some call) last is =
    (let parts = and_parts (is_closed_by call.closing w) (is_counted (call_verdict s at.shard call (window_tries s h at.shard w) reply).rest) is in
    record { call = call; last = last; of_window = closed_by call.closing w parts.0; counted = is_counted-true (call_verdict s at.shard call (window_tries s h at.shard w) reply).rest parts.1 })

-- tries that no end counts stay
pub final_uncounted : (s : Setting) (h : List Entry) (at : LaneId) (reply : Reply) (m n w : ℕ) → (at.shard ≡ n → CountedFinal s h at reply w → ⊥) → window_tries s (Ended at reply m ∷ h) n w ≡ window_tries s h n w
final_uncounted s h at reply m n w none =
    elim (cases_Bool ((at.shard == n) && counts_in_final_call s n (last_call h at) w (window_tries_sum s h n w) reply)) [
      | inr not ↦ rw not refl
      | inl counted ↦ (
          let parts = and_parts (at.shard == n) (counts_in_final_call s n (last_call h at) w (window_tries_sum s h n w) reply) counted in
          let shard : at.shard ≡ n = eqb-true at.shard n parts.0 in
          absurd (none shard (counted_final s h at reply w (last_call h at) refl (subst (λ k. counts_in_final_call s k (last_call h at) w (window_tries_sum s h k w) reply ≡ true) (sym shard) parts.1))))
    ]

-- the verdict on a final call is taken at the window's tries
pub final_verdict : (s : Setting) (h : List Entry) (at : LaneId) (reply : Reply) (call : Call) (w : ℕ) → last_call h at ≡ Some call → call.closing ≡ Some w → verdict_after s h at reply ≡ call_verdict s at.shard call (window_tries s h at.shard w) reply
final_verdict s h at reply call w last closing =
    ap (λ o. verdict_on s h at.shard o reply) last ∙ ap (λ t. call_verdict s at.shard call t reply) (tries_at call closing)
  where
    tries_at : (c : Call) → c.closing ≡ Some w → tries_of s h at.shard c ≡ window_tries s h at.shard w
    tries_at c is = rw is refl

final_number : (s : Setting) (h : List Entry) (at : LaneId) (reply : Reply) (m : ℕ) (call : Call) (w : ℕ) → last_call h at ≡ Some call → call.closing ≡ Some w → (verdict_after s h at reply).rest ≡ rest.Counted
    → window_tries s (Ended at reply m ∷ h) at.shard w ≡ capped_tries (tries_of s h at.shard call + 1)
final_number s h at reply m call w last closing counted =
    let rests : (call_verdict s at.shard call (window_tries s h at.shard w) reply).rest ≡ rest.Counted = ap (λ (v : Verdict). v.rest) (sym (final_verdict s h at reply call w last closing)) ∙ counted in
    let counts : counts_in_final_call s at.shard (last_call h at) w (window_tries_sum s h at.shard w) reply ≡ true =
    ap (λ o. counts_in_final_call s at.shard o w (window_tries_sum s h at.shard w) reply) last
    ∙ and_from (is_closed_by call.closing w) (is_counted (call_verdict s at.shard call (window_tries s h at.shard w) reply).rest) (ap (λ o. is_closed_by o w) closing ∙ eq-eqb w w refl) (ap is_counted rests) in
    let sum : window_tries_sum s (Ended at reply m ∷ h) at.shard w ≡ suc (window_tries_sum s h at.shard w) = rw (eq-eqb at.shard at.shard refl, counts) refl in
    let same : tries_of s h at.shard call ≡ window_tries s h at.shard w = tries_at call closing in
    ap capped_tries sum ∙ capped_more (window_tries_sum s h at.shard w) (window_tries_sum s h at.shard w) refl ∙ ap (λ t. capped_tries (t + 1)) (sym same)
  where
    tries_at : (c : Call) → c.closing ≡ Some w → tries_of s h at.shard c ≡ window_tries s h at.shard w
    tries_at c is = rw is refl

-- closes of an end

closes_of_append : (ds es : List Debt) → closes (ds ++ es) ≡ closes ds ++ closes es
closes_of_append [] es = refl
closes_of_append (Close w ∷ ds) es = ap (λ ws. w ∷ ws) (closes_of_append ds es)
closes_of_append (Success places state ∷ ds) es = closes_of_append ds es
closes_of_append (GiveUp places ∷ ds) es = closes_of_append ds es
closes_of_append (Try places closing t ∷ ds) es = closes_of_append ds es

closes_of_success : (xs : List ℕ) (state : Option WindowState) → closes (success_debts xs state) ≡ []
closes_of_success [] state = refl
closes_of_success (x ∷ xs) state = refl

none_given : (ys : List ℕ) → closes (give_up_debts ys) ≡ []
none_given [] = refl
none_given (y ∷ ys) = refl

closes_of_rest : (left : Rest) (xs : List ℕ) (closing : Option ℕ) (t v : ℕ) → In (closes (rest_debts left xs closing t)) v → (left ≡ rest.Counted → ⊥) × ((closing ≡ None) → ⊥)
closes_of_rest rest.Nothing xs None t v member = absurd (In-none v member)
closes_of_rest rest.Nothing xs (Some w) t v member = (λ is. cc, λ is. cc)
closes_of_rest rest.Again xs closing t v member = absurd (In-none v member)
closes_of_rest (rest.Split k) xs closing t v member = absurd (In-none v member)
closes_of_rest rest.Counted xs closing t v member = absurd (In-none v member)
closes_of_rest rest.Exhausted xs None t v member = absurd (In-none v (subst (λ ws. In ws v) (closes_of_append (give_up_debts xs) [] ∙ ap (λ ws. ws ++ []) (none_given xs)) member))
closes_of_rest rest.Exhausted xs (Some w) t v member = (λ is. cc, λ is. cc)

closes_of_end : (s : Setting) (h : List Entry) (at : LaneId) (call : Call) (reply : Reply) (v : ℕ) → In (closes (call_debts s h at (Some call) reply)) v → ((verdict_after s h at reply).rest ≡ rest.Counted → ⊥) × ((call.closing ≡ None) → ⊥)
closes_of_end s h at call reply v member =
    let u = verdict_after s h at reply in
    let first = success_debts (take u.succeeded call.places) (new_state s at.shard call reply) in
    let more = rest_debts u.rest (drop u.succeeded call.places) call.closing (tries_of s h at.shard call) in
    closes_of_rest u.rest (drop u.succeeded call.places) call.closing (tries_of s h at.shard call) v
    (subst (λ ws. In ws v) (closes_of_append first more ∙ ap (λ ws. ws ++ closes more) (closes_of_success (take u.succeeded call.places) (new_state s at.shard call reply))) member)

final_owed_ends : (s : Setting) (h : List Entry) (at : LaneId) (reply : Reply) (m : ℕ) → HasStreamFields s.config → Legal s (Ended at reply m ∷ h) → FinalTriesOwed s h → FinalTriesOwed s (Ended at reply m ∷ h)
final_owed_ends s h at reply m fields legal was = record {
  windowed_closes = λ lane w member. elim (cases_Bool (same_lane at lane)) [
    | inl same ↦ closes_windowed (last_call h at) refl w (own_closes lane w same member)
    | inr other ↦ was.windowed_closes lane w (rw other at member)
  ];
  windowed_tries = λ lane w member. elim (cases_Bool (same_lane at lane)) [
    | inl same ↦ tries_windowed (last_call h at) refl w (own_tries lane w same member)
    | inr other ↦ was.windowed_tries lane w (rw other at member)
  ];
  apart = λ lane v w a b. elim (cases_Bool (same_lane at lane)) [
    | inl same ↦ both (last_call h at) v w (own_closes lane v same a) (own_tries lane w same b)
    | inr other ↦ was.apart lane v w (rw other at a) (rw other at b)
  ];
  numbers = numbers;
}
  where
    own_closes : (lane : LaneId) (w : ℕ) → same_lane at lane ≡ true → In (closes (debts s (Ended at reply m ∷ h) lane)) w → In (closes (call_debts s h at (last_call h at) reply)) w
    own_closes lane w same member = subst (λ ds. In (closes ds) w) (debts_ended s at reply m h) (subst (λ l. In (closes (debts s (Ended at reply m ∷ h) l)) w) (sym (same_lane-true at lane same)) member)

    own_tries : (lane : LaneId) (w : ℕ) → same_lane at lane ≡ true → In (final_tries (debts s (Ended at reply m ∷ h) lane)) w → In (final_tries (call_debts s h at (last_call h at) reply)) w
    own_tries lane w same member = subst (λ ds. In (final_tries ds) w) (debts_ended s at reply m h) (subst (λ l. In (final_tries (debts s (Ended at reply m ∷ h) l)) w) (sym (same_lane-true at lane same)) member)

    closing_windowed : (call : Call) → last_call h at ≡ Some call → (c : Option ℕ) → call.closing ≡ c → (c ≡ None → ⊥) → has_windows s.config ≡ true
    closing_windowed call last None is not = absurd (not refl)
    closing_windowed call last (Some w) is not = final_windowed s h legal.0 at call w last is

    closes_windowed : (o : Option Call) → last_call h at ≡ o → (w : ℕ) → In (closes (call_debts s h at o reply)) w → has_windows s.config ≡ true
    closes_windowed None last w member = absurd (In-none w member)
    closes_windowed (Some call) last w member = closing_windowed call last call.closing refl (closes_of_end s h at call reply w member).1

    tries_windowed : (o : Option Call) → last_call h at ≡ o → (w : ℕ) → In (final_tries (call_debts s h at o reply)) w → has_windows s.config ≡ true
    tries_windowed None last w member = absurd (In-none w member)
    tries_windowed (Some call) last w member = final_windowed s h legal.0 at call w last (final_end s h at call reply w member).1

    both : (o : Option Call) (v w : ℕ) → In (closes (call_debts s h at o reply)) v → In (final_tries (call_debts s h at o reply)) w → ⊥
    both None v w a b = In-none v a
    both (Some call) v w a b = (closes_of_end s h at call reply v a).0 (final_end s h at call reply w b).0

    are_end : (o : Option Call) → last_call h at ≡ o → FinalTriesAre (window_tries s (Ended at reply m ∷ h) at.shard) (call_debts s h at o reply)
    are_end None last = tt
    are_end (Some call) last =
        let v = verdict_after s h at reply in
        final_are_append (window_tries s (Ended at reply m ∷ h) at.shard) (success_debts (take v.succeeded call.places) (new_state s at.shard call reply)) (rest_debts v.rest (drop v.succeeded call.places) call.closing (tries_of s h at.shard call))
        (final_are_success (window_tries s (Ended at reply m ∷ h) at.shard) (take v.succeeded call.places) (new_state s at.shard call reply))
        (final_are_rest (window_tries s (Ended at reply m ∷ h) at.shard) v.rest (drop v.succeeded call.places) call.closing (tries_of s h at.shard call) (λ w closing counted. final_number s h at reply m call w last closing counted))

    numbers : (lane : LaneId) → FinalTriesAre (window_tries s (Ended at reply m ∷ h) lane.shard) (debts s (Ended at reply m ∷ h) lane)
    numbers lane =
        elim (cases_Bool (same_lane at lane)) [
          | inl same ↦ subst (λ (l : LaneId). FinalTriesAre (window_tries s (Ended at reply m ∷ h) l.shard) (debts s (Ended at reply m ∷ h) l)) (same_lane-true at lane same)
              (subst (FinalTriesAre (window_tries s (Ended at reply m ∷ h) at.shard)) (sym (debts_ended s at reply m h)) (are_end (last_call h at) refl))
          | inr other ↦ (
              let kept : debts s (Ended at reply m ∷ h) lane ≡ debts s h lane = rw other refl in
              subst (FinalTriesAre (window_tries s (Ended at reply m ∷ h) lane.shard)) (sym kept)
              (final_are_same (window_tries s h lane.shard) (window_tries s (Ended at reply m ∷ h) lane.shard) (debts s h lane)
              (λ w member. final_uncounted s h at reply m lane.shard w (λ shard counted.
              let lanes : at ≡ lane = lanes_alone s at lane fields (was.windowed_tries lane w member) (running_low s h legal.0 at legal.1.1) (final_low s h lane w legal.0 member) shard in
              both_ways (same_lane at lane) other (subst (λ l. same_lane at l ≡ true) lanes (same_lane-refl at)))) (was.numbers lane)))
        ]

either_dropped : (b : Bool) (ds : List Debt) → ((if b then drop 1 ds else ds) ≡ ds) ⊎ ((if b then drop 1 ds else ds) ≡ drop 1 ds)
either_dropped true ds = inr refl
either_dropped false ds = inl refl

-- a call begins where nothing is owed
final_owed_begins : (s : Setting) (h : List Entry) (at : LaneId) (places : List ℕ) (closing : Option ℕ) (m : ℕ) → ((lane : LaneId) → debts s h lane ≡ []) → FinalTriesOwed s h → FinalTriesOwed s (Began at places closing m ∷ h)
final_owed_begins s h at places closing m none was = final_owed_quiet s h (Began at places closing m) (λ lane. inl (nothing lane ∙ sym (none lane))) (λ lane w member. refl) was
  where
    nothing : (lane : LaneId) → debts s (Began at places closing m ∷ h) lane ≡ []
    nothing lane = elim (cases_Bool (same_lane at lane)) [ inl same ↦ rw same refl | inr other ↦ rw other (none lane) ]

pub final_tries_owed : (s : Setting) (h : List Entry) → HasStreamFields s.config → Legal s h → FinalTriesOwed s h
final_tries_owed s [] fields legal = record { windowed_closes = λ lane w member. cc; windowed_tries = λ lane w member. cc; apart = λ lane v w a b. cc; numbers = λ lane. tt }
final_tries_owed s (Came n first count m ∷ h) fields legal = final_owed_quiet s h (Came n first count m) (λ lane. inl refl) (λ lane w member. refl) (final_tries_owed s h fields legal.0)
final_tries_owed s (Began at places None m ∷ h) fields legal = final_owed_begins s h at places None m legal.1.1.call.settled.paid (final_tries_owed s h fields legal.0)
final_tries_owed s (Began at places (Some w) m ∷ h) fields legal = final_owed_begins s h at places (Some w) m legal.1.1.call.settled.paid (final_tries_owed s h fields legal.0)
final_tries_owed s (Ended at reply m ∷ h) fields legal = final_owed_ends s h at reply m fields legal (final_tries_owed s h fields legal.0)
final_tries_owed s (Gave by n places f line state m ∷ h) fields legal = final_owed_quiet s h (Gave by n places f line state m) (λ lane. either_dropped (pays lane (debts s h lane) (Gave by n places f line state m)) (debts s h lane)) (λ lane w member. refl) (final_tries_owed s h fields legal.0)
final_tries_owed s (Tried at places c t m ∷ h) fields legal = final_owed_quiet s h (Tried at places c t m) (λ lane. either_dropped (pays lane (debts s h lane) (Tried at places c t m)) (debts s h lane)) (λ lane w member. refl) (final_tries_owed s h fields legal.0)
final_tries_owed s (Closed at v m ∷ h) fields legal =
    final_owed_quiet s h (Closed at v m) (λ lane. either_dropped (pays lane (debts s h lane) (Closed at v m)) (debts s h lane)) (final_owed_closed s h at v m fields legal (final_tries_owed s h fields legal.0)) (final_tries_owed s h fields legal.0)
final_tries_owed s (Replayed n places m ∷ h) fields legal = absurd legal.1.1
final_tries_owed s (Shut m ∷ h) fields legal = final_owed_quiet s h (Shut m) (λ lane. inl refl) (λ lane w member. refl) (final_tries_owed s h fields legal.0)
