-- Windows of which no record is open and none comes any more. Only this crate's proofs cite this.
use Rattle.std.proofs.Common.{◌≡◌, ℕ, zero, suc, ◌<◌, ◌≤◌, Bool, true, false, ◌&&◌, List, [], ◌∷◌, ◌++◌, take, drop, refl, sym, ap, ◌∙◌, subst, ◌⊎◌, inl, inr, arith, Option, Some, None}
use Rattle.std.specs.Prelude.{◌==◌, ⊤, max, is_none, is_some, if◌then◌else◌}
use Rattle.std.proofs.lemmas.Bool.{cases_Bool, cases_lt, or_right, eqb-true, ne_eqb}
use Rattle.std.proofs.lemmas.Option.{same_Some}
use Rattle.esm_model.specs.Lane.{same_lane}
use Rattle.esm_model.specs.declared.lane.LaneId.{LaneId}
use Rattle.esm_model.specs.Records.{Record}
use Rattle.esm_model.specs.declared.entry.Reply.{Reply}
use Rattle.esm_model.specs.declared.entry.Fate.{Fate}
use Rattle.esm_model.specs.declared.entry.Fate.TheVariants.{Succeeded, Filtered, Expired, Exhausted}
use Rattle.esm_model.specs.declared.entry.WindowState.{WindowState}
use Rattle.esm_model.specs.declared.entry.Entry.{Entry}
use Rattle.esm_model.specs.declared.entry.Entry.TheVariants.{Came, Began, Ended, Gave, Tried, Closed, Replayed, Shut}
use Rattle.esm_model.specs.declared.verdict.Rest.{Rest}
use Rattle.esm_model.specs.declared.verdict.Rest.TheVariants as rest
use Rattle.esm_model.specs.Setting.{Setting, records_of, found_state}
use Rattle.esm_model.specs.Entries.{Call, came_count, is_shut, is_shut_entry, last_call, last_moment}
use Rattle.esm_model.specs.Fates.{fate, has_fate, lacks_fate}
use Rattle.esm_model.specs.Tries.{tries_of, verdict_after}
use Rattle.esm_model.specs.Owed.{Debt, Success, GiveUp, Try, Close, debts, debt_entry, call_debts, success_debts, give_up_debts, close_debts, rest_debts, new_state, pays, IsOwed}
use Rattle.esm_model.specs.Windows.{has_windows, window_floor, window_from, window_of, text_for, kept_state}
use Rattle.esm_model.specs.Step.{Legal}
use Rattle.esm_model.proofs.Lists.{In, In-here}
use Rattle.esm_model.proofs.Steps.{came_grows, fated_stays}
use Rattle.esm_model.proofs.Debts.{first_debt}
use Rattle.esm_model.proofs.Sound.{open_In, same_lane-true}
use Rattle.esm_model.proofs.Paid.{gave_In, gave_open}
use Rattle.esm_history.proofs.Stays.{not_both}

-- a later record has no earlier window

window_base : (width low : ℕ) (rs : List Record) (i : ℕ) → low ≤ window_from width low rs i
window_base width low [] i = omega arith
window_base width low (r ∷ rs) zero = omega arith
window_base width low (r ∷ rs) (suc i) =
    (let more : max low (window_floor width r.arrival) ≤ window_from width (max low (window_floor width r.arrival)) rs i = window_base width (max low (window_floor width r.arrival)) rs i in omega (arith, more))

window_grows : (width low : ℕ) (rs : List Record) (i j : ℕ) → i ≤ j → window_from width low rs i ≤ window_from width low rs j
window_grows width low [] i j before = omega arith
window_grows width low (r ∷ rs) zero zero before = omega arith
window_grows width low (r ∷ rs) zero (suc j) before = window_base width (max low (window_floor width r.arrival)) rs j
window_grows width low (r ∷ rs) (suc i) zero before = absurd (omega arith)
window_grows width low (r ∷ rs) (suc i) (suc j) before = window_grows width (max low (window_floor width r.arrival)) rs i j (omega arith)

-- a record of a later window came
pub record IsPassed (s : Setting) (h : List Entry) (n w : ℕ) : Type 0 where
  pub place : ℕ
  pub came : place < came_count h n
  pub later : w < window_of s n place

-- no record of the window is open, and none will come
pub record IsOver (s : Setting) (h : List Entry) (n w : ℕ) : Type 0 where
  pub none_open : (i : ℕ) → i < came_count h n → lacks_fate s h n i ≡ true → window_of s n i ≡ w → ⊥
  pub past : (is_shut h ≡ true) ⊎ IsPassed s h n w

none_of_not : (o : Option Fate) → is_some o ≡ false → is_none o ≡ true
none_of_not None is = refl
none_of_not (Some f) is = cc

lacks_before : (s : Setting) (e : Entry) (h : List Entry) (n i : ℕ) → lacks_fate s (e ∷ h) n i ≡ true → lacks_fate s h n i ≡ true
lacks_before s e h n i lacks =
    elim (cases_Bool (has_fate s h n i)) [
      | inl fated ↦ absurd (not_both (fate s (e ∷ h) n i) (fated_stays s e h n i fated) lacks)
      | inr none ↦ none_of_not (fate s h n i) none
    ]

-- what is new came with the entry
new_came : (s : Setting) (e : Entry) (h : List Entry) (n i : ℕ) → Legal s (e ∷ h) → i < came_count (e ∷ h) n → came_count h n ≤ i → is_shut h ≡ false
new_came s (Came k first count m) h n i legal low high = legal.1.1.not_shut
new_came s (Began at places c m) h n i legal low high = absurd (omega (arith, low, high))
new_came s (Ended at reply m) h n i legal low high = absurd (omega (arith, low, high))
new_came s (Gave by k places f line state m) h n i legal low high = absurd (omega (arith, low, high))
new_came s (Tried at places c t m) h n i legal low high = absurd (omega (arith, low, high))
new_came s (Closed at w m) h n i legal low high = absurd (omega (arith, low, high))
new_came s (Replayed k places m) h n i legal low high = absurd (omega (arith, low, high))
new_came s (Shut m) h n i legal low high = absurd (omega (arith, low, high))

pub over_stays : (s : Setting) (h : List Entry) (e : Entry) (n w : ℕ) → Legal s (e ∷ h) → IsOver s h n w → IsOver s (e ∷ h) n w
over_stays s h e n w legal was = record { none_open = none_open; past = past was.past }
  where
    none_open : (i : ℕ) → i < came_count (e ∷ h) n → lacks_fate s (e ∷ h) n i ≡ true → window_of s n i ≡ w → ⊥
    none_open i low lacks own =
        elim (cases_lt i (came_count h n)) [
          | inl old ↦ was.none_open i old (lacks_before s e h n i lacks) own
          | inr new ↦ elim was.past [
            | inl shut ↦ (let clash : true ≡ false = sym shut ∙ new_came s e h n i legal low new in cc)
            | inr passed ↦ (
                let came = passed.came in
                let later = passed.later in
                let up : window_of s n passed.place ≤ window_of s n i = window_grows s.config.tumbling_ms 0 (records_of s n) passed.place i (omega (arith, came, new)) in
                omega (arith, later, up, own))
          ]
        ]

    past : (is_shut h ≡ true) ⊎ IsPassed s h n w → (is_shut (e ∷ h) ≡ true) ⊎ IsPassed s (e ∷ h) n w
    past (inl shut) = inl (or_right (is_shut_entry e) (is_shut h) shut)
    past (inr passed) = inr (record { place = passed.place; came = (let came = passed.came in let more : came_count h n ≤ came_count (e ∷ h) n = came_grows e h n in omega (arith, came, more)); later = passed.later })

-- the calls that a lane had

-- the lane is below the factor, and a final call has no records
pub record IsGoodCall (s : Setting) (lane : LaneId) (call : Call) : Type 0 where
  pub low : lane.lane < s.config.factor
  pub empty : (w : ℕ) → call.closing ≡ Some w → call.places ≡ []

good_at : (s : Setting) (h : List Entry) (at lane : LaneId) (call c : Call) (m : ℕ) → IsGoodCall s at call → (last_call h lane ≡ Some c → IsGoodCall s lane c) → (if same_lane at lane then Some call else last_call h lane) ≡ Some c → IsGoodCall s lane c
good_at s h at lane call c m good old is =
    elim (cases_Bool (same_lane at lane)) [
      | inl same ↦ subst (λ d. IsGoodCall s lane d) (same_Some call c (rw same at is)) (subst (λ l. IsGoodCall s l call) (same_lane-true at lane same) good)
      | inr other ↦ old (rw other at is)
    ]

pub good_calls : (s : Setting) (h : List Entry) → Legal s h → (lane : LaneId) (call : Call) → last_call h lane ≡ Some call → IsGoodCall s lane call
good_calls s [] legal lane call is = cc
good_calls s (Began at places None m ∷ h) legal lane call is =
    good_at s h at lane (record { places = places; closing = None; moment = m }) call m (record { low = legal.1.1.call.below_factor; empty = λ w closing. cc }) (good_calls s h legal.0 lane call) is
good_calls s (Began at places (Some w) m ∷ h) legal lane call is =
    good_at s h at lane (record { places = places; closing = Some w; moment = m }) call m (record { low = legal.1.1.call.below_factor; empty = λ v closing. legal.1.1.no_places }) (good_calls s h legal.0 lane call) is
good_calls s (Came n first count m ∷ h) legal lane call is = good_calls s h legal.0 lane call is
good_calls s (Ended at reply m ∷ h) legal lane call is = good_calls s h legal.0 lane call is
good_calls s (Gave by n places f line state m ∷ h) legal lane call is = good_calls s h legal.0 lane call is
good_calls s (Tried at places c t m ∷ h) legal lane call is = good_calls s h legal.0 lane call is
good_calls s (Closed at w m ∷ h) legal lane call is = good_calls s h legal.0 lane call is
good_calls s (Replayed n places m ∷ h) legal lane call is = good_calls s h legal.0 lane call is
good_calls s (Shut m ∷ h) legal lane call is = good_calls s h legal.0 lane call is

-- the state that records leave is one of the first's window

abbrev Fits : Setting → ℕ → Debt → Type 0
Fits s n (Success [] (Some state)) = ⊥
Fits s n (Success (i ∷ is) (Some state)) = state.window ≡ window_of s n i
Fits s n (Success places None) = ⊤
Fits s n (GiveUp places) = ⊤
Fits s n (Try places closing tries) = ⊤
Fits s n (Close w) = ⊤

abbrev AllFit : Setting → ℕ → List Debt → Type 0
AllFit s n [] = ⊤
AllFit s n (d ∷ ds) = Fits s n d × AllFit s n ds

fit_append : (s : Setting) (n : ℕ) (ds es : List Debt) → AllFit s n ds → AllFit s n es → AllFit s n (ds ++ es)
fit_append s n [] es a b = b
fit_append s n (d ∷ ds) es a b = (a.0, fit_append s n ds es a.1 b)

fit_less : (s : Setting) (n : ℕ) (b : Bool) (ds : List Debt) → AllFit s n ds → AllFit s n (if b then drop 1 ds else ds)
fit_less s n true [] all = tt
fit_less s n true (d ∷ ds) all = all.1
fit_less s n false ds all = all

fit_new : (s : Setting) (n i : ℕ) (is xs : List ℕ) (closing : Option ℕ) (m : ℕ) (reply : Reply) → closing ≡ None → Fits s n (Success (i ∷ is) (new_state s n (record { places = i ∷ xs; closing = closing; moment = m }) reply))
fit_new s n i is xs closing m reply batch =
    elim (cases_Bool (has_windows s.config)) [
      | inl has ↦ rw (has, batch) refl
      | inr none ↦ rw none tt
    ]

fit_success : (s : Setting) (n p : ℕ) (places : List ℕ) (closing : Option ℕ) (m : ℕ) (reply : Reply) → ((w : ℕ) → closing ≡ Some w → places ≡ []) → AllFit s n (success_debts (take p places) (new_state s n (record { places = places; closing = closing; moment = m }) reply))
fit_success s n zero places closing m reply empty = tt
fit_success s n (suc p) [] closing m reply empty = tt
fit_success s n (suc p) (i ∷ is) None m reply empty = (fit_new s n i (take p is) is None m reply refl, tt)
fit_success s n (suc p) (i ∷ is) (Some w) m reply empty = (let clash : i ∷ is ≡ [] = empty w refl in cc)

fit_close : (s : Setting) (n : ℕ) (closing : Option ℕ) → AllFit s n (close_debts closing)
fit_close s n None = tt
fit_close s n (Some w) = (tt, tt)

fit_give_up : (s : Setting) (n : ℕ) (xs : List ℕ) → AllFit s n (give_up_debts xs)
fit_give_up s n [] = tt
fit_give_up s n (x ∷ xs) = (tt, tt)

fit_rest : (s : Setting) (n : ℕ) (r : Rest) (xs : List ℕ) (closing : Option ℕ) (t : ℕ) → AllFit s n (rest_debts r xs closing t)
fit_rest s n rest.Nothing xs closing t = fit_close s n closing
fit_rest s n rest.Again xs closing t = tt
fit_rest s n (rest.Split k) xs closing t = tt
fit_rest s n rest.Counted xs closing t = (tt, tt)
fit_rest s n rest.Exhausted xs closing t = fit_append s n (give_up_debts xs) (close_debts closing) (fit_give_up s n xs) (fit_close s n closing)

fit_end : (s : Setting) (h : List Entry) (lane : LaneId) (reply : Reply) (o : Option Call) → ((call : Call) → o ≡ Some call → IsGoodCall s lane call) → AllFit s lane.shard (call_debts s h lane o reply)
fit_end s h lane reply None good = tt
fit_end s h lane reply (Some call) good =
    (let v = verdict_after s h lane reply in
    fit_append s lane.shard (success_debts (take v.succeeded call.places) (new_state s lane.shard call reply)) (rest_debts v.rest (drop v.succeeded call.places) call.closing (tries_of s h lane.shard call))
    (fit_success s lane.shard v.succeeded call.places call.closing call.moment reply (good call refl).empty)
    (fit_rest s lane.shard v.rest (drop v.succeeded call.places) call.closing (tries_of s h lane.shard call)))

states_fit : (s : Setting) (h : List Entry) → Legal s h → (lane : LaneId) → AllFit s lane.shard (debts s h lane)
states_fit s [] legal lane = tt
states_fit s (Began at places c m ∷ h) legal lane = elim (cases_Bool (same_lane at lane)) [ inl same ↦ rw same tt | inr other ↦ rw other (states_fit s h legal.0 lane) ]
states_fit s (Ended at reply m ∷ h) legal lane = elim (cases_Bool (same_lane at lane)) [ inl same ↦ rw same (fit_end s h lane reply (last_call h lane) (good_calls s h legal.0 lane)) | inr other ↦ rw other (states_fit s h legal.0 lane) ]
states_fit s (Came n first count m ∷ h) legal lane = states_fit s h legal.0 lane
states_fit s (Gave by n places f line state m ∷ h) legal lane = fit_less s lane.shard (pays lane (debts s h lane) (Gave by n places f line state m)) (debts s h lane) (states_fit s h legal.0 lane)
states_fit s (Tried at places c t m ∷ h) legal lane = fit_less s lane.shard (pays lane (debts s h lane) (Tried at places c t m)) (debts s h lane) (states_fit s h legal.0 lane)
states_fit s (Closed at w m ∷ h) legal lane = fit_less s lane.shard (pays lane (debts s h lane) (Closed at w m)) (debts s h lane) (states_fit s h legal.0 lane)
states_fit s (Replayed n places m ∷ h) legal lane = states_fit s h legal.0 lane
states_fit s (Shut m ∷ h) legal lane = states_fit s h legal.0 lane

-- a `Gave` that leaves a state leaves it to the window of a record that was open
pub record LeavesState (s : Setting) (h : List Entry) (n : ℕ) (places : List ℕ) (state : WindowState) : Type 0 where
  pub place : ℕ
  pub came : place < came_count h n
  pub lacks : lacks_fate s h n place ≡ true
  pub window : state.window ≡ window_of s n place

record IsOfFirst (s : Setting) (n : ℕ) (places : List ℕ) (state : WindowState) : Type 0 where
  place : ℕ
  inside : In places place
  window : state.window ≡ window_of s n place

of_first : (s : Setting) (h : List Entry) (at : LaneId) (n : ℕ) (places : List ℕ) (f : Fate) (line : Option (List ℕ)) (state : WindowState) (m k : ℕ) (d : Debt)
    → Fits s at.shard d → debt_entry s h at k d ≡ Gave (Some at) n places f line (Some state) m → IsOfFirst s at.shard places state
of_first s h at n places f line state m k (Success [] (Some own)) fits is = absurd fits
of_first s h at n places f line state m k (Success (i ∷ xs) (Some own)) fits is =
    (let same : own ≡ state = cc in let listed : i ∷ xs ≡ places = cc in
    record { place = i; inside = subst (λ ys. In ys i) listed (In-here i xs i refl); window = ap (λ (x : WindowState). x.window) (sym same) ∙ fits })
of_first s h at n places f line state m k (Success given None) fits is = cc
of_first s h at n places f line state m k (GiveUp given) fits is = cc
of_first s h at n places f line state m k (Try given closing t) fits is = cc
of_first s h at n places f line state m k (Close w) fits is = cc

paid_state : (s : Setting) (h : List Entry) (at : LaneId) (n : ℕ) (places : List ℕ) (f : Fate) (line : Option (List ℕ)) (state : WindowState) (m : ℕ)
    → Legal s (Gave (Some at) n places f line (Some state) m ∷ h) → IsOwed s h at (Gave (Some at) n places f line (Some state) m) → LeavesState s h n places state
paid_state s h at n places f line state m legal owed =
    let first = first_debt s h at (Gave (Some at) n places f line (Some state) m) owed in
    let all : AllFit s at.shard (first.first ∷ drop 1 (debts s h at)) = subst (AllFit s at.shard) first.parts (states_fit s h legal.0 at) in
    let own = of_first s h at n places f line state m (last_moment h) first.first all.0 first.brings in
    let inside = gave_In s h at n places f line (Some state) m legal in
    let came = (open_In s h at own.place (inside.1 own.place own.inside)).0 in
    record {
      place = own.place;
      came = subst (λ k. own.place < came_count h k) (sym inside.0) came;
      lacks = gave_open s h (Some at) n places f line (Some state) m legal own.place own.inside;
      window = own.window ∙ ap (λ k. window_of s k own.place) (sym inside.0);
    }

pub gave_state : (s : Setting) (h : List Entry) (by : Option LaneId) (n : ℕ) (places : List ℕ) (f : Fate) (line : Option (List ℕ)) (state : WindowState) (m : ℕ) → Legal s (Gave by n places f line (Some state) m ∷ h) → LeavesState s h n places state
gave_state s h None n places Filtered line state m legal = (let none = legal.1.1.no_state in cc)
gave_state s h None n places Succeeded line state m legal = absurd legal.1.1
gave_state s h None n places Expired line state m legal = absurd legal.1.1
gave_state s h None n places Exhausted line state m legal = absurd legal.1.1
gave_state s h (Some at) n places Filtered line state m legal = absurd legal.1.1
gave_state s h (Some at) n places Expired line state m legal = (let none = legal.1.1.no_state in cc)
gave_state s h (Some at) n places Succeeded line state m legal = paid_state s h at n places Succeeded line state m legal legal.1.1
gave_state s h (Some at) n places Exhausted line state m legal = paid_state s h at n places Exhausted line state m legal legal.1.1

-- so the state of a window that is over stays as it is

kept_gave : (s : Setting) (h : List Entry) (by : Option LaneId) (k : ℕ) (places : List ℕ) (f : Fate) (line : Option (List ℕ)) (state : Option WindowState) (m n w : ℕ) → Legal s (Gave by k places f line state m ∷ h) → IsOver s h n w
    → (if k == n then text_for w (kept_state s h n w) state else kept_state s h n w) ≡ kept_state s h n w
kept_gave s h by k places f line None m n w legal over = elim (cases_Bool (k == n)) [ inl same ↦ rw same refl | inr other ↦ rw other refl ]
kept_gave s h by k places f line (Some state) m n w legal over =
    elim (cases_Bool (k == n)) [
      | inr other ↦ rw other refl
      | inl same ↦ (
          let left = gave_state s h by k places f line state m legal in
          let here : k ≡ n = eqb-true k n same in
          let apart : (state.window == w) ≡ false = ne_eqb state.window w (λ is.
          over.none_open left.place (subst (λ z. left.place < came_count h z) here left.came) (subst (λ z. lacks_fate s h z left.place ≡ true) here left.lacks)
          (ap (λ z. window_of s z left.place) (sym here) ∙ sym left.window ∙ is)) in
          rw (same, apart) refl)
    ]

-- the window is over, and has no state any more
pub record IsGone (s : Setting) (h : List Entry) (n w : ℕ) : Type 0 where
  pub over : IsOver s h n w
  pub gone : kept_state s h n w ≡ None

stays_none : (b : Bool) (o : Option (List ℕ)) → o ≡ None → (if b then None else o) ≡ None
stays_none true o is = refl
stays_none false o is = is

pub gone_stays : (s : Setting) (h : List Entry) (e : Entry) (n w : ℕ) → Legal s (e ∷ h) → IsGone s h n w → IsGone s (e ∷ h) n w
gone_stays s h e n w legal was = record { over = over_stays s h e n w legal was.over; gone = gone_at e legal }
  where
    gone_at : (e : Entry) → Legal s (e ∷ h) → kept_state s (e ∷ h) n w ≡ None
    gone_at (Gave by k places f line state m) legal' = kept_gave s h by k places f line state m n w legal' was.over ∙ was.gone
    gone_at (Closed at v m) legal' = stays_none ((at.shard == n) && (v == w)) (kept_state s h n w) was.gone
    gone_at (Came k first count m) legal' = was.gone
    gone_at (Began at places c m) legal' = was.gone
    gone_at (Ended at reply m) legal' = was.gone
    gone_at (Tried at places c t m) legal' = was.gone
    gone_at (Replayed k places m) legal' = was.gone
    gone_at (Shut m) legal' = was.gone

-- the windows that can have a state

-- a record of the window came, or its state was found
abbrev pub IsWindow : Setting → List Entry → ℕ → ℕ → Type 0
IsWindow s h n w = ((i : ℕ) × (i < came_count h n) × (window_of s n i ≡ w)) ⊎ (is_some (found_state s n w) ≡ true)

pub window_stays : (s : Setting) (e : Entry) (h : List Entry) (n w : ℕ) → IsWindow s h n w → IsWindow s (e ∷ h) n w
window_stays s e h n w (inl was) = inl (was.0, (let came = was.1 in let more : came_count h n ≤ came_count (e ∷ h) n = came_grows e h n in omega (arith, came, more)), was.2)
window_stays s e h n w (inr found) = inr found

some_closed : (b : Bool) (o : Option (List ℕ)) → is_some (if b then None else o) ≡ true → is_some o ≡ true
some_closed true o is = cc
some_closed false o is = is

pub stated_window : (s : Setting) (h : List Entry) → Legal s h → (n w : ℕ) → is_some (kept_state s h n w) ≡ true → IsWindow s h n w
stated_window s [] legal n w is = inr is
stated_window s (Came k first count m ∷ h) legal n w is = window_stays s (Came k first count m) h n w (stated_window s h legal.0 n w is)
stated_window s (Began at places c m ∷ h) legal n w is = stated_window s h legal.0 n w is
stated_window s (Ended at reply m ∷ h) legal n w is = stated_window s h legal.0 n w is
stated_window s (Tried at places c t m ∷ h) legal n w is = stated_window s h legal.0 n w is
stated_window s (Replayed k places m ∷ h) legal n w is = stated_window s h legal.0 n w is
stated_window s (Shut m ∷ h) legal n w is = stated_window s h legal.0 n w is
stated_window s (Closed at v m ∷ h) legal n w is = stated_window s h legal.0 n w (some_closed ((at.shard == n) && (v == w)) (kept_state s h n w) is)
stated_window s (Gave by k places f line None m ∷ h) legal n w is = stated_window s h legal.0 n w (elim (cases_Bool (k == n)) [ inl same ↦ rw same at is | inr other ↦ rw other at is ])
stated_window s (Gave by k places f line (Some state) m ∷ h) legal n w is =
    elim (cases_Bool (k == n)) [
      | inr other ↦ stated_window s h legal.0 n w (rw other at is)
      | inl same ↦ elim (cases_Bool (state.window == w)) [
        | inr other ↦ stated_window s h legal.0 n w (rw (same, other) at is)
        | inl own ↦ (
            let left = gave_state s h by k places f line state m legal in
            let here : k ≡ n = eqb-true k n same in
            inl (left.place, subst (λ z. left.place < came_count h z) here left.came, ap (λ z. window_of s z left.place) (sym here) ∙ sym left.window ∙ eqb-true state.window w own))
      ]
    ]
