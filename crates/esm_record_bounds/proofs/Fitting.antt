-- In a legal history each call that runs, each entry that is owed and each state that is kept is within the bounds.
use Rattle.std.proofs.Common.{◌≡◌, ℕ, ◌+◌, ◌-◌, ◌/◌, ◌<◌, ◌≤◌, Bool, true, false, not, ◌&&◌, ◌||◌, cond, List, [], ◌∷◌, ◌++◌, length, take, drop, refl, sym, ap, ◌∙◌, subst, inl, inr, Option, Some, None, arith}
use Rattle.std.specs.Prelude.{◌==◌, nat_le, nat_lt, min, is_some, IfSome, ⊤}
use Rattle.std.proofs.lemmas.Bool.{cases_Bool, and_from, le-leb, eqb-true}
use Rattle.std.proofs.lemmas.List.{length-drop}
use Rattle.std.proofs.lemmas.Option.{slice_get_cases}
use Rattle.esm_model.specs.declared.limits.TheConstants.{MAX_DATA, MAX_TRIES}
use Rattle.esm_model.specs.Lane.{same_lane}
use Rattle.esm_model.specs.declared.config.Config.{Config}
use Rattle.esm_model.specs.Records.{Record}
use Rattle.esm_model.specs.declared.lane.LaneId.{LaneId}
use Rattle.esm_model.specs.declared.entry.Fate.{Fate}
use Rattle.esm_model.specs.declared.entry.Fate.TheVariants.{Succeeded, Filtered, Expired, Exhausted}
use Rattle.esm_model.specs.declared.entry.Reply.{Reply}
use Rattle.esm_model.specs.declared.entry.WindowState.{WindowState}
use Rattle.esm_model.specs.declared.entry.Entry.{Entry}
use Rattle.esm_model.specs.declared.entry.Entry.TheVariants.{Came, Began, Ended, Gave, Tried, Closed, Replayed, Shut}
use Rattle.esm_model.specs.declared.verdict.Reading.{Reading}
use Rattle.esm_model.specs.declared.verdict.Reading.TheVariants.{Whole, NotRun, Failed, UpTo}
use Rattle.esm_model.specs.declared.verdict.Rest.{Rest}
use Rattle.esm_model.specs.declared.verdict.Rest.TheVariants as rest
use Rattle.esm_model.specs.declared.verdict.Verdict.{Verdict}
use Rattle.esm_model.specs.Setting.{Setting, record_at, records_of, sequences_at, is_in_lane}
use Rattle.esm_model.specs.Entries.{Call, came_count, last_moment, last_call, is_shut}
use Rattle.esm_model.specs.Fates.{open_places, lacks_fate}
use Rattle.esm_model.specs.Reading.{reading}
use Rattle.esm_model.specs.Ruling.{capped_tries, after_try, verdict, ruling}
use Rattle.esm_model.specs.Tries.{call_verdict, tries_of, verdict_on, verdict_after}
use Rattle.esm_model.specs.Windows.{has_windows, text_for, kept_state, is_outstanding, has_open_record, has_later_record, is_due}
use Rattle.esm_model.specs.Owed.{Debt, Success, GiveUp, Try, Close, debts, debt_entry, success_debts, give_up_debts, close_debts, rest_debts, verdict_debts, call_debts, end_debts, new_state, pays, IsOwed}
use Rattle.esm_model.specs.Step.{Legal, MayFollow, MayBegin, MayBeginFinal}
use Rattle.esm_model.proofs.Steps.{batch_front}
use Rattle.esm_model.proofs.Debts.{first_debt}
use Rattle.esm_model.proofs.Sound.{same_lane-true}
use Rattle.esm_model.proofs.Records.{came_within}
use Rattle.esm_verdict.specs.Readings.{IsWithin}
use Rattle.esm_journal_record.specs.Payload.{IsShard, IsMoment, IsTries, IsState}
use Rattle.esm_record_bounds.specs.Bounds.{AreWithinBounds, IsStateWithin}
use Rattle.esm_record_bounds.proofs.Rising.{IsRisingFrom, rising-take, rising-drop, rising-passing}
use Rattle.esm_record_bounds.proofs.Texts.{IsClosing, new_within, reading_within, fewer_sequences}

-- what is within the bounds

-- at least one place, in rising order
abbrev pub AreGiven : List ℕ → Type 0
AreGiven places = (1 ≤ length places) × IsRisingFrom 0 places

-- a batch has a record
abbrev pub HasSome : Option ℕ → List ℕ → Type 0
HasSome None places = 1 ≤ length places
HasSome (Some window) places = ⊤

pub record IsFitCall (n : ℕ) (call : Call) : Type 0 where
  pub shard : IsShard n
  pub rising : IsRisingFrom 0 call.places
  pub closes : IsClosing call.closing
  pub some : HasSome call.closing call.places

-- the last call of a lane of the shard, if there was one
abbrev pub IsFitLast : ℕ → Option Call → Type 0
IsFitLast n None = ⊤
IsFitLast n (Some call) = IsFitCall n call

-- what a lane of the shard owes
abbrev pub IsFitDebt : ℕ → Debt → Type 0
IsFitDebt n (Success places state) = AreGiven places × IfSome state IsState
IsFitDebt n (GiveUp places) = AreGiven places
IsFitDebt n (Try places None tries) = AreGiven places × IsTries tries
IsFitDebt n (Try places (Some window) tries) = IsShard n × IsMoment window × IsTries tries
IsFitDebt n (Close window) = IsShard n × IsMoment window

abbrev pub AreFitDebts : ℕ → List Debt → Type 0
AreFitDebts n [] = ⊤
AreFitDebts n (d ∷ ds) = IsFitDebt n d × AreFitDebts n ds

pub record IsFit (s : Setting) (h : List Entry) : Type 0 where
  pub states : (n w : ℕ) (text : List ℕ) → kept_state s h n w ≡ Some text → IsStateWithin w text
  pub calls : (lane : LaneId) → IsFitLast lane.shard (last_call h lane)
  pub owes : (lane : LaneId) → AreFitDebts lane.shard (debts s h lane)

fit_append : (n : ℕ) (ds es : List Debt) → AreFitDebts n ds → AreFitDebts n es → AreFitDebts n (ds ++ es)
fit_append n [] es first second = second
fit_append n (d ∷ ds) es first second = (first.0, fit_append n ds es first.1 second)

fit_drop : (n : ℕ) (ds : List Debt) → AreFitDebts n ds → AreFitDebts n (drop 1 ds)
fit_drop n [] fit = tt
fit_drop n (d ∷ ds) fit = fit.1

fit_either : (n : ℕ) (b : Bool) (ds es : List Debt) → (b ≡ true → AreFitDebts n ds) → AreFitDebts n es → AreFitDebts n (cond b ds es)
fit_either n true ds es first second = first refl
fit_either n false ds es first second = second

-- shards

-- a record that came stands in its list
pub record_came : (s : Setting) (h : List Entry) → Legal s h → (n i : ℕ) → i < came_count h n → (r : Record) × (record_at s n i ≡ Some r)
record_came s h legal n i came =
    let within = came_within s h legal n in
    elim (slice_get_cases (records_of s n) i).1 [
      | inl there ↦ (there.0, there.2)
      | inr past ↦ (let out : length (records_of s n) ≤ i = past.0 in absurd (omega arith))
    ]

-- a shard that came is one
pub shard_came : (s : Setting) (h : List Entry) → AreWithinBounds s → Legal s h → (n : ℕ) → 1 ≤ came_count h n → IsShard n
shard_came s h bounds legal n came =
    let there = record_came s h legal n 0 (omega arith) in
    subst IsShard (bounds.own_shard n 0 there.0 there.1) (bounds.valid n 0 there.0 there.1).shard

-- the end of a call

tries_within : (t : ℕ) → IsTries (capped_tries (t + 1))
tries_within t =
    and_from (nat_le 1 (capped_tries (t + 1))) (nat_le (capped_tries (t + 1)) MAX_TRIES)
    (le-leb 1 (capped_tries (t + 1)) (above t)) (le-leb (capped_tries (t + 1)) MAX_TRIES (below_most t))
  where
    above : (t : ℕ) → 1 ≤ min MAX_TRIES (t + 1)
    above t = omega arith

    below_most : (t : ℕ) → min MAX_TRIES (t + 1) ≤ MAX_TRIES
    below_most t = omega arith

-- where a try is counted, not all succeeded
abbrev LeavesSome : ℕ → ℕ → Rest → Type 0
LeavesSome count done rest.Counted = done < count
LeavesSome count done _ = ⊤

abbrev VerdictLeaves : ℕ → Verdict → Type 0
VerdictLeaves count v = LeavesSome count v.succeeded v.rest

leaves_either : (count : ℕ) (b : Bool) (v w : Verdict) → VerdictLeaves count v → VerdictLeaves count w → VerdictLeaves count (cond b v w)
leaves_either count true v w first second = first
leaves_either count false v w first second = second

leaves_tried : (count done : ℕ) (retries : Option ℕ) (t : ℕ) → done < count → LeavesSome count done (after_try retries t)
leaves_tried count done None t less = less
leaves_tried count done (Some most) t less =
    elim (cases_Bool (nat_lt most (t + 1))) [
      | inl is ↦ rw is tt
      | inr fails ↦ rw fails less
    ]

ruling_leaves : (c : Config) (count t : ℕ) (r : Reading) → 1 ≤ count → IsWithin count r → VerdictLeaves count (ruling c count t r)
ruling_leaves c count t Whole some within = tt
ruling_leaves c count t NotRun some within = tt
ruling_leaves c count t Failed some within =
    leaves_either count (c.bisect && nat_lt 1 count) (verdict 0 (rest.Split (count - count / 2))) (verdict 0 (after_try c.retries t)) tt (leaves_tried count 0 c.retries t (omega arith))
ruling_leaves c count t (UpTo p) some within =
    leaves_either count c.bisect (verdict p (rest.Split (count - p))) (verdict p (after_try c.retries t)) tt (leaves_tried count p c.retries t within.1)

within_more : (n m : ℕ) (r : Reading) → n ≤ m → IsWithin n r → IsWithin m r
within_more n m Whole le within = tt
within_more n m NotRun le within = tt
within_more n m Failed le within = tt
within_more n m (UpTo p) le within = (within.0, let less : p < n = within.1 in omega arith)

call_leaves : (s : Setting) (n : ℕ) (call : Call) (t : ℕ) (reply : Reply) → 1 ≤ length call.places → VerdictLeaves (length call.places) (call_verdict s n call t reply)
call_leaves s n call t reply some =
    let ids = sequences_at s n call.places in
    let closing = is_some call.closing in
    ruling_leaves s.config (length call.places) t (reading s.config ids closing reply) some
    (within_more (length ids) (length call.places) (reading s.config ids closing reply) (fewer_sequences s n call.places) (reading_within s.config ids closing reply))

left_some : (count done : ℕ) (r : Rest) (xs : List ℕ) → r ≡ rest.Counted → count ≡ length xs → LeavesSome count done r → 1 ≤ length (drop done xs)
left_some count done r xs is same leaves =
    let less : done < count = subst (LeavesSome count done) is leaves in
    let left : length (drop done xs) ≡ length xs - done = length-drop done xs in
    omega arith

fit_success : (n : ℕ) (xs : List ℕ) (state : Option WindowState) → IsRisingFrom 0 xs → IfSome state IsState → AreFitDebts n (success_debts xs state)
fit_success n [] state rising within = tt
fit_success n (x ∷ xs) state rising within = (((omega arith, rising), within), tt)

fit_give_up : (n : ℕ) (xs : List ℕ) → IsRisingFrom 0 xs → AreFitDebts n (give_up_debts xs)
fit_give_up n [] rising = tt
fit_give_up n (x ∷ xs) rising = ((omega arith, rising), tt)

fit_close : (n : ℕ) (closing : Option ℕ) → IsShard n → IsClosing closing → AreFitDebts n (close_debts closing)
fit_close n None shard closes = tt
fit_close n (Some window) shard closes = ((shard, closes), tt)

fit_rest : (n : ℕ) (r : Rest) (xs : List ℕ) (closing : Option ℕ) (t : ℕ) → IsShard n → IsRisingFrom 0 xs → IsClosing closing → (r ≡ rest.Counted → closing ≡ None → 1 ≤ length xs) → AreFitDebts n (rest_debts r xs closing t)
fit_rest n rest.Nothing xs closing t shard rising closes some = fit_close n closing shard closes
fit_rest n rest.Again xs closing t shard rising closes some = tt
fit_rest n (rest.Split k) xs closing t shard rising closes some = tt
fit_rest n rest.Counted xs None t shard rising closes some = (((some refl refl, rising), tries_within t), tt)
fit_rest n rest.Counted xs (Some window) t shard rising closes some = ((shard, closes, tries_within t), tt)
fit_rest n rest.Exhausted xs closing t shard rising closes some = fit_append n (give_up_debts xs) (close_debts closing) (fit_give_up n xs rising) (fit_close n closing shard closes)

has_some : (closing : Option ℕ) (places : List ℕ) → closing ≡ None → HasSome closing places → 1 ≤ length places
has_some closing places none some = subst (λ o. HasSome o places) none some

fit_end : (s : Setting) → AreWithinBounds s → (h : List Entry) (lane : LaneId) (reply : Reply) → IsFitLast lane.shard (last_call h lane) → AreFitDebts lane.shard (end_debts s h lane reply)
fit_end s bounds h lane reply fit = at (last_call h lane) fit refl
  where
    at : (o : Option Call) → IsFitLast lane.shard o → last_call h lane ≡ o → AreFitDebts lane.shard (call_debts s h lane o reply)
    at None fit is = tt
    at (Some call) fit is =
        let n = lane.shard in
        let t = tries_of s h n call in
        let v = call_verdict s n call t reply in
        let same : verdict_after s h lane reply ≡ v = ap (λ o. verdict_on s h lane.shard o reply) is in
        subst (λ (w : Verdict). AreFitDebts lane.shard (verdict_debts s lane.shard call (tries_of s h lane.shard call) w reply)) (sym same)
        (fit_append n (success_debts (take v.succeeded call.places) (new_state s n call reply)) (rest_debts v.rest (drop v.succeeded call.places) call.closing t)
        (fit_success n (take v.succeeded call.places) (new_state s n call reply) (rising-take v.succeeded 0 call.places fit.rising) (new_within s bounds n call reply fit.closes))
        (fit_rest n v.rest (drop v.succeeded call.places) call.closing t fit.shard (rising-drop v.succeeded 0 call.places fit.rising) fit.closes
        (λ counted none. left_some (length call.places) v.succeeded v.rest call.places counted refl (call_leaves s n call t reply (has_some call.closing call.places none fit.some)))))

-- the begin of a call

pub rising_open : (s : Setting) (h : List Entry) (lane : LaneId) → IsRisingFrom 0 (open_places s h lane)
rising_open s h lane = rising-passing (λ i. is_in_lane s lane i && lacks_fate s h lane.shard i) (came_count h lane.shard)

began_fit : (s : Setting) → AreWithinBounds s → (h : List Entry) → Legal s h → (lane : LaneId) (places : List ℕ) (m : ℕ) → MayBegin s h lane places m → IsFitCall lane.shard (record { places = places; closing = None; moment = m })
began_fit s bounds h legal lane places m may =
    let cut = batch_front s h lane m in
    record {
      shard = shard_came s h bounds legal lane.shard may.call.came;
      rising = subst (IsRisingFrom 0) (sym (may.exact ∙ cut.1)) (rising-take cut.0 0 (open_places s h lane) (rising_open s h lane));
      closes = tt;
      some = may.some;
    }

kept_some : (o : Option (List ℕ)) → is_some o ≡ true → (text : List ℕ) × (o ≡ Some text)
kept_some None is = cc
kept_some (Some text) is = (text, refl)

due_kept : (s : Setting) (h : List Entry) (n w : ℕ) → is_due s h n w ≡ true → is_some (kept_state s h n w) ≡ true
due_kept s h n w due =
    last (has_windows s.config) (nat_lt 0 (came_count h n)) (is_some (kept_state s h n w))
    (first (is_outstanding s h n w) (not (has_open_record s h n w)) (has_later_record s h n w || is_shut h) due)
  where
    first : (a b c : Bool) → (a && b && c) ≡ true → a ≡ true
    first true b c is = refl
    first false b c is = is

    last : (a b c : Bool) → (a && b && c) ≡ true → c ≡ true
    last true true c is = is
    last true false c is = cc
    last false b c is = cc

final_fit : (s : Setting) → AreWithinBounds s → (h : List Entry) → Legal s h → IsFit s h → (lane : LaneId) (places : List ℕ) (w m : ℕ) → MayBeginFinal s h lane places w m → IsFitCall lane.shard (record { places = places; closing = Some w; moment = m })
final_fit s bounds h legal fit lane places w m may =
    let state = kept_some (kept_state s h lane.shard w) (due_kept s h lane.shard w may.due) in
    record {
      shard = shard_came s h bounds legal lane.shard may.call.came;
      rising = subst (IsRisingFrom 0) (sym may.no_places) tt;
      closes = (fit.states lane.shard w state.0 state.1).in_time;
      some = tt;
    }

last_either : (at lane : LaneId) (call : Call) (before : Option Call) → IsFitCall at.shard call → IsFitLast lane.shard before → IsFitLast lane.shard (cond (same_lane at lane) (Some call) before)
last_either at lane call before now was =
    elim (cases_Bool (same_lane at lane)) [
      | inl same ↦ rw same (subst (λ (l : LaneId). IsFitCall l.shard call) (same_lane-true at lane same) now)
      | inr other ↦ rw other was
    ]

-- states

-- that which an entry leaves to a window
abbrev StateFits : Entry → Type 0
StateFits (Gave by shard places fate line state moment) = IfSome state IsState
StateFits _ = ⊤

text_within : (w : ℕ) (before : Option (List ℕ)) (state : Option WindowState) (text : List ℕ) → IfSome state IsState → (before ≡ Some text → IsStateWithin w text) → text_for w before state ≡ Some text → IsStateWithin w text
text_within w before None text fits was is = was is
text_within w before (Some state) text fits was is =
    elim (cases_Bool (state.window == w)) [
      | inl same ↦ (
          let kept : Some state.text ≡ Some text = rw same at is in
          let texts : state.text ≡ text = cc in
          let e : state.window ≡ w = eqb-true state.window w same in
          record { in_time = subst IsMoment e fits.0; short = subst (λ (t : List ℕ). length t ≤ MAX_DATA) texts fits.1 })
      | inr other ↦ was (rw other at is)
    ]

either_within : (b : Bool) (x y : Option (List ℕ)) (w : ℕ) (text : List ℕ) → (x ≡ Some text → IsStateWithin w text) → (y ≡ Some text → IsStateWithin w text) → cond b x y ≡ Some text → IsStateWithin w text
either_within true x y w text first second is = first is
either_within false x y w text first second is = second is

states_after : (s : Setting) (h : List Entry) (e : Entry) → StateFits e → ((n w : ℕ) (text : List ℕ) → kept_state s h n w ≡ Some text → IsStateWithin w text) → (n w : ℕ) (text : List ℕ) → kept_state s (e ∷ h) n w ≡ Some text → IsStateWithin w text
states_after s h (Gave by shard places f line state m) fits was n w text is =
    either_within (shard == n) (text_for w (kept_state s h n w) state) (kept_state s h n w) w text
    (text_within w (kept_state s h n w) state text fits (was n w text)) (was n w text) is
states_after s h (Closed lane window m) fits was n w text is =
    either_within ((lane.shard == n) && (window == w)) None (kept_state s h n w) w text (λ none. cc) (was n w text) is
states_after s h (Came shard first count m) fits was n w text is = was n w text is
states_after s h (Began lane places closing m) fits was n w text is = was n w text is
states_after s h (Ended lane reply m) fits was n w text is = was n w text is
states_after s h (Tried lane places closing t m) fits was n w text is = was n w text is
states_after s h (Replayed shard places m) fits was n w text is = was n w text is
states_after s h (Shut m) fits was n w text is = was n w text is

-- the first of what a fit history owes
pub first_fit : (s : Setting) (h : List Entry) → IsFit s h → (lane : LaneId) (d : Debt) (ds : List Debt) → debts s h lane ≡ d ∷ ds → IsFitDebt lane.shard d
first_fit s h fit lane d ds is = (subst (AreFitDebts lane.shard) is (fit.owes lane)).0

debt_state : (s : Setting) (h : List Entry) (lane : LaneId) (m : ℕ) (d : Debt) → IsFitDebt lane.shard d → StateFits (debt_entry s h lane m d)
debt_state s h lane m (Success places state) fits = fits.1
debt_state s h lane m (GiveUp places) fits = tt
debt_state s h lane m (Try places closing t) fits = tt
debt_state s h lane m (Close window) fits = tt

owed_state : (s : Setting) (h : List Entry) (lane : LaneId) (e : Entry) → IsFit s h → IsOwed s h lane e → StateFits e
owed_state s h lane e fit owed =
    let is = first_debt s h lane e owed in
    subst StateFits is.brings (debt_state s h lane (last_moment h) is.first (first_fit s h fit lane is.first (drop 1 (debts s h lane)) is.parts))

no_state : (state : Option WindowState) → state ≡ None → IfSome state IsState
no_state None is = tt
no_state (Some state) is = cc

pub gave_state : (s : Setting) (h : List Entry) (by : Option LaneId) (n : ℕ) (places : List ℕ) (f : Fate) (line : Option (List ℕ)) (state : Option WindowState) (m : ℕ) → IsFit s h → MayFollow s h (Gave by n places f line state m) → IfSome state IsState
gave_state s h None n places Filtered line state m fit may = no_state state may.no_state
gave_state s h None n places Succeeded line state m fit may = absurd may
gave_state s h None n places Expired line state m fit may = absurd may
gave_state s h None n places Exhausted line state m fit may = absurd may
gave_state s h (Some at) n places Filtered line state m fit may = absurd may
gave_state s h (Some at) n places Succeeded line state m fit may = owed_state s h at (Gave (Some at) n places Succeeded line state m) fit may
gave_state s h (Some at) n places Exhausted line state m fit may = owed_state s h at (Gave (Some at) n places Exhausted line state m) fit may
gave_state s h (Some at) n places Expired line state m fit may = no_state state may.no_state

-- each step keeps it

paid_fit : (n : ℕ) (b : Bool) (ds : List Debt) → AreFitDebts n ds → AreFitDebts n (cond b (drop 1 ds) ds)
paid_fit n b ds fit = fit_either n b (drop 1 ds) ds (λ is. fit_drop n ds fit) fit

gave_debts : (s : Setting) (h : List Entry) (by : Option LaneId) (k : ℕ) (places : List ℕ) (f : Fate) (line : Option (List ℕ)) (state : Option WindowState) (m : ℕ) (lane : LaneId) → AreFitDebts lane.shard (debts s h lane) → AreFitDebts lane.shard (debts s (Gave by k places f line state m ∷ h) lane)
gave_debts s h None k places f line state m lane fit = fit
gave_debts s h (Some at) k places f line state m lane fit = paid_fit lane.shard (pays lane (debts s h lane) (Gave (Some at) k places f line state m)) (debts s h lane) fit

fit_step : (s : Setting) → AreWithinBounds s → (h : List Entry) (e : Entry) → Legal s (e ∷ h) → IsFit s h → IsFit s (e ∷ h)
fit_step s bounds h (Came n first count m) legal fit = record { states = fit.states; calls = fit.calls; owes = fit.owes }
fit_step s bounds h (Began at places None m) legal fit = record {
  states = fit.states;
  calls = λ lane. last_either at lane (record { places = places; closing = None; moment = m }) (last_call h lane) (began_fit s bounds h legal.0 at places m legal.1.1) (fit.calls lane);
  owes = λ lane. fit_either lane.shard (same_lane at lane) [] (debts s h lane) (λ is. tt) (fit.owes lane);
}
fit_step s bounds h (Began at places (Some w) m) legal fit = record {
  states = fit.states;
  calls = λ lane. last_either at lane (record { places = places; closing = Some w; moment = m }) (last_call h lane) (final_fit s bounds h legal.0 fit at places w m legal.1.1) (fit.calls lane);
  owes = λ lane. fit_either lane.shard (same_lane at lane) [] (debts s h lane) (λ is. tt) (fit.owes lane);
}
fit_step s bounds h (Ended at reply m) legal fit = record {
  states = fit.states;
  calls = fit.calls;
  owes = λ lane. fit_either lane.shard (same_lane at lane) (end_debts s h lane reply) (debts s h lane) (λ is. fit_end s bounds h lane reply (fit.calls lane)) (fit.owes lane);
}
fit_step s bounds h (Gave by n places f line state m) legal fit = record {
  states = states_after s h (Gave by n places f line state m) (gave_state s h by n places f line state m fit legal.1.1) fit.states;
  calls = fit.calls;
  owes = λ lane. gave_debts s h by n places f line state m lane (fit.owes lane);
}
fit_step s bounds h (Tried at places closing t m) legal fit = record {
  states = fit.states;
  calls = fit.calls;
  owes = λ lane. paid_fit lane.shard (pays lane (debts s h lane) (Tried at places closing t m)) (debts s h lane) (fit.owes lane);
}
fit_step s bounds h (Closed at w m) legal fit = record {
  states = states_after s h (Closed at w m) tt fit.states;
  calls = fit.calls;
  owes = λ lane. paid_fit lane.shard (pays lane (debts s h lane) (Closed at w m)) (debts s h lane) (fit.owes lane);
}
fit_step s bounds h (Replayed n places m) legal fit = absurd legal.1.1
fit_step s bounds h (Shut m) legal fit = record { states = fit.states; calls = fit.calls; owes = fit.owes }

pub fit_of_legal : (s : Setting) → AreWithinBounds s → (h : List Entry) → Legal s h → IsFit s h
fit_of_legal s bounds [] legal = record { states = bounds.states; calls = λ lane. tt; owes = λ lane. tt }
fit_of_legal s bounds (e ∷ h) legal = fit_step s bounds h e legal (fit_of_legal s bounds h legal.0)
