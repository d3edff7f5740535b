-- What is found of a call's end is all that an outcome tells.
use Rattle.std.proofs.Common.{◌≡◌, ℕ, zero, suc, ◌+◌, ◌<◌, ◌≤◌, true, false, List, [], ◌∷◌, ◌++◌, length, take, drop, map, refl, sym, ap, ◌∙◌, subst, Option, Some, None, arith, get_or}
use Rattle.std.specs.Prelude.{slice_index}
use Rattle.esm_model.specs.declared.moment.TheConstants.{MAX_MOMENT}
use Rattle.esm_model.specs.declared.lane.LaneId.{LaneId}
use Rattle.esm_model.specs.declared.entry.Reply.{Reply}
use Rattle.esm_model.specs.declared.entry.WindowState.{WindowState}
use Rattle.esm_model.specs.declared.entry.Entry.TheVariants.{Ended}
use Rattle.esm_model.specs.declared.verdict.Rest.TheVariants as rest
use Rattle.esm_model.specs.declared.verdict.Verdict.{Verdict}
use Rattle.esm_model.specs.Entries.{came_count, last_moment}
use Rattle.esm_model.specs.FailureLine.{failure_line}
use Rattle.esm_model.specs.Tries.{tries_for, verdict_after}
use Rattle.esm_model.specs.Windows.{has_windows}
use Rattle.esm_model.specs.Owed.{state_in_reply}
use Rattle.esm_ledger.specs.declared.ledger.Ledger.{Ledger}
use Rattle.esm_ledger.specs.Ledger.{past_of, setting_of, LegalOver, Keeps}
use Rattle.esm_outcome.specs.declared.outcome.Due.{Due}
use Rattle.esm_outcome.specs.Dues.{due_entry}
use Rattle.esm_outcome.specs.Ending.{SettledOver, AreOwedOver, MaySettle}
use Rattle.esm_outcome.specs.Parts.{IsRunningCall, IsRest, success_state, success_dues, rest_dues}
use Rattle.esm_outcome.proofs.Calls.{drop_shorter}
use Rattle.esm_outcome.proofs.Called.{ran, ran_places, ran_closing, called_few, called_came, final_none}
use Rattle.esm_outcome.proofs.Owing.{Found, found_dues, found_owed, state_found, ended_legal, owed_over, end_settles}
use Rattle.esm_outcome.proofs.Counting.{IsEither}

-- what the functions found, one by one
pub record Told (c : Ledger) (lane : LaneId) (reply : Reply) (m : ℕ) (places : List ℕ) (closing : Option ℕ) (v : Verdict) (tries : ℕ) (good left text : List ℕ) (state : Option WindowState) (line : Option (List ℕ)) (dues : List Due) : Type 0 where
  pub kept : Keeps c
  pub call : IsRunningCall c lane places closing
  pub verdict : v ≡ verdict_after (setting_of c) (past_of c) lane reply
  pub tries_are : tries ≡ tries_for (setting_of c) (past_of c) lane.shard places closing
  pub good_are : good ≡ take v.succeeded places
  pub left_are : left ≡ drop v.succeeded places
  pub text_is : 1 ≤ v.succeeded → has_windows c.config ≡ true → text ≡ state_in_reply reply
  pub state_is : state ≡ success_state (setting_of c) lane.shard good closing text
  pub line_is : v.rest ≡ rest.Exhausted → 1 ≤ length left → line ≡ failure_line (setting_of c) (Ended lane reply m ∷ past_of c) lane.shard left false m
  pub dues_are : dues ≡ success_dues good state ++ rest_dues v.rest left closing tries line

told_found : (c : Ledger) (lane : LaneId) (reply : Reply) (m : ℕ) (places : List ℕ) (closing : Option ℕ) (v : Verdict) (tries : ℕ) (good left text : List ℕ) (state : Option WindowState) (line : Option (List ℕ)) (dues : List Due)
    → (t : Told c lane reply m places closing v tries good left text state line dues) → Found (setting_of c) (past_of c) lane reply m (ran c lane places closing t.kept t.call).call v tries state line
told_found c lane reply m places closing v tries good left text state line dues t =
    let s = setting_of c in
    let h = past_of c in
    let at = ran c lane places closing t.kept t.call in
    let places_is = ran_places c lane places closing t.kept t.call in
    let closing_is = ran_closing c lane places closing t.kept t.call in
    let good_is : good ≡ take v.succeeded at.call.places = t.good_are ∙ ap (take v.succeeded) places_is in
    let left_is : left ≡ drop v.succeeded at.call.places = t.left_are ∙ ap (drop v.succeeded) places_is in
    record {
      last = at.last;
      verdict = t.verdict;
      tries_are = t.tries_are ∙ ap (λ (xs : List ℕ). tries_for s h lane.shard xs closing) places_is ∙ ap (tries_for s h lane.shard at.call.places) closing_is;
      state_is = state_found s lane.shard at.call reply v.succeeded closing text state (t.state_is ∙ ap (λ (xs : List ℕ). success_state s lane.shard xs closing text) good_is) closing_is t.text_is;
      line_is = subst (λ (xs : List ℕ). v.rest ≡ rest.Exhausted → 1 ≤ length xs → line ≡ failure_line s (Ended lane reply m ∷ h) lane.shard xs false m) left_is t.line_is;
    }

told_dues : (c : Ledger) (lane : LaneId) (reply : Reply) (m : ℕ) (places : List ℕ) (closing : Option ℕ) (v : Verdict) (tries : ℕ) (good left text : List ℕ) (state : Option WindowState) (line : Option (List ℕ)) (dues : List Due)
    → (t : Told c lane reply m places closing v tries good left text state line dues) → dues ≡ found_dues (ran c lane places closing t.kept t.call).call v tries state line
told_dues c lane reply m places closing v tries good left text state line dues t =
    let at = ran c lane places closing t.kept t.call in
    let places_is = ran_places c lane places closing t.kept t.call in
    let closing_is = ran_closing c lane places closing t.kept t.call in
    t.dues_are
    ∙ ap (λ (xs : List ℕ). success_dues xs state ++ rest_dues v.rest left closing tries line) (t.good_are ∙ ap (take v.succeeded) places_is)
    ∙ ap (λ (xs : List ℕ). success_dues (take v.succeeded at.call.places) state ++ rest_dues v.rest xs closing tries line) (t.left_are ∙ ap (drop v.succeeded) places_is)
    ∙ ap (λ (o : Option ℕ). success_dues (take v.succeeded at.call.places) state ++ rest_dues v.rest (drop v.succeeded at.call.places) o tries line) closing_is

pub told_legal : (c : Ledger) (lane : LaneId) (reply : Reply) (m : ℕ) (places : List ℕ) (closing : Option ℕ) → Keeps c → IsRunningCall c lane places closing → last_moment (past_of c) ≤ m → m ≤ MAX_MOMENT → LegalOver (setting_of c) (Ended lane reply m ∷ past_of c)
told_legal c lane reply m places closing k is later within = ended_legal (setting_of c) (past_of c) lane reply m k.rests.legal is.runs later within

pub told_owed : (c : Ledger) (lane : LaneId) (reply : Reply) (m : ℕ) (places : List ℕ) (closing : Option ℕ) (v : Verdict) (tries : ℕ) (good left text : List ℕ) (state : Option WindowState) (line : Option (List ℕ)) (dues : List Due)
    → Told c lane reply m places closing v tries good left text state line dues → last_moment (past_of c) ≤ m → m ≤ MAX_MOMENT → AreOwedOver (setting_of c) (past_of c) lane reply m dues
told_owed c lane reply m places closing v tries good left text state line dues t later within =
    owed_over (setting_of c) (past_of c) lane reply m dues (told_legal c lane reply m places closing t.kept t.call later within)
    (ap (map (due_entry lane m)) (told_dues c lane reply m places closing v tries good left text state line dues t)
    ∙ found_owed (setting_of c) (past_of c) lane reply m (ran c lane places closing t.kept t.call).call v tries state line (told_found c lane reply m places closing v tries good left text state line dues t))

pub told_settles : (c : Ledger) (lane : LaneId) (reply : Reply) (m : ℕ) (places : List ℕ) (closing : Option ℕ) (v : Verdict) (tries : ℕ) (good left text : List ℕ) (state : Option WindowState) (line : Option (List ℕ)) (dues : List Due)
    → Told c lane reply m places closing v tries good left text state line dues → last_moment (past_of c) ≤ m → m ≤ MAX_MOMENT → SettledOver (setting_of c) (past_of c)
    → MaySettle (setting_of c) (past_of c) (Ended lane reply m ∷ map (due_entry lane m) dues)
told_settles c lane reply m places closing v tries good left text state line dues t later within settled =
    end_settles (setting_of c) (past_of c) lane reply m dues settled (told_legal c lane reply m places closing t.kept t.call later within)
    (told_owed c lane reply m places closing v tries good left text state line dues t later within)

take_none : (k : ℕ) → ◌≡◌ {A = List ℕ} (take k []) []
take_none zero = refl
take_none (suc k) = refl

drop_none : (k : ℕ) → ◌≡◌ {A = List ℕ} (drop k []) []
drop_none zero = refl
drop_none (suc k) = refl

either_of : (closing : Option ℕ) (good left places : List ℕ) (k : ℕ) → ((w : ℕ) → closing ≡ Some w → places ≡ []) → good ≡ take k places → left ≡ drop k places → IsEither closing good left
either_of None good left places k none good_is left_is = tt
either_of (Some w) good left places k none good_is left_is = (good_is ∙ ap (take k) (none w refl) ∙ take_none k, left_is ∙ ap (drop k) (none w refl) ∙ drop_none k)

pub told_either : (c : Ledger) (lane : LaneId) (places : List ℕ) (closing : Option ℕ) (good left : List ℕ) (k : ℕ) → Keeps c → IsRunningCall c lane places closing → good ≡ take k places → left ≡ drop k places → IsEither closing good left
told_either c lane places closing good left k kept is good_is left_is = either_of closing good left places k (λ w ends. final_none c lane places closing w kept is ends) good_is left_is

pub told_rest : (c : Ledger) (lane : LaneId) (places left : List ℕ) (closing : Option ℕ) (k : ℕ) → IsRunningCall c lane places closing → left ≡ drop k places → IsRest c lane left
told_rest c lane places left closing k is left_is = record { runs = is.runs; succeeded = k; left_are = left_is ∙ ap (drop k) is.places_are }

-- no state where no record succeeded
pub told_stateless : (c : Ledger) (n : ℕ) (good : List ℕ) (closing : Option ℕ) (text : List ℕ) (state : Option WindowState) → state ≡ success_state (setting_of c) n good closing text → good ≡ [] → state ≡ None
told_stateless c n good closing text state is none = is ∙ ap (λ (xs : List ℕ). success_state (setting_of c) n xs closing text) none

-- the first of those that succeeded came
pub good_came : (c : Ledger) (lane : LaneId) (places good : List ℕ) (closing : Option ℕ) (k : ℕ) → Keeps c → IsRunningCall c lane places closing → good ≡ take k places → 1 ≤ length good → slice_index good 0 < came_count (past_of c) lane.shard
good_came c lane places good closing k kept is good_is some =
    subst (λ (xs : List ℕ). slice_index xs 0 < came_count (past_of c) lane.shard) (sym good_is)
    (first_taken (λ i. i < came_count (past_of c) lane.shard) k places (called_came c lane places closing 0 kept is) (subst (λ (xs : List ℕ). 1 ≤ length xs) good_is some))
  where
    first_taken : (P : ℕ → Type 0) (k : ℕ) (xs : List ℕ) → (0 < length xs → P (get_or xs 0 0)) → 1 ≤ length (take k xs) → P (slice_index (take k xs) 0)
    first_taken P zero xs told some = absurd (omega (arith, some))
    first_taken P (suc k) [] told some = absurd (omega (arith, some))
    first_taken P (suc k) (x ∷ xs) told some = told (omega arith)

take_shorter : (k : ℕ) (xs : List ℕ) → length (take k xs) ≤ length xs
take_shorter zero xs = omega arith
take_shorter (suc k) [] = omega arith
take_shorter (suc k) (x ∷ xs) = (let less = take_shorter k xs in omega (arith, less))

-- how many there are fits
pub both_few : (c : Ledger) (lane : LaneId) (places good left : List ℕ) (closing : Option ℕ) (k : ℕ) → Keeps c → IsRunningCall c lane places closing → good ≡ take k places → left ≡ drop k places → length good + length left < 4294967296
both_few c lane places good left closing k kept is good_is left_is =
    let most = called_few c lane places closing kept is in
    let a : length good ≤ length places = subst (λ (xs : List ℕ). length xs ≤ length places) (sym good_is) (take_shorter k places) in
    let b : length left ≤ length places = subst (λ (xs : List ℕ). length xs ≤ length places) (sym left_is) (drop_shorter k places) in
    omega (arith, most, a, b)
