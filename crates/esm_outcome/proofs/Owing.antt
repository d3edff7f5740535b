-- What is found is what the end calls for, over all lists of records that go on; and it can be added in order.
use Rattle.std.proofs.Common.{◌≡◌, ℕ, zero, suc, ◌+◌, ◌≤◌, Bool, true, false, cond, List, [], ◌∷◌, ◌++◌, length, take, drop, map, refl, sym, ap, ◌∙◌, subst, Option, Some, None, arith}
use Rattle.std.proofs.lemmas.List.{map-append}
use Rattle.esm_model.specs.declared.moment.TheConstants.{MAX_MOMENT}
use Rattle.esm_model.specs.declared.lane.LaneId.{LaneId}
use Rattle.esm_model.specs.declared.entry.Fate.TheVariants.{Succeeded, Exhausted}
use Rattle.esm_model.specs.declared.entry.Reply.{Reply}
use Rattle.esm_model.specs.declared.entry.WindowState.{WindowState}
use Rattle.esm_model.specs.declared.entry.Entry.{Entry}
use Rattle.esm_model.specs.declared.entry.Entry.TheVariants.{Ended, Gave}
use Rattle.esm_model.specs.declared.verdict.Rest.{Rest}
use Rattle.esm_model.specs.declared.verdict.Rest.TheVariants as rest
use Rattle.esm_model.specs.declared.verdict.Verdict.{Verdict}
use Rattle.esm_model.specs.Setting.{Setting, Stream, Extends, over}
use Rattle.esm_model.specs.Entries.{Call, last_moment, last_call, is_running}
use Rattle.esm_model.specs.Tries.{tries_for, tries_of, verdict_after}
use Rattle.esm_model.specs.Windows.{has_windows}
use Rattle.esm_model.specs.Calls.{window_of_call}
use Rattle.esm_model.specs.FailureLine.{failure_line}
use Rattle.esm_model.specs.Owed.{debt_entry, call_debts, verdict_debts, success_debts, give_up_debts, close_debts, rest_debts, new_state, state_in_reply, owed, Settled}
use Rattle.esm_model.proofs.Steps.{debts_ended}
use Rattle.esm_model.proofs.Owing.{added, owed_legal, owed_goes_on, ended_settles}
use Rattle.esm_model.proofs.Records.{same_records, verdict_same}
use Rattle.esm_model.proofs.Extended.{owed_same}
use Rattle.esm_ledger.specs.Ledger.{LegalOver}
use Rattle.esm_ledger.proofs.Ledgers.{own_legal}
use Rattle.esm_outcome.specs.declared.outcome.Due.{Due}
use Rattle.esm_outcome.specs.Dues.{due_entry}
use Rattle.esm_outcome.specs.Ending.{SettledOver, IsVerdictOver, AreOwedOver, MaySettle}
use Rattle.esm_outcome.specs.Parts.{success_state, success_dues, give_up_dues, close_dues, rest_dues}

-- entry by entry

success_entries : (s : Setting) (h : List Entry) (lane : LaneId) (m : ℕ) (good : List ℕ) (state owes : Option WindowState) → (1 ≤ length good → state ≡ owes)
    → map (due_entry lane m) (success_dues good state) ≡ map (debt_entry s h lane m) (success_debts good owes)
success_entries s h lane m [] state owes same = refl
success_entries s h lane m (i ∷ good) state owes same =
    ap (λ (o : Option WindowState). Gave (Some lane) lane.shard (i ∷ good) Succeeded None o m ∷ []) (same (omega arith))

give_up_entries : (s : Setting) (h : List Entry) (lane : LaneId) (m : ℕ) (left : List ℕ) (line : Option (List ℕ)) → (1 ≤ length left → line ≡ failure_line s h lane.shard left false m)
    → map (due_entry lane m) (give_up_dues left line) ≡ map (debt_entry s h lane m) (give_up_debts left)
give_up_entries s h lane m [] line same = refl
give_up_entries s h lane m (i ∷ left) line same =
    ap (λ (o : Option (List ℕ)). Gave (Some lane) lane.shard (i ∷ left) Exhausted o None m ∷ []) (same (omega arith))

close_entries : (s : Setting) (h : List Entry) (lane : LaneId) (m : ℕ) (closing : Option ℕ) → map (due_entry lane m) (close_dues closing) ≡ map (debt_entry s h lane m) (close_debts closing)
close_entries s h lane m None = refl
close_entries s h lane m (Some w) = refl

rest_entries : (s : Setting) (h : List Entry) (lane : LaneId) (m : ℕ) (r : Rest) (left : List ℕ) (closing : Option ℕ) (tries : ℕ) (line : Option (List ℕ))
    → (r ≡ rest.Exhausted → 1 ≤ length left → line ≡ failure_line s h lane.shard left false m)
    → map (due_entry lane m) (rest_dues r left closing tries line) ≡ map (debt_entry s h lane m) (rest_debts r left closing tries)
rest_entries s h lane m rest.Nothing left closing tries line same = close_entries s h lane m closing
rest_entries s h lane m rest.Again left closing tries line same = refl
rest_entries s h lane m rest.Counted left closing tries line same = refl
rest_entries s h lane m (rest.Split k) left closing tries line same = refl
rest_entries s h lane m rest.Exhausted left closing tries line same =
    map-append (due_entry lane m) (give_up_dues left line) (close_dues closing)
    ∙ ap (λ (es : List Entry). es ++ map (due_entry lane m) (close_dues closing)) (give_up_entries s h lane m left line (same refl))
    ∙ ap (λ (es : List Entry). map (debt_entry s h lane m) (give_up_debts left) ++ es) (close_entries s h lane m closing)
    ∙ sym (map-append (debt_entry s h lane m) (give_up_debts left) (close_debts closing))

-- what was found of the lane's call
pub record Found (s : Setting) (h : List Entry) (lane : LaneId) (reply : Reply) (m : ℕ) (call : Call) (v : Verdict) (tries : ℕ) (state : Option WindowState) (line : Option (List ℕ)) : Type 0 where
  pub last : last_call h lane ≡ Some call
  pub verdict : v ≡ verdict_after s h lane reply
  pub tries_are : tries ≡ tries_for s h lane.shard call.places call.closing
  pub state_is : 1 ≤ length (take v.succeeded call.places) → state ≡ new_state s lane.shard call reply
  pub line_is : v.rest ≡ rest.Exhausted → 1 ≤ length (drop v.succeeded call.places) → line ≡ failure_line s (Ended lane reply m ∷ h) lane.shard (drop v.succeeded call.places) false m

abbrev pub found_dues : Call → Verdict → ℕ → Option WindowState → Option (List ℕ) → List Due
found_dues call v tries state line = success_dues (take v.succeeded call.places) state ++ rest_dues v.rest (drop v.succeeded call.places) call.closing tries line

found_entries : (s : Setting) (h : List Entry) (lane : LaneId) (reply : Reply) (m : ℕ) (call : Call) (v : Verdict) (tries : ℕ) (state : Option WindowState) (line : Option (List ℕ))
    → Found s h lane reply m call v tries state line
    → map (due_entry lane m) (found_dues call v tries state line) ≡ map (debt_entry s (Ended lane reply m ∷ h) lane m) (verdict_debts s lane.shard call tries v reply)
found_entries s h lane reply m call v tries state line f =
    let e = Ended lane reply m ∷ h in
    let good = take v.succeeded call.places in
    let left = drop v.succeeded call.places in
    map-append (due_entry lane m) (success_dues good state) (rest_dues v.rest left call.closing tries line)
    ∙ ap (λ (es : List Entry). es ++ map (due_entry lane m) (rest_dues v.rest left call.closing tries line)) (success_entries s e lane m good state (new_state s lane.shard call reply) f.state_is)
    ∙ ap (λ (es : List Entry). map (debt_entry s e lane m) (success_debts good (new_state s lane.shard call reply)) ++ es) (rest_entries s e lane m v.rest left call.closing tries line f.line_is)
    ∙ sym (map-append (debt_entry s e lane m) (success_debts good (new_state s lane.shard call reply)) (rest_debts v.rest left call.closing tries))

pub found_owed : (s : Setting) (h : List Entry) (lane : LaneId) (reply : Reply) (m : ℕ) (call : Call) (v : Verdict) (tries : ℕ) (state : Option WindowState) (line : Option (List ℕ))
    → Found s h lane reply m call v tries state line
    → map (due_entry lane m) (found_dues call v tries state line) ≡ owed s (Ended lane reply m ∷ h) lane
found_owed s h lane reply m call v tries state line f =
    let e = Ended lane reply m ∷ h in
    found_entries s h lane reply m call v tries state line f
    ∙ ap (λ (t : ℕ). map (debt_entry s e lane m) (verdict_debts s lane.shard call t v reply)) f.tries_are
    ∙ ap (λ (w : Verdict). map (debt_entry s e lane m) (verdict_debts s lane.shard call (tries_of s h lane.shard call) w reply)) f.verdict
    ∙ ap (λ (o : Option Call). map (debt_entry s e lane m) (call_debts s h lane o reply)) (sym f.last)
    ∙ ap (map (debt_entry s e lane m)) (sym (debts_ended s lane reply m h))

-- the state, as it is read off a ledger
pub state_found : (s : Setting) (n : ℕ) (call : Call) (reply : Reply) (k : ℕ) (closing : Option ℕ) (text : List ℕ) (state : Option WindowState)
    → state ≡ success_state s n (take k call.places) closing text → closing ≡ call.closing
    → (1 ≤ k → has_windows s.config ≡ true → text ≡ state_in_reply reply)
    → 1 ≤ length (take k call.places) → state ≡ new_state s n call reply
state_found s n call reply k closing text state is ends told some = is ∙ at k call.places told some ∙ ap (λ (o : Option ℕ). cond (has_windows s.config) (Some (record { window = window_of_call s n call.places o; text = state_in_reply reply })) None) ends
  where
    cond_told : (b : Bool) (w : ℕ) → (b ≡ true → text ≡ state_in_reply reply) → cond b (Some (let x : WindowState = record { window = w; text = text } in x)) None ≡ cond b (Some (let x : WindowState = record { window = w; text = state_in_reply reply } in x)) None
    cond_told true w same = ap (λ (t : List ℕ). Some (let x : WindowState = record { window = w; text = t } in x)) (same refl)
    cond_told false w same = refl

    at : (k : ℕ) (places : List ℕ) → (1 ≤ k → has_windows s.config ≡ true → text ≡ state_in_reply reply) → 1 ≤ length (take k places)
        → success_state s n (take k places) closing text ≡ cond (has_windows s.config) (Some (record { window = window_of_call s n places closing; text = state_in_reply reply })) None
    at zero places told some = absurd (omega (arith, some))
    at (suc k) [] told some = absurd (omega (arith, some))
    at (suc k) (i ∷ places) told some = cond_told (has_windows s.config) (window_of_call s n (i ∷ places) closing) (told (omega arith))

-- over all lists that go on

pub ended_legal : (s : Setting) (h : List Entry) (lane : LaneId) (reply : Reply) (m : ℕ) → LegalOver s h → is_running h lane ≡ true → last_moment h ≤ m → m ≤ MAX_MOMENT → LegalOver s (Ended lane reply m ∷ h)
ended_legal s h lane reply m legal runs later within = λ ts ext. (legal ts ext, (record { not_back = later; within = within }, runs))

pub verdict_over : (s : Setting) (h : List Entry) (lane : LaneId) (reply : Reply) (v : Verdict) → LegalOver s h → is_running h lane ≡ true → v ≡ verdict_after s h lane reply → IsVerdictOver s h lane reply v
verdict_over s h lane reply v legal runs is = λ ts ext.
    let own = own_legal s h legal in
    is ∙ sym (verdict_same s ts h (same_records s ts h ext own) own lane reply runs)

pub owed_over : (s : Setting) (h : List Entry) (lane : LaneId) (reply : Reply) (m : ℕ) (dues : List Due) → LegalOver s (Ended lane reply m ∷ h) → map (due_entry lane m) dues ≡ owed s (Ended lane reply m ∷ h) lane → AreOwedOver s h lane reply m dues
owed_over s h lane reply m dues legal is = λ ts ext.
    let e = Ended lane reply m ∷ h in
    let own = own_legal s e legal in
    is ∙ sym (owed_same s ts e (same_records s ts e ext own) own lane)

may_settle : (s : Setting) (lane : LaneId) (es h : List Entry) → LegalOver s h → ((streams : List Stream) → Extends s.streams streams → owed (over s streams) h lane ≡ es) → SettledOver s (added es h) → MaySettle s h es
may_settle s lane [] h legal owes settled = settled
may_settle s lane (e ∷ es) h legal owes settled =
    let next : LegalOver s (e ∷ h) = λ ts ext. owed_legal (over s ts) h lane e es (legal ts ext) (owes ts ext) in
    (next, may_settle s lane es (e ∷ h) next (λ ts ext. owed_goes_on (over s ts) h lane e es (owes ts ext)) settled)

-- the end and all that it calls for may be added
pub end_settles : (s : Setting) (h : List Entry) (lane : LaneId) (reply : Reply) (m : ℕ) (dues : List Due) → SettledOver s h → LegalOver s (Ended lane reply m ∷ h) → AreOwedOver s h lane reply m dues
    → MaySettle s h (Ended lane reply m ∷ map (due_entry lane m) dues)
end_settles s h lane reply m dues settled legal owes =
    let e = Ended lane reply m ∷ h in
    let es = map (due_entry lane m) dues in (
      legal,
      may_settle s lane es e legal (λ ts ext. sym (owes ts ext)) (λ ts ext.
          subst (λ (xs : List Entry). Settled (over s ts) (added xs e)) (sym (owes ts ext)) (ended_settles (over s ts) h lane reply m (settled ts ext) (legal ts ext)).1),
    )
