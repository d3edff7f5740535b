-- In a legal history each fate is earned.
use Rattle.std.proofs.Common.{◌≡◌, ℕ, zero, suc, ◌+◌, ◌-◌, ◌<◌, Bool, true, false, not, cond, ◌&&◌, List, [], ◌∷◌, ◌++◌, length, take, drop, refl, sym, ap, ◌∙◌, subst, ◌⊎◌, inl, inr, Option, Some, None}
use Rattle.std.specs.Prelude.{take_while, option_map, unwrap_or, nat_lt, is_some, ⊤}
use Rattle.std.proofs.lemmas.List.Sums.{take_while-cons}
use Rattle.std.proofs.lemmas.Bool.{cases_Bool, and_parts, ltb-true}
use Rattle.esm_model.specs.declared.limits.TheConstants.{MAX_EXPIRED}
use Rattle.esm_model.specs.Lane.{same_lane}
use Rattle.esm_model.specs.Filter.{passes}
use Rattle.esm_model.specs.declared.config.Config.{Config}
use Rattle.esm_model.specs.Records.{Record}
use Rattle.esm_model.specs.declared.lane.LaneId.{LaneId}
use Rattle.esm_model.specs.declared.verdict.Reading.{Reading}
use Rattle.esm_model.specs.declared.verdict.Reading.TheVariants.{Whole, NotRun, Failed, UpTo}
use Rattle.esm_model.specs.declared.verdict.Rest.{Rest}
use Rattle.esm_model.specs.declared.verdict.Rest.TheVariants as rest
use Rattle.esm_model.specs.declared.verdict.Verdict.{Verdict}
use Rattle.esm_model.specs.declared.entry.Fate.{Fate}
use Rattle.esm_model.specs.declared.entry.Fate.TheVariants.{Succeeded, Filtered, Expired, Exhausted}
use Rattle.esm_model.specs.declared.entry.Reply.{Reply}
use Rattle.esm_model.specs.declared.entry.WindowState.{WindowState}
use Rattle.esm_model.specs.declared.entry.Entry.{Entry}
use Rattle.esm_model.specs.declared.entry.Entry.TheVariants.{Came, Began, Ended, Gave, Tried, Closed, Replayed, Shut}
use Rattle.esm_model.specs.Setting.{Setting, record_at, sequences_at}
use Rattle.esm_model.specs.Entries.{Call, last_moment, last_call, came_count}
use Rattle.esm_model.specs.Fates.{below, lacks_fate}
use Rattle.esm_model.specs.Reading.{reading}
use Rattle.esm_model.specs.Ruling.{ruling, after_try}
use Rattle.esm_model.specs.Tries.{tries_of, call_verdict, verdict_on, verdict_after}
use Rattle.esm_model.specs.Batches.{is_expired, is_older, group}
use Rattle.esm_model.specs.Owed.{Debt, Success, GiveUp, Try, Close, debts, debt_entry, success_debts, give_up_debts, close_debts, rest_debts, verdict_debts, call_debts, new_state, pays, is_refused, is_unsorted, IsOwed}
use Rattle.esm_model.specs.Step.{Legal, MayFilter, MayExpire, MayGive}
use Rattle.esm_model.specs.Earned.{is_call_of, LastEnd, verdict_at, tries_at, HaveSucceeded, AreExhausted, IsTooOld, IsFilteredOut, HaveExpired, IsEarned, FateIsEarned}
use Rattle.esm_model.proofs.Lists.{In, In-none, In-cases, In-filter, In-take}
use Rattle.esm_model.proofs.Debts.{first_debt}
use Rattle.esm_model.proofs.Sound.{same_lane-true}
use Rattle.esm_model.proofs.Histories.{legal_before}

-- where a lane owes something, its last end called for it

-- what the end called for
abbrev called_for : (s : Setting) (h : List Entry) (lane : LaneId) → LastEnd s h lane → List Debt
called_for s h lane end = verdict_debts s lane.shard end.call (tries_of s end.earlier lane.shard end.call) (verdict_after s end.earlier lane end.reply) end.reply

-- what it still owes is the rest of that
record Remains (s : Setting) (h : List Entry) (lane : LaneId) (ds : List Debt) : Type 0 where
  end : LastEnd s h lane
  paid : ℕ
  left : ds ≡ drop paid (called_for s h lane end)

abbrev Comes : Setting → List Entry → LaneId → List Debt → Type 0
Comes s h lane ds = (ds ≡ []) ⊎ Remains s h lane ds

drop_more : (k : ℕ) (ds : List Debt) → drop 1 (drop k ds) ≡ drop (suc k) ds
drop_more zero ds = refl
drop_more (suc k) [] = refl
drop_more (suc k) (d ∷ ds) = drop_more k ds

-- an entry that begins and ends no call of the lane leaves it, and its front may go
goes_on : (s : Setting) (e : Entry) (h : List Entry) (lane : LaneId) (ds : List Debt) → is_call_of lane e ≡ false → Comes s h lane ds → Comes s (e ∷ h) lane ds
goes_on s e h lane ds still (inl none) = inl none
goes_on s e h lane ds still (inr was) =
    inr (record {
      end = record {
        since = e ∷ was.end.since;
        reply = was.end.reply;
        moment = was.end.moment;
        earlier = was.end.earlier;
        call = was.end.call;
        ended = ap (λ es. e ∷ es) was.end.ended;
        call_is = was.end.call_is;
        quiet = rw (still, was.end.quiet);
      };
      paid = was.paid;
      left = was.left;
    })

less_one : (s : Setting) (h : List Entry) (lane : LaneId) (ds : List Debt) → Comes s h lane ds → Comes s h lane (drop 1 ds)
less_one s h lane ds (inl none) = inl (ap (drop 1) none)
less_one s h lane ds (inr was) = inr (record { end = was.end; paid = suc was.paid; left = ap (drop 1) was.left ∙ drop_more was.paid (called_for s h lane was.end) })

less : (s : Setting) (h : List Entry) (lane : LaneId) (b : Bool) (ds : List Debt) → Comes s h lane ds → Comes s h lane (cond b (drop 1 ds) ds)
less s h lane true ds was = less_one s h lane ds was
less s h lane false ds was = was

ends : (s : Setting) (h : List Entry) (lane : LaneId) (reply : Reply) (m : ℕ) (o : Option Call) → last_call h lane ≡ o → Comes s (Ended lane reply m ∷ h) lane (call_debts s h lane o reply)
ends s h lane reply m None is = inl refl
ends s h lane reply m (Some call) is = inr (record {
  end = record { since = []; reply = reply; moment = m; earlier = h; call = call; ended = refl; call_is = is; quiet = refl };
  paid = 0;
  left = refl;
})

comes : (s : Setting) (h : List Entry) (lane : LaneId) → Comes s h lane (debts s h lane)
comes s [] lane = inl refl
comes s (Began at places closing m ∷ h) lane =
    elim (cases_Bool (same_lane at lane)) [
      | inl same ↦ inl (rw same refl)
      | inr other ↦ rw other (goes_on s (Began at places closing m) h lane (debts s h lane) other (comes s h lane))
    ]
comes s (Ended at reply m ∷ h) lane =
    elim (cases_Bool (same_lane at lane)) [
      | inl same ↦ subst (λ l. Comes s (Ended l reply m ∷ h) lane (debts s (Ended at reply m ∷ h) lane)) (sym (same_lane-true at lane same)) (rw same (ends s h lane reply m (last_call h lane) refl))
      | inr other ↦ rw other (goes_on s (Ended at reply m) h lane (debts s h lane) other (comes s h lane))
    ]
comes s (Gave None n places f line state m ∷ h) lane = goes_on s (Gave None n places f line state m) h lane (debts s h lane) refl (comes s h lane)
comes s (Gave (Some at) n places f line state m ∷ h) lane = goes_on s (Gave (Some at) n places f line state m) h lane (debts s (Gave (Some at) n places f line state m ∷ h) lane) refl (less s h lane (pays lane (debts s h lane) (Gave (Some at) n places f line state m)) (debts s h lane) (comes s h lane))
comes s (Tried at places closing t m ∷ h) lane = goes_on s (Tried at places closing t m) h lane (debts s (Tried at places closing t m ∷ h) lane) refl (less s h lane (pays lane (debts s h lane) (Tried at places closing t m)) (debts s h lane) (comes s h lane))
comes s (Closed at w m ∷ h) lane = goes_on s (Closed at w m) h lane (debts s (Closed at w m ∷ h) lane) refl (less s h lane (pays lane (debts s h lane) (Closed at w m)) (debts s h lane) (comes s h lane))
comes s (Came n first count m ∷ h) lane = goes_on s (Came n first count m) h lane (debts s h lane) refl (comes s h lane)
comes s (Replayed n places m ∷ h) lane = goes_on s (Replayed n places m) h lane (debts s h lane) refl (comes s h lane)
comes s (Shut m ∷ h) lane = goes_on s (Shut m) h lane (debts s h lane) refl (comes s h lane)

-- what an end calls for

abbrev IsCalledFor : Verdict → List ℕ → Debt → Type 0
IsCalledFor v batch (Success places state) = places ≡ take v.succeeded batch
IsCalledFor v batch (GiveUp places) = (v.rest ≡ rest.Exhausted) × (places ≡ drop v.succeeded batch)
IsCalledFor v batch (Try places closing tries) = ⊤
IsCalledFor v batch (Close window) = ⊤

abbrev AllCalledFor : Verdict → List ℕ → List Debt → Type 0
AllCalledFor v batch [] = ⊤
AllCalledFor v batch (d ∷ ds) = IsCalledFor v batch d × AllCalledFor v batch ds

all_append : (v : Verdict) (batch : List ℕ) (ds es : List Debt) → AllCalledFor v batch ds → AllCalledFor v batch es → AllCalledFor v batch (ds ++ es)
all_append v batch [] es a b = b
all_append v batch (d ∷ ds) es a b = (a.0, all_append v batch ds es a.1 b)

all_drop : (v : Verdict) (batch : List ℕ) (k : ℕ) (ds : List Debt) → AllCalledFor v batch ds → AllCalledFor v batch (drop k ds)
all_drop v batch zero ds all = all
all_drop v batch (suc k) [] all = tt
all_drop v batch (suc k) (d ∷ ds) all = all_drop v batch k ds all.1

all_success : (v : Verdict) (batch xs : List ℕ) (state : Option WindowState) → xs ≡ take v.succeeded batch → AllCalledFor v batch (success_debts xs state)
all_success v batch [] state is = tt
all_success v batch (x ∷ xs) state is = (is, tt)

all_given_up : (v : Verdict) (batch xs : List ℕ) → v.rest ≡ rest.Exhausted → xs ≡ drop v.succeeded batch → AllCalledFor v batch (give_up_debts xs)
all_given_up v batch [] given is = tt
all_given_up v batch (x ∷ xs) given is = ((given, is), tt)

all_closed : (v : Verdict) (batch : List ℕ) (closing : Option ℕ) → AllCalledFor v batch (close_debts closing)
all_closed v batch None = tt
all_closed v batch (Some w) = (tt, tt)

all_rest : (v : Verdict) (batch : List ℕ) (r : Rest) (xs : List ℕ) (closing : Option ℕ) (t : ℕ) → v.rest ≡ r → xs ≡ drop v.succeeded batch → AllCalledFor v batch (rest_debts r xs closing t)
all_rest v batch rest.Nothing xs closing t ruled is = all_closed v batch closing
all_rest v batch rest.Again xs closing t ruled is = tt
all_rest v batch (rest.Split k) xs closing t ruled is = tt
all_rest v batch rest.Counted xs closing t ruled is = (tt, tt)
all_rest v batch rest.Exhausted xs closing t ruled is = all_append v batch (give_up_debts xs) (close_debts closing) (all_given_up v batch xs ruled is) (all_closed v batch closing)

all_called_for : (s : Setting) (n : ℕ) (call : Call) (t : ℕ) (v : Verdict) (reply : Reply) → AllCalledFor v call.places (verdict_debts s n call t v reply)
all_called_for s n call t v reply =
    all_append v call.places (success_debts (take v.succeeded call.places) (new_state s n call reply)) (rest_debts v.rest (drop v.succeeded call.places) call.closing t)
    (all_success v call.places (take v.succeeded call.places) (new_state s n call reply) refl)
    (all_rest v call.places v.rest (drop v.succeeded call.places) call.closing t refl refl)

-- an entry that a lane owes

record IsEndOf (s : Setting) (h : List Entry) (lane : LaneId) (e : Entry) : Type 0 where
  end : LastEnd s h lane
  debt : Debt
  called : IsCalledFor (verdict_at end) end.call.places debt
  brings : debt_entry s h lane (last_moment h) debt ≡ e

no_debt : (ds : List Debt) (d : Debt) (es : List Debt) → ds ≡ [] → ds ≡ d ∷ es → ⊥
no_debt ds d es none some = (let clash : [] ≡ d ∷ es = sym none ∙ some in cc)

end_of : (s : Setting) (h : List Entry) (lane : LaneId) (e : Entry) → IsOwed s h lane e → IsEndOf s h lane e
end_of s h lane e owed =
    let first = first_debt s h lane e owed in
    elim (comes s h lane) [
      | inl none ↦ absurd (no_debt (debts s h lane) first.first (drop 1 (debts s h lane)) none first.parts)
      | inr was ↦ (
          let v = verdict_at was.end in
          let all : AllCalledFor (verdict_at was.end) was.end.call.places (drop was.paid (called_for s h lane was.end)) = all_drop (verdict_at was.end) was.end.call.places was.paid (called_for s h lane was.end) (all_called_for s lane.shard was.end.call (tries_of s was.end.earlier lane.shard was.end.call) (verdict_at was.end) was.end.reply) in
          let now : AllCalledFor (verdict_at was.end) was.end.call.places (first.first ∷ drop 1 (debts s h lane)) = subst (AllCalledFor (verdict_at was.end) was.end.call.places) (sym was.left ∙ first.parts) all in
          record { end = was.end; debt = first.first; called = now.0; brings = first.brings })
    ]

succeeded_by : (s : Setting) (h : List Entry) (lane : LaneId) (end : LastEnd s h lane) (d : Debt) (n : ℕ) (places : List ℕ) (line : Option (List ℕ)) (state : Option WindowState) (k m : ℕ)
    → IsCalledFor (verdict_at end) end.call.places d → debt_entry s h lane k d ≡ Gave (Some lane) n places Succeeded line state m → HaveSucceeded s h lane n places
succeeded_by s h lane end (Success given left) n places line state k m called is =
    (let shard : n ≡ lane.shard = cc in let same : places ≡ given = cc in record { end = end; shard = shard; exact = same ∙ called })
succeeded_by s h lane end (GiveUp given) n places line state k m called is = cc
succeeded_by s h lane end (Try given closing tries) n places line state k m called is = cc
succeeded_by s h lane end (Close window) n places line state k m called is = cc

-- a batch is given up where one more try is above the retries

record IsAbove (retries : Option ℕ) (tries : ℕ) : Type 0 where
  limit : ℕ
  finite : retries ≡ Some limit
  too_often : limit < tries + 1

above : (retries : Option ℕ) (tries : ℕ) → after_try retries tries ≡ rest.Exhausted → IsAbove retries tries
above None tries is = cc
above (Some limit) tries is =
    elim (cases_Bool (nat_lt limit (tries + 1))) [
      | inl over ↦ record { limit = limit; finite = refl; too_often = ltb-true limit (tries + 1) over }
      | inr within ↦ (let never : rest.Counted ≡ rest.Exhausted = rw within at is in cc)
    ]

ruled_above : (c : Config) (count tries : ℕ) (r : Reading) → (ruling c count tries r).rest ≡ rest.Exhausted → IsAbove c.retries tries
ruled_above c count tries Whole is = cc
ruled_above c count tries NotRun is = cc
ruled_above c count tries Failed is =
    elim (cases_Bool (c.bisect && nat_lt 1 count)) [
      | inl split ↦ (let halved = rw split at is in cc)
      | inr whole ↦ above c.retries tries (rw whole at is)
    ]
ruled_above c count tries (UpTo p) is =
    elim (cases_Bool c.bisect) [
      | inl split ↦ (let halved = rw split at is in cc)
      | inr whole ↦ above c.retries tries (rw whole at is)
    ]

exhausted_by : (s : Setting) (h : List Entry) (lane : LaneId) (end : LastEnd s h lane) (d : Debt) (n : ℕ) (places : List ℕ) (line : Option (List ℕ)) (state : Option WindowState) (k m : ℕ)
    → IsCalledFor (verdict_at end) end.call.places d → debt_entry s h lane k d ≡ Gave (Some lane) n places Exhausted line state m → AreExhausted s h lane n places
exhausted_by s h lane end (Success given left) n places line state k m called is = cc
exhausted_by s h lane end (GiveUp given) n places line state k m called is =
    let shard : n ≡ lane.shard = cc in
    let same : places ≡ given = cc in
    let ruled : verdict_after s end.earlier lane end.reply ≡ call_verdict s lane.shard end.call (tries_at end) end.reply = ap (λ o. verdict_on s end.earlier lane.shard o end.reply) end.call_is in
    let over = ruled_above s.config (length end.call.places) (tries_at end) (reading s.config (sequences_at s lane.shard end.call.places) (is_some end.call.closing) end.reply) (ap (λ (v : Verdict). v.rest) (sym ruled) ∙ called.0) in
    record { end = end; shard = shard; exact = same ∙ called.1; given_up = called.0; retries = over.limit; finite = over.finite; too_often = over.too_often }
exhausted_by s h lane end (Try given closing tries) n places line state k m called is = cc
exhausted_by s h lane end (Close window) n places line state k m called is = cc

-- the age and the filter

older_at : (a : Option ℕ) (r : Record) (m : ℕ) → is_older a r m ≡ true → (age : ℕ) × (a ≡ Some age) × (age < m - r.arrival)
older_at None r m is = cc
older_at (Some age) r m is = (age, refl, ltb-true age (m - r.arrival) is)

old_at : (s : Setting) (n m i : ℕ) (o : Option Record) → record_at s n i ≡ o → unwrap_or (option_map (λ (r : Record). is_older s.config.age_ms r m) o) false ≡ true → IsTooOld s n m i
old_at s n m i None at is = cc
old_at s n m i (Some r) at is = (let old = older_at s.config.age_ms r m is in record { item = r; stands = at; age = old.0; age_is = old.1; older = old.2 })

not_passed : (b : Bool) → not b ≡ true → b ≡ false
not_passed true is = cc
not_passed false is = refl

refused_at : (s : Setting) (n i : ℕ) (o : Option Record) → record_at s n i ≡ o → unwrap_or (option_map (is_refused s) o) false ≡ true → IsFilteredOut s n i
refused_at s n i None at is = cc
refused_at s n i (Some r) at is = record { item = r; stands = at; fails = not_passed (passes s.config.filters r) is }

In-take_while : (p : ℕ → Bool) (xs : List ℕ) (i : ℕ) → In (take_while p xs) i → p i ≡ true
In-take_while p [] i member = absurd (In-none i member)
In-take_while p (x ∷ xs) i member =
    elim (cases_Bool (p x)) [
      | inl is ↦ elim (In-cases x (take_while p xs) i (rw (take_while-cons p x xs, is) at member)) [
        | inl here ↦ ap p (sym here) ∙ is
        | inr there ↦ In-take_while p xs i there
      ]
      | inr fails ↦ (let none : In [] i = rw (take_while-cons p x xs, fails) at member in absurd (In-none i none))
    ]

expired_all : (s : Setting) (h : List Entry) (lane : LaneId) (n : ℕ) (places : List ℕ) (line : Option (List ℕ)) (state : Option WindowState) (m : ℕ) → MayExpire s h lane n places line state m → HaveExpired s lane n places m
expired_all s h lane n places line state m may = record {
  shard = may.shard;
  old = λ i member. subst (λ k. IsTooOld s k m i) (sym may.shard) (old_at s lane.shard m i (record_at s lane.shard i) refl
      (In-take_while (is_expired s lane.shard m) (group s h lane) i (In-take MAX_EXPIRED (take_while (is_expired s lane.shard m) (group s h lane)) i (subst (λ xs. In xs i) may.exact member))));
}

filtered_all : (s : Setting) (h : List Entry) (n : ℕ) (places : List ℕ) (line : Option (List ℕ)) (state : Option WindowState) (m : ℕ) → MayFilter s h n places line state m → (i : ℕ) → In places i → IsFilteredOut s n i
filtered_all s h n places line state m may i member =
    refused_at s n i (record_at s n i) refl
    (and_parts (lacks_fate s h n i) (unwrap_or (option_map (is_refused s) (record_at s n i)) false)
    (In-filter (is_unsorted s h n) (below (came_count h n)) i (subst (λ xs. In xs i) may.exact member)).1).1

-- each `Gave` that may follow is earned

gave_earned : (s : Setting) (h : List Entry) (by : Option LaneId) (n : ℕ) (places : List ℕ) (f : Fate) (line : Option (List ℕ)) (state : Option WindowState) (m : ℕ) → MayGive s h by n places f line state m → IsEarned s h by n places f m
gave_earned s h None n places Filtered line state m may = filtered_all s h n places line state m may
gave_earned s h None n places Succeeded line state m may = absurd may
gave_earned s h None n places Expired line state m may = absurd may
gave_earned s h None n places Exhausted line state m may = absurd may
gave_earned s h (Some lane) n places Filtered line state m may = absurd may
gave_earned s h (Some lane) n places Succeeded line state m may =
    (let by = end_of s h lane (Gave (Some lane) n places Succeeded line state m) may in succeeded_by s h lane by.end by.debt n places line state (last_moment h) m by.called by.brings)
gave_earned s h (Some lane) n places Expired line state m may = expired_all s h lane n places line state m may
gave_earned s h (Some lane) n places Exhausted line state m may =
    (let by = end_of s h lane (Gave (Some lane) n places Exhausted line state m) may in exhausted_by s h lane by.end by.debt n places line state (last_moment h) m by.called by.brings)

pub earned_of_legal : (s : Setting) (h : List Entry) → Legal s h → FateIsEarned s h
earned_of_legal s h legal later before by n places f line state m is =
    (let here : Legal s (Gave by n places f line state m ∷ before) = legal_before s later (Gave by n places f line state m ∷ before) (subst (Legal s) is legal) in
    gave_earned s before by n places f line state m here.1.1)
