-- No entry of a legal history that is owed or expires names more places than a batch has at most.
use Rattle.std.proofs.Common.{◌≡◌, ℕ, ◌-◌, ◌≤◌, Bool, true, false, not, ◌&&◌, cond, List, [], ◌∷◌, ◌++◌, length, take, drop, refl, sym, ap, ◌∙◌, subst, inl, inr, Option, Some, None, arith}
use Rattle.std.specs.Prelude.{nat_le, min, take_while, ⊤}
use Rattle.std.specs.List.{list_all}
use Rattle.std.proofs.lemmas.Bool.{cases_Bool, and_parts, leb-true}
use Rattle.std.proofs.lemmas.List.{length-take, length-drop}
use Rattle.esm_model.specs.declared.limits.TheConstants.{MAX_BATCH, MAX_EXPIRED, MAX_EVENT}
use Rattle.esm_model.specs.declared.config.Kind.{Kind}
use Rattle.esm_model.specs.declared.config.Kind.TheVariants.{Stream, Standard, Fifo}
use Rattle.esm_model.specs.Lane.{same_lane}
use Rattle.esm_model.specs.declared.lane.LaneId.{LaneId}
use Rattle.esm_model.specs.declared.entry.Fate.TheVariants.{Succeeded, Filtered, Expired, Exhausted}
use Rattle.esm_model.specs.declared.entry.Reply.{Reply}
use Rattle.esm_model.specs.declared.entry.WindowState.{WindowState}
use Rattle.esm_model.specs.declared.entry.Entry.{Entry}
use Rattle.esm_model.specs.declared.entry.Entry.TheVariants.{Came, Began, Ended, Gave, Tried, Closed, Replayed, Shut}
use Rattle.esm_model.specs.declared.verdict.Rest.{Rest}
use Rattle.esm_model.specs.declared.verdict.Rest.TheVariants as rest
use Rattle.esm_model.specs.Valid.{is_between, is_batch_size, IsStreamConfig}
use Rattle.esm_model.specs.Setting.{Setting}
use Rattle.esm_model.specs.Entries.{Call, last_moment, last_call, batch_of}
use Rattle.esm_model.specs.Tries.{tries_of, verdict_after}
use Rattle.esm_model.specs.Calls.{event_of}
use Rattle.esm_model.specs.Batches.{longest, is_one_window, is_expired, fits, group}
use Rattle.esm_model.specs.Owed.{Debt, Success, GiveUp, Try, Close, debts, debt_entry, success_debts, give_up_debts, close_debts, rest_debts, call_debts, end_debts, new_state, pays, IsOwed}
use Rattle.esm_model.specs.Step.{Legal, MayFollow}
use Rattle.esm_model.proofs.Debts.{first_debt}
use Rattle.esm_record_bounds.specs.Bounds.{FiltersFew}

-- what is owed

abbrev named_by : Debt → List ℕ
named_by (Success places state) = places
named_by (GiveUp places) = places
named_by (Try places closing tries) = places
named_by (Close window) = []

-- each of the debts names so many places at most
abbrev pub AreFew : ℕ → List Debt → Type 0
AreFew most [] = ⊤
AreFew most (d ∷ ds) = (length (named_by d) ≤ most) × AreFew most ds

few_append : (most : ℕ) (ds es : List Debt) → AreFew most ds → AreFew most es → AreFew most (ds ++ es)
few_append most [] es first second = second
few_append most (d ∷ ds) es first second = (first.0, few_append most ds es first.1 second)

few_drop : (most : ℕ) (ds : List Debt) → AreFew most ds → AreFew most (drop 1 ds)
few_drop most [] few = tt
few_drop most (d ∷ ds) few = few.1

few_either : (most : ℕ) (b : Bool) (ds es : List Debt) → AreFew most ds → AreFew most es → AreFew most (cond b ds es)
few_either most true ds es first second = first
few_either most false ds es first second = second

few_paid : (most : ℕ) (b : Bool) (ds : List Debt) → AreFew most ds → AreFew most (cond b (drop 1 ds) ds)
few_paid most b ds few = few_either most b (drop 1 ds) ds (few_drop most ds few) few

few_success : (most : ℕ) (xs : List ℕ) (state : Option WindowState) → length xs ≤ most → AreFew most (success_debts xs state)
few_success most [] state few = tt
few_success most (x ∷ xs) state few = (few, tt)

few_give_up : (most : ℕ) (xs : List ℕ) → length xs ≤ most → AreFew most (give_up_debts xs)
few_give_up most [] few = tt
few_give_up most (x ∷ xs) few = (few, tt)

few_close : (most : ℕ) (closing : Option ℕ) → AreFew most (close_debts closing)
few_close most None = tt
few_close most (Some window) = (omega arith, tt)

few_rest : (most : ℕ) (r : Rest) (xs : List ℕ) (closing : Option ℕ) (t : ℕ) → length xs ≤ most → AreFew most (rest_debts r xs closing t)
few_rest most rest.Nothing xs closing t few = few_close most closing
few_rest most rest.Again xs closing t few = tt
few_rest most (rest.Split k) xs closing t few = tt
few_rest most rest.Counted xs closing t few = (few, tt)
few_rest most rest.Exhausted xs closing t few = few_append most (give_up_debts xs) (close_debts closing) (few_give_up most xs few) (few_close most closing)

few_take : (most k : ℕ) (xs : List ℕ) → length xs ≤ most → length (take k xs) ≤ most
few_take most k xs few = (let cut : length (take k xs) ≡ min k (length xs) = length-take k xs in omega arith)

few_left : (most k : ℕ) (xs : List ℕ) → length xs ≤ most → length (drop k xs) ≤ most
few_left most k xs few = (let cut : length (drop k xs) ≡ length xs - k = length-drop k xs in omega arith)

few_end : (most : ℕ) (s : Setting) (h : List Entry) (lane : LaneId) (o : Option Call) (reply : Reply) → length (batch_of o) ≤ most → AreFew most (call_debts s h lane o reply)
few_end most s h lane None reply few = tt
few_end most s h lane (Some call) reply few =
    let v = verdict_after s h lane reply in
    few_append most (success_debts (take v.succeeded call.places) (new_state s lane.shard call reply)) (rest_debts v.rest (drop v.succeeded call.places) call.closing (tries_of s h lane.shard call))
    (few_success most (take v.succeeded call.places) (new_state s lane.shard call reply) (few_take most v.succeeded call.places few))
    (few_rest most v.rest (drop v.succeeded call.places) call.closing (tries_of s h lane.shard call) (few_left most v.succeeded call.places few))

-- what runs

longest_few : (p : List ℕ → Bool) (most : ℕ) (seen xs : List ℕ) → ((ys : List ℕ) → p ys ≡ true → length ys ≤ most) → length seen ≤ most → length (longest p seen xs) ≤ most
longest_few p most seen [] bound few = few
longest_few p most seen (x ∷ xs) bound few =
    elim (cases_Bool (p (seen ++ x ∷ []))) [
      | inl passes ↦ rw passes (longest_few p most (seen ++ x ∷ []) xs bound (bound (seen ++ x ∷ []) passes))
      | inr fails ↦ rw fails few
    ]

first_of : (a b c d : Bool) → (a && b && c && d) ≡ true → a ≡ true
first_of true b c d is = refl
first_of false b c d is = is

fitting_few : (s : Setting) (h : List Entry) (n m : ℕ) (ys : List ℕ) → fits s h n m ys ≡ true → length ys ≤ s.config.batch_size
fitting_few s h n m ys passes =
    leb-true (length ys) s.config.batch_size
    (first_of (nat_le (length ys) s.config.batch_size) (nat_le (length (event_of s h n ys None)) MAX_EVENT) (is_one_window s n ys) (list_all (λ i. not (is_expired s n m i)) ys) passes)

began_few : (s : Setting) (h : List Entry) (lane : LaneId) (places : List ℕ) (closing : Option ℕ) (m : ℕ) → MayFollow s h (Began lane places closing m) → length places ≤ s.config.batch_size
began_few s h lane places None m may =
    subst (λ (ps : List ℕ). length ps ≤ s.config.batch_size) (sym may.exact)
    (longest_few (fits s h lane.shard m) s.config.batch_size [] (group s h lane) (fitting_few s h lane.shard m) (omega arith))
began_few s h lane places (Some window) m may = subst (λ (ps : List ℕ). length ps ≤ s.config.batch_size) (sym may.no_places) (omega arith)

-- of each lane
pub record IsFewOf (s : Setting) (h : List Entry) : Type 0 where
  pub calls : (lane : LaneId) → length (batch_of (last_call h lane)) ≤ s.config.batch_size
  pub owes : (lane : LaneId) → AreFew s.config.batch_size (debts s h lane)

few_step : (s : Setting) (h : List Entry) (e : Entry) → MayFollow s h e → IsFewOf s h → IsFewOf s (e ∷ h)
few_step s h (Began at places closing m) may was = record {
  calls = λ lane. elim (cases_Bool (same_lane at lane)) [
    | inl same ↦ rw same (began_few s h at places closing m may)
    | inr other ↦ rw other (was.calls lane)
  ];
  owes = λ lane. few_either s.config.batch_size (same_lane at lane) [] (debts s h lane) tt (was.owes lane);
}
few_step s h (Ended at reply m) may was = record {
  calls = was.calls;
  owes = λ lane. few_either s.config.batch_size (same_lane at lane) (end_debts s h lane reply) (debts s h lane) (few_end s.config.batch_size s h lane (last_call h lane) reply (was.calls lane)) (was.owes lane);
}
few_step s h (Gave None n places f line state m) may was = record { calls = was.calls; owes = was.owes }
few_step s h (Gave (Some at) n places f line state m) may was = record {
  calls = was.calls;
  owes = λ lane. few_paid s.config.batch_size (pays lane (debts s h lane) (Gave (Some at) n places f line state m)) (debts s h lane) (was.owes lane);
}
few_step s h (Tried at places closing t m) may was = record {
  calls = was.calls;
  owes = λ lane. few_paid s.config.batch_size (pays lane (debts s h lane) (Tried at places closing t m)) (debts s h lane) (was.owes lane);
}
few_step s h (Closed at w m) may was = record {
  calls = was.calls;
  owes = λ lane. few_paid s.config.batch_size (pays lane (debts s h lane) (Closed at w m)) (debts s h lane) (was.owes lane);
}
few_step s h (Came n first count m) may was = record { calls = was.calls; owes = was.owes }
few_step s h (Replayed n places m) may was = record { calls = was.calls; owes = was.owes }
few_step s h (Shut m) may was = record { calls = was.calls; owes = was.owes }

few_of_legal : (s : Setting) (h : List Entry) → Legal s h → IsFewOf s h
few_of_legal s [] legal = record { calls = λ lane. omega arith; owes = λ lane. tt }
few_of_legal s (e ∷ h) legal = few_step s h e legal.1.1 (few_of_legal s h legal.0)

-- what an entry names

abbrev pub NamesFew : Entry → Type 0
NamesFew (Gave by shard places fate line state moment) = length places ≤ MAX_BATCH
NamesFew (Tried lane places closing tries moment) = length places ≤ MAX_BATCH
NamesFew (Replayed shard places moment) = length places ≤ MAX_BATCH
NamesFew _ = ⊤

debt_few : (s : Setting) (h : List Entry) (lane : LaneId) (m : ℕ) (d : Debt) → length (named_by d) ≤ MAX_BATCH → NamesFew (debt_entry s h lane m d)
debt_few s h lane m (Success places state) few = few
debt_few s h lane m (GiveUp places) few = few
debt_few s h lane m (Try places closing tries) few = few
debt_few s h lane m (Close window) few = tt

at_most : (low high n : ℕ) → is_between low high n ≡ true → n ≤ high
at_most low high n is = leb-true n high (and_parts (nat_le low n) (nat_le n high) is).1

size_within : (kind : Kind) (size : ℕ) → kind ≡ Stream → is_batch_size kind size ≡ true → size ≤ MAX_BATCH
size_within Stream size stream is = at_most 1 MAX_BATCH size is
size_within Standard size stream is = cc
size_within Fifo size stream is = cc

owed_few : (s : Setting) (h : List Entry) (lane : LaneId) (e : Entry) → IsStreamConfig s.config → Legal s h → IsOwed s h lane e → NamesFew e
owed_few s h lane e config legal owed =
    let first = first_debt s h lane e owed in
    let few : length (named_by first.first) ≤ s.config.batch_size = (subst (AreFew s.config.batch_size) first.parts ((few_of_legal s h legal).owes lane)).0 in
    let size : s.config.batch_size ≤ MAX_BATCH = size_within s.config.kind s.config.batch_size config.kind config.valid.batch_size in
    subst NamesFew first.brings (debt_few s h lane (last_moment h) first.first (smaller (length (named_by first.first)) s.config.batch_size MAX_BATCH few size))
  where
    smaller : (a b c : ℕ) → a ≤ b → b ≤ c → a ≤ c
    smaller a b c p q = omega arith

expired_few : (xs places : List ℕ) → places ≡ take MAX_EXPIRED xs → length places ≤ MAX_BATCH
expired_few xs places is =
    let cut : length (take MAX_EXPIRED xs) ≡ min MAX_EXPIRED (length xs) = length-take MAX_EXPIRED xs in
    let same : length places ≡ length (take MAX_EXPIRED xs) = ap length is in
    shorter (length places) (length xs) (same ∙ cut)
  where
    shorter : (a b : ℕ) → a ≡ min MAX_EXPIRED b → a ≤ MAX_BATCH
    shorter a b is = omega arith

pub names_few : (s : Setting) (h : List Entry) (e : Entry) → IsStreamConfig s.config → Legal s (e ∷ h) → FiltersFew e → NamesFew e
names_few s h (Gave None n places Filtered line state m) config legal few = few
names_few s h (Gave None n places Succeeded line state m) config legal few = absurd legal.1.1
names_few s h (Gave None n places Expired line state m) config legal few = absurd legal.1.1
names_few s h (Gave None n places Exhausted line state m) config legal few = absurd legal.1.1
names_few s h (Gave (Some at) n places Filtered line state m) config legal few = absurd legal.1.1
names_few s h (Gave (Some at) n places Succeeded line state m) config legal few = owed_few s h at (Gave (Some at) n places Succeeded line state m) config legal.0 legal.1.1
names_few s h (Gave (Some at) n places Exhausted line state m) config legal few = owed_few s h at (Gave (Some at) n places Exhausted line state m) config legal.0 legal.1.1
names_few s h (Gave (Some at) n places Expired line state m) config legal few = expired_few (take_while (is_expired s at.shard m) (group s h at)) places legal.1.1.exact
names_few s h (Tried at places closing t m) config legal few = owed_few s h at (Tried at places closing t m) config legal.0 legal.1.1
names_few s h (Closed at w m) config legal few = tt
names_few s h (Replayed n places m) config legal few = absurd legal.1.1
names_few s h (Came n first count m) config legal few = tt
names_few s h (Began at places closing m) config legal few = tt
names_few s h (Ended at reply m) config legal few = tt
names_few s h (Shut m) config legal few = tt
