-- The tries of records that ends of calls counted and that are not yet noted. Only this crate's proofs cite this.
use Rattle.std.proofs.Common.{◌≡◌, ℕ, suc, ◌+◌, Bool, true, false, ◌&&◌, List, [], ◌∷◌, ◌++◌, take, drop, refl, sym, ap, ◌∙◌, subst, ◌⊎◌, inl, inr, arith, Option, Some, None, append_assoc}
use Rattle.std.specs.Prelude.{◌==◌, ⊤, slice_index, take_while, if◌then◌else◌}
use Rattle.std.proofs.lemmas.List.Sums.{take_while-cons}
use Rattle.std.proofs.lemmas.Bool.{cases_Bool, and_parts, and_from, eqb-true, both_ways}
use Rattle.std.proofs.lemmas.Option.{same_Some}
use Rattle.esm_model.specs.Lane.{same_lane}
use Rattle.esm_model.specs.declared.lane.LaneId.{LaneId}
use Rattle.esm_model.specs.declared.entry.Reply.{Reply}
use Rattle.esm_model.specs.declared.entry.WindowState.{WindowState}
use Rattle.esm_model.specs.declared.entry.Entry.{Entry}
use Rattle.esm_model.specs.declared.entry.Entry.TheVariants.{Came, Began, Ended, Gave, Tried, Closed, Replayed, Shut}
use Rattle.esm_model.specs.declared.verdict.Rest.{Rest}
use Rattle.esm_model.specs.declared.verdict.Rest.TheVariants as rest
use Rattle.esm_model.specs.declared.verdict.Verdict.{Verdict}
use Rattle.esm_model.specs.Setting.{Setting, is_in_lane}
use Rattle.esm_model.specs.Entries.{Call, holds, is_running, last_call, batch_of}
use Rattle.esm_model.specs.Fates.{open_places}
use Rattle.esm_model.specs.Ruling.{capped_tries, is_counted}
use Rattle.esm_model.specs.Tries.{tries, tries_sum, tries_of, counts_in_call, mark, same_mark, call_verdict, verdict_on, verdict_after}
use Rattle.esm_model.specs.Batches.{group, batch, fits, same_piece}
use Rattle.esm_model.specs.Owed.{Debt, Success, GiveUp, Try, Close, debts, call_debts, verdict_debts, success_debts, give_up_debts, close_debts, rest_debts, new_state, pays}
use Rattle.esm_model.specs.Step.{Legal}
use Rattle.esm_model.proofs.Lists.{In, In-none, In-here, In-cases, In-take, In-drop, In-append_left, In-append_right, In-append_cases}
use Rattle.esm_model.proofs.Steps.{longest_front, same_lane-refl, tries_ended, debts_ended, running_ended}
use Rattle.esm_model.proofs.Sound.{open_In, one_lane, same_lane-true}
use Rattle.esm_model.proofs.Paid.{running_In}

-- the places of which the debts owe a try
abbrev pub try_places : List Debt → List ℕ
try_places [] = []
try_places (Try places None k ∷ ds) = places ++ try_places ds
try_places (Try places (Some w) k ∷ ds) = try_places ds
try_places (Success places state ∷ ds) = try_places ds
try_places (GiveUp places ∷ ds) = try_places ds
try_places (Close w ∷ ds) = try_places ds

-- each such debt has the number that the places have
abbrev pub TriesAre : (ℕ → ℕ) → List Debt → Type 0
TriesAre f [] = ⊤
TriesAre f (Try places None k ∷ ds) = ((i : ℕ) → In places i → f i ≡ k) × TriesAre f ds
TriesAre f (Try places (Some w) k ∷ ds) = TriesAre f ds
TriesAre f (Success places state ∷ ds) = TriesAre f ds
TriesAre f (GiveUp places ∷ ds) = TriesAre f ds
TriesAre f (Close w ∷ ds) = TriesAre f ds

-- lists of debts

pub try_append : (ds es : List Debt) → try_places (ds ++ es) ≡ try_places ds ++ try_places es
try_append [] es = refl
try_append (Try places None k ∷ ds) es = ap (λ xs. places ++ xs) (try_append ds es) ∙ sym (append_assoc places (try_places ds) (try_places es))
try_append (Try places (Some w) k ∷ ds) es = try_append ds es
try_append (Success places state ∷ ds) es = try_append ds es
try_append (GiveUp places ∷ ds) es = try_append ds es
try_append (Close w ∷ ds) es = try_append ds es

pub try_success : (xs : List ℕ) (state : Option WindowState) → try_places (success_debts xs state) ≡ []
try_success [] state = refl
try_success (x ∷ xs) state = refl

pub try_close : (closing : Option ℕ) → try_places (close_debts closing) ≡ []
try_close None = refl
try_close (Some w) = refl

pub try_give_up : (xs : List ℕ) → try_places (give_up_debts xs) ≡ []
try_give_up [] = refl
try_give_up (x ∷ xs) = refl

pub try_less : (ds : List Debt) (i : ℕ) → In (try_places (drop 1 ds)) i → In (try_places ds) i
try_less [] i member = member
try_less (Try places None k ∷ ds) i member = In-append_right places (try_places ds) i member
try_less (Try places (Some w) k ∷ ds) i member = member
try_less (Success places state ∷ ds) i member = member
try_less (GiveUp places ∷ ds) i member = member
try_less (Close w ∷ ds) i member = member

are_append : (f : ℕ → ℕ) (ds es : List Debt) → TriesAre f ds → TriesAre f es → TriesAre f (ds ++ es)
are_append f [] es a b = b
are_append f (Try places None k ∷ ds) es a b = (a.0, are_append f ds es a.1 b)
are_append f (Try places (Some w) k ∷ ds) es a b = are_append f ds es a b
are_append f (Success places state ∷ ds) es a b = are_append f ds es a b
are_append f (GiveUp places ∷ ds) es a b = are_append f ds es a b
are_append f (Close w ∷ ds) es a b = are_append f ds es a b

are_less : (f : ℕ → ℕ) (ds : List Debt) → TriesAre f ds → TriesAre f (drop 1 ds)
are_less f [] a = tt
are_less f (Try places None k ∷ ds) a = a.1
are_less f (Try places (Some w) k ∷ ds) a = a
are_less f (Success places state ∷ ds) a = a
are_less f (GiveUp places ∷ ds) a = a
are_less f (Close w ∷ ds) a = a

are_same : (f g : ℕ → ℕ) (ds : List Debt) → ((i : ℕ) → In (try_places ds) i → g i ≡ f i) → TriesAre f ds → TriesAre g ds
are_same f g [] same a = tt
are_same f g (Try places None k ∷ ds) same a = ((λ i member. same i (In-append_left places (try_places ds) i member) ∙ a.0 i member), are_same f g ds (λ i member. same i (In-append_right places (try_places ds) i member)) a.1)
are_same f g (Try places (Some w) k ∷ ds) same a = are_same f g ds same a
are_same f g (Success places state ∷ ds) same a = are_same f g ds same a
are_same f g (GiveUp places ∷ ds) same a = are_same f g ds same a
are_same f g (Close w ∷ ds) same a = are_same f g ds same a

are_success : (f : ℕ → ℕ) (xs : List ℕ) (state : Option WindowState) → TriesAre f (success_debts xs state)
are_success f [] state = tt
are_success f (x ∷ xs) state = tt

are_close : (f : ℕ → ℕ) (closing : Option ℕ) → TriesAre f (close_debts closing)
are_close f None = tt
are_close f (Some w) = tt

are_give_up : (f : ℕ → ℕ) (xs : List ℕ) → TriesAre f (give_up_debts xs)
are_give_up f [] = tt
are_give_up f (x ∷ xs) = tt

-- what the end of a call owes

pub try_rest : (left : Rest) (xs : List ℕ) (closing : Option ℕ) (t i : ℕ) → In (try_places (rest_debts left xs closing t)) i → In xs i
try_rest rest.Nothing xs closing t i member = absurd (In-none i (subst (λ ys. In ys i) (try_close closing) member))
try_rest rest.Again xs closing t i member = absurd (In-none i member)
try_rest (rest.Split k) xs closing t i member = absurd (In-none i member)
try_rest rest.Counted xs None t i member = elim (In-append_cases xs [] i member) [ inl there ↦ there | inr none ↦ absurd (In-none i none) ]
try_rest rest.Counted xs (Some w) t i member = absurd (In-none i member)
try_rest rest.Exhausted xs closing t i member =
    absurd (In-none i (subst (λ ys. In ys i) (try_append (give_up_debts xs) (close_debts closing) ∙ ap (λ ys. ys ++ try_places (close_debts closing)) (try_give_up xs) ∙ try_close closing) member))

pub try_verdict : (s : Setting) (n : ℕ) (call : Call) (t : ℕ) (v : Verdict) (reply : Reply) (i : ℕ) → In (try_places (verdict_debts s n call t v reply)) i → In call.places i
try_verdict s n call t v reply i member =
    let first = success_debts (take v.succeeded call.places) (new_state s n call reply) in
    let more = rest_debts v.rest (drop v.succeeded call.places) call.closing t in
    In-drop v.succeeded call.places i
    (try_rest v.rest (drop v.succeeded call.places) call.closing t i
    (subst (λ ys. In ys i) (try_append first more ∙ ap (λ ys. ys ++ try_places more) (try_success (take v.succeeded call.places) (new_state s n call reply))) member))

pub try_end : (s : Setting) (h : List Entry) (at : LaneId) (o : Option Call) (reply : Reply) (i : ℕ) → In (try_places (call_debts s h at o reply)) i → In (batch_of o) i
try_end s h at None reply i member = absurd (In-none i member)
try_end s h at (Some call) reply i member = try_verdict s at.shard call (tries_of s h at.shard call) (verdict_after s h at reply) reply i member

are_rest : (f : ℕ → ℕ) (left : Rest) (xs : List ℕ) (closing : Option ℕ) (t : ℕ) → (closing ≡ None → left ≡ rest.Counted → (i : ℕ) → In xs i → f i ≡ capped_tries (t + 1)) → TriesAre f (rest_debts left xs closing t)
are_rest f rest.Nothing xs closing t counted = are_close f closing
are_rest f rest.Again xs closing t counted = tt
are_rest f (rest.Split k) xs closing t counted = tt
are_rest f rest.Counted xs None t counted = (counted refl refl, tt)
are_rest f rest.Counted xs (Some w) t counted = tt
are_rest f rest.Exhausted xs closing t counted = are_append f (give_up_debts xs) (close_debts closing) (are_give_up f xs) (are_close f closing)

-- what an end counts

counts_In : (s : Setting) (n : ℕ) (o : Option Call) (before : ℕ → ℕ) (reply : Reply) (i : ℕ) → counts_in_call s n o before reply i ≡ true → In (batch_of o) i
counts_In s n None before reply i is = cc
counts_In s n (Some call) before reply i is =
    (let v = call_verdict s n call (capped_tries (before (slice_index call.places 0))) reply in
    In-drop v.succeeded call.places i (and_parts (is_counted v.rest) (holds (drop v.succeeded call.places) i) is).1)

-- it leaves the tries of other places
pub tries_untouched : (s : Setting) (h : List Entry) (at : LaneId) (reply : Reply) (m n i : ℕ) → (at.shard ≡ n → In (batch_of (last_call h at)) i → ⊥) → tries s (Ended at reply m ∷ h) n i ≡ tries s h n i
tries_untouched s h at reply m n i out =
    elim (cases_Bool ((at.shard == n) && counts_in_call s n (last_call h at) (tries_sum s h n) reply i)) [
      | inl counted ↦ (
          let parts = and_parts (at.shard == n) (counts_in_call s n (last_call h at) (tries_sum s h n) reply i) counted in
          absurd (out (eqb-true at.shard n parts.0) (counts_In s n (last_call h at) (tries_sum s h n) reply i parts.1)))
      | inr not ↦ rw not refl
    ]

abbrev pub call_of : List ℕ → ℕ → Call
call_of places k = record { places = places; closing = None; moment = k }

pub capped_more : (a b : ℕ) → capped_tries a ≡ capped_tries b → capped_tries (suc a) ≡ capped_tries (capped_tries b + 1)
capped_more a b same = omega (arith, same)

counted_number : (s : Setting) (h : List Entry) (at : LaneId) (places : List ℕ) (k : ℕ) (reply : Reply) (m i : ℕ) → last_call h at ≡ Some (record { places = places; closing = None; moment = k })
    → (call_verdict s at.shard (call_of places k) (tries s h at.shard (slice_index places 0)) reply).rest ≡ rest.Counted
    → In (drop (call_verdict s at.shard (call_of places k) (tries s h at.shard (slice_index places 0)) reply).succeeded places) i
    → tries s h at.shard i ≡ tries s h at.shard (slice_index places 0)
    → tries s (Ended at reply m ∷ h) at.shard i ≡ capped_tries (tries s h at.shard (slice_index places 0) + 1)
counted_number s h at places k reply m i last counted member same =
    let v = call_verdict s at.shard (call_of places k) (tries s h at.shard (slice_index places 0)) reply in
    let counts : counts_in_call s at.shard (last_call h at) (tries_sum s h at.shard) reply i ≡ true =
    ap (λ o. counts_in_call s at.shard o (tries_sum s h at.shard) reply i) last ∙ and_from (is_counted v.rest) (holds (drop v.succeeded places) i) (ap is_counted counted) member in
    ap capped_tries (tries_ended s at reply m h i counts) ∙ capped_more (tries_sum s h at.shard i) (tries_sum s h at.shard (slice_index places 0)) same

-- lanes

-- what another lane holds is not in the lane's batch
pub out_of_batch : (s : Setting) (h : List Entry) (at lane : LaneId) (i : ℕ) → Legal s h → is_running h at ≡ true → same_lane at lane ≡ false → is_in_lane s lane i ≡ true → at.shard ≡ lane.shard → In (batch_of (last_call h at)) i → ⊥
out_of_batch s h at lane i legal runs other in_lane shard member =
    let there : In (open_places s h at) i = running_In s h at legal runs i member in
    let same : at ≡ lane = one_lane s at lane i shard (open_In s h at i there).1 in_lane in
    both_ways (same_lane at lane) other (subst (λ l. same_lane at l ≡ true) same (same_lane-refl at))

In-take_while : (p : ℕ → Bool) (xs : List ℕ) (i : ℕ) → In (take_while p xs) i → p i ≡ true
In-take_while p [] i member = absurd (In-none i member)
In-take_while p (x ∷ xs) i member =
    elim (cases_Bool (p x)) [
      | inl is ↦ elim (In-cases x (take_while p xs) i (rw (take_while-cons p x xs, is) at member)) [
        | inl here ↦ ap p (sym here) ∙ is
        | inr there ↦ In-take_while p xs i there
      ]
      | inr fails ↦ (let none : In [] i = rw (take_while-cons p x xs, fails) at member in absurd (In-none i none))
    ]

in_group : (s : Setting) (h : List Entry) (lane : LaneId) (m i : ℕ) → In (batch s h lane m) i → tries s h lane.shard (slice_index (open_places s h lane) 0) ≡ tries s h lane.shard i
in_group s h lane m i member =
    let head = slice_index (open_places s h lane) 0 in
    let front = longest_front (fits s h lane.shard m) [] (group s h lane) in
    let inside : In (group s h lane) i = In-take front.0 (group s h lane) i (subst (λ xs. In xs i) front.1 member) in
    let same : same_piece s h lane.shard head i ≡ true = In-take_while (same_piece s h lane.shard head) (open_places s h lane) i inside in
    eqb-true (tries s h lane.shard head) (tries s h lane.shard i) (and_parts (same_mark (mark s h lane.shard head) (mark s h lane.shard i)) (tries s h lane.shard head == tries s h lane.shard i) same).1

-- what holds of each legal history

abbrev pub AreEven : Setting → List Entry → LaneId → List ℕ → Type 0
AreEven s h lane places = (i j : ℕ) → In places i → In places j → tries s h lane.shard i ≡ tries s h lane.shard j

pub record TriesOwed (s : Setting) (h : List Entry) : Type 0 where
  pub in_lane : (lane : LaneId) (i : ℕ) → In (try_places (debts s h lane)) i → is_in_lane s lane i ≡ true
  pub numbers : (lane : LaneId) → TriesAre (tries s h lane.shard) (debts s h lane)
  pub even : (lane : LaneId) (call : Call) → is_running h lane ≡ true → last_call h lane ≡ Some call → AreEven s h lane call.places

-- an entry that begins and ends no call
owed_quiet : (s : Setting) (h : List Entry) (e : Entry) → ((lane : LaneId) → is_running (e ∷ h) lane ≡ is_running h lane) → ((lane : LaneId) → last_call (e ∷ h) lane ≡ last_call h lane) → ((n i : ℕ) → tries s (e ∷ h) n i ≡ tries s h n i)
    → ((lane : LaneId) → (debts s (e ∷ h) lane ≡ debts s h lane) ⊎ (debts s (e ∷ h) lane ≡ drop 1 (debts s h lane))) → TriesOwed s h → TriesOwed s (e ∷ h)
owed_quiet s h e same_run same_call same_tries less was = record {
  in_lane = λ lane i member. was.in_lane lane i (elim (less lane) [
    | inl same ↦ subst (λ ds. In (try_places ds) i) same member
    | inr dropped ↦ try_less (debts s h lane) i (subst (λ ds. In (try_places ds) i) dropped member)
  ]);
  numbers = λ lane. are_same (tries s h lane.shard) (tries s (e ∷ h) lane.shard) (debts s (e ∷ h) lane) (λ i member. same_tries lane.shard i)
      (elim (less lane) [
        | inl same ↦ subst (TriesAre (tries s h lane.shard)) (sym same) (was.numbers lane)
        | inr dropped ↦ subst (TriesAre (tries s h lane.shard)) (sym dropped) (are_less (tries s h lane.shard) (debts s h lane) (was.numbers lane))
      ]);
  even = λ lane call runs last i j a b. same_tries lane.shard i ∙ was.even lane call (sym (same_run lane) ∙ runs) (sym (same_call lane) ∙ last) i j a b ∙ sym (same_tries lane.shard j);
}

pub either_dropped : (b : Bool) (ds : List Debt) → ((if b then drop 1 ds else ds) ≡ ds) ⊎ ((if b then drop 1 ds else ds) ≡ drop 1 ds)
either_dropped true ds = inr refl
either_dropped false ds = inl refl

-- a call that begins, of a batch whose records have the same tries, or of none
owed_begins : (s : Setting) (h : List Entry) (at : LaneId) (places : List ℕ) (closing : Option ℕ) (m : ℕ) → AreEven s h at places → ((lane : LaneId) → debts s h lane ≡ []) → TriesOwed s h → TriesOwed s (Began at places closing m ∷ h)
owed_begins s h at places closing m new none was = record {
  in_lane = λ lane i member. absurd (In-none i (subst (λ ds. In (try_places ds) i) (nothing lane) member));
  numbers = λ lane. subst (TriesAre (tries s h lane.shard)) (sym (nothing lane)) tt;
  even = even;
}
  where
    nothing : (lane : LaneId) → debts s (Began at places closing m ∷ h) lane ≡ []
    nothing lane = elim (cases_Bool (same_lane at lane)) [ inl same ↦ rw same refl | inr other ↦ rw other (none lane) ]

    even : (lane : LaneId) (call : Call) → is_running (Began at places closing m ∷ h) lane ≡ true → last_call (Began at places closing m ∷ h) lane ≡ Some call → AreEven s (Began at places closing m ∷ h) lane call.places
    even lane call runs last =
        elim (cases_Bool (same_lane at lane)) [
          | inl same ↦ (
              let is : record { places = places; closing = closing; moment = m } ≡ call = same_Some _ call (rw same at last) in
              subst (λ (c : Call). AreEven s h lane c.places) is (subst (λ l. AreEven s h l places) (same_lane-true at lane same) new))
          | inr other ↦ was.even lane call (rw other at runs) (rw other at last)
        ]

-- a call that ends

are_explicit : (s : Setting) (h : List Entry) (at : LaneId) (places : List ℕ) (k : ℕ) (reply : Reply) (m : ℕ) (v : Verdict) → last_call h at ≡ Some (record { places = places; closing = None; moment = k })
    → v ≡ call_verdict s at.shard (call_of places k) (tries s h at.shard (slice_index places 0)) reply → AreEven s h at places
    → TriesAre (tries s (Ended at reply m ∷ h) at.shard) (verdict_debts s at.shard (call_of places k) (tries s h at.shard (slice_index places 0)) v reply)
are_explicit s h at places k reply m v last is even =
    let f = tries s (Ended at reply m ∷ h) at.shard in
    are_append (tries s (Ended at reply m ∷ h) at.shard) (success_debts (take v.succeeded places) (new_state s at.shard (call_of places k) reply)) (rest_debts v.rest (drop v.succeeded places) None (tries s h at.shard (slice_index places 0)))
    (are_success (tries s (Ended at reply m ∷ h) at.shard) (take v.succeeded places) (new_state s at.shard (call_of places k) reply))
    (are_rest (tries s (Ended at reply m ∷ h) at.shard) v.rest (drop v.succeeded places) None (tries s h at.shard (slice_index places 0)) (λ none counted i member.
    let inside : In places i = In-drop v.succeeded places i member in
    counted_number s h at places k reply m i last (ap (λ (x : Verdict). x.rest) (sym is) ∙ counted) (subst (λ (x : Verdict). In (drop x.succeeded places) i) is member)
    (even i (slice_index places 0) inside (first_of places i inside))))
  where
    first_of : (xs : List ℕ) (i : ℕ) → In xs i → In xs (slice_index xs 0)
    first_of [] i inside = absurd (In-none i inside)
    first_of (x ∷ xs) i inside = In-here x xs x refl

are_end : (s : Setting) (h : List Entry) (at : LaneId) (reply : Reply) (m : ℕ) (o : Option Call) → last_call h at ≡ o → ((call : Call) → o ≡ Some call → AreEven s h at call.places) → TriesAre (tries s (Ended at reply m ∷ h) at.shard) (call_debts s h at o reply)
are_end s h at reply m None last even = tt
are_end s h at reply m (Some call) last even = by_closing call.closing refl
  where
    f : ℕ → ℕ
    f = tries s (Ended at reply m ∷ h) at.shard

    by_closing : (c : Option ℕ) → call.closing ≡ c → TriesAre (tries s (Ended at reply m ∷ h) at.shard) (call_debts s h at (Some call) reply)
    by_closing None is =
        let call_is : call ≡ record { places = call.places; closing = None; moment = call.moment } = ap (λ (c : Option ℕ). record { places = call.places; closing = c; moment = call.moment }) is in
        let last_is : last_call h at ≡ Some (record { places = call.places; closing = None; moment = call.moment }) = last ∙ ap (λ (c : Call). Some c) call_is in
        subst (λ (c : Call). TriesAre (tries s (Ended at reply m ∷ h) at.shard) (call_debts s h at (Some c) reply)) (sym call_is)
        (are_explicit s h at call.places call.moment reply m (verdict_after s h at reply) last_is (ap (λ o. verdict_on s h at.shard o reply) last_is) (even call refl))
    by_closing (Some w) is =
        let v = verdict_after s h at reply in
        are_append (tries s (Ended at reply m ∷ h) at.shard) (success_debts (take v.succeeded call.places) (new_state s at.shard call reply)) (rest_debts v.rest (drop v.succeeded call.places) call.closing (tries_of s h at.shard call))
        (are_success (tries s (Ended at reply m ∷ h) at.shard) (take v.succeeded call.places) (new_state s at.shard call reply))
        (are_rest (tries s (Ended at reply m ∷ h) at.shard) v.rest (drop v.succeeded call.places) call.closing (tries_of s h at.shard call) (λ none counted i member. (let clash : Some w ≡ None = sym is ∙ none in cc)))

owed_ends : (s : Setting) (h : List Entry) (at : LaneId) (reply : Reply) (m : ℕ) → Legal s (Ended at reply m ∷ h) → TriesOwed s h → TriesOwed s (Ended at reply m ∷ h)
owed_ends s h at reply m legal was = record { in_lane = in_lane; numbers = numbers; even = even }
  where
    own : (lane : LaneId) → same_lane at lane ≡ true → at ≡ lane
    own lane same = same_lane-true at lane same

    in_lane : (lane : LaneId) (i : ℕ) → In (try_places (debts s (Ended at reply m ∷ h) lane)) i → is_in_lane s lane i ≡ true
    in_lane lane i member =
        elim (cases_Bool (same_lane at lane)) [
          | inl same ↦ (
              let here : In (try_places (debts s (Ended at reply m ∷ h) at)) i = subst (λ l. In (try_places (debts s (Ended at reply m ∷ h) l)) i) (sym (same_lane-true at lane same)) member in
              let inside : In (batch_of (last_call h at)) i = try_end s h at (last_call h at) reply i (subst (λ ds. In (try_places ds) i) (debts_ended s at reply m h) here) in
              subst (λ l. is_in_lane s l i ≡ true) (same_lane-true at lane same) (open_In s h at i (running_In s h at legal.0 legal.1.1 i inside)).1)
          | inr other ↦ was.in_lane lane i (rw other at member)
        ]

    numbers : (lane : LaneId) → TriesAre (tries s (Ended at reply m ∷ h) lane.shard) (debts s (Ended at reply m ∷ h) lane)
    numbers lane =
        elim (cases_Bool (same_lane at lane)) [
          | inl same ↦ subst (λ (l : LaneId). TriesAre (tries s (Ended at reply m ∷ h) l.shard) (debts s (Ended at reply m ∷ h) l)) (same_lane-true at lane same)
              (subst (TriesAre (tries s (Ended at reply m ∷ h) at.shard)) (sym (debts_ended s at reply m h)) (are_end s h at reply m (last_call h at) refl (λ call last. was.even at call legal.1.1 last)))
          | inr other ↦ (
              let kept : debts s (Ended at reply m ∷ h) lane ≡ debts s h lane = rw other refl in
              subst (TriesAre (tries s (Ended at reply m ∷ h) lane.shard)) (sym kept)
              (are_same (tries s h lane.shard) (tries s (Ended at reply m ∷ h) lane.shard) (debts s h lane)
              (λ i member. tries_untouched s h at reply m lane.shard i (λ shard inside. out_of_batch s h at lane i legal.0 legal.1.1 other (was.in_lane lane i member) shard inside)) (was.numbers lane)))
        ]

    even : (lane : LaneId) (call : Call) → is_running (Ended at reply m ∷ h) lane ≡ true → last_call (Ended at reply m ∷ h) lane ≡ Some call → AreEven s (Ended at reply m ∷ h) lane call.places
    even lane call runs last i j a b =
        elim (cases_Bool (same_lane at lane)) [
          | inl same ↦ (let clash : false ≡ true = sym (subst (λ l. is_running (Ended at reply m ∷ h) l ≡ false) (same_lane-true at lane same) (running_ended at reply m h)) ∙ runs in cc)
          | inr other ↦ (
              let ran : is_running h lane ≡ true = rw other at runs in
              let stays : (k : ℕ) → In call.places k → tries s (Ended at reply m ∷ h) lane.shard k ≡ tries s h lane.shard k = λ k member.
              tries_untouched s h at reply m lane.shard k (λ shard inside. out_of_batch s h at lane k legal.0 legal.1.1 other
              (open_In s h lane k (running_In s h lane legal.0 ran k (subst (λ o. In (batch_of o) k) (sym last) member))).1 shard inside) in
              stays i a ∙ was.even lane call ran last i j a b ∙ sym (stays j b))
        ]

pub tries_owed : (s : Setting) (h : List Entry) → Legal s h → TriesOwed s h
tries_owed s [] legal = record { in_lane = λ lane i member. absurd (In-none i member); numbers = λ lane. tt; even = λ lane call runs last. cc }
tries_owed s (Came n first count m ∷ h) legal = owed_quiet s h (Came n first count m) (λ lane. refl) (λ lane. refl) (λ n' i. refl) (λ lane. inl refl) (tries_owed s h legal.0)
tries_owed s (Began at places None m ∷ h) legal =
    owed_begins s h at places None m (λ i j a b. sym (in_group s h at m i (subst (λ xs. In xs i) legal.1.1.exact a)) ∙ in_group s h at m j (subst (λ xs. In xs j) legal.1.1.exact b)) legal.1.1.call.settled.paid (tries_owed s h legal.0)
tries_owed s (Began at places (Some w) m ∷ h) legal =
    owed_begins s h at places (Some w) m (λ i j a b. absurd (In-none i (subst (λ xs. In xs i) legal.1.1.no_places a))) legal.1.1.call.settled.paid (tries_owed s h legal.0)
tries_owed s (Ended at reply m ∷ h) legal = owed_ends s h at reply m legal (tries_owed s h legal.0)
tries_owed s (Gave by n places f line state m ∷ h) legal = owed_quiet s h (Gave by n places f line state m) (λ lane. refl) (λ lane. refl) (λ n' i. refl) (λ lane. either_dropped (pays lane (debts s h lane) (Gave by n places f line state m)) (debts s h lane)) (tries_owed s h legal.0)
tries_owed s (Tried at places c t m ∷ h) legal = owed_quiet s h (Tried at places c t m) (λ lane. refl) (λ lane. refl) (λ n' i. refl) (λ lane. either_dropped (pays lane (debts s h lane) (Tried at places c t m)) (debts s h lane)) (tries_owed s h legal.0)
tries_owed s (Closed at w m ∷ h) legal = owed_quiet s h (Closed at w m) (λ lane. refl) (λ lane. refl) (λ n' i. refl) (λ lane. either_dropped (pays lane (debts s h lane) (Closed at w m)) (debts s h lane)) (tries_owed s h legal.0)
tries_owed s (Replayed n places m ∷ h) legal = absurd legal.1.1
tries_owed s (Shut m ∷ h) legal = owed_quiet s h (Shut m) (λ lane. refl) (λ lane. refl) (λ n' i. refl) (λ lane. inl refl) (tries_owed s h legal.0)
