-- A record that an end of a call owes a try has no fate. Only this crate's proofs cite this.
use Rattle.std.proofs.Common.{◌≡◌, ℕ, ◌+◌, true, false, not, cond, ◌&&◌, List, [], ◌∷◌, ◌++◌, take, drop, refl, sym, ap, ◌∙◌, subst, ◌⊎◌, inl, inr, Option, Some, None, append_assoc}
use Rattle.std.specs.Prelude.{◌==◌, option_map, unwrap_or}
use Rattle.std.proofs.lemmas.List.{append-nil, take-append-drop}
use Rattle.std.proofs.lemmas.Bool.{cases_Bool, and_parts, and_from, eqb-true, both_ways, not-true}
use Rattle.esm_model.specs.Lane.{same_lane}
use Rattle.esm_model.specs.Filter.{passes}
use Rattle.esm_model.specs.Records.{Record}
use Rattle.esm_model.specs.declared.lane.LaneId.{LaneId}
use Rattle.esm_model.specs.declared.entry.Reply.{Reply}
use Rattle.esm_model.specs.declared.entry.Fate.{Fate}
use Rattle.esm_model.specs.declared.entry.Fate.TheVariants.{Succeeded, Filtered, Expired, Exhausted}
use Rattle.esm_model.specs.declared.entry.WindowState.{WindowState}
use Rattle.esm_model.specs.declared.entry.Entry.{Entry}
use Rattle.esm_model.specs.declared.entry.Entry.TheVariants.{Came, Began, Ended, Gave, Tried, Closed, Replayed, Shut}
use Rattle.esm_model.specs.declared.verdict.Rest.{Rest}
use Rattle.esm_model.specs.declared.verdict.Rest.TheVariants as rest
use Rattle.esm_model.specs.Setting.{Setting, record_at, is_in_lane}
use Rattle.esm_model.specs.Entries.{Call, came_count, holds, is_running, last_call, batch_of}
use Rattle.esm_model.specs.Fates.{below, lacks_fate, open_places}
use Rattle.esm_model.specs.Ruling.{capped_tries}
use Rattle.esm_model.specs.Tries.{tries_of, verdict_after}
use Rattle.esm_model.specs.Owed.{Debt, Try, debts, call_debts, success_debts, give_up_debts, close_debts, rest_debts, new_state, pays, is_refused, is_unsorted, unsorted, IsOwed}
use Rattle.esm_model.specs.Step.{Legal}
use Rattle.esm_model.proofs.Lists.{In, In-none, In-filter, In-append_left, In-append_right, In-append_cases, Distinct, Distinct-apart, IsFront}
use Rattle.esm_model.proofs.Steps.{lacks_gave, debts_ended}
use Rattle.esm_model.proofs.Debts.{places_of, debt_places, first_debt}
use Rattle.esm_model.proofs.Sound.{is_sorted_place, open_In, open_distinct, one_lane, same_lane-true, sound}
use Rattle.esm_model.proofs.Paid.{gave_In, running_front, running_In}
use Rattle.esm_history.proofs.OwedTries.{try_places, try_append, try_success, try_less, try_end, try_rest, try_close, try_give_up, either_dropped, tries_owed}

-- what succeeded is not tried

disjoint_rest : (left : Rest) (ds : List Debt) (xs ys : List ℕ) (closing : Option ℕ) (t i : ℕ) → debt_places ds ≡ xs → try_places ds ≡ [] → ((j : ℕ) → In xs j → In ys j → ⊥) → In (debt_places (ds ++ rest_debts left ys closing t)) i → In (try_places (ds ++ rest_debts left ys closing t)) i → ⊥
disjoint_rest left ds xs ys closing t i given none apart a b = by_rest left b a
  where
    tried : (left : Rest) → In (try_places (ds ++ rest_debts left ys closing t)) i → In (try_places (rest_debts left ys closing t)) i
    tried left member = subst (λ zs. In zs i) (try_append ds (rest_debts left ys closing t) ∙ ap (λ zs. zs ++ try_places (rest_debts left ys closing t)) none) member

    places_append : (ds es : List Debt) → debt_places (ds ++ es) ≡ debt_places ds ++ debt_places es
    places_append [] es = refl
    places_append (d ∷ ds) es = ap (λ zs. places_of d ++ zs) (places_append ds es) ∙ sym (append_assoc (places_of d) (debt_places ds) (debt_places es))

    counted : In (debt_places (ds ++ Try ys closing (capped_tries (t + 1)) ∷ [])) i → In ys i → ⊥
    counted a member =
        elim (In-append_cases xs [] i (subst (λ zs. In zs i) (places_append ds (Try ys closing (capped_tries (t + 1)) ∷ []) ∙ ap (λ zs. zs ++ []) given) a)) [
          | inl inside ↦ apart i inside member
          | inr nothing ↦ In-none i nothing
        ]

    by_rest : (left : Rest) → In (try_places (ds ++ rest_debts left ys closing t)) i → In (debt_places (ds ++ rest_debts left ys closing t)) i → ⊥
    by_rest rest.Counted b a = counted a (try_rest rest.Counted ys closing t i (tried rest.Counted b))
    by_rest rest.Nothing b a = In-none i (subst (λ zs. In zs i) (try_close closing) (tried rest.Nothing b))
    by_rest rest.Again b a = In-none i (tried rest.Again b)
    by_rest (rest.Split k) b a = In-none i (tried (rest.Split k) b)
    by_rest rest.Exhausted b a = In-none i (subst (λ zs. In zs i) (try_append (give_up_debts ys) (close_debts closing) ∙ ap (λ zs. zs ++ try_places (close_debts closing)) (try_give_up ys) ∙ try_close closing) (tried rest.Exhausted b))

success_is : (xs : List ℕ) (state : Option WindowState) → debt_places (success_debts xs state) ≡ xs
success_is [] state = refl
success_is (x ∷ xs) state = append-nil (x ∷ xs)

halves_apart : (k : ℕ) (xs ys : List ℕ) (j : ℕ) → Distinct ys → IsFront xs ys → In (take k xs) j → In (drop k xs) j → ⊥
halves_apart k xs ys j distinct front a b =
    Distinct-apart (take k xs) (drop k xs ++ front.0) j
    (subst (λ zs. Distinct zs) (front.1 ∙ ap (λ zs. zs ++ front.0) (sym (take-append-drop k xs)) ∙ append_assoc (take k xs) (drop k xs) front.0) distinct)
    a (In-append_left (drop k xs) front.0 j b)

-- what holds of each legal history

pub record TriesOpen (s : Setting) (h : List Entry) : Type 0 where
  pub lacks : (lane : LaneId) (i : ℕ) → In (try_places (debts s h lane)) i → lacks_fate s h lane.shard i ≡ true
  pub sorted : (lane : LaneId) (i : ℕ) → In (try_places (debts s h lane)) i → is_sorted_place s lane.shard i ≡ true
  pub disjoint : (lane : LaneId) (i : ℕ) → In (debt_places (debts s h lane)) i → In (try_places (debts s h lane)) i → ⊥

abbrev IsLess : Setting → List Entry → Entry → LaneId → Type 0
IsLess s h e lane = (debts s (e ∷ h) lane ≡ debts s h lane) ⊎ (debts s (e ∷ h) lane ≡ drop 1 (debts s h lane))

less_tries : (s : Setting) (h : List Entry) (e : Entry) (lane : LaneId) (i : ℕ) → IsLess s h e lane → In (try_places (debts s (e ∷ h) lane)) i → In (try_places (debts s h lane)) i
less_tries s h e lane i (inl same) member = subst (λ ds. In (try_places ds) i) same member
less_tries s h e lane i (inr dropped) member = try_less (debts s h lane) i (subst (λ ds. In (try_places ds) i) dropped member)

places_less : (ds : List Debt) (i : ℕ) → In (debt_places (drop 1 ds)) i → In (debt_places ds) i
places_less [] i member = member
places_less (d ∷ ds) i member = In-append_right (places_of d) (debt_places ds) i member

less_places : (s : Setting) (h : List Entry) (e : Entry) (lane : LaneId) (i : ℕ) → IsLess s h e lane → In (debt_places (debts s (e ∷ h) lane)) i → In (debt_places (debts s h lane)) i
less_places s h e lane i (inl same) member = subst (λ ds. In (debt_places ds) i) same member
less_places s h e lane i (inr dropped) member = places_less (debts s h lane) i (subst (λ ds. In (debt_places ds) i) dropped member)

open_quiet : (s : Setting) (h : List Entry) (e : Entry) → ((lane : LaneId) → IsLess s h e lane) → ((lane : LaneId) (i : ℕ) → In (try_places (debts s h lane)) i → lacks_fate s h lane.shard i ≡ true → lacks_fate s (e ∷ h) lane.shard i ≡ true) → TriesOpen s h → TriesOpen s (e ∷ h)
open_quiet s h e less stays was = record {
  lacks = λ lane i member. (let old = less_tries s h e lane i (less lane) member in stays lane i old (was.lacks lane i old));
  sorted = λ lane i member. was.sorted lane i (less_tries s h e lane i (less lane) member);
  disjoint = λ lane i a b. was.disjoint lane i (less_places s h e lane i (less lane) a) (less_tries s h e lane i (less lane) b);
}

-- a `Gave` gives no fate to what is to be tried

refused_sorted : (s : Setting) (o : Option Record) → unwrap_or (option_map (is_refused s) o) false ≡ true → unwrap_or (option_map (λ (r : Record). passes s.config.filters r) o) true ≡ true → ⊥
refused_sorted s None refused sorted = cc
refused_sorted s (Some r) refused sorted = both_ways (passes s.config.filters r) (not-true (passes s.config.filters r) refused) sorted

stays_lacking : (s : Setting) (h : List Entry) (by : Option LaneId) (k : ℕ) (places : List ℕ) (f : Fate) (line : Option (List ℕ)) (state : Option WindowState) (m n i : ℕ) → (k ≡ n → In places i → ⊥) → lacks_fate s h n i ≡ true → lacks_fate s (Gave by k places f line state m ∷ h) n i ≡ true
stays_lacking s h by k places f line state m n i out lacks =
    lacks_gave s by k places f line state m h n i
    ∙ and_from (lacks_fate s h n i) (not ((k == n) && holds places i)) lacks
    (elim (cases_Bool ((k == n) && holds places i)) [
      | inl named ↦ (let parts = and_parts (k == n) (holds places i) named in absurd (out (eqb-true k n parts.0) parts.1))
      | inr other ↦ ap not other
    ])

filtered_out : (s : Setting) (h : List Entry) (k : ℕ) (places : List ℕ) (line : Option (List ℕ)) (state : Option WindowState) (m : ℕ) (lane : LaneId) (i : ℕ) → Legal s (Gave None k places Filtered line state m ∷ h) → TriesOpen s h → In (try_places (debts s h lane)) i → k ≡ lane.shard → In places i → ⊥
filtered_out s h k places line state m lane i legal was member shard inside =
    let there : In (unsorted s h lane.shard) i = subst (λ n. In (unsorted s h n) i) shard (subst (λ xs. In xs i) legal.1.1.exact inside) in
    let is = (In-filter (is_unsorted s h lane.shard) (below (came_count h lane.shard)) i there).1 in
    refused_sorted s (record_at s lane.shard i) (and_parts (lacks_fate s h lane.shard i) (unwrap_or (option_map (is_refused s) (record_at s lane.shard i)) false) is).1 (was.sorted lane i member)

paid_out : (s : Setting) (h : List Entry) (at : LaneId) (k : ℕ) (places : List ℕ) (f : Fate) (line : Option (List ℕ)) (state : Option WindowState) (m : ℕ) (lane : LaneId) (i : ℕ) → Legal s (Gave (Some at) k places f line state m ∷ h) → IsOwed s h at (Gave (Some at) k places f line state m) → TriesOpen s h → In (try_places (debts s h lane)) i → k ≡ lane.shard → In places i → ⊥
paid_out s h at k places f line state m lane i legal owed was member shard inside =
    let facts = gave_In s h at k places f line state m legal in
    let own : is_in_lane s at i ≡ true = (open_In s h at i (facts.1 i inside)).1 in
    let lanes : at ≡ lane = one_lane s at lane i (sym facts.0 ∙ shard) own ((tries_owed s h legal.0).in_lane lane i member) in
    let first = first_debt s h at (Gave (Some at) k places f line state m) owed in
    let given : In (debt_places (debts s h at)) i =
    subst (λ ds. In (debt_places ds) i) (sym first.parts) (In-append_left (places_of first.first) (debt_places (drop 1 (debts s h at))) i (subst (λ xs. In xs i) (sym first.places) inside)) in
    was.disjoint lane i (subst (λ l. In (debt_places (debts s h l)) i) lanes given) member

gave_out : (s : Setting) (h : List Entry) (by : Option LaneId) (k : ℕ) (places : List ℕ) (f : Fate) (line : Option (List ℕ)) (state : Option WindowState) (m : ℕ) (lane : LaneId) (i : ℕ) → Legal s (Gave by k places f line state m ∷ h) → TriesOpen s h → In (try_places (debts s h lane)) i → k ≡ lane.shard → In places i → ⊥
gave_out s h None k places Filtered line state m lane i legal was member shard inside = filtered_out s h k places line state m lane i legal was member shard inside
gave_out s h None k places Succeeded line state m lane i legal was member shard inside = absurd legal.1.1
gave_out s h None k places Expired line state m lane i legal was member shard inside = absurd legal.1.1
gave_out s h None k places Exhausted line state m lane i legal was member shard inside = absurd legal.1.1
gave_out s h (Some at) k places Filtered line state m lane i legal was member shard inside = absurd legal.1.1
gave_out s h (Some at) k places Succeeded line state m lane i legal was member shard inside = paid_out s h at k places Succeeded line state m lane i legal legal.1.1 was member shard inside
gave_out s h (Some at) k places Exhausted line state m lane i legal was member shard inside = paid_out s h at k places Exhausted line state m lane i legal legal.1.1 was member shard inside
gave_out s h (Some at) k places Expired line state m lane i legal was member shard inside = In-none i (subst (λ ds. In (try_places ds) i) (legal.1.1.settled.paid lane) member)

-- a call that ends

end_disjoint : (s : Setting) (h : List Entry) (at : LaneId) (reply : Reply) (o : Option Call) (i : ℕ) → Distinct (open_places s h at) → IsFront (batch_of o) (open_places s h at) → In (debt_places (call_debts s h at o reply)) i → In (try_places (call_debts s h at o reply)) i → ⊥
end_disjoint s h at reply None i distinct front a b = In-none i a
end_disjoint s h at reply (Some call) i distinct front a b =
    (let v = verdict_after s h at reply in
    disjoint_rest v.rest (success_debts (take v.succeeded call.places) (new_state s at.shard call reply)) (take v.succeeded call.places) (drop v.succeeded call.places) call.closing (tries_of s h at.shard call) i
    (success_is (take v.succeeded call.places) (new_state s at.shard call reply)) (try_success (take v.succeeded call.places) (new_state s at.shard call reply))
    (λ j x y. halves_apart v.succeeded call.places (open_places s h at) j distinct front x y) a b)

open_ends : (s : Setting) (h : List Entry) (at : LaneId) (reply : Reply) (m : ℕ) → Legal s (Ended at reply m ∷ h) → TriesOpen s h → TriesOpen s (Ended at reply m ∷ h)
open_ends s h at reply m legal was = record {
  lacks = λ lane i member. elim (cases_Bool (same_lane at lane)) [
    | inl same ↦ subst (λ (l : LaneId). lacks_fate s h l.shard i ≡ true) (same_lane-true at lane same) (open_In s h at i (own_open i (own lane i same member))).2
    | inr other ↦ was.lacks lane i (rw other at member)
  ];
  sorted = λ lane i member. elim (cases_Bool (same_lane at lane)) [
    | inl same ↦ subst (λ (l : LaneId). is_sorted_place s l.shard i ≡ true) (same_lane-true at lane same) ((sound s h legal.0 at).sorted i (pending_is i (own_batch i (own lane i same member))))
    | inr other ↦ was.sorted lane i (rw other at member)
  ];
  disjoint = λ lane i a b. elim (cases_Bool (same_lane at lane)) [
    | inl same ↦ end_disjoint s h at reply (last_call h at) i (open_distinct s h at) (running_front s h at legal.0 legal.1.1) (own_places lane i same a) (own lane i same b)
    | inr other ↦ was.disjoint lane i (rw other at a) (rw other at b)
  ];
}
  where
    own : (lane : LaneId) (i : ℕ) → same_lane at lane ≡ true → In (try_places (debts s (Ended at reply m ∷ h) lane)) i → In (try_places (call_debts s h at (last_call h at) reply)) i
    own lane i same member = subst (λ ds. In (try_places ds) i) (debts_ended s at reply m h) (subst (λ l. In (try_places (debts s (Ended at reply m ∷ h) l)) i) (sym (same_lane-true at lane same)) member)

    own_places : (lane : LaneId) (i : ℕ) → same_lane at lane ≡ true → In (debt_places (debts s (Ended at reply m ∷ h) lane)) i → In (debt_places (call_debts s h at (last_call h at) reply)) i
    own_places lane i same member = subst (λ ds. In (debt_places ds) i) (debts_ended s at reply m h) (subst (λ l. In (debt_places (debts s (Ended at reply m ∷ h) l)) i) (sym (same_lane-true at lane same)) member)

    own_batch : (i : ℕ) → In (try_places (call_debts s h at (last_call h at) reply)) i → In (batch_of (last_call h at)) i
    own_batch i member = try_end s h at (last_call h at) reply i member

    own_open : (i : ℕ) → In (try_places (call_debts s h at (last_call h at) reply)) i → In (open_places s h at) i
    own_open i member = running_In s h at legal.0 legal.1.1 i (own_batch i member)

    pending_is : (i : ℕ) → In (batch_of (last_call h at)) i → In (cond (is_running h at) (batch_of (last_call h at)) (debt_places (debts s h at))) i
    pending_is i member = (let runs : is_running h at ≡ true = legal.1.1 in rw runs member)

-- a call begins where nothing is owed
open_begins : (s : Setting) (h : List Entry) (at : LaneId) (places : List ℕ) (closing : Option ℕ) (m : ℕ) → ((lane : LaneId) → debts s h lane ≡ []) → TriesOpen s h → TriesOpen s (Began at places closing m ∷ h)
open_begins s h at places closing m none was = open_quiet s h (Began at places closing m) (λ lane. inl (nothing lane ∙ sym (none lane))) (λ lane i member lacks. lacks) was
  where
    nothing : (lane : LaneId) → debts s (Began at places closing m ∷ h) lane ≡ []
    nothing lane = elim (cases_Bool (same_lane at lane)) [ inl same ↦ rw same refl | inr other ↦ rw other (none lane) ]

pub tries_open : (s : Setting) (h : List Entry) → Legal s h → TriesOpen s h
tries_open s [] legal = record { lacks = λ lane i member. cc; sorted = λ lane i member. cc; disjoint = λ lane i a b. cc }
tries_open s (Came n first count m ∷ h) legal = open_quiet s h (Came n first count m) (λ lane. inl refl) (λ lane i member lacks. lacks) (tries_open s h legal.0)
tries_open s (Began at places None m ∷ h) legal = open_begins s h at places None m legal.1.1.call.settled.paid (tries_open s h legal.0)
tries_open s (Began at places (Some w) m ∷ h) legal = open_begins s h at places (Some w) m legal.1.1.call.settled.paid (tries_open s h legal.0)
tries_open s (Ended at reply m ∷ h) legal = open_ends s h at reply m legal (tries_open s h legal.0)
tries_open s (Gave by k places f line state m ∷ h) legal =
    open_quiet s h (Gave by k places f line state m) (λ lane. either_dropped (pays lane (debts s h lane) (Gave by k places f line state m)) (debts s h lane))
    (λ lane i member lacks. stays_lacking s h by k places f line state m lane.shard i (gave_out s h by k places f line state m lane i legal (tries_open s h legal.0) member) lacks) (tries_open s h legal.0)
tries_open s (Tried at places c t m ∷ h) legal = open_quiet s h (Tried at places c t m) (λ lane. either_dropped (pays lane (debts s h lane) (Tried at places c t m)) (debts s h lane)) (λ lane i member lacks. lacks) (tries_open s h legal.0)
tries_open s (Closed at w m ∷ h) legal = open_quiet s h (Closed at w m) (λ lane. either_dropped (pays lane (debts s h lane) (Closed at w m)) (debts s h lane)) (λ lane i member lacks. lacks) (tries_open s h legal.0)
tries_open s (Replayed n places m ∷ h) legal = absurd legal.1.1
tries_open s (Shut m ∷ h) legal = open_quiet s h (Shut m) (λ lane. inl refl) (λ lane i member lacks. lacks) (tries_open s h legal.0)
