-- A history that passes the tests is legal.
use Rattle.std.proofs.Common.{◌≡◌, ℕ, ◌+◌, ◌<◌, ◌≤◌, Bool, true, false, not, cond, ◌&&◌, List, [], ◌∷◌, ◌++◌, map, drop, refl, sym, ap, ◌∙◌, subst, inl, inr, Option, Some, None}
use Rattle.std.specs.Prelude.{◌==◌, nat_eq, nat_le, filter, find, option_map, is_none, slice_get}
use Rattle.std.specs.List.{list_any, list_all}
use Rattle.std.specs.Option.{option_eq}
use Rattle.std.specs.Str.{bytes_eq}
use Rattle.std.proofs.lemmas.Bool.{cases_Bool, and_parts, and_right, or_parts, eqb-true, leb-true, ltb-true}
use Rattle.std.proofs.lemmas.List.Folds.{list_any-append}
use Rattle.std.proofs.lemmas.Slice.Eq.{bytes_eq-Decides}
use Rattle.esm_model.specs.Lane.{same_lane}
use Rattle.esm_model.specs.Records.{Record}
use Rattle.esm_model.specs.declared.lane.LaneId.{LaneId}
use Rattle.esm_model.specs.declared.entry.Fate.{Fate}
use Rattle.esm_model.specs.declared.entry.Fate.TheVariants.{Succeeded, Filtered, Expired, Exhausted}
use Rattle.esm_model.specs.declared.entry.WindowState.{WindowState}
use Rattle.esm_model.specs.declared.entry.Entry.{Entry}
use Rattle.esm_model.specs.declared.entry.Entry.TheVariants.{Came, Began, Ended, Gave, Tried, Closed, Replayed, Shut}
use Rattle.esm_model.specs.declared.setup.FoundFate.{FoundFate}
use Rattle.esm_model.specs.declared.setup.FoundTries.{FoundTries}
use Rattle.esm_model.specs.declared.setup.FoundState.{FoundState}
use Rattle.esm_model.specs.Setting.{Setting, record_at, found_fate, found_try}
use Rattle.esm_model.specs.Entries.{holds, moment_of, came_count, shards_that_came}
use Rattle.esm_model.specs.Fates.{below, same_fate}
use Rattle.esm_model.specs.Windows.{kept_state, is_due}
use Rattle.esm_model.specs.Owed.{Debt, debts, unsorted, is_unsorted, owed, IsOwed, Settled}
use Rattle.esm_model.specs.Step.{Legal, IsLater, IsKept, MayCome, MayFilter, MayCall, MayBegin, MayBeginFinal, MayExpire, MayGive, MayFollow}
use Rattle.esm_model.specs.Checkpoint.{checkpoint}
use Rattle.esm_model.specs.Books.{lines_of}
use Rattle.esm_model.specs.Worked.{calls_in, fates_in, all_have, Runs}
use Rattle.esm_model.specs.WorkedLegal.{same_state, same_entry, lanes_that_ended, with_window, windows_seen, is_text_of, is_kept, is_sorted, no_debts, is_settled, is_later, may_come, may_filter, may_call, may_begin, is_not_before, may_begin_final, may_expire, is_entry, is_owed, may_give, may_follow, is_legal}
use Rattle.esm_model.proofs.Lists.{In, below-In}
use Rattle.esm_model.proofs.Sound.{same_lane-true}

-- ---- one value is another

bytes_same : (xs ys : List ℕ) → bytes_eq xs ys ≡ true → xs ≡ ys
bytes_same xs ys t = (bytes_eq-Decides xs ys).0 t

option_same : {A : Type 0} (same : A → A → Bool) → ((a b : A) → same a b ≡ true → a ≡ b) → (x y : Option A) → option_eq same x y ≡ true → x ≡ y
option_same same sound None None t = refl
option_same same sound (Some a) (Some b) t = ap Some (sound a b t)
option_same same sound None (Some b) t = cc
option_same same sound (Some a) None t = cc

state_same : (a b : WindowState) → same_state a b ≡ true → a ≡ b
state_same a b t =
    let parts = and_parts (a.window == b.window) (bytes_eq a.text b.text) t in
    let first : ℕ → WindowState = λ x. record { window = x; text = a.text } in
    let second : List ℕ → WindowState = λ y. record { window = b.window; text = y } in
    ap first (eqb-true a.window b.window parts.0) ∙ ap second (bytes_same a.text b.text parts.1)

fate_same : (a b : Fate) → same_fate a b ≡ true → a ≡ b
fate_same Succeeded Succeeded t = refl
fate_same Filtered Filtered t = refl
fate_same Expired Expired t = refl
fate_same Exhausted Exhausted t = refl
fate_same Succeeded Filtered t = cc
fate_same Succeeded Expired t = cc
fate_same Succeeded Exhausted t = cc
fate_same Filtered Succeeded t = cc
fate_same Filtered Expired t = cc
fate_same Filtered Exhausted t = cc
fate_same Expired Succeeded t = cc
fate_same Expired Filtered t = cc
fate_same Expired Exhausted t = cc
fate_same Exhausted Succeeded t = cc
fate_same Exhausted Filtered t = cc
fate_same Exhausted Expired t = cc

-- both of two tests
abbrev Both : Bool → Bool → Type 0
Both a b = (a ≡ true) × (b ≡ true)

entry_same : (a b : Entry) → same_entry a b ≡ true → a ≡ b
entry_same (Gave by n places f line state m) (Gave by2 n2 places2 f2 line2 state2 m2) t =
    let p1 = and_parts _ _ t in
    let p2 = and_parts _ _ p1.1 in
    let p3 = and_parts _ _ p2.1 in
    let p4 = and_parts _ _ p3.1 in
    let p5 = and_parts _ _ p4.1 in
    let p6 = and_parts _ _ p5.1 in
    let e1 = option_same same_lane same_lane-true by by2 p1.0 in
    let e2 = eqb-true n n2 p2.0 in
    let e3 = bytes_same places places2 p3.0 in
    let e4 = fate_same f f2 p4.0 in
    let e5 = option_same bytes_eq bytes_same line line2 p5.0 in
    let e6 = option_same same_state state_same state state2 p6.0 in
    let e7 = eqb-true m m2 p6.1 in
    cc
entry_same (Tried lane places closing tries m) (Tried lane2 places2 closing2 tries2 m2) t =
    let p1 = and_parts _ _ t in
    let p2 = and_parts _ _ p1.1 in
    let p3 = and_parts _ _ p2.1 in
    let p4 = and_parts _ _ p3.1 in
    let e1 = same_lane-true lane lane2 p1.0 in
    let e2 = bytes_same places places2 p2.0 in
    let e3 = option_same nat_eq eqb-true closing closing2 p3.0 in
    let e4 = eqb-true tries tries2 p4.0 in
    let e5 = eqb-true m m2 p4.1 in
    cc
entry_same (Closed lane window m) (Closed lane2 window2 m2) t =
    let p1 = and_parts _ _ t in
    let p2 = and_parts _ _ p1.1 in
    let e1 = same_lane-true lane lane2 p1.0 in
    let e2 = eqb-true window window2 p2.0 in
    let e3 = eqb-true m m2 p2.1 in
    cc
entry_same _ _ t = cc

-- ---- what occurs in a history

-- a list of which each element passes the one test, and some element the other
found_passing : {A : Type 0} (p q : A → Bool) (xs : List A) → list_all p xs ≡ true → list_any q xs ≡ true → (x : A) × (p x ≡ true) × (q x ≡ true)
found_passing p q [] all some = cc
found_passing p q (x ∷ xs) all some =
    let parts = and_parts (p x) (list_all p xs) all in
    elim (cases_Bool (q x)) [ inl is ↦ (x, parts.0, is) | inr fails ↦ found_passing p q xs parts.1 (rw fails at some) ]

all_In : (p : ℕ → Bool) (xs : List ℕ) (i : ℕ) → list_all p xs ≡ true → In xs i → p i ≡ true
all_In p xs i all member =
    let found = found_passing p (λ x. x == i) xs all member in
    subst (λ x. p x ≡ true) (eqb-true found.0 i found.2) found.1

clash : {P : Type 0} (b : Bool) → b ≡ true → b ≡ false → P
clash b holds_true holds_false = cc

not_come : (h : List Entry) (n : ℕ) → holds (shards_that_came h) n ≡ false → came_count h n ≡ 0
not_come [] n none = refl
not_come (Came shard first count m ∷ h) n none =
    elim (cases_Bool (holds (shards_that_came h) shard)) [
      | inl was ↦
          (let rest : holds (shards_that_came h) n ≡ false = rw was at none in
          elim (cases_Bool (shard == n)) [
            | inl same ↦ clash (holds (shards_that_came h) n) (subst (λ k. holds (shards_that_came h) k ≡ true) (eqb-true shard n same) was) rest
            | inr other ↦ rw other (not_come h n rest)
          ])
      | inr new ↦
          (let both : holds (shards_that_came h ++ shard ∷ []) n ≡ false = rw new at none in
          let parts = or_parts (holds (shards_that_came h) n) (holds (shard ∷ []) n) (sym (list_any-append (λ p. p == n) (shards_that_came h) (shard ∷ [])) ∙ both) in
          let other = or_parts (shard == n) false parts.1 in
          rw (other.0) (not_come h n parts.0))
    ]
not_come (Began lane places closing m ∷ h) n none = not_come h n none
not_come (Ended lane reply m ∷ h) n none = not_come h n none
not_come (Gave by shard places f line state m ∷ h) n none = not_come h n none
not_come (Tried lane places closing tries m ∷ h) n none = not_come h n none
not_come (Closed lane window m ∷ h) n none = not_come h n none
not_come (Replayed shard places m ∷ h) n none = not_come h n none
not_come (Shut m ∷ h) n none = not_come h n none

dropped : (b : Bool) (ds : List Debt) → ds ≡ [] → cond b (drop 1 ds) ds ≡ []
dropped true ds none = ap (drop 1) none
dropped false ds none = none

emptied : (b : Bool) (ds : List Debt) → ds ≡ [] → cond b [] ds ≡ []
emptied true ds none = refl
emptied false ds none = none

not_ended : (s : Setting) (h : List Entry) (lane : LaneId) → list_any (λ at. same_lane at lane) (lanes_that_ended h) ≡ false → debts s h lane ≡ []
not_ended s [] lane none = refl
not_ended s (Ended at reply m ∷ h) lane none =
    elim (cases_Bool (list_any (λ l. same_lane l at) (lanes_that_ended h))) [
      | inl was ↦
          (let rest : list_any (λ l. same_lane l lane) (lanes_that_ended h) ≡ false = rw was at none in
          elim (cases_Bool (same_lane at lane)) [
            | inl same ↦ clash (list_any (λ l. same_lane l lane) (lanes_that_ended h)) (subst (λ k. list_any (λ l. same_lane l k) (lanes_that_ended h) ≡ true) (same_lane-true at lane same) was) rest
            | inr other ↦ rw other (not_ended s h lane rest)
          ])
      | inr new ↦
          (let both : list_any (λ l. same_lane l lane) (at ∷ lanes_that_ended h) ≡ false = rw new at none in
          let parts = or_parts (same_lane at lane) (list_any (λ l. same_lane l lane) (lanes_that_ended h)) both in
          rw (parts.0) (not_ended s h lane parts.1))
    ]
not_ended s (Came shard first count m ∷ h) lane none = not_ended s h lane none
not_ended s (Began at places closing m ∷ h) lane none = emptied (same_lane at lane) (debts s h lane) (not_ended s h lane none)
not_ended s (Gave by shard places f line state m ∷ h) lane none = dropped _ (debts s h lane) (not_ended s h lane none)
not_ended s (Tried at places closing tries m ∷ h) lane none = dropped _ (debts s h lane) (not_ended s h lane none)
not_ended s (Closed at window m ∷ h) lane none = dropped _ (debts s h lane) (not_ended s h lane none)
not_ended s (Replayed shard places m ∷ h) lane none = not_ended s h lane none
not_ended s (Shut m ∷ h) lane none = not_ended s h lane none

not_found : (n w : ℕ) (states : List FoundState) → holds (map (λ (f : FoundState). f.window) states) w ≡ false → option_map (λ (f : FoundState). f.text) (find (λ (f : FoundState). (f.shard == n) && (f.window == w)) states) ≡ None
not_found n w [] none = refl
not_found n w (f ∷ states) none =
    let parts = or_parts (f.window == w) (holds (map (λ (f : FoundState). f.window) states) w) none in
    rw (and_right (f.shard == n) (f.window == w) parts.0) (not_found n w states parts.1)

-- a window that the list with this state lacks is lacking before, and is not that of the state
with_window_lacks : (before : List ℕ) (state : WindowState) (w : ℕ) → holds (with_window before (Some state)) w ≡ false → (holds before w ≡ false) × ((state.window == w) ≡ false)
with_window_lacks before state w none =
    elim (cases_Bool (holds before state.window)) [
      | inl was ↦
          (let rest : holds before w ≡ false = rw was at none in
          elim (cases_Bool (state.window == w)) [
            | inl same ↦ clash (holds before w) (subst (λ k. holds before k ≡ true) (eqb-true state.window w same) was) rest
            | inr other ↦ (rest, other)
          ])
      | inr new ↦
          (let both : holds (state.window ∷ before) w ≡ false = rw new at none in
          let parts = or_parts (state.window == w) (holds before w) both in (parts.1, parts.0))
    ]

taken : (b : Bool) (o : Option (List ℕ)) → o ≡ None → cond b None o ≡ None
taken true o none = refl
taken false o none = none

kept : (b : Bool) (o : Option (List ℕ)) → o ≡ None → cond b o o ≡ None
kept true o none = none
kept false o none = none

not_seen : (s : Setting) (h : List Entry) (n w : ℕ) → holds (windows_seen s h) w ≡ false → kept_state s h n w ≡ None
not_seen s [] n w none = not_found n w s.states none
not_seen s (Gave by shard places f line None m ∷ h) n w none = kept (shard == n) (kept_state s h n w) (not_seen s h n w none)
not_seen s (Gave by shard places f line (Some state) m ∷ h) n w none =
    let parts = with_window_lacks (windows_seen s h) state w none in
    rw (parts.1) (kept (shard == n) (kept_state s h n w) (not_seen s h n w parts.0))
not_seen s (Closed at window m ∷ h) n w none = taken ((at.shard == n) && (window == w)) (kept_state s h n w) (not_seen s h n w none)
not_seen s (Came shard first count m ∷ h) n w none = not_seen s h n w none
not_seen s (Began at places closing m ∷ h) n w none = not_seen s h n w none
not_seen s (Ended at reply m ∷ h) n w none = not_seen s h n w none
not_seen s (Tried at places closing tries m ∷ h) n w none = not_seen s h n w none
not_seen s (Replayed shard places m ∷ h) n w none = not_seen s h n w none
not_seen s (Shut m ∷ h) n w none = not_seen s h n w none

not_due : (s : Setting) (h : List Entry) (n w : ℕ) → holds (windows_seen s h) w ≡ false → is_due s h n w ≡ false
not_due s h n w none = rw (not_seen s h n w none) (stays _ _ _)
  where
    stays : (a b c : Bool) → (a && false && b && c) ≡ false
    stays true b c = refl
    stays false b c = refl

-- ---- the rows

no_debts_left : (ds : List Debt) → no_debts ds ≡ true → ds ≡ []
no_debts_left [] t = refl
no_debts_left (d ∷ ds) t = cc

sorted : (s : Setting) (h : List Entry) → list_all (is_sorted s h) (shards_that_came h) ≡ true → (n : ℕ) → unsorted s h n ≡ []
sorted s h all n =
    elim (cases_Bool (holds (shards_that_came h) n)) [
      | inl came ↦ bytes_same (unsorted s h n) [] (all_In (is_sorted s h) (shards_that_came h) n all came)
      | inr none ↦ ap (λ k. filter (is_unsorted s h n) (below k)) (not_come h n none)
    ]

paid : (s : Setting) (h : List Entry) → list_all (λ at. no_debts (debts s h at)) (lanes_that_ended h) ≡ true → (lane : LaneId) → debts s h lane ≡ []
paid s h all lane =
    elim (cases_Bool (list_any (λ at. same_lane at lane) (lanes_that_ended h))) [
      | inl ended ↦
          (let found = found_passing (λ at. no_debts (debts s h at)) (λ at. same_lane at lane) (lanes_that_ended h) all ended in
          subst (λ l. debts s h l ≡ []) (same_lane-true found.0 lane found.2) (no_debts_left (debts s h found.0) found.1))
      | inr none ↦ not_ended s h lane none
    ]

settled : (s : Setting) (h : List Entry) → is_settled s h ≡ true → Settled s h
settled s h t =
    let parts = and_parts (list_all (is_sorted s h) (shards_that_came h)) (list_all (λ lane. no_debts (debts s h lane)) (lanes_that_ended h)) t in
    record { sorted = sorted s h parts.0; paid = paid s h parts.1 }

is_false : (b : Bool) → not b ≡ true → b ≡ false
is_false true t = cc
is_false false t = refl

none_from : {A : Type 0} (o : Option A) → is_none o ≡ true → o ≡ None
none_from None t = refl
none_from (Some x) t = cc

later : (h : List Entry) (m : ℕ) → is_later h m ≡ true → IsLater h m
later h m t = let parts = and_parts _ _ t in record { not_back = leb-true _ _ parts.0; within = leb-true _ _ parts.1 }

text_kept : (o : Option (List ℕ)) (p : Option Record) (text : List ℕ) (r : Record) → is_text_of o p ≡ true → o ≡ Some text → p ≡ Some r → r.seq ≡ text
text_kept o p text r t e1 e2 =
    let both : is_text_of (Some text) (Some r) ≡ true = subst (λ x. is_text_of x (Some r) ≡ true) e1 (subst (λ y. is_text_of o y ≡ true) e2 t) in
    bytes_same r.seq text both

are_kept : (s : Setting) (n first count : ℕ) → list_all (is_kept s n) (below (first + count)) ≡ true → IsKept s n first count
are_kept s n first count all = record {
  fates = λ i f r low high record_is fate_is.
      text_kept (option_map (λ (f : FoundFate). f.text) (found_fate s n i)) (record_at s n i) f.text r (parts i high).0 (ap (option_map (λ (f : FoundFate). f.text)) fate_is) record_is;
  tries = λ i f r low high record_is tries_are.
      text_kept (option_map (λ (f : FoundTries). f.text) (found_try s n i)) (record_at s n i) f.text r (parts i high).1 (ap (option_map (λ (f : FoundTries). f.text)) tries_are) record_is;
}
  where
    parts : (i : ℕ) → i < first + count
        → (is_text_of (option_map (λ (f : FoundFate). f.text) (found_fate s n i)) (record_at s n i) ≡ true)
        × (is_text_of (option_map (λ (f : FoundTries). f.text) (found_try s n i)) (record_at s n i) ≡ true)
    parts i high = and_parts _ _ (all_In (is_kept s n) (below (first + count)) i all (below-In (first + count) i high))

comes : (s : Setting) (h : List Entry) (n first count : ℕ) → may_come s h n first count ≡ true → MayCome s h n first count
comes s h n first count t =
    let p1 = and_parts _ _ t in
    let p2 = and_parts _ _ p1.1 in
    let p3 = and_parts _ _ p2.1 in
    let p4 = and_parts _ _ p3.1 in
    record { not_shut = is_false _ p1.0; next = eqb-true _ _ p2.0; some = leb-true _ _ p3.0; within = leb-true _ _ p4.0; kept = are_kept s n first count p4.1 }

filters : (s : Setting) (h : List Entry) (n : ℕ) (places : List ℕ) (line : Option (List ℕ)) (state : Option WindowState) (m : ℕ) → may_filter s h n places line state m ≡ true → MayFilter s h n places line state m
filters s h n places line state m t =
    let p1 = and_parts _ _ t in
    let p2 = and_parts _ _ p1.1 in
    let p3 = and_parts _ _ p2.1 in
    let p4 = and_parts _ _ p3.1 in
    record { exact = bytes_same _ _ p1.0; some = leb-true _ _ p2.0; no_line = none_from line p3.0; no_state = none_from state p4.0; same_moment = eqb-true _ _ p4.1 }

calls : (s : Setting) (h : List Entry) (lane : LaneId) (m : ℕ) → may_call s h lane m ≡ true → MayCall s h lane m
calls s h lane m t =
    let p1 = and_parts _ _ t in
    let p2 = and_parts _ _ p1.1 in
    let p3 = and_parts _ _ p2.1 in
    let p4 = and_parts _ _ p3.1 in
    let p5 = and_parts _ _ p4.1 in
    record { settled = settled s h p1.0; came = leb-true _ _ p2.0; below_factor = ltb-true _ _ p3.0; rests = is_false _ p4.0; calls_left = ltb-true _ _ p5.0; front = is_false _ p5.1 }

none_due : (s : Setting) (h : List Entry) (n : ℕ) → list_all (λ w. not (is_due s h n w)) (windows_seen s h) ≡ true → (w : ℕ) → is_due s h n w ≡ false
none_due s h n all w =
    elim (cases_Bool (holds (windows_seen s h) w)) [
      | inl seen ↦ is_false (is_due s h n w) (all_In (λ w. not (is_due s h n w)) (windows_seen s h) w all seen)
      | inr none ↦ not_due s h n w none
    ]

begins : (s : Setting) (h : List Entry) (lane : LaneId) (places : List ℕ) (m : ℕ) → may_begin s h lane places m ≡ true → MayBegin s h lane places m
begins s h lane places m t =
    let p1 = and_parts _ _ t in
    let p2 = and_parts _ _ p1.1 in
    let p3 = and_parts _ _ p2.1 in
    let p4 = and_parts _ _ p3.1 in
    record { call = calls s h lane m p1.0; no_window_due = none_due s h lane.shard p2.0; ready = p3.0; exact = bytes_same _ _ p4.0; some = leb-true _ _ p4.1 }

least_due : (s : Setting) (h : List Entry) (n window : ℕ) → list_all (is_not_before s h n window) (windows_seen s h) ≡ true → (w : ℕ) → is_due s h n w ≡ true → window ≤ w
least_due s h n window all w due =
    elim (cases_Bool (holds (windows_seen s h) w)) [
      | inl seen ↦ (let test : nat_le window w ≡ true = rw due at (all_In (is_not_before s h n window) (windows_seen s h) w all seen) in leb-true window w test)
      | inr none ↦ clash (is_due s h n w) due (not_due s h n w none)
    ]

begins_final : (s : Setting) (h : List Entry) (lane : LaneId) (places : List ℕ) (window m : ℕ) → may_begin_final s h lane places window m ≡ true → MayBeginFinal s h lane places window m
begins_final s h lane places window m t =
    let p1 = and_parts _ _ t in
    let p2 = and_parts _ _ p1.1 in
    let p3 = and_parts _ _ p2.1 in
    let p4 = and_parts _ _ p3.1 in
    record { call = calls s h lane m p1.0; delay_over = leb-true _ _ p2.0; due = p3.0; least = least_due s h lane.shard window p4.0; no_places = bytes_same _ _ p4.1 }

expires : (s : Setting) (h : List Entry) (lane : LaneId) (n : ℕ) (places : List ℕ) (line : Option (List ℕ)) (state : Option WindowState) (m : ℕ) → may_expire s h lane n places line state m ≡ true → MayExpire s h lane n places line state m
expires s h lane n places line state m t =
    let p1 = and_parts _ _ t in
    let p2 = and_parts _ _ p1.1 in
    let p3 = and_parts _ _ p2.1 in
    let p4 = and_parts _ _ p3.1 in
    let p5 = and_parts _ _ p4.1 in
    let p6 = and_parts _ _ p5.1 in
    record { settled = settled s h p1.0; rests = is_false _ p2.0; shard = eqb-true _ _ p3.0; exact = bytes_same _ _ p4.0; some = leb-true _ _ p5.0; line_is = option_same bytes_eq bytes_same _ _ p6.0; no_state = none_from state p6.1 }

first_is : (o : Option Entry) (e : Entry) → is_entry o e ≡ true → o ≡ Some e
first_is None e t = cc
first_is (Some first) e t = ap Some (entry_same first e t)

owes : (s : Setting) (h : List Entry) (lane : LaneId) (e : Entry) → is_owed s h lane e ≡ true → IsOwed s h lane e
owes s h lane e t = first_is (slice_get (owed s h lane) 0) e t

gives : (s : Setting) (h : List Entry) (by : Option LaneId) (n : ℕ) (places : List ℕ) (f : Fate) (line : Option (List ℕ)) (state : Option WindowState) (m : ℕ) → may_give s h by n places f line state m ≡ true → MayGive s h by n places f line state m
gives s h None n places Filtered line state m t = filters s h n places line state m t
gives s h (Some lane) n places Succeeded line state m t = owes s h lane (Gave (Some lane) n places Succeeded line state m) t
gives s h (Some lane) n places Exhausted line state m t = owes s h lane (Gave (Some lane) n places Exhausted line state m) t
gives s h (Some lane) n places Expired line state m t = expires s h lane n places line state m t
gives s h None n places Succeeded line state m t = cc
gives s h None n places Exhausted line state m t = cc
gives s h None n places Expired line state m t = cc
gives s h (Some lane) n places Filtered line state m t = cc

follows : (s : Setting) (h : List Entry) (e : Entry) → may_follow s h e ≡ true → MayFollow s h e
follows s h (Came shard first count moment) t = comes s h shard first count t
follows s h (Began lane places None moment) t = begins s h lane places moment t
follows s h (Began lane places (Some window) moment) t = begins_final s h lane places window moment t
follows s h (Ended lane reply moment) t = t
follows s h (Gave by shard places f line state moment) t = gives s h by shard places f line state moment t
follows s h (Tried lane places closing tries moment) t = owes s h lane (Tried lane places closing tries moment) t
follows s h (Closed lane window moment) t = owes s h lane (Closed lane window moment) t
follows s h (Replayed shard places moment) t = cc
follows s h (Shut moment) t = let parts = and_parts _ _ t in (settled s h parts.0, is_false _ parts.1)

pub is_legal_sound : (s : Setting) (h : List Entry) → is_legal s h ≡ true → Legal s h
is_legal_sound s [] t = tt
is_legal_sound s (e ∷ h) t =
    let parts = and_parts (is_legal s h) (is_later h (moment_of e) && may_follow s h e) t in
    let row = and_parts (is_later h (moment_of e)) (may_follow s h e) parts.1 in
    (is_legal_sound s h parts.0, (later h (moment_of e) row.0, follows s h e row.1))

-- a worked history, by computing
pub runs : (s : Setting) (h begun : List Entry) (fates : List Fate) (lines : List (List ℕ)) (point : ℕ)
    → is_legal s h ≡ true → calls_in h ≡ begun → fates_in s h 0 ≡ all_have fates → lines_of h ≡ lines → checkpoint s h 0 ≡ point
    → Runs s h begun fates lines point
runs s h begun fates lines point legal are_calls are_fates are_lines is_point =
    record { is_legal = is_legal_sound s h legal; calls_are = are_calls; fates_are = are_fates; lines_are = are_lines; checkpoint_is = is_point }
