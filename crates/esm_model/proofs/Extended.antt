-- A history that is legal over some lists is legal over all lists that go on from them.
use Rattle.std.proofs.Common.{◌≡◌, ℕ, zero, suc, ◌+◌, ◌-◌, ◌<◌, ◌≤◌, Bool, true, false, cond, ◌&&◌, List, [], ◌∷◌, ◌++◌, length, take, drop, map, get_or, refl, sym, ap, ◌∙◌, subst, inl, inr, Option, Some, None, arith}
use Rattle.std.specs.Prelude.{take_while, option_map, unwrap_or, slice_get, slice_index, ⊤}
use Rattle.std.proofs.lemmas.Option.{slice_get_cases, slice_get_within}
use Rattle.esm_model.specs.declared.limits.TheConstants.{MAX_EXPIRED}
use Rattle.esm_model.specs.Lane.{same_lane}
use Rattle.esm_model.specs.Records.{Record}
use Rattle.esm_model.specs.declared.lane.LaneId.{LaneId}
use Rattle.esm_model.specs.declared.entry.Fate.TheVariants.{Succeeded, Filtered, Expired, Exhausted}
use Rattle.esm_model.specs.declared.entry.Reply.{Reply}
use Rattle.esm_model.specs.declared.entry.WindowState.{WindowState}
use Rattle.esm_model.specs.declared.verdict.Rest.{Rest}
use Rattle.esm_model.specs.declared.verdict.Rest.TheVariants as rest
use Rattle.esm_model.specs.declared.entry.Entry.{Entry}
use Rattle.esm_model.specs.declared.entry.Entry.TheVariants.{Came, Began, Ended, Gave, Tried, Closed, Replayed, Shut}
use Rattle.esm_model.specs.Setting.{Setting, Stream, over, Extends, records_of, record_at}
use Rattle.esm_model.specs.Entries.{Call, last_moment, came_count, is_running, last_call, batch_of}
use Rattle.esm_model.specs.Fates.{below, lacks_fate}
use Rattle.esm_model.specs.FailureText.{failure_text}
use Rattle.esm_model.specs.FailureLine.{calls_of, response_of, last_of, failure_line}
use Rattle.esm_model.specs.Tries.{tries_of, verdict_after}
use Rattle.esm_model.specs.Windows.{has_windows}
use Rattle.esm_model.specs.Calls.{window_of_call}
use Rattle.esm_model.specs.Batches.{is_expired, group}
use Rattle.esm_model.specs.Owed.{Debt, Success, GiveUp, Try, Close, debts, debt_entry, state_in_reply, success_debts, give_up_debts, close_debts, rest_debts, verdict_debts, call_debts, end_debts, new_state, pays, owed, is_refused, is_unsorted, unsorted, IsOwed, Settled}
use Rattle.esm_model.specs.Step.{Legal, MayFollow, MayCome, MayCall, MayExpire}
use Rattle.esm_model.proofs.Lists.{In, In-here, In-there, In-below, In-drop, take_while_agree}
use Rattle.esm_model.proofs.Steps.{came_grows}
use Rattle.esm_model.proofs.Sound.{same_lane-true}
use Rattle.esm_model.proofs.Paid.{expired_In}
use Rattle.esm_model.proofs.Records.{SameRecords, Covered, same_records, same_before, covered_open, covered_running, filter_same, expired_same, window_same, tries_for_same, verdict_same, due_window_same, group_same, group_In, batch_same, delay_same, ready_same, front_same}

-- failure lines

get_In : (xs : List ℕ) (k : ℕ) → k < length xs → In xs (get_or xs k 0)
get_In [] k within = absurd (omega arith)
get_In (x ∷ xs) zero within = In-here x xs x refl
get_In (x ∷ xs) (suc k) within = In-there x xs (get_or xs k 0) (get_In xs k (omega arith))

-- the line, by the first and the last record
abbrev told : Setting → List Entry → ℕ → List ℕ → Bool → ℕ → Option Record → Option Record → Option (List ℕ)
told s h n places expired m first last = option_map (λ (destination : List ℕ). failure_text s.config (record {
  shard = n;
  place = slice_index places 0;
  first = unwrap_or (option_map (λ (r : Record). r.seq) first) [];
  last = unwrap_or (option_map (λ (r : Record). r.seq) last) [];
  first_arrival = unwrap_or (option_map (λ (r : Record). r.arrival) first) 0;
  last_arrival = unwrap_or (option_map (λ (r : Record). r.arrival) last) 0;
  count = length places;
  expired = expired;
  calls = calls_of h n (slice_index places 0);
  response = response_of h n (slice_index places 0);
  moment = m;
})) s.config.destination

pub line_same : (s : Setting) (after : List Stream) (h : List Entry) → SameRecords s after h → (n : ℕ) (places : List ℕ) → 1 ≤ length places → Covered h n places → (expired : Bool) (m : ℕ) → failure_line (over s after) h n places expired m ≡ failure_line s h n places expired m
line_same s after h same n places some covered expired m =
    ap (λ o. told s h n places expired m o (record_at (over s after) n (last_of places))) (same n (slice_index places 0) (covered (slice_index places 0) (get_In places 0 (omega arith))))
    ∙ ap (λ o. told s h n places expired m (record_at s n (slice_index places 0)) o) (same n (last_of places) (covered (last_of places) (get_In places (length places - 1) (omega arith))))

-- what is given up is not empty, and came

abbrev pub IsGiven : List Entry → ℕ → Debt → Type 0
IsGiven h n (GiveUp places) = (1 ≤ length places) × Covered h n places
IsGiven h n _ = ⊤

abbrev pub AllGiven : List Entry → ℕ → List Debt → Type 0
AllGiven h n [] = ⊤
AllGiven h n (d ∷ ds) = IsGiven h n d × AllGiven h n ds

given_append : (h : List Entry) (n : ℕ) (ds es : List Debt) → AllGiven h n ds → AllGiven h n es → AllGiven h n (ds ++ es)
given_append h n [] es a b = b
given_append h n (d ∷ ds) es a b = (a.0, given_append h n ds es a.1 b)

given_drop : (h : List Entry) (n : ℕ) (ds : List Debt) → AllGiven h n ds → AllGiven h n (drop 1 ds)
given_drop h n [] all = tt
given_drop h n (d ∷ ds) all = all.1

given_cond : (h : List Entry) (n : ℕ) (b : Bool) (ds es : List Debt) → (b ≡ true → AllGiven h n ds) → AllGiven h n es → AllGiven h n (cond b ds es)
given_cond h n true ds es a c = a refl
given_cond h n false ds es a c = c

given_more : (e : Entry) (h : List Entry) (n : ℕ) (ds : List Debt) → AllGiven h n ds → AllGiven (e ∷ h) n ds
given_more e h n [] all = tt
given_more e h n (Success places state ∷ ds) all = (tt, given_more e h n ds all.1)
given_more e h n (GiveUp places ∷ ds) all = ((all.0.0, λ i member. (let grows : came_count h n ≤ came_count (e ∷ h) n = came_grows e h n in let came : i < came_count h n = all.0.1 i member in omega arith)), given_more e h n ds all.1)
given_more e h n (Try places closing tries ∷ ds) all = (tt, given_more e h n ds all.1)
given_more e h n (Close window ∷ ds) all = (tt, given_more e h n ds all.1)

given_success : (h : List Entry) (n : ℕ) (xs : List ℕ) (state : Option WindowState) → AllGiven h n (success_debts xs state)
given_success h n [] state = tt
given_success h n (x ∷ xs) state = (tt, tt)

given_close : (h : List Entry) (n : ℕ) (closing : Option ℕ) → AllGiven h n (close_debts closing)
given_close h n None = tt
given_close h n (Some w) = (tt, tt)

given_up : (h : List Entry) (n : ℕ) (xs : List ℕ) → Covered h n xs → AllGiven h n (give_up_debts xs)
given_up h n [] covered = tt
given_up h n (x ∷ xs) covered = ((omega arith, covered), tt)

given_rest : (h : List Entry) (n : ℕ) (r : Rest) (xs : List ℕ) (closing : Option ℕ) (t : ℕ) → Covered h n xs → AllGiven h n (rest_debts r xs closing t)
given_rest h n rest.Nothing xs closing t covered = given_close h n closing
given_rest h n rest.Again xs closing t covered = tt
given_rest h n (rest.Split k) xs closing t covered = tt
given_rest h n rest.Counted xs closing t covered = (tt, tt)
given_rest h n rest.Exhausted xs closing t covered = given_append h n (give_up_debts xs) (close_debts closing) (given_up h n xs covered) (given_close h n closing)

given_end : (s : Setting) (h : List Entry) (lane : LaneId) (o : Option Call) (reply : Reply) → Covered h lane.shard (batch_of o) → AllGiven h lane.shard (call_debts s h lane o reply)
given_end s h lane None reply covered = tt
given_end s h lane (Some call) reply covered =
    given_append h lane.shard (success_debts (take (verdict_after s h lane reply).succeeded call.places) (new_state s lane.shard call reply)) (rest_debts (verdict_after s h lane reply).rest (drop (verdict_after s h lane reply).succeeded call.places) call.closing (tries_of s h lane.shard call))
    (given_success h lane.shard (take (verdict_after s h lane reply).succeeded call.places) (new_state s lane.shard call reply))
    (given_rest h lane.shard (verdict_after s h lane reply).rest (drop (verdict_after s h lane reply).succeeded call.places) call.closing (tries_of s h lane.shard call) (λ i member. covered i (In-drop (verdict_after s h lane reply).succeeded call.places i member)))

-- a lane that runs, by another name
runs_too : (h : List Entry) (at lane : LaneId) → same_lane at lane ≡ true → is_running h at ≡ true → is_running h lane ≡ true
runs_too h at lane is runs = subst (λ l. is_running h l ≡ true) (same_lane-true at lane is) runs

pub debts_given : (s : Setting) (h : List Entry) → Legal s h → (lane : LaneId) → AllGiven h lane.shard (debts s h lane)
debts_given s [] legal lane = tt
debts_given s (Ended at reply m ∷ h) legal lane =
    given_cond h lane.shard (same_lane at lane) (end_debts s h lane reply) (debts s h lane) (λ is. given_end s h lane (last_call h lane) reply (covered_running s h lane legal.0 (runs_too h at lane is legal.1.1))) (debts_given s h legal.0 lane)
debts_given s (Began at places closing m ∷ h) legal lane = given_cond h lane.shard (same_lane at lane) [] (debts s h lane) (λ is. tt) (debts_given s h legal.0 lane)
debts_given s (Gave None k places f line state m ∷ h) legal lane = debts_given s h legal.0 lane
debts_given s (Gave (Some at) k places f line state m ∷ h) legal lane = given_cond h lane.shard (pays lane (debts s h lane) (Gave (Some at) k places f line state m)) (drop 1 (debts s h lane)) (debts s h lane) (λ is. given_drop h lane.shard (debts s h lane) (debts_given s h legal.0 lane)) (debts_given s h legal.0 lane)
debts_given s (Tried at places closing t m ∷ h) legal lane = given_cond h lane.shard (pays lane (debts s h lane) (Tried at places closing t m)) (drop 1 (debts s h lane)) (debts s h lane) (λ is. given_drop h lane.shard (debts s h lane) (debts_given s h legal.0 lane)) (debts_given s h legal.0 lane)
debts_given s (Closed at w m ∷ h) legal lane = given_cond h lane.shard (pays lane (debts s h lane) (Closed at w m)) (drop 1 (debts s h lane)) (debts s h lane) (λ is. given_drop h lane.shard (debts s h lane) (debts_given s h legal.0 lane)) (debts_given s h legal.0 lane)
debts_given s (Came k first count m ∷ h) legal lane = given_more (Came k first count m) h lane.shard (debts s h lane) (debts_given s h legal.0 lane)
debts_given s (Replayed k places m ∷ h) legal lane = debts_given s h legal.0 lane
debts_given s (Shut m ∷ h) legal lane = debts_given s h legal.0 lane

-- what is owed

success_same : (s : Setting) (after : List Stream) (h : List Entry) → SameRecords s after h → (n : ℕ) (places : List ℕ) (closing : Option ℕ) (k : ℕ) (text : List ℕ) → Covered h n places
    → success_debts (take k places) (cond (has_windows s.config) (Some (record { window = window_of_call (over s after) n places closing; text = text })) None) ≡ success_debts (take k places) (cond (has_windows s.config) (Some (record { window = window_of_call s n places closing; text = text })) None)
success_same s after h same n [] closing zero text covered = refl
success_same s after h same n [] closing (suc k) text covered = refl
success_same s after h same n (x ∷ xs) (Some w) k text covered = refl
success_same s after h same n (x ∷ xs) None k text covered =
    ap (λ w. success_debts (take k (x ∷ xs)) (cond (has_windows s.config) (Some (record { window = w; text = text })) None)) (window_same s after h same n x (covered x (In-here x xs x refl)))

end_same : (s : Setting) (after : List Stream) (h : List Entry) → SameRecords s after h → Legal s h → (lane : LaneId) (o : Option Call) (reply : Reply) → Covered h lane.shard (batch_of o) → verdict_after (over s after) h lane reply ≡ verdict_after s h lane reply
    → call_debts (over s after) h lane o reply ≡ call_debts s h lane o reply
end_same s after h same legal lane None reply covered verdict = refl
end_same s after h same legal lane (Some call) reply covered verdict =
    ap (λ t. verdict_debts (over s after) lane.shard call t (verdict_after (over s after) h lane reply) reply) (tries_for_same s after h same legal lane.shard call.places call.closing)
    ∙ ap (λ v. verdict_debts (over s after) lane.shard call (tries_of s h lane.shard call) v reply) verdict
    ∙ ap (λ ds. ds ++ rest_debts (verdict_after s h lane reply).rest (drop (verdict_after s h lane reply).succeeded call.places) call.closing (tries_of s h lane.shard call))
    (success_same s after h same lane.shard call.places call.closing (verdict_after s h lane reply).succeeded (state_in_reply reply) covered)

debts_cond_same : (a : Bool) (x y v w : List Debt) → (a ≡ true → x ≡ y) → v ≡ w → cond a x v ≡ cond a y w
debts_cond_same true x y v w same e = same refl
debts_cond_same false x y v w same e = e

pub debts_same : (s : Setting) (after : List Stream) (h : List Entry) → SameRecords s after h → Legal s h → (lane : LaneId) → debts (over s after) h lane ≡ debts s h lane
debts_same s after [] same legal lane = refl
debts_same s after (Ended at reply m ∷ h) same legal lane =
    debts_cond_same (same_lane at lane) (end_debts (over s after) h lane reply) (end_debts s h lane reply) (debts (over s after) h lane) (debts s h lane)
    (λ is. end_same s after h same legal.0 lane (last_call h lane) reply (covered_running s h lane legal.0 (runs_too h at lane is legal.1.1)) (verdict_same s after h same legal.0 lane reply (runs_too h at lane is legal.1.1)))
    (debts_same s after h same legal.0 lane)
debts_same s after (Came k first count m ∷ h) same legal lane = debts_same s after h (same_before s after (Came k first count m) h same) legal.0 lane
debts_same s after (Began at places closing m ∷ h) same legal lane = ap (cond (same_lane at lane) []) (debts_same s after h same legal.0 lane)
debts_same s after (Gave None k places f line state m ∷ h) same legal lane = debts_same s after h same legal.0 lane
debts_same s after (Gave (Some at) k places f line state m ∷ h) same legal lane = ap (λ ds. cond (pays lane ds (Gave (Some at) k places f line state m)) (drop 1 ds) ds) (debts_same s after h same legal.0 lane)
debts_same s after (Tried at places closing t m ∷ h) same legal lane = ap (λ ds. cond (pays lane ds (Tried at places closing t m)) (drop 1 ds) ds) (debts_same s after h same legal.0 lane)
debts_same s after (Closed at w m ∷ h) same legal lane = ap (λ ds. cond (pays lane ds (Closed at w m)) (drop 1 ds) ds) (debts_same s after h same legal.0 lane)
debts_same s after (Replayed k places m ∷ h) same legal lane = debts_same s after h same legal.0 lane
debts_same s after (Shut m ∷ h) same legal lane = debts_same s after h same legal.0 lane

entries_same : (s : Setting) (after : List Stream) (h : List Entry) → SameRecords s after h → (lane : LaneId) (m : ℕ) (ds : List Debt) → AllGiven h lane.shard ds → map (debt_entry (over s after) h lane m) ds ≡ map (debt_entry s h lane m) ds
entries_same s after h same lane m [] all = refl
entries_same s after h same lane m (Success places state ∷ ds) all = ap (λ es. debt_entry s h lane m (Success places state) ∷ es) (entries_same s after h same lane m ds all.1)
entries_same s after h same lane m (GiveUp places ∷ ds) all =
    ap (λ line. Gave (Some lane) lane.shard places Exhausted line None m ∷ map (debt_entry (over s after) h lane m) ds) (line_same s after h same lane.shard places all.0.0 all.0.1 false m)
    ∙ ap (λ es. debt_entry s h lane m (GiveUp places) ∷ es) (entries_same s after h same lane m ds all.1)
entries_same s after h same lane m (Try places closing tries ∷ ds) all = ap (λ es. debt_entry s h lane m (Try places closing tries) ∷ es) (entries_same s after h same lane m ds all.1)
entries_same s after h same lane m (Close window ∷ ds) all = ap (λ es. debt_entry s h lane m (Close window) ∷ es) (entries_same s after h same lane m ds all.1)

pub owed_same : (s : Setting) (after : List Stream) (h : List Entry) → SameRecords s after h → Legal s h → (lane : LaneId) → owed (over s after) h lane ≡ owed s h lane
owed_same s after h same legal lane =
    ap (map (debt_entry (over s after) h lane (last_moment h))) (debts_same s after h same legal lane)
    ∙ entries_same s after h same lane (last_moment h) (debts s h lane) (debts_given s h legal lane)

pub unsorted_same : (s : Setting) (after : List Stream) (h : List Entry) → SameRecords s after h → (n : ℕ) → unsorted (over s after) h n ≡ unsorted s h n
unsorted_same s after h same n =
    filter_same (is_unsorted (over s after) h n) (is_unsorted s h n) (below (came_count h n))
    (λ i member. ap (λ o. lacks_fate s h n i && unwrap_or (option_map (is_refused s) o) false) (same n i (In-below (came_count h n) i member)))

pub settled_same : (s : Setting) (after : List Stream) (h : List Entry) → SameRecords s after h → Legal s h → Settled s h → Settled (over s after) h
settled_same s after h same legal settled = record {
  sorted = λ n. unsorted_same s after h same n ∙ settled.sorted n;
  paid = λ lane. debts_same s after h same legal lane ∙ settled.paid lane;
}

-- the rows

record_same : (s : Setting) (after : List Stream) → Extends s.streams after → (n i : ℕ) → i < length (records_of s n) → record_at (over s after) n i ≡ record_at s n i
record_same s after extends n i within =
    elim (slice_get_cases (records_of s n) i).1 [
      | inl there ↦ extends n i there.0 there.2 ∙ sym there.2
      | inr past ↦ (let out : length (records_of s n) ≤ i = past.0 in absurd (omega arith))
    ]

longer_list : (s : Setting) (after : List Stream) → Extends s.streams after → (n : ℕ) → length (records_of s n) ≤ length (records_of (over s after) n)
longer_list s after extends n =
    let last = length (records_of s n) - 1 in
    elim (slice_get_cases (records_of s n) (length (records_of s n) - 1)).1 [
      | inl there ↦ (let within : length (records_of s n) - 1 < length (records_of (over s after) n) = slice_get_within (records_of (over s after) n) (length (records_of s n) - 1) there.0 (extends n (length (records_of s n) - 1) there.0 there.2) in omega arith)
      | inr past ↦ (let out : length (records_of s n) ≤ length (records_of s n) - 1 = past.0 in omega arith)
    ]

may_come_same : (s : Setting) (after : List Stream) (h : List Entry) (n first count : ℕ) → Extends s.streams after → MayCome s h n first count → MayCome (over s after) h n first count
may_come_same s after h n first count extends may =
    let within : first + count ≤ length (records_of s n) = may.within in
    let longer = longer_list s after extends n in
    record {
      not_shut = may.not_shut;
      next = may.next;
      some = may.some;
      within = omega (arith, within, longer);
      kept = record {
        fates = λ i f r from to at found. may.kept.fates i f r from to (sym (record_same s after extends n i (omega arith)) ∙ at) found;
        tries = λ i f r from to at found. may.kept.tries i f r from to (sym (record_same s after extends n i (omega arith)) ∙ at) found;
      };
    }

may_call_same : (s : Setting) (after : List Stream) (h : List Entry) → SameRecords s after h → Legal s h → (lane : LaneId) (m : ℕ) → MayCall s h lane m → MayCall (over s after) h lane m
may_call_same s after h same legal lane m may = record {
  settled = settled_same s after h same legal may.settled;
  came = may.came;
  below_factor = may.below_factor;
  rests = may.rests;
  calls_left = may.calls_left;
  front = front_same s after h same lane m ∙ may.front;
}

may_expire_same : (s : Setting) (after : List Stream) (h : List Entry) → SameRecords s after h → Legal s h → (lane : LaneId) (n : ℕ) (places : List ℕ) (line : Option (List ℕ)) (state : Option WindowState) (m : ℕ) → MayExpire s h lane n places line state m → MayExpire (over s after) h lane n places line state m
may_expire_same s after h same legal lane n places line state m may = record {
  settled = settled_same s after h same legal may.settled;
  rests = may.rests;
  shard = may.shard;
  exact = may.exact ∙ ap (take MAX_EXPIRED) (sym (
      ap (take_while (is_expired (over s after) lane.shard m)) (group_same s after h same legal lane)
      ∙ take_while_agree (is_expired (over s after) lane.shard m) (is_expired s lane.shard m) (group s h lane) (λ i member. expired_same s after h same lane.shard m i (covered_open s h lane i (group_In s h lane i member)))));
  some = may.some;
  line_is = may.line_is ∙ sym (line_same s after h same lane.shard places may.some (λ i member. covered_open s h lane i (expired_In s h lane n places line state m may i member)) true m);
  no_state = may.no_state;
}

owed_first_same : (s : Setting) (after : List Stream) (h : List Entry) → SameRecords s after h → Legal s h → (lane : LaneId) (e : Entry) → IsOwed s h lane e → IsOwed (over s after) h lane e
owed_first_same s after h same legal lane e is = ap (λ es. slice_get es 0) (owed_same s after h same legal lane) ∙ is

pub may_follow_same : (s : Setting) (after : List Stream) (h : List Entry) (e : Entry) → Extends s.streams after → SameRecords s after h → Legal s h → MayFollow s h e → MayFollow (over s after) h e
may_follow_same s after h (Came n first count m) extends same legal may = may_come_same s after h n first count extends may
may_follow_same s after h (Began lane places None m) extends same legal may = record {
  call = may_call_same s after h same legal lane m may.call;
  no_window_due = λ w. due_window_same s after h same lane.shard w ∙ may.no_window_due w;
  ready = ready_same s after h same legal lane m ∙ may.ready;
  exact = may.exact ∙ sym (batch_same s after h same legal lane m);
  some = may.some;
}
may_follow_same s after h (Began lane places (Some window) m) extends same legal may = record {
  call = may_call_same s after h same legal lane m may.call;
  delay_over = subst (λ k. k ≤ m) (sym (delay_same s after h same legal lane)) may.delay_over;
  due = due_window_same s after h same lane.shard window ∙ may.due;
  least = λ w is. may.least w (sym (due_window_same s after h same lane.shard w) ∙ is);
  no_places = may.no_places;
}
may_follow_same s after h (Ended lane reply m) extends same legal may = may
may_follow_same s after h (Gave None n places Filtered line state m) extends same legal may = record { exact = may.exact ∙ sym (unsorted_same s after h same n); some = may.some; no_line = may.no_line; no_state = may.no_state; same_moment = may.same_moment }
may_follow_same s after h (Gave None n places Succeeded line state m) extends same legal may = absurd may
may_follow_same s after h (Gave None n places Expired line state m) extends same legal may = absurd may
may_follow_same s after h (Gave None n places Exhausted line state m) extends same legal may = absurd may
may_follow_same s after h (Gave (Some lane) n places Filtered line state m) extends same legal may = absurd may
may_follow_same s after h (Gave (Some lane) n places Succeeded line state m) extends same legal may = owed_first_same s after h same legal lane (Gave (Some lane) n places Succeeded line state m) may
may_follow_same s after h (Gave (Some lane) n places Expired line state m) extends same legal may = may_expire_same s after h same legal lane n places line state m may
may_follow_same s after h (Gave (Some lane) n places Exhausted line state m) extends same legal may = owed_first_same s after h same legal lane (Gave (Some lane) n places Exhausted line state m) may
may_follow_same s after h (Tried lane places closing t m) extends same legal may = owed_first_same s after h same legal lane (Tried lane places closing t m) may
may_follow_same s after h (Closed lane w m) extends same legal may = owed_first_same s after h same legal lane (Closed lane w m) may
may_follow_same s after h (Replayed n places m) extends same legal may = absurd may
may_follow_same s after h (Shut m) extends same legal may = (settled_same s after h same legal may.0, may.1)

pub legal_over : (s : Setting) (h : List Entry) (after : List Stream) → Extends s.streams after → Legal s h → Legal (over s after) h
legal_over s [] after extends legal = tt
legal_over s (e ∷ h) after extends legal = (legal_over s h after extends legal.0, (legal.1.0, may_follow_same s after h e extends (same_records s after h extends legal.0) legal.0 legal.1.1))
