-- Over lists that go on from its own, a history says the same of the records that came.
use Rattle.std.proofs.Common.{◌≡◌, ℕ, zero, suc, ◌+◌, ◌<◌, ◌≤◌, Bool, true, false, not, cond, ◌&&◌, ◌||◌, List, [], ◌∷◌, ◌++◌, length, take, drop, map, refl, sym, ap, ◌∙◌, subst, inl, inr, Option, Some, None, arith, append_assoc}
use Rattle.std.specs.Prelude.{◌==◌, nat_le, nat_lt, max, filter, filter_map, option_map, unwrap_or, slice_get, slice_index, is_some, is_none, codes}
use Rattle.std.specs.List.{list_any, list_all, prefix_len}
use Rattle.std.specs.Option.{option_or}
use Rattle.std.proofs.lemmas.Bool.{cases_Bool, eqb-true}
use Rattle.std.proofs.lemmas.Option.{slice_get_cases}
use Rattle.esm_model.specs.declared.limits.TheConstants.{MAX_EVENT}
use Rattle.esm_model.specs.Moment.{moment_after}
use Rattle.esm_model.specs.Lane.{same_lane}
use Rattle.esm_model.specs.Records.{Record}
use Rattle.esm_model.specs.declared.lane.LaneId.{LaneId}
use Rattle.esm_model.specs.declared.entry.Reply.{Reply}
use Rattle.esm_model.specs.declared.verdict.Verdict.{Verdict}
use Rattle.esm_model.specs.declared.entry.Entry.{Entry}
use Rattle.esm_model.specs.declared.entry.Entry.TheVariants.{Came, Began, Ended, Gave, Tried, Closed, Replayed, Shut}
use Rattle.esm_model.specs.Setting.{Setting, Stream, over, Extends, found_try, records_of, record_at, records_at, is_key_of, is_in_lane}
use Rattle.esm_model.specs.Entries.{Call, came_count, came_moment, is_running, last_call, batch_of, is_shut}
use Rattle.esm_model.specs.Fates.{lacks_fate, below, open_places}
use Rattle.esm_model.specs.Reading.{reading}
use Rattle.esm_model.specs.Ruling.{ruling, capped_tries, is_counted}
use Rattle.esm_model.specs.Tries.{call_verdict, counts, counts_in_call, counts_in_final_call, is_closed_by, tries_sum, tries, window_tries_sum, tries_for, tries_of, verdict_on, verdict_after, side, marked_by, mark}
use Rattle.esm_model.specs.Windows.{has_windows, window_floor, window_from, window_of, kept_state, window_state, state_after, is_outstanding, has_open_record, has_later_record, is_due}
use Rattle.esm_model.specs.EventText.{event_text}
use Rattle.esm_model.specs.Calls.{window_of_call, window_call, event_of}
use Rattle.esm_model.specs.Batches.{same_piece, group_of, group, is_older, is_expired, longest, is_one_window, fits, batch, failures_by, failures, last_end, delay_from, delay_end, is_group_ready, is_ready}
use Rattle.esm_model.specs.Step.{Legal, is_front_expired}
use Rattle.esm_model.proofs.Lists.{In, In-here, In-there, In-take, In-below, In-append_left, take_while_agree}
use Rattle.esm_model.proofs.Steps.{came_grows}
use Rattle.esm_model.proofs.Sound.{same_lane-true, open_In}
use Rattle.esm_model.proofs.Paid.{running_In}
use Rattle.esm_model.proofs.OtherLanes.{piece_agree}

-- lists

pub filter_same : (p q : ℕ → Bool) (xs : List ℕ) → ((i : ℕ) → In xs i → p i ≡ q i) → filter p xs ≡ filter q xs
filter_same p q [] same = refl
filter_same p q (x ∷ xs) same = rw (same x (In-here x xs x refl), filter_same p q xs (λ i m. same i (In-there x xs i m))) refl

filter_map_same : (f g : ℕ → Option Record) (xs : List ℕ) → ((i : ℕ) → In xs i → f i ≡ g i) → filter_map f xs ≡ filter_map g xs
filter_map_same f g [] same = refl
filter_map_same f g (x ∷ xs) same = rw (same x (In-here x xs x refl), filter_map_same f g xs (λ i m. same i (In-there x xs i m))) refl

any_same : (p q : ℕ → Bool) (xs : List ℕ) → ((i : ℕ) → In xs i → p i ≡ q i) → list_any p xs ≡ list_any q xs
any_same p q [] same = refl
any_same p q (x ∷ xs) same = rw (same x (In-here x xs x refl), any_same p q xs (λ i m. same i (In-there x xs i m))) refl

all_same : (p q : ℕ → Bool) (xs : List ℕ) → ((i : ℕ) → In xs i → p i ≡ q i) → list_all p xs ≡ list_all q xs
all_same p q [] same = refl
all_same p q (x ∷ xs) same = rw (same x (In-here x xs x refl), all_same p q xs (λ i m. same i (In-there x xs i m))) refl

pub longest_same : (p q : List ℕ → Bool) (seen xs : List ℕ) → ((zs : List ℕ) → 1 ≤ length zs → ((i : ℕ) → In zs i → In (seen ++ xs) i) → p zs ≡ q zs) → longest p seen xs ≡ longest q seen xs
longest_same p q seen [] same = refl
longest_same p q seen (x ∷ xs) same =
    let now = seen ++ x ∷ [] in
    let here : p (seen ++ x ∷ []) ≡ q (seen ++ x ∷ []) = same (seen ++ x ∷ []) (some seen) (λ i m. subst (λ ys. In ys i) (append_assoc seen (x ∷ []) xs) (In-append_left (seen ++ x ∷ []) xs i m)) in
    let rest : longest p (seen ++ x ∷ []) xs ≡ longest q (seen ++ x ∷ []) xs = longest_same p q (seen ++ x ∷ []) xs (λ zs more inside. same zs more (λ i m. subst (λ ys. In ys i) (append_assoc seen (x ∷ []) xs) (inside i m))) in
    ap (λ b. cond b (longest p (seen ++ x ∷ []) xs) seen) here ∙ ap (λ ys. cond (q (seen ++ x ∷ [])) ys seen) rest
  where
    some : (ys : List ℕ) → 1 ≤ length (ys ++ x ∷ [])
    some [] = omega arith
    some (y ∷ ys) = omega arith

-- the records that came

abbrev pub SameRecords : Setting → List Stream → List Entry → Type 0
SameRecords s after h = (n i : ℕ) → i < came_count h n → record_at (over s after) n i ≡ record_at s n i

abbrev pub Covered : List Entry → ℕ → List ℕ → Type 0
Covered h n places = (i : ℕ) → In places i → i < came_count h n

pub came_within : (s : Setting) (h : List Entry) → Legal s h → (n : ℕ) → came_count h n ≤ length (records_of s n)
came_within s [] legal n = omega arith
came_within s (Came k first count m ∷ h) legal n =
    elim (cases_Bool (k == n)) [
      | inr other ↦ rw other (came_within s h legal.0 n)
      | inl same ↦ (
          let e : k ≡ n = eqb-true k n same in
          let within : first + count ≤ length (records_of s n) = subst (λ j. first + count ≤ length (records_of s j)) e legal.1.1.within in
          let next : first ≡ came_count h n = legal.1.1.next ∙ ap (came_count h) e in
          rw same (omega (arith, within, next)))
    ]
came_within s (Began lane places closing m ∷ h) legal n = came_within s h legal.0 n
came_within s (Ended lane reply m ∷ h) legal n = came_within s h legal.0 n
came_within s (Gave by k places f line state m ∷ h) legal n = came_within s h legal.0 n
came_within s (Tried lane places closing t m ∷ h) legal n = came_within s h legal.0 n
came_within s (Closed lane w m ∷ h) legal n = came_within s h legal.0 n
came_within s (Replayed k places m ∷ h) legal n = came_within s h legal.0 n
came_within s (Shut m ∷ h) legal n = came_within s h legal.0 n

pub same_records : (s : Setting) (after : List Stream) (h : List Entry) → Extends s.streams after → Legal s h → SameRecords s after h
same_records s after h extends legal n i came =
    let within = came_within s h legal n in
    elim (slice_get_cases (records_of s n) i).1 [
      | inl there ↦ extends n i there.0 there.2 ∙ sym there.2
      | inr past ↦ (let out : length (records_of s n) ≤ i = past.0 in absurd (omega arith))
    ]

pub same_before : (s : Setting) (after : List Stream) (e : Entry) (h : List Entry) → SameRecords s after (e ∷ h) → SameRecords s after h
same_before s after e h same n i came = (let grows : came_count h n ≤ came_count (e ∷ h) n = came_grows e h n in same n i (omega arith))

pub covered_open : (s : Setting) (h : List Entry) (lane : LaneId) → Covered h lane.shard (open_places s h lane)
covered_open s h lane i member = (open_In s h lane i member).0

pub covered_running : (s : Setting) (h : List Entry) (at : LaneId) → Legal s h → is_running h at ≡ true → Covered h at.shard (batch_of (last_call h at))
covered_running s h at legal runs i member = covered_open s h at i (running_In s h at legal runs i member)

-- what is said of them

pub open_same : (s : Setting) (after : List Stream) (h : List Entry) → SameRecords s after h → (lane : LaneId) → open_places (over s after) h lane ≡ open_places s h lane
open_same s after h same lane =
    filter_same (λ i. is_in_lane (over s after) lane i && lacks_fate s h lane.shard i) (λ i. is_in_lane s lane i && lacks_fate s h lane.shard i) (below (came_count h lane.shard))
    (λ i member. ap (λ o. unwrap_or (option_map (is_key_of s lane) o) false && lacks_fate s h lane.shard i) (same lane.shard i (In-below (came_count h lane.shard) i member)))

pub records_same : (s : Setting) (after : List Stream) (h : List Entry) → SameRecords s after h → (n : ℕ) (places : List ℕ) → Covered h n places → records_at (over s after) n places ≡ records_at s n places
records_same s after h same n places covered = filter_map_same (record_at (over s after) n) (record_at s n) places (λ i member. same n i (covered i member))

pub expired_same : (s : Setting) (after : List Stream) (h : List Entry) → SameRecords s after h → (n m i : ℕ) → i < came_count h n → is_expired (over s after) n m i ≡ is_expired s n m i
expired_same s after h same n m i came = ap (λ o. unwrap_or (option_map (λ (r : Record). is_older s.config.age_ms r m) o) false) (same n i came)

window_from_same : (width before : ℕ) (xs ys : List Record) (i : ℕ) → ((j : ℕ) → j ≤ i → slice_get xs j ≡ slice_get ys j) → window_from width before xs i ≡ window_from width before ys i
window_from_same width before [] [] i same = refl
window_from_same width before [] (y ∷ ys) i same = (let first : None ≡ Some y = same 0 (omega arith) in cc)
window_from_same width before (x ∷ xs) [] i same = (let first : Some x ≡ None = same 0 (omega arith) in cc)
window_from_same width before (x ∷ xs) (y ∷ ys) zero same =
    let first : Some x ≡ Some y = same 0 (omega arith) in
    let e : x ≡ y = cc in
    ap (λ (r : Record). max before (window_floor width r.arrival)) e
window_from_same width before (x ∷ xs) (y ∷ ys) (suc i) same =
    let first : Some x ≡ Some y = same 0 (omega arith) in
    let e : x ≡ y = cc in
    ap (λ (r : Record). window_from width (max before (window_floor width r.arrival)) xs i) e
    ∙ window_from_same width (max before (window_floor width y.arrival)) xs ys i (λ j low. same (suc j) (omega arith))

pub window_same : (s : Setting) (after : List Stream) (h : List Entry) → SameRecords s after h → (n i : ℕ) → i < came_count h n → window_of (over s after) n i ≡ window_of s n i
window_same s after h same n i came = window_from_same s.config.tumbling_ms 0 (records_of (over s after) n) (records_of s n) i (λ j low. same n j (omega arith))

-- verdicts, tries and marks

call_verdict_same : (s : Setting) (after : List Stream) (h : List Entry) → SameRecords s after h → (n : ℕ) (call : Call) (t : ℕ) (reply : Reply) → Covered h n call.places → call_verdict (over s after) n call t reply ≡ call_verdict s n call t reply
call_verdict_same s after h same n call t reply covered =
    ap (λ (rs : List Record). ruling s.config (length call.places) t (reading s.config (map (λ (r : Record). r.seq) rs) (is_some call.closing) reply)) (records_same s after h same n call.places covered)

counted_same : (s : Setting) (after : List Stream) (h : List Entry) → SameRecords s after h → (n : ℕ) (o : Option Call) (now was : ℕ → ℕ) (reply : Reply) (i : ℕ) → Covered h n (batch_of o) → ((j : ℕ) → now j ≡ was j)
    → counts_in_call (over s after) n o now reply i ≡ counts_in_call s n o was reply i
counted_same s after h same n None now was reply i covered agree = refl
counted_same s after h same n (Some call) now was reply i covered agree =
    ap (λ t. counts (call_verdict (over s after) n call (capped_tries t) reply) call.places i) (agree (slice_index call.places 0))
    ∙ ap (λ v. counts v call.places i) (call_verdict_same s after h same n call (capped_tries (was (slice_index call.places 0))) reply covered)

and_cond_same : (a b c : Bool) (x y : ℕ) → (a ≡ true → b ≡ c) → x ≡ y → cond (a && b) (suc x) x ≡ cond (a && c) (suc y) y
and_cond_same true b c x y same e = (let both : b ≡ c = same refl in cc)
and_cond_same false b c x y same e = e

cond_same : (a : Bool) (x y v w : ℕ) → (a ≡ true → x ≡ y) → v ≡ w → cond a x v ≡ cond a y w
cond_same true x y v w same e = same refl
cond_same false x y v w same e = e

pub tries_sum_same : (s : Setting) (after : List Stream) (h : List Entry) → SameRecords s after h → Legal s h → (n i : ℕ) → tries_sum (over s after) h n i ≡ tries_sum s h n i
tries_sum_same s after [] same legal n i = refl
tries_sum_same s after (Ended at reply m ∷ h) same legal n i =
    and_cond_same (at.shard == n) (counts_in_call (over s after) n (last_call h at) (tries_sum (over s after) h n) reply i) (counts_in_call s n (last_call h at) (tries_sum s h n) reply i) (tries_sum (over s after) h n i) (tries_sum s h n i)
    (λ here. counted_same s after h same n (last_call h at) (tries_sum (over s after) h n) (tries_sum s h n) reply i (subst (λ k. Covered h k (batch_of (last_call h at))) (eqb-true at.shard n here) (covered_running s h at legal.0 legal.1.1)) (tries_sum_same s after h same legal.0 n))
    (tries_sum_same s after h same legal.0 n i)
tries_sum_same s after (Came k first count m ∷ h) same legal n i = tries_sum_same s after h (same_before s after (Came k first count m) h same) legal.0 n i
tries_sum_same s after (Began lane places closing m ∷ h) same legal n i = tries_sum_same s after h same legal.0 n i
tries_sum_same s after (Gave by k places f line state m ∷ h) same legal n i = tries_sum_same s after h same legal.0 n i
tries_sum_same s after (Tried lane places closing t m ∷ h) same legal n i = tries_sum_same s after h same legal.0 n i
tries_sum_same s after (Closed lane w m ∷ h) same legal n i = tries_sum_same s after h same legal.0 n i
tries_sum_same s after (Replayed k places m ∷ h) same legal n i = tries_sum_same s after h same legal.0 n i
tries_sum_same s after (Shut m ∷ h) same legal n i = tries_sum_same s after h same legal.0 n i

final_same : (s : Setting) (after : List Stream) (h : List Entry) → SameRecords s after h → (n : ℕ) (o : Option Call) (w now was : ℕ) (reply : Reply) → Covered h n (batch_of o) → now ≡ was
    → counts_in_final_call (over s after) n o w now reply ≡ counts_in_final_call s n o w was reply
final_same s after h same n None w now was reply covered agree = refl
final_same s after h same n (Some call) w now was reply covered agree =
    ap (λ t. counts_in_final_call (over s after) n (Some call) w t reply) agree
    ∙ ap (λ (v : Verdict). is_closed_by call.closing w && is_counted v.rest) (call_verdict_same s after h same n call (capped_tries was) reply covered)

pub window_tries_same : (s : Setting) (after : List Stream) (h : List Entry) → SameRecords s after h → Legal s h → (n w : ℕ) → window_tries_sum (over s after) h n w ≡ window_tries_sum s h n w
window_tries_same s after [] same legal n w = refl
window_tries_same s after (Ended at reply m ∷ h) same legal n w =
    let before = window_tries_same s after h same legal.0 n w in
    and_cond_same (at.shard == n) (counts_in_final_call (over s after) n (last_call h at) w (window_tries_sum (over s after) h n w) reply) (counts_in_final_call s n (last_call h at) w (window_tries_sum s h n w) reply) (window_tries_sum (over s after) h n w) (window_tries_sum s h n w)
    (λ here. final_same s after h same n (last_call h at) w (window_tries_sum (over s after) h n w) (window_tries_sum s h n w) reply (subst (λ k. Covered h k (batch_of (last_call h at))) (eqb-true at.shard n here) (covered_running s h at legal.0 legal.1.1)) before)
    before
window_tries_same s after (Closed lane v m ∷ h) same legal n w = ap (cond ((lane.shard == n) && (v == w)) 0) (window_tries_same s after h same legal.0 n w)
window_tries_same s after (Came k first count m ∷ h) same legal n w = window_tries_same s after h (same_before s after (Came k first count m) h same) legal.0 n w
window_tries_same s after (Began lane places closing m ∷ h) same legal n w = window_tries_same s after h same legal.0 n w
window_tries_same s after (Gave by k places f line state m ∷ h) same legal n w = window_tries_same s after h same legal.0 n w
window_tries_same s after (Tried lane places closing t m ∷ h) same legal n w = window_tries_same s after h same legal.0 n w
window_tries_same s after (Replayed k places m ∷ h) same legal n w = window_tries_same s after h same legal.0 n w
window_tries_same s after (Shut m ∷ h) same legal n w = window_tries_same s after h same legal.0 n w

pub tries_for_same : (s : Setting) (after : List Stream) (h : List Entry) → SameRecords s after h → Legal s h → (n : ℕ) (places : List ℕ) (closing : Option ℕ) → tries_for (over s after) h n places closing ≡ tries_for s h n places closing
tries_for_same s after h same legal n places None = ap capped_tries (tries_sum_same s after h same legal n (slice_index places 0))
tries_for_same s after h same legal n places (Some w) = ap capped_tries (window_tries_same s after h same legal n w)

verdict_on_same : (s : Setting) (after : List Stream) (h : List Entry) → SameRecords s after h → Legal s h → (n : ℕ) (o : Option Call) (reply : Reply) → Covered h n (batch_of o) → verdict_on (over s after) h n o reply ≡ verdict_on s h n o reply
verdict_on_same s after h same legal n None reply covered = refl
verdict_on_same s after h same legal n (Some call) reply covered =
    ap (λ t. call_verdict (over s after) n call t reply) (tries_for_same s after h same legal n call.places call.closing)
    ∙ call_verdict_same s after h same n call (tries_of s h n call) reply covered

pub verdict_same : (s : Setting) (after : List Stream) (h : List Entry) → SameRecords s after h → Legal s h → (at : LaneId) (reply : Reply) → is_running h at ≡ true → verdict_after (over s after) h at reply ≡ verdict_after s h at reply
verdict_same s after h same legal at reply runs = verdict_on_same s after h same legal at.shard (last_call h at) reply (covered_running s h at legal runs)

pub mark_same : (s : Setting) (after : List Stream) (h : List Entry) → SameRecords s after h → Legal s h → (n i : ℕ) → mark (over s after) h n i ≡ mark s h n i
mark_same s after [] same legal n i = refl
mark_same s after (Ended at reply m ∷ h) same legal n i =
    ap (λ (v : Verdict). option_or (option_map (λ (k : ℕ). (length h, k)) (cond (at.shard == n) (side v.rest (drop v.succeeded (batch_of (last_call h at))) i) None)) (mark (over s after) h n i)) (verdict_same s after h same legal.0 at reply legal.1.1)
    ∙ ap (option_or (option_map (λ (k : ℕ). (length h, k)) (marked_by s h n i (Ended at reply m)))) (mark_same s after h same legal.0 n i)
mark_same s after (Came k first count m ∷ h) same legal n i = mark_same s after h (same_before s after (Came k first count m) h same) legal.0 n i
mark_same s after (Began lane places closing m ∷ h) same legal n i = mark_same s after h same legal.0 n i
mark_same s after (Gave by k places f line state m ∷ h) same legal n i = mark_same s after h same legal.0 n i
mark_same s after (Tried lane places closing t m ∷ h) same legal n i = mark_same s after h same legal.0 n i
mark_same s after (Closed lane w m ∷ h) same legal n i = mark_same s after h same legal.0 n i
mark_same s after (Replayed k places m ∷ h) same legal n i = mark_same s after h same legal.0 n i
mark_same s after (Shut m ∷ h) same legal n i = mark_same s after h same legal.0 n i

pub failures_same : (s : Setting) (after : List Stream) (h : List Entry) → SameRecords s after h → Legal s h → (lane : LaneId) → failures (over s after) h lane ≡ failures s h lane
failures_same s after [] same legal lane = refl
failures_same s after (Ended at reply m ∷ h) same legal lane =
    let before = failures_same s after h same legal.0 lane in
    cond_same (same_lane at lane) (failures_by (verdict_after (over s after) h lane reply).rest (failures (over s after) h lane)) (failures_by (verdict_after s h lane reply).rest (failures s h lane)) (failures (over s after) h lane) (failures s h lane)
    (λ is. let e : at ≡ lane = same_lane-true at lane is in
    ap (λ (v : Verdict). failures_by v.rest (failures (over s after) h lane)) (verdict_same s after h same legal.0 lane reply (subst (λ l. is_running h l ≡ true) e legal.1.1))
    ∙ ap (failures_by (verdict_after s h lane reply).rest) before)
    before
failures_same s after (Came k first count m ∷ h) same legal lane = failures_same s after h (same_before s after (Came k first count m) h same) legal.0 lane
failures_same s after (Began at places closing m ∷ h) same legal lane = failures_same s after h same legal.0 lane
failures_same s after (Gave by k places f line state m ∷ h) same legal lane = failures_same s after h same legal.0 lane
failures_same s after (Tried at places closing t m ∷ h) same legal lane = failures_same s after h same legal.0 lane
failures_same s after (Closed at w m ∷ h) same legal lane = failures_same s after h same legal.0 lane
failures_same s after (Replayed k places m ∷ h) same legal lane = failures_same s after h same legal.0 lane
failures_same s after (Shut m ∷ h) same legal lane = failures_same s after h same legal.0 lane

-- windows and events

pub kept_same : (s : Setting) (after : List Stream) (h : List Entry) (n w : ℕ) → kept_state (over s after) h n w ≡ kept_state s h n w
kept_same s after [] n w = refl
kept_same s after (e ∷ h) n w = ap (λ o. state_after n w o e) (kept_same s after h n w)

pub due_window_same : (s : Setting) (after : List Stream) (h : List Entry) → SameRecords s after h → (n w : ℕ) → is_due (over s after) h n w ≡ is_due s h n w
due_window_same s after h same n w =
    let none = any_same (λ i. lacks_fate s h n i && (window_of (over s after) n i == w)) (λ i. lacks_fate s h n i && (window_of s n i == w)) (below (came_count h n))
    (λ i member. ap (λ k. lacks_fate s h n i && (k == w)) (window_same s after h same n i (In-below (came_count h n) i member))) in
    let later = any_same (λ i. nat_lt w (window_of (over s after) n i)) (λ i. nat_lt w (window_of s n i)) (below (came_count h n))
    (λ i member. ap (nat_lt w) (window_same s after h same n i (In-below (came_count h n) i member))) in
    ap (λ o. has_windows s.config && nat_lt 0 (came_count h n) && is_some o && not (has_open_record (over s after) h n w) && (has_later_record (over s after) h n w || is_shut h)) (kept_same s after h n w)
    ∙ ap (λ b. is_outstanding s h n w && not b && (has_later_record (over s after) h n w || is_shut h)) none
    ∙ ap (λ b. is_outstanding s h n w && not (has_open_record s h n w) && (b || is_shut h)) later

-- where two histories keep the same state of the window
pub window_call_agree : (s : Setting) (h now : List Entry) (n : ℕ) (places : List ℕ) (closing : Option ℕ) → kept_state s now n (window_of_call s n places closing) ≡ kept_state s h n (window_of_call s n places closing) → window_call s now n places closing ≡ window_call s h n places closing
window_call_agree s h now n places closing same =
    ap (λ o. cond (has_windows s.config) (Some (record { shard = n; state = record { window = window_of_call s n places closing; text = unwrap_or o (codes "{}") }; closing = is_some closing })) None) same

pub window_call_same : (s : Setting) (after : List Stream) (h : List Entry) (n : ℕ) (places : List ℕ) (closing : Option ℕ) → window_of_call (over s after) n places closing ≡ window_of_call s n places closing → window_call (over s after) h n places closing ≡ window_call s h n places closing
window_call_same s after h n places closing is =
    ap (λ w. cond (has_windows s.config) (Some (record { shard = n; state = record { window = w; text = window_state (over s after) h n w }; closing = is_some closing })) None) is
    ∙ ap (λ o. cond (has_windows s.config) (Some (record { shard = n; state = record { window = window_of_call s n places closing; text = unwrap_or o (codes "{}") }; closing = is_some closing })) None) (kept_same s after h n (window_of_call s n places closing))

pub event_same : (s : Setting) (after : List Stream) (h : List Entry) → SameRecords s after h → (n x : ℕ) (xs : List ℕ) → Covered h n (x ∷ xs) → event_of (over s after) h n (x ∷ xs) None ≡ event_of s h n (x ∷ xs) None
event_same s after h same n x xs covered =
    ap (λ rs. event_text s.config rs (window_call (over s after) h n (x ∷ xs) None)) (records_same s after h same n (x ∷ xs) covered)
    ∙ ap (event_text s.config (records_at s n (x ∷ xs))) (window_call_same s after h n (x ∷ xs) None (window_same s after h same n x (covered x (In-here x xs x refl))))

-- groups and batches

pub group_same : (s : Setting) (after : List Stream) (h : List Entry) → SameRecords s after h → Legal s h → (lane : LaneId) → group (over s after) h lane ≡ group s h lane
group_same s after h same legal lane =
    let n = lane.shard in
    let first = slice_index (open_places s h lane) 0 in
    ap (group_of (over s after) h lane.shard) (open_same s after h same lane)
    ∙ take_while_agree (same_piece (over s after) h lane.shard first) (same_piece s h lane.shard first) (open_places s h lane)
    (λ i member. piece_agree (mark (over s after) h n first) (mark s h n first) (mark (over s after) h n i) (mark s h n i) (tries (over s after) h n first) (tries s h n first) (tries (over s after) h n i) (tries s h n i)
    (mark_same s after h same legal n first) (mark_same s after h same legal n i) (ap capped_tries (tries_sum_same s after h same legal n first)) (ap capped_tries (tries_sum_same s after h same legal n i)))

pub group_In : (s : Setting) (h : List Entry) (lane : LaneId) (i : ℕ) → In (group s h lane) i → In (open_places s h lane) i
group_In s h lane i member = In-take (prefix_len (same_piece s h lane.shard (slice_index (open_places s h lane) 0)) (open_places s h lane)) (open_places s h lane) i member

fits_same : (s : Setting) (after : List Stream) (h : List Entry) → SameRecords s after h → (n m : ℕ) (zs : List ℕ) → 1 ≤ length zs → Covered h n zs → fits (over s after) h n m zs ≡ fits s h n m zs
fits_same s after h same n m [] some covered = absurd (omega arith)
fits_same s after h same n m (x ∷ xs) some covered =
    let size = nat_le (length (x ∷ xs)) s.config.batch_size in
    let first : window_of (over s after) n x ≡ window_of s n x = window_same s after h same n x (covered x (In-here x xs x refl)) in
    let windows = all_same (λ i. window_of (over s after) n i == window_of (over s after) n x) (λ i. window_of s n i == window_of s n x) (x ∷ xs)
    (λ i member. ap (λ k. k == window_of (over s after) n x) (window_same s after h same n i (covered i member)) ∙ ap (λ k. window_of s n i == k) first) in
    let young = all_same (λ i. not (is_expired (over s after) n m i)) (λ i. not (is_expired s n m i)) (x ∷ xs) (λ i member. ap not (expired_same s after h same n m i (covered i member))) in
    ap (λ (text : List ℕ). size && nat_le (length text) MAX_EVENT && is_one_window (over s after) n (x ∷ xs) && list_all (λ i. not (is_expired (over s after) n m i)) (x ∷ xs)) (event_same s after h same n x xs covered)
    ∙ ap (λ b. size && nat_le (length (event_of s h n (x ∷ xs) None)) MAX_EVENT && (not (has_windows s.config) || b) && list_all (λ i. not (is_expired (over s after) n m i)) (x ∷ xs)) windows
    ∙ ap (λ b. size && nat_le (length (event_of s h n (x ∷ xs) None)) MAX_EVENT && is_one_window s n (x ∷ xs) && b) young

pub batch_same : (s : Setting) (after : List Stream) (h : List Entry) → SameRecords s after h → Legal s h → (lane : LaneId) (m : ℕ) → batch (over s after) h lane m ≡ batch s h lane m
batch_same s after h same legal lane m =
    ap (longest (fits (over s after) h lane.shard m) []) (group_same s after h same legal lane)
    ∙ longest_same (fits (over s after) h lane.shard m) (fits s h lane.shard m) [] (group s h lane) (λ zs some inside. fits_same s after h same lane.shard m zs some (λ i member. covered_open s h lane i (group_In s h lane i (inside i member))))

pub delay_same : (s : Setting) (after : List Stream) (h : List Entry) → SameRecords s after h → Legal s h → (lane : LaneId) → delay_end (over s after) h lane ≡ delay_end s h lane
delay_same s after h same legal lane = ap (λ k. delay_from k (last_end h lane)) (failures_same s after h same legal lane)

pub ready_same : (s : Setting) (after : List Stream) (h : List Entry) → SameRecords s after h → Legal s h → (lane : LaneId) (m : ℕ) → is_ready (over s after) h lane m ≡ is_ready s h lane m
ready_same s after h same legal lane m =
    ap (λ k. nat_le k m && is_group_ready (over s after) h lane m (group (over s after) h lane) (batch (over s after) h lane m)) (delay_same s after h same legal lane)
    ∙ ap (λ g. nat_le (delay_end s h lane) m && is_group_ready (over s after) h lane m g (batch (over s after) h lane m)) (group_same s after h same legal lane)
    ∙ ap (λ b. nat_le (delay_end s h lane) m && is_group_ready (over s after) h lane m (group s h lane) b) (batch_same s after h same legal lane m)
    ∙ ap (λ b. nat_le (delay_end s h lane) m && b) (group_ready_same (group s h lane) (batch s h lane m))
  where
    group_ready_same : (g b : List ℕ) → is_group_ready (over s after) h lane m g b ≡ is_group_ready s h lane m g b
    group_ready_same g b =
        ap (λ o. not (is_none o && is_none (found_try s lane.shard (slice_index g 0)))
        || ((length b == s.config.batch_size) || nat_lt (length b) (length g))
        || is_shut h
        || nat_le (moment_after (came_moment h lane.shard (slice_index g 0)) s.config.window_ms) m) (mark_same s after h same legal lane.shard (slice_index g 0))

pub front_same : (s : Setting) (after : List Stream) (h : List Entry) → SameRecords s after h → (lane : LaneId) (m : ℕ) → is_front_expired (over s after) h lane m ≡ is_front_expired s h lane m
front_same s after h same lane m =
    ap (λ xs. list_any (is_expired (over s after) lane.shard m) (take 1 xs)) (open_same s after h same lane)
    ∙ any_same (is_expired (over s after) lane.shard m) (is_expired s lane.shard m) (take 1 (open_places s h lane)) (λ i member. expired_same s after h same lane.shard m i (covered_open s h lane i (In-take 1 (open_places s h lane) i member)))
