-- A history says the same over all lists that agree on the records that came, also over shorter ones: an entry that may
-- follow over the one lists may follow over the others.
use Rattle.std.proofs.Common.{◌≡◌, ℕ, ◌+◌, ◌-◌, ◌<◌, ◌≤◌, true, cond, length, take, refl, sym, ap, ◌∙◌, subst, inl, inr, Option, Some, None, List, ◌∷◌, arith, eq-eqb}
use Rattle.std.specs.Prelude.{take_while, slice_get}
use Rattle.std.proofs.lemmas.Option.{slice_get_cases, slice_get_within}
use Rattle.esm_model.specs.declared.limits.TheConstants.{MAX_EXPIRED}
use Rattle.esm_model.specs.declared.lane.LaneId.{LaneId}
use Rattle.esm_model.specs.declared.entry.Fate.TheVariants.{Succeeded, Filtered, Expired, Exhausted}
use Rattle.esm_model.specs.declared.entry.WindowState.{WindowState}
use Rattle.esm_model.specs.declared.entry.Entry.{Entry}
use Rattle.esm_model.specs.declared.entry.Entry.TheVariants.{Came, Began, Ended, Gave, Tried, Closed, Replayed, Shut}
use Rattle.esm_model.specs.Setting.{Setting, Stream, over, records_of, record_at}
use Rattle.esm_model.specs.Entries.{came_count}
use Rattle.esm_model.specs.Batches.{is_expired, group}
use Rattle.esm_model.specs.Owed.{IsOwed}
use Rattle.esm_model.specs.Step.{Legal, MayFollow, MayCome, MayCall, MayBegin, MayBeginFinal, MayFilter, MayExpire}
use Rattle.esm_model.proofs.Lists.{take_while_agree}
use Rattle.esm_model.proofs.Paid.{expired_In}
use Rattle.esm_model.proofs.Records.{SameRecords, covered_open, expired_same, due_window_same, group_same, group_In, batch_same, delay_same, ready_same, front_same}
use Rattle.esm_model.proofs.Extended.{line_same, owed_same, unsorted_same, settled_same}

-- what a `Came` covers came with it
covered : (h : List Entry) (n first count m i : ℕ) → first ≡ came_count h n → i < first + count → i < came_count (Came n first count m ∷ h) n
covered h n first count m i next below =
    let all : came_count (Came n first count m ∷ h) n ≡ count + came_count h n = ap (λ b. cond b (count + came_count h n) (came_count h n)) (eq-eqb n n refl) in
    omega (arith, next, below, all)

come_agrees : (s : Setting) (after : List Stream) (h : List Entry) (n first count m : ℕ) → SameRecords s after (Came n first count m ∷ h) → MayCome s h n first count → MayCome (over s after) h n first count
come_agrees s after h n first count m same may = record {
  not_shut = may.not_shut;
  next = may.next;
  some = may.some;
  within = elim (slice_get_cases (records_of s n) (first + count - 1)).1 [
    | inl there ↦ (
        let last : record_at (over s after) n (first + count - 1) ≡ Some there.0 = agree (first + count - 1) (omega (arith, may.some)) ∙ there.2 in
        let within : first + count - 1 < length (records_of (over s after) n) = slice_get_within (records_of (over s after) n) (first + count - 1) there.0 last in
        omega (arith, within))
    | inr past ↦ (let out : length (records_of s n) ≤ first + count - 1 = past.0 in absurd (omega (arith, out, may.within, may.some)))
  ];
  kept = record {
    fates = λ i f r from to at found. may.kept.fates i f r from to (sym (agree i to) ∙ at) found;
    tries = λ i f r from to at found. may.kept.tries i f r from to (sym (agree i to) ∙ at) found;
  };
}
  where
    agree : (i : ℕ) → i < first + count → record_at (over s after) n i ≡ record_at s n i
    agree i below = same n i (covered h n first count m i may.next below)

call_agrees : (s : Setting) (after : List Stream) (h : List Entry) → SameRecords s after h → Legal s h → (lane : LaneId) (m : ℕ) → MayCall s h lane m → MayCall (over s after) h lane m
call_agrees s after h same legal lane m may = record {
  settled = settled_same s after h same legal may.settled;
  came = may.came;
  below_factor = may.below_factor;
  rests = may.rests;
  calls_left = may.calls_left;
  front = front_same s after h same lane m ∙ may.front;
}

begin_agrees : (s : Setting) (after : List Stream) (h : List Entry) → SameRecords s after h → Legal s h → (lane : LaneId) (places : List ℕ) (m : ℕ) → MayBegin s h lane places m → MayBegin (over s after) h lane places m
begin_agrees s after h same legal lane places m may = record {
  call = call_agrees s after h same legal lane m may.call;
  no_window_due = λ w. due_window_same s after h same lane.shard w ∙ may.no_window_due w;
  ready = ready_same s after h same legal lane m ∙ may.ready;
  exact = may.exact ∙ sym (batch_same s after h same legal lane m);
  some = may.some;
}

final_agrees : (s : Setting) (after : List Stream) (h : List Entry) → SameRecords s after h → Legal s h → (lane : LaneId) (places : List ℕ) (window m : ℕ) → MayBeginFinal s h lane places window m → MayBeginFinal (over s after) h lane places window m
final_agrees s after h same legal lane places window m may = record {
  call = call_agrees s after h same legal lane m may.call;
  delay_over = subst (λ k. k ≤ m) (sym (delay_same s after h same legal lane)) may.delay_over;
  due = due_window_same s after h same lane.shard window ∙ may.due;
  least = λ w is. may.least w (sym (due_window_same s after h same lane.shard w) ∙ is);
  no_places = may.no_places;
}

filter_agrees : (s : Setting) (after : List Stream) (h : List Entry) → SameRecords s after h → (n : ℕ) (places : List ℕ) (line : Option (List ℕ)) (state : Option WindowState) (m : ℕ) → MayFilter s h n places line state m → MayFilter (over s after) h n places line state m
filter_agrees s after h same n places line state m may = record {
  exact = may.exact ∙ sym (unsorted_same s after h same n);
  some = may.some;
  no_line = may.no_line;
  no_state = may.no_state;
  same_moment = may.same_moment;
}

expire_agrees : (s : Setting) (after : List Stream) (h : List Entry) → SameRecords s after h → Legal s h → (lane : LaneId) (n : ℕ) (places : List ℕ) (line : Option (List ℕ)) (state : Option WindowState) (m : ℕ) → MayExpire s h lane n places line state m → MayExpire (over s after) h lane n places line state m
expire_agrees s after h same legal lane n places line state m may = record {
  settled = settled_same s after h same legal may.settled;
  rests = may.rests;
  shard = may.shard;
  exact = may.exact ∙ ap (take MAX_EXPIRED) (sym (
      ap (take_while (is_expired (over s after) lane.shard m)) (group_same s after h same legal lane)
      ∙ take_while_agree (is_expired (over s after) lane.shard m) (is_expired s lane.shard m) (group s h lane) (λ i member. expired_same s after h same lane.shard m i (covered_open s h lane i (group_In s h lane i member)))));
  some = may.some;
  line_is = may.line_is ∙ sym (line_same s after h same lane.shard places may.some (λ i member. covered_open s h lane i (expired_In s h lane n places line state m may i member)) true m);
  no_state = may.no_state;
}

owed_agrees : (s : Setting) (after : List Stream) (h : List Entry) → SameRecords s after h → Legal s h → (lane : LaneId) (e : Entry) → IsOwed s h lane e → IsOwed (over s after) h lane e
owed_agrees s after h same legal lane e is = ap (λ es. slice_get es 0) (owed_same s after h same legal lane) ∙ is

-- the lists agree on the records that came, those of the entry among them
pub follow_agrees : (s : Setting) (after : List Stream) (h : List Entry) (e : Entry) → SameRecords s after (e ∷ h) → Legal s h → MayFollow s h e → MayFollow (over s after) h e
follow_agrees s after h (Came n first count m) same legal may = come_agrees s after h n first count m same may
follow_agrees s after h (Began lane places None m) same legal may = begin_agrees s after h same legal lane places m may
follow_agrees s after h (Began lane places (Some window) m) same legal may = final_agrees s after h same legal lane places window m may
follow_agrees s after h (Ended lane reply m) same legal may = may
follow_agrees s after h (Gave None n places Filtered line state m) same legal may = filter_agrees s after h same n places line state m may
follow_agrees s after h (Gave None n places Succeeded line state m) same legal may = absurd may
follow_agrees s after h (Gave None n places Expired line state m) same legal may = absurd may
follow_agrees s after h (Gave None n places Exhausted line state m) same legal may = absurd may
follow_agrees s after h (Gave (Some lane) n places Filtered line state m) same legal may = absurd may
follow_agrees s after h (Gave (Some lane) n places Succeeded line state m) same legal may = owed_agrees s after h same legal lane (Gave (Some lane) n places Succeeded line state m) may
follow_agrees s after h (Gave (Some lane) n places Expired line state m) same legal may = expire_agrees s after h same legal lane n places line state m may
follow_agrees s after h (Gave (Some lane) n places Exhausted line state m) same legal may = owed_agrees s after h same legal lane (Gave (Some lane) n places Exhausted line state m) may
follow_agrees s after h (Tried lane places closing t m) same legal may = owed_agrees s after h same legal lane (Tried lane places closing t m) may
follow_agrees s after h (Closed lane w m) same legal may = owed_agrees s after h same legal lane (Closed lane w m) may
follow_agrees s after h (Replayed n places m) same legal may = absurd may
follow_agrees s after h (Shut m) same legal may = (settled_same s after h same legal may.0, may.1)
