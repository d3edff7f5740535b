-- A lane over lists of records that go on from those of its setting.
use Rattle.std.proofs.Common.{◌≡◌, ℕ, ◌+◌, ◌<◌, Bool, true, false, not, cond, ◌&&◌, List, ◌∷◌, ◌++◌, refl, sym, ap, ◌∙◌, subst, inl, inr, Some, None, arith}
use Rattle.std.specs.Prelude.{◌==◌, filter, option_map, unwrap_or, is_none}
use Rattle.std.proofs.lemmas.Bool.{cases_Bool, eqb-true, eq-eqb}
use Rattle.esm_model.specs.Lane.{same_lane}
use Rattle.esm_model.specs.declared.lane.LaneId.{LaneId}
use Rattle.esm_model.specs.declared.entry.Fate.TheVariants.{Succeeded, Filtered, Expired, Exhausted}
use Rattle.esm_model.specs.declared.entry.Entry.{Entry}
use Rattle.esm_model.specs.declared.entry.Entry.TheVariants.{Came, Began, Ended, Gave, Tried, Closed, Replayed, Shut}
use Rattle.esm_model.specs.Setting.{Setting, Stream, over, Extends, found_fate, is_key_of}
use Rattle.esm_model.specs.Entries.{came_count, is_running}
use Rattle.esm_model.specs.Fates.{open_places}
use Rattle.esm_model.specs.Ruling.{capped_tries}
use Rattle.esm_model.specs.Tries.{verdict_after}
use Rattle.esm_model.specs.Owed.{is_refused}
use Rattle.esm_model.specs.Step.{Legal}
use Rattle.esm_model.proofs.Sound.{same_lane-true, open_In}
use Rattle.esm_model.proofs.Records.{SameRecords, same_records, filter_same, open_same, tries_sum_same, mark_same, failures_same, verdict_same}
use Rattle.esm_model.proofs.Extended.{debts_same}
use Rattle.esm_lanes.specs.Piece as piece
use Rattle.esm_shard_index.specs.LaneView.{LaneView, after_arrivals, after_ended}
use Rattle.esm_shard_index.specs.LaneHistory.{tags, owed_places, is_passing, sorted_places, IsLane, places_from, arrives, arriving, standing_at}
use Rattle.esm_shard_index.specs.LaneSteps.{after_entry}
use Rattle.esm_shard_index.proofs.LanePieces.{pieces_kept}
use Rattle.esm_shard_index.proofs.LaneArrivals.{from_first}

passing_same : (s : Setting) (after : List Stream) (h : List Entry) → SameRecords s after h → (n i : ℕ) → i < came_count h n → is_passing (over s after) n i ≡ is_passing s n i
passing_same s after h same n i came = ap (λ o. not (unwrap_or (option_map (is_refused s) o) false)) (same n i came)

sorted_same : (s : Setting) (after : List Stream) (h : List Entry) → SameRecords s after h → (lane : LaneId) → sorted_places (over s after) h lane ≡ sorted_places s h lane
sorted_same s after h same lane =
    ap (filter (is_passing (over s after) lane.shard)) (open_same s after h same lane)
    ∙ filter_same (is_passing (over s after) lane.shard) (is_passing s lane.shard) (open_places s h lane) (λ i member. passing_same s after h same lane.shard i (open_In s h lane i member).0)

pub lane_over : (s : Setting) (after : List Stream) (h : List Entry) (lane : LaneId) (v : LaneView) → Extends s.streams after → Legal s h → IsLane s h lane v → IsLane (over s after) h lane v
lane_over s after h lane v extends legal is =
    let same = same_records s after h extends legal in
    record {
      places = ap (λ ds. owed_places ds ++ piece.open_places v.kept.pieces) (debts_same s after h same legal lane) ∙ is.places ∙ sym (sorted_same s after h same lane);
      pieces = pieces_kept (tags s h lane.shard) (tags (over s after) h lane.shard) v.kept.pieces
          (λ i member. record { mark = mark_same s after h same legal lane.shard i; tries = ap capped_tries (tries_sum_same s after h same legal lane.shard i); found = refl }) is.pieces;
      runs = is.runs;
      call = is.call;
      failures = is.failures ∙ sym (failures_same s after h same legal lane);
      last_end = is.last_end;
    }

-- an entry

arrives_same : (s : Setting) (after : List Stream) (h : List Entry) → SameRecords s after h → (lane : LaneId) (i : ℕ) → i < came_count h lane.shard → arrives (over s after) lane i ≡ arrives s lane i
arrives_same s after h same lane i came =
    ap (λ o. unwrap_or (option_map (is_key_of s lane) o) false && is_none (found_fate s lane.shard i) && not (unwrap_or (option_map (is_refused s) o) false)) (same lane.shard i came)

arriving_same : (s : Setting) (after : List Stream) (h : List Entry) (lane : LaneId) (n first count m : ℕ) → SameRecords s after (Came n first count m ∷ h) → first ≡ came_count h n → n ≡ lane.shard → arriving (over s after) lane first count ≡ arriving s lane first count
arriving_same s after h lane n first count m same next shard =
    filter_same (arrives (over s after) lane) (arrives s lane) (places_from first count) (λ i member.
    let place = from_first first count i member in
    let low : i < first + count = place.1 in
    let more : came_count (Came n first count m ∷ h) lane.shard ≡ count + came_count h lane.shard = rw (eq-eqb n lane.shard shard) refl in
    let here : first ≡ came_count h lane.shard = next ∙ ap (came_count h) shard in
    arrives_same s after (Came n first count m ∷ h) same lane i (omega (arith, low, more, here)))

came_over : (s : Setting) (after : List Stream) (h : List Entry) (lane : LaneId) (v : LaneView) (n first count m : ℕ) → SameRecords s after (Came n first count m ∷ h) → first ≡ came_count h n
    → after_entry (over s after) h lane v (Came n first count m) ≡ after_entry s h lane v (Came n first count m)
came_over s after h lane v n first count m same next = elim (cases_Bool (n == lane.shard)) [
  | inr other ↦ rw other refl
  | inl shard ↦ rw shard (ap (λ xs. after_arrivals (standing_at s n) xs v) (arriving_same s after h lane n first count m same next (eqb-true n lane.shard shard)))
]

-- a choice agrees where it agrees when it is made
chosen : (b : Bool) (now was v : LaneView) → (b ≡ true → now ≡ was) → cond b now v ≡ cond b was v
chosen true now was v agree = agree refl
chosen false now was v agree = refl

pub entry_over : (s : Setting) (after : List Stream) (h : List Entry) (e : Entry) (lane : LaneId) (v : LaneView) → Extends s.streams after → Legal s (e ∷ h) → after_entry (over s after) h lane v e ≡ after_entry s h lane v e
entry_over s after h (Came n first count m) lane v extends legal = came_over s after h lane v n first count m (same_records s after (Came n first count m ∷ h) extends legal) legal.1.1.next
entry_over s after h (Began at places closing m) lane v extends legal = refl
entry_over s after h (Ended at reply m) lane v extends legal =
    chosen (same_lane at lane) (after_ended (verdict_after (over s after) h lane reply) m v) (after_ended (verdict_after s h lane reply) m v) v (λ same.
    ap (λ w. after_ended w m v) (verdict_same s after h (same_records s after h extends legal.0) legal.0 lane reply (subst (λ l. is_running h l ≡ true) (same_lane-true at lane same) legal.1.1)))
entry_over s after h (Gave None n places f line state m) lane v extends legal = refl
entry_over s after h (Gave (Some at) n places Succeeded line state m) lane v extends legal = refl
entry_over s after h (Gave (Some at) n places Filtered line state m) lane v extends legal = refl
entry_over s after h (Gave (Some at) n places Expired line state m) lane v extends legal = refl
entry_over s after h (Gave (Some at) n places Exhausted line state m) lane v extends legal = refl
entry_over s after h (Tried at places closing t m) lane v extends legal = refl
entry_over s after h (Closed at w m) lane v extends legal = refl
entry_over s after h (Replayed n places m) lane v extends legal = refl
entry_over s after h (Shut m) lane v extends legal = refl
