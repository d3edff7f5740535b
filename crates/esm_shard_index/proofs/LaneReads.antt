-- What is read of a lane.
use Rattle.std.proofs.Common.{◌≡◌, ℕ, zero, suc, ◌+◌, ◌-◌, ◌<◌, ◌≤◌, Bool, true, false, cond, ◌&&◌, List, [], ◌∷◌, ◌++◌, length, take, refl, sym, ap, ◌∙◌, subst, inl, inr, Option, Some, None, arith, length-append}
use Rattle.std.specs.Prelude.{filter, slice_index, if◌then◌else◌}
use Rattle.std.proofs.lemmas.Bool.{cases_Bool}
use Rattle.std.proofs.lemmas.List.Elements.{filter-append}
use Rattle.esm_model.specs.declared.moment.TheConstants.{MAX_MOMENT}
use Rattle.esm_model.specs.Lane.{same_lane}
use Rattle.esm_model.specs.declared.lane.LaneId.{LaneId}
use Rattle.esm_model.specs.declared.entry.Entry.{Entry}
use Rattle.esm_model.specs.declared.entry.Entry.TheVariants.{Came, Began, Ended, Gave, Tried, Closed, Replayed, Shut}
use Rattle.esm_model.specs.declared.verdict.Rest.{Rest}
use Rattle.esm_model.specs.declared.verdict.Rest.TheVariants as rest
use Rattle.esm_model.specs.Setting.{Setting, is_in_lane}
use Rattle.esm_model.specs.Entries.{Call, came_count, calls_begun, is_running}
use Rattle.esm_model.specs.Fates.{below, lacks_fate, open_places}
use Rattle.esm_model.specs.Tries.{tries, tries_for, tries_of, is_fresh, verdict_after}
use Rattle.esm_model.specs.Batches.{group, failures, failures_by, last_end}
use Rattle.esm_model.specs.Owed.{debts, unsorted}
use Rattle.esm_model.specs.Step.{Legal}
use Rattle.esm_model.proofs.Lists.{In, In-here}
use Rattle.esm_model.proofs.Counts.{length-below}
use Rattle.esm_model.proofs.Sound.{same_lane-true}
use Rattle.esm_lanes.specs.Piece.{Piece, IsFront, front_length}
use Rattle.esm_lanes.specs.Piece as piece
use Rattle.esm_shard_index.specs.declared.lane_state.Running.{Running}
use Rattle.esm_shard_index.specs.LaneView.{LaneView, after_came, after_arrivals, front_places, running_count, after_reserved}
use Rattle.esm_shard_index.specs.LaneHistory.{tags, ArePieces, owed_places, is_passing, sorted_places, places_from, arrives, arriving, standing_at, IsLane}
use Rattle.esm_shard_index.specs.LaneSteps.{IsGroupOf, IsGrouped, HasCallTries, IsBounded, ArrivalsFit}
use Rattle.esm_lanes.specs.declared.standing.Standing.{Standing}
use Rattle.esm_shard_index.proofs.LaneGroups.{opens_are, group_is, tries_are}
use Rattle.esm_shard_index.proofs.LaneGroups as groups
use Rattle.esm_shard_index.proofs.LaneCalls.{front_long}
use Rattle.esm_shard_index.proofs.LaneArrivals.{arrived_places}
use Rattle.esm_shard_index.proofs.LaneEnded.{front_tries_are}

-- the group

first_In : (xs : List ℕ) → 0 < length xs → In xs (slice_index xs 0)
first_In [] some = absurd (omega arith)
first_In (x ∷ xs) some = In-here x xs x refl

front_is : (s : Setting) (h : List Entry) (lane : LaneId) (ps : List Piece) → ArePieces (tags s h lane.shard) ps → group s h lane ≡ front_places ps → (places : List ℕ) (fresh : Bool) (count : ℕ) → IsFront ps places fresh count → IsGroupOf s h lane places fresh count
front_is s h lane [] are is places fresh count front = absurd front
front_is s h lane (p ∷ rest) are is places fresh count front =
    let here : In p.places (slice_index p.places 0) = first_In p.places are.0.some in
    let same : slice_index places 0 ≡ slice_index p.places 0 = ap (λ xs. slice_index xs 0) front.0 in
    record {
      group = is ∙ sym front.0;
      fresh_is = ap (is_fresh s h lane.shard) same ∙ groups.fresh_is s h lane.shard p rest are (slice_index p.places 0) here ∙ sym front.1;
      tries = ap (tries s h lane.shard) same ∙ tries_are s h lane.shard p rest are (slice_index p.places 0) here ∙ sym front.2;
    }

pub lane_grouped : (s : Setting) (h : List Entry) (lane : LaneId) (v : LaneView) → debts s h lane ≡ [] → unsorted s h lane.shard ≡ [] → IsLane s h lane v → IsGrouped s h lane v
lane_grouped s h lane v owes none is =
    let grouped = group_is s h lane v owes none is in
    record { opens = opens_are s h lane v owes none is; group = grouped; front = front_is s h lane v.kept.pieces is.pieces grouped }

-- the tries of the call that runs

call_tries_at : (s : Setting) (h : List Entry) (n : ℕ) (call : Call) (o : Option ℕ) → call.closing ≡ o → o ≡ None → tries_of s h n call ≡ tries s h n (slice_index call.places 0)
call_tries_at s h n call o same none = ap (tries_for s h n call.places) (same ∙ none)

first_of_take : (k : ℕ) (xs : List ℕ) → 1 ≤ k → k ≤ length xs → In xs (slice_index (take k xs) 0)
first_of_take zero xs some within = absurd (omega arith)
first_of_take (suc k) [] some within = absurd (omega arith)
first_of_take (suc k) (x ∷ xs) some within = In-here x xs x refl

pub lane_call_tries : (s : Setting) (h : List Entry) (lane : LaneId) (v : LaneView) (r : Running) → IsLane s h lane v → v.state.running ≡ Some r → 1 ≤ r.count → HasCallTries s h lane v
lane_call_tries s h lane v r is runs some call last =
    let c = is.call r runs in
    let same : c.call ≡ call = one (sym c.last ∙ last) in
    let within : r.count ≤ length (front_places v.kept.pieces) = (let w = c.within in let long : length (front_places v.kept.pieces) ≡ front_length v.kept.pieces = front_long v.kept.pieces in omega arith) in
    let places : call.places ≡ take r.count (front_places v.kept.pieces) = ap (λ (k : Call). k.places) (sym same) ∙ c.places in
    call_tries_at s h lane.shard call r.closing (ap (λ (k : Call). k.closing) (sym same) ∙ c.closing) (open_call r.closing refl)
    ∙ ap (λ xs. tries s h lane.shard (slice_index xs 0)) places
    ∙ front_tries_are (tags s h lane.shard) v.kept.pieces is.pieces (slice_index (take r.count (front_places v.kept.pieces)) 0) (first_of_take r.count (front_places v.kept.pieces) some within)
  where
    one : {a b : Call} → Some a ≡ Some b → a ≡ b
    one e = cc

    open_call : (o : Option ℕ) → r.closing ≡ o → r.closing ≡ None
    open_call None e = e
    open_call (Some w) e = absurd (let none : r.count ≡ 0 = (is.call r runs).final w e in omega arith)

-- bounds

filter_few : (p : ℕ → Bool) (xs : List ℕ) → length (filter p xs) ≤ length xs
filter_few p [] = omega arith
filter_few p (x ∷ xs) = (let rest : length (filter p xs) ≤ length xs = filter_few p xs in elim (cases_Bool (p x)) [ inl is ↦ rw is (omega arith) | inr not' ↦ rw not' (omega arith) ])

few_places : (s : Setting) (h : List Entry) (lane : LaneId) (v : LaneView) → IsLane s h lane v → length (piece.open_places v.kept.pieces) ≤ came_count h lane.shard
few_places s h lane v is =
    let opens = filter (λ i. is_in_lane s lane i && lacks_fate s h lane.shard i) (below (came_count h lane.shard)) in
    let a : length (sorted_places s h lane) ≤ length (open_places s h lane) = filter_few (is_passing s lane.shard) (open_places s h lane) in
    let b : length (open_places s h lane) ≤ length (below (came_count h lane.shard)) = filter_few (λ i. is_in_lane s lane i && lacks_fate s h lane.shard i) (below (came_count h lane.shard)) in
    let c : length (below (came_count h lane.shard)) ≡ came_count h lane.shard = length-below (came_count h lane.shard) in
    let d : length (owed_places (debts s h lane) ++ piece.open_places v.kept.pieces) ≡ length (sorted_places s h lane) = ap length is.places in
    let e : length (owed_places (debts s h lane) ++ piece.open_places v.kept.pieces) ≡ length (owed_places (debts s h lane)) + length (piece.open_places v.kept.pieces) = length-append (owed_places (debts s h lane)) (piece.open_places v.kept.pieces) in
    omega arith

one_more_failure : (r : Rest) (n : ℕ) → failures_by r n ≤ suc n
one_more_failure rest.Nothing n = omega arith
one_more_failure rest.Again n = omega arith
one_more_failure rest.Counted n = omega arith
one_more_failure (rest.Split k) n = omega arith
one_more_failure rest.Exhausted n = omega arith

abbrev runs_one : Bool → ℕ
runs_one b = cond b 1 0

few_failures : (s : Setting) (h : List Entry) (lane : LaneId) → Legal s h → failures s h lane + runs_one (is_running h lane) ≤ calls_begun h
few_failures s [] lane legal = omega arith
few_failures s (Came n first count m ∷ h) lane legal = few_failures s h lane legal.0
few_failures s (Began at places closing m ∷ h) lane legal = (let before = few_failures s h lane legal.0 in elim (cases_Bool (same_lane at lane)) [
  | inl same ↦ rw same (omega (arith, before))
  | inr other ↦ rw other (omega (arith, before))
])
few_failures s (Ended at reply m ∷ h) lane legal = (let before = few_failures s h lane legal.0 in elim (cases_Bool (same_lane at lane)) [
  | inl same ↦ (
      let ran : is_running h lane ≡ true = sym (ap (is_running h) (same_lane-true at lane same)) ∙ legal.1.1 in
      let one : failures s h lane + 1 ≤ calls_begun h = rw ran at before in
      let more : failures_by (verdict_after s h lane reply).rest (failures s h lane) ≤ suc (failures s h lane) = one_more_failure (verdict_after s h lane reply).rest (failures s h lane) in
      rw same (omega (arith, one, more)))
  | inr other ↦ rw other before
])
few_failures s (Gave by n places f line state m ∷ h) lane legal = few_failures s h lane legal.0
few_failures s (Tried at places closing t m ∷ h) lane legal = few_failures s h lane legal.0
few_failures s (Closed at w m ∷ h) lane legal = few_failures s h lane legal.0
few_failures s (Replayed n places m ∷ h) lane legal = few_failures s h lane legal.0
few_failures s (Shut m ∷ h) lane legal = few_failures s h lane legal.0

end_in_time : (s : Setting) (h : List Entry) (lane : LaneId) → Legal s h → last_end h lane ≤ MAX_MOMENT
end_in_time s [] lane legal = omega arith
end_in_time s (Ended at reply m ∷ h) lane legal = elim (cases_Bool (same_lane at lane)) [
  | inl same ↦ rw same legal.1.0.within
  | inr other ↦ rw other (end_in_time s h lane legal.0)
]
end_in_time s (Came n first count m ∷ h) lane legal = end_in_time s h lane legal.0
end_in_time s (Began at places closing m ∷ h) lane legal = end_in_time s h lane legal.0
end_in_time s (Gave by n places f line state m ∷ h) lane legal = end_in_time s h lane legal.0
end_in_time s (Tried at places closing t m ∷ h) lane legal = end_in_time s h lane legal.0
end_in_time s (Closed at w m ∷ h) lane legal = end_in_time s h lane legal.0
end_in_time s (Replayed n places m ∷ h) lane legal = end_in_time s h lane legal.0
end_in_time s (Shut m ∷ h) lane legal = end_in_time s h lane legal.0

called_within : (s : Setting) (h : List Entry) (lane : LaneId) (v : LaneView) → IsLane s h lane v → (o : Option Running) → v.state.running ≡ o → running_count o ≤ front_length v.kept.pieces
called_within s h lane v is None runs = omega arith
called_within s h lane v is (Some r) runs = (is.call r runs).within

pub lane_bounded : (s : Setting) (h : List Entry) (lane : LaneId) (v : LaneView) → Legal s h → IsLane s h lane v → IsBounded h lane v
lane_bounded s h lane v legal is =
    let few : failures s h lane + runs_one (is_running h lane) ≤ calls_begun h = few_failures s h lane legal in
    record {
      places = few_places s h lane v is;
      failures = subst (λ n. n ≤ calls_begun h) (sym is.failures) (omega (arith, few));
      running = λ runs. (
          let ran : is_running h lane ≡ true = is.runs ∙ runs in
          let fewer : failures s h lane + 1 ≤ calls_begun h = rw ran at few in
          subst (λ n. n < calls_begun h) (sym is.failures) (omega (arith, fewer)));
      last_end = subst (λ n. n ≤ MAX_MOMENT) (sym is.last_end) (end_in_time s h lane legal);
      called = called_within s h lane v is v.state.running refl;
    }

-- arrivals one by one

arrivals_on : (standing : ℕ → Standing) (is js : List ℕ) (v : LaneView) → after_arrivals standing (is ++ js) v ≡ after_arrivals standing js (after_arrivals standing is v)
arrivals_on standing [] js v = refl
arrivals_on standing (i ∷ is) js v = arrivals_on standing is js (after_came (standing i) i v)

pub one_more_arrival : (s : Setting) (lane : LaneId) (first count : ℕ) (v : LaneView)
    → after_arrivals (standing_at s lane.shard) (arriving s lane first (suc count)) v
    ≡ (if arrives s lane (first + count) then after_came (standing_at s lane.shard (first + count)) (first + count) (after_arrivals (standing_at s lane.shard) (arriving s lane first count) v) else after_arrivals (standing_at s lane.shard) (arriving s lane first count) v)
one_more_arrival s lane first count v =
    ap (λ xs. after_arrivals (standing_at s lane.shard) xs v) (filter-append (arrives s lane) (places_from first count) ((first + count) ∷ []))
    ∙ arrivals_on (standing_at s lane.shard) (arriving s lane first count) (filter (arrives s lane) ((first + count) ∷ [])) v
    ∙ at (arrives s lane (first + count))
  where
    at : (b : Bool) → after_arrivals (standing_at s lane.shard) (cond b ((first + count) ∷ []) []) (after_arrivals (standing_at s lane.shard) (arriving s lane first count) v)
        ≡ cond b (after_came (standing_at s lane.shard (first + count)) (first + count) (after_arrivals (standing_at s lane.shard) (arriving s lane first count) v)) (after_arrivals (standing_at s lane.shard) (arriving s lane first count) v)
    at true = refl
    at false = refl

length-from : (first count : ℕ) → length (places_from first count) ≡ count
length-from first zero = refl
length-from first (suc count) = length-append (places_from first count) ((first + count) ∷ []) ∙ (let rest : length (places_from first count) ≡ count = length-from first count in omega arith)

adds_left : (standing : ℕ → Standing) (is : List ℕ) (v : LaneView) → v.kept.adds ≤ (after_arrivals standing is v).kept.adds + length is
adds_left standing [] v = omega arith
adds_left standing (i ∷ is) v = (let rest : v.kept.adds - 1 ≤ (after_arrivals standing is (after_came (standing i) i v)).kept.adds + length is = adds_left standing is (after_came (standing i) i v) in omega (arith, rest))

pub arrivals_fit : (s : Setting) (lane : LaneId) (first count : ℕ) (v : LaneView) → ArrivalsFit s lane first count v (after_arrivals (standing_at s lane.shard) (arriving s lane first count) v)
arrivals_fit s lane first count v =
    let standing = standing_at s lane.shard in
    let is = arriving s lane first count in
    let few : length (arriving s lane first count) ≤ length (places_from first count) = filter_few (arrives s lane) (places_from first count) in
    let long : length (places_from first count) ≡ count = length-from first count in
    let places : length (piece.open_places (after_arrivals standing is v).kept.pieces) ≡ length (piece.open_places v.kept.pieces) + length is = ap length (arrived_places standing is v) ∙ length-append (piece.open_places v.kept.pieces) is in
    let adds = adds_left standing is v in
    record { places = omega (arith, few, long, places); adds = omega (arith, few, long, adds) }

-- what is reserved is not looked at

pub lane_reserved : (s : Setting) (h : List Entry) (lane : LaneId) (adds splits : ℕ) (v : LaneView) → IsLane s h lane v → IsLane s h lane (after_reserved adds splits v)
lane_reserved s h lane adds splits v is = record {
  places = is.places;
  pieces = is.pieces;
  runs = is.runs;
  call = λ r runs. (let c = is.call r runs in record { call = c.call; last = c.last; places = c.places; within = c.within; closing = c.closing; final = c.final });
  failures = is.failures;
  last_end = is.last_end;
}
