-- How the calls of a shard's records as they are kept follow the history.
use Rattle.std.proofs.Common.{◌≡◌, ℕ, zero, suc, ◌+◌, ◌<◌, Bool, true, false, ◌&&◌, ◌||◌, List, [], ◌∷◌, length, take, get_or, refl, sym, ap, ◌∙◌, subst, inl, inr, Option, Some, None, arith}
use Rattle.std.specs.Prelude.{◌==◌, if◌then◌else◌}
use Rattle.std.proofs.lemmas.Bool.{cases_Bool, eq-eqb, eqb-true, or_right}
use Rattle.std.proofs.lemmas.List.Folds.{list_any_more}
use Rattle.esm_model.specs.declared.lane.LaneId.{LaneId}
use Rattle.esm_model.specs.declared.event.Response.{Response}
use Rattle.esm_model.specs.declared.entry.Entry.{Entry}
use Rattle.esm_model.specs.declared.entry.Entry.TheVariants.{Came, Began, Ended, Gave, Tried, Closed, Replayed, Shut}
use Rattle.esm_model.specs.Setting.{Setting, is_in_lane}
use Rattle.esm_model.specs.Entries.{holds, came_count, last_call, batch_of}
use Rattle.esm_model.specs.Fates.{below, lacks_fate, open_places}
use Rattle.esm_model.specs.FailureLine.{calls_of, response_of, response_in}
use Rattle.esm_model.specs.Batches.{batch}
use Rattle.esm_model.proofs.Lists.{In, In-cases, In-take, Distinct, Distinct-below, Distinct-filter, not_in, apart}
use Rattle.esm_model.proofs.Steps.{came_of_shard, batch_front}
use Rattle.esm_shard_index.proofs.Places.{holds_at}
use Rattle.esm_shard_index.specs.Callings.{Called, StandOnce}
use Rattle.esm_shard_index.specs.CallingsLaws.{CallingsBegin, CallingsCome, CallBegins, CallEnds, CallingsStay, BatchStandsOnce}

pub callings_begin : (n : ℕ) (c : Called) → CallingsBegin n c
callings_begin n c none = record {
  came = ap length none;
  calls = λ i. rw none refl;
  responses = λ i. rw none refl;
}

pub callings_come : (h : List Entry) (n : ℕ) (c : Called) → CallingsCome h n c
callings_come h n c after first count m is len calls responses = record {
  came = (let before = is.came in let more = came_of_shard n first count m h in omega arith);
  calls = λ i. calls i ∙ is.calls i;
  responses = λ i. responses i ∙ is.responses i;
}

here : (n : ℕ) (b : Bool) → ((n == n) && b) ≡ b
here n b = ap (λ t. t && b) (eq-eqb n n refl)

pub call_begins : (h : List Entry) (lane : LaneId) (c : Called) → CallBegins h lane c
call_begins h lane c after places closing m is len calls responses = record {
  came = len ∙ is.came;
  calls = λ i. calls i
      ∙ ap (λ k. if holds places i then suc k else k) (is.calls i)
      ∙ ap (λ b. if b then suc (calls_of h lane.shard i) else calls_of h lane.shard i) (sym (here lane.shard (holds places i)));
  responses = λ i. responses i ∙ is.responses i;
}

pub call_ends : (h : List Entry) (lane : LaneId) (c : Called) → CallEnds h lane c
call_ends h lane c after places reply m is batch_is len calls responses = record {
  came = len ∙ is.came;
  calls = λ i. calls i ∙ is.calls i;
  responses = λ i. responses i
      ∙ ap (λ (o : Option Response). if holds places i then response_in reply else o) (is.responses i)
      ∙ ap (λ (xs : List ℕ). if holds xs i then response_in reply else response_of h lane.shard i) (sym batch_is)
      ∙ ap (λ b. if b then response_in reply else response_of h lane.shard i) (sym (here lane.shard (holds (batch_of (last_call h lane)) i)));
}

pub callings_stay : (h : List Entry) (n : ℕ) (c : Called) → CallingsStay h n c
callings_stay h n c (Came shard first count m) off is = record { came = is.came ∙ rw off refl; calls = is.calls; responses = is.responses }
callings_stay h n c (Began lane places closing m) off is = record { came = is.came; calls = λ i. is.calls i ∙ rw off refl; responses = is.responses }
callings_stay h n c (Ended lane reply m) off is = record { came = is.came; calls = is.calls; responses = λ i. is.responses i ∙ rw off refl }
callings_stay h n c (Gave by shard places f line state m) off is = record { came = is.came; calls = is.calls; responses = is.responses }
callings_stay h n c (Tried lane places closing tries m) off is = record { came = is.came; calls = is.calls; responses = is.responses }
callings_stay h n c (Closed lane w m) off is = record { came = is.came; calls = is.calls; responses = is.responses }
callings_stay h n c (Replayed shard places m) off is = record { came = is.came; calls = is.calls; responses = is.responses }
callings_stay h n c (Shut m) off is = record { came = is.came; calls = is.calls; responses = is.responses }

-- places that stand once

pub once_at : (xs : List ℕ) (k : ℕ) → StandOnce xs → k < length xs → holds (take k xs) (get_or xs k 0) ≡ false
once_at [] k once low = absurd (omega arith)
once_at (x ∷ xs) zero once low = refl
once_at (x ∷ xs) (suc k) once low =
    not_in (take (suc k) (x ∷ xs)) (get_or xs k 0) (λ member. elim (In-cases x (take k xs) (get_or xs k 0) member) [
      | inl same ↦ apart xs x once.0 (subst (λ y. In xs y) (sym same) (holds_at xs k (omega arith)))
      | inr rest ↦ apart (take k xs) (get_or xs k 0) (once_at xs k once.1 (omega arith)) rest
    ])

-- the first places of a call count
pub first_counted : (start before : ℕ → ℕ) (places : List ℕ) (k : ℕ) → StandOnce places → k < length places
    → ((i : ℕ) → before i ≡ (if holds (take k places) i then suc (start i) else start i))
    → before (get_or places k 0) ≡ start (get_or places k 0)
first_counted start before places k once low counted =
    counted (get_or places k 0) ∙ ap (λ b. if b then suc (start (get_or places k 0)) else start (get_or places k 0)) (once_at places k once low)

-- and one more
pub one_counted : (start before after : ℕ → ℕ) (places : List ℕ) (k : ℕ) → StandOnce places → k < length places
    → ((i : ℕ) → before i ≡ (if holds (take k places) i then suc (start i) else start i))
    → after (get_or places k 0) ≡ suc (before (get_or places k 0))
    → ((i : ℕ) → (get_or places k 0 == i) ≡ false → after i ≡ before i)
    → (i : ℕ) → after i ≡ (if holds (take (k + 1) places) i then suc (start i) else start i)
one_counted start before after places k once low counted at others i =
    let more : holds (take (k + 1) places) i ≡ (holds (take k places) i || (get_or places k 0 == i)) = list_any_more (λ p. p == i) places k 0 low in
    let first : before (get_or places k 0) ≡ start (get_or places k 0) = first_counted start before places k once low counted in
    elim (cases_Bool (get_or places k 0 == i)) [
      | inl same ↦ (
          let e : get_or places k 0 ≡ i = eqb-true (get_or places k 0) i same in
          let held : holds (take (k + 1) places) i ≡ true = more ∙ or_right (holds (take k places) i) (get_or places k 0 == i) same in
          subst (λ j. after j ≡ suc (start j)) e (at ∙ ap suc first) ∙ sym (ap (λ b. if b then suc (start i) else start i) held))
      | inr other ↦ (
          let held : holds (take (k + 1) places) i ≡ holds (take k places) i = more ∙ ap (λ b. holds (take k places) i || b) other ∙ or_false (holds (take k places) i) in
          others i other ∙ counted i ∙ sym (ap (λ b. if b then suc (start i) else start i) held))
    ]
  where
    or_false : (b : Bool) → (b || false) ≡ b
    or_false true = refl
    or_false false = refl

stand_once : (xs : List ℕ) → Distinct xs → StandOnce xs
stand_once [] d = tt
stand_once (x ∷ xs) d = (d.0, stand_once xs d.1)

once_take : (k : ℕ) (xs : List ℕ) → StandOnce xs → StandOnce (take k xs)
once_take zero xs once = tt
once_take (suc k) [] once = tt
once_take (suc k) (x ∷ xs) once = (not_in (take k xs) x (λ m. apart xs x once.0 (In-take k xs x m)), once_take k xs once.1)

once_batch : (s : Setting) (h : List Entry) (lane : LaneId) (m : ℕ) → StandOnce (batch s h lane m)
once_batch s h lane m =
    let front = batch_front s h lane m in
    subst StandOnce (sym front.1)
    (once_take front.0 (open_places s h lane)
    (stand_once (open_places s h lane) (Distinct-filter (λ i. is_in_lane s lane i && lacks_fate s h lane.shard i) (below (came_count h lane.shard)) (Distinct-below (came_count h lane.shard)))))

pub batch_stands_once : (s : Setting) (h : List Entry) → BatchStandsOnce s h
batch_stands_once s h lane places None m legal = subst StandOnce (sym legal.1.1.exact) (once_batch s h lane m)
batch_stands_once s h lane places (Some w) m legal = subst StandOnce (sym legal.1.1.no_places) tt
