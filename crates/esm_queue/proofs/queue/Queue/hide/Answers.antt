use Rattle.std.proofs.Common.{◌≡◌, ℕ, ◌<◌, ◌++◌, true, List, length, get_or, take, drop, ap, sym, ◌∙◌, subst, arith, rules}
use Rattle.std.specs.Prelude.{filter, All, slice_get}
use Rattle.esm_model.specs.Entries.{holds}
use Rattle.esm_queue.specs.Receiving.{IsRising}
use Rattle.esm_model.specs.Fates.{below}
use Rattle.esm_model.specs.Moment.{capped_moment}
use Rattle.esm_queue_model.specs.declared.stored.Stored.{Stored}
use Rattle.esm_queue_model.specs.Queue.{QueueState, is_eligible, receivable, received_once, changed_from}
use Rattle.esm_queue.specs.Held.{Held}
use Rattle.esm_queue.specs.Moments.{leaves}
use Rattle.esm_queue.specs.Groups.{IsHeadedBy}
use Rattle.esm_queue.proofs.Changing.{length-changed_from, written}
use Rattle.esm_queue.proofs.Keeping.{grouped_received, grouped_moved}
use Rattle.esm_queue.proofs.Leaves.{receivable_alive}
use Rattle.esm_queue.proofs.Fronts.{Rises, Rises-take, Rises-filter_below, Rises_at, Rises_rising}
use Rattle.esm_queue.proofs.queue.Queue.hide.Goals as goal

-- what a receipt gives rises, and stands in the queue
receivable_rises : (q : QueueState) (m max : ℕ) → Rises 0 (length q.messages) (receivable q m max)
receivable_rises q m max = Rises-take 0 (length q.messages) max (filter (is_eligible q m) (below (length q.messages))) (Rises-filter_below (is_eligible q m) (length q.messages))

rises_within : (n high : ℕ) (places given : List ℕ) → given ≡ places → Rises 0 high places → n ≡ high → All (λ i. i < n) given
rises_within n high places given same rises sized = λ k d within.
    let low : get_or places k d < high = Rises_at 0 high places k d rises (subst (λ (ps : List ℕ). k < length ps) same within) in
    let here : get_or given k d ≡ get_or places k d = ap (λ (ps : List ℕ). get_or ps k d) same in
    omega arith

pub hide_all-requires-clause-within : goal.hide_all-requires-clause-within
hide_all-requires-clause-within c =
    let q = c.args.self.now.state in
    let m = capped_moment c.args.now in
    let n = length c.args.places.now in
    let all : c.as_mut_slice.result.now ≡ q.messages = c.as_mut_slice.ensures.value ∙ ap (λ (h : Held). h.state.messages) c.self.view_is in
    rises_within (length c.as_mut_slice.result.now) (length q.messages) (receivable q m n) c.args.places.now c.requires.first (receivable_rises q m n) (ap length all)

pub hide_all-requires-clause-rising : goal.hide_all-requires-clause-rising
hide_all-requires-clause-rising c =
    let q = c.args.self.now.state in
    let m = capped_moment c.args.now in
    let n = length c.args.places.now in
    subst (λ ps. IsRising 0 ps) (sym c.requires.first) (Rises_rising 0 (length q.messages) (receivable q m n) (receivable_rises q m n))

pub hide_all-requires-clause-alive : goal.hide_all-requires-clause-alive
hide_all-requires-clause-alive c =
    let q = c.args.self.now.state in
    let m = capped_moment c.args.now in
    let n = length c.args.places.now in
    let all : c.as_mut_slice.result.now ≡ q.messages = c.as_mut_slice.ensures.value ∙ ap (λ (h : Held). h.state.messages) c.self.view_is in
    λ i x member at. receivable_alive q m n i x (subst (λ ps. holds ps i ≡ true) c.requires.first member) (ap (λ (xs : List Stored). slice_get xs i) (sym all) ∙ at)

pub invariant_of-self : goal.invariant_of-self
invariant_of-self c =
    let q = c.self.inside in
    let old = q.messages in
    let new = c.hide_all.new.messages in
    let g = c.hide_all.new.groups in
    let m = c.min.result in
    let places = c.args.places.now in
    let e = c.hide_all.ensures in
    let lent : c.as_mut_slice.result.now ≡ old.items = c.as_mut_slice.ensures.value in
    let marked : new ≡ changed_from (received_once m) places 0 old.items = e.hidden ∙ ap (λ (xs : List Stored). changed_from (received_once m) places 0 xs) lent in
    let same : length new ≡ length old.items = ap length marked ∙ length-changed_from (received_once m) places 0 old.items in
    let all : old.len ≡ length old.items = search rules in
    let w : take old.len (new ++ drop (length new) old.items) ≡ new = written old.len new old.items same all in
    record {
      few = c.self.invariant.few;
      shown = e.shown ∙ ap (λ (xs : List Stored). leaves q.visibility_ms xs) (sym w);
      grouped = grouped_received m places old.items (take old.len (new ++ drop (length new) old.items)) g (w ∙ marked) (grouped_moved old.items q.groups g e.kind e.links e.buckets c.self.invariant.grouped);
      headed = subst (λ (xs : List Stored). IsHeadedBy (leaves q.visibility_ms xs) g) (sym w) e.headed;
    }
