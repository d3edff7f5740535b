use Rattle.std.proofs.Common.{◌≡◌, ℕ, List, length, take, zero, suc, [], ◌∷◌, ap, ap₂, sym, ◌∙◌, refl}
use Rattle.std.specs.Prelude.{filter, filter_map}
use Rattle.esm_model.specs.Fates.{below}
use Rattle.esm_model.specs.Moment.{capped_moment}
use Rattle.esm_queue_model.specs.declared.stored.Stored.{Stored}
use Rattle.esm_queue_model.specs.Queue.{QueueState, is_eligible, eligible, receivable, after_receipt, seen}
use Rattle.esm_queue.specs.Held.{Held}
use Rattle.esm_queue.specs.Receiving.{received_at}
use Rattle.esm_queue.proofs.Changing.{seen_after}
use Rattle.esm_queue.proofs.Fronts.{Rises, Rises-take, Rises-filter_below, Rises_at}
use Rattle.esm_queue.proofs.queue.Queue.receive.Goals as goal

receivable_rises : (q : QueueState) (m max : ℕ) → Rises 0 (length q.messages) (receivable q m max)
receivable_rises q m max = Rises-take 0 (length q.messages) max (filter (is_eligible q m) (below (length q.messages))) (Rises-filter_below (is_eligible q m) (length q.messages))

take_again : (max : ℕ) (xs : List ℕ) → take max xs ≡ take (length (take max xs)) xs
take_again zero xs = refl
take_again (suc max) [] = refl
take_again (suc max) (x ∷ xs) = ap (λ ys. x ∷ ys) (take_again max xs)

pub copy_all-requires : goal.copy_all-requires
copy_all-requires c =
    let q = c.args.self.now.state in
    let given : c.as_slice-2.result.now ≡ receivable q (capped_moment c.args.now) c.args.max = c.as_slice-2.ensures ∙ c.in_ok-places.ensures in
    let all : c.as_slice.result.now ≡ q.messages = c.as_slice.ensures.value ∙ ap (λ (h : Held). h.state.messages) c.self.view_is in
    rw (given, all) (λ k d within. Rises_at 0 (length q.messages) (receivable q (capped_moment c.args.now) c.args.max) k d (receivable_rises q (capped_moment c.args.now) c.args.max) within)

pub hide-requires-clause-first : goal.hide-requires-clause-first
hide-requires-clause-first c =
    let m = capped_moment c.args.now in
    let max = c.args.max in
    let q = c.args.self.now.state in
    let places : c.as_slice-3.result.now ≡ receivable q m max = c.as_slice-3.ensures ∙ c.in_ok-places.ensures in
    let state : c.prepare.new.self.state ≡ q = c.prepare.ensures.state in
    places ∙ (take_again max (eligible q m)
    ∙ ap₂ (λ (ps : List ℕ) (s : QueueState). receivable s m (length ps)) (sym places) (sym state))

pub returns-clause-given : goal.returns-clause-given
returns-clause-given c =
    let m = capped_moment c.args.now in
    let q = c.args.self.now.state in
    let ps = receivable q m c.args.max in
    let places : c.as_slice-3.result.now ≡ ps = c.as_slice-3.ensures ∙ c.in_ok-places.ensures in
    let state : c.prepare.new.self.state ≡ q = c.prepare.ensures.state in
    let hidden : c.hide.new.self.state ≡ after_receipt m ps q = c.hide.ensures.state ∙ ap₂ (λ (xs : List ℕ) (s : QueueState). after_receipt m xs s) places state in
    let all : c.as_slice.result.now ≡ q.messages = c.as_slice.ensures.value ∙ ap (λ (h : Held). h.state.messages) c.self.view_is in
    let copied : c.in_ok-given.given.items ≡ filter_map (received_at m q.messages) ps = c.in_ok-given.ensures
    ∙ (ap (λ (k : ℕ). filter_map (received_at k c.as_slice.result.now) c.as_slice-2.result.now) c.min-moment.ensures
    ∙ ap₂ (λ (xs : List Stored) (is : List ℕ). filter_map (received_at m xs) is) all (c.as_slice-2.ensures ∙ c.in_ok-places.ensures)) in
    copied ∙ (seen_after m q.messages ps ps (λ i h. h) ∙ ap (λ (s : QueueState). seen s ps) (sym hidden))
