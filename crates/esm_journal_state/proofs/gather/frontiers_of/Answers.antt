use Rattle.std.proofs.Common.{◌+◌, cond, eqb, refl, sym, ap, subst, ◌∙◌, arith}
use Rattle.std.specs.Map.{count_at}
use Rattle.std.specs.Ordering.{nat_cmp}
use Rattle.std.specs.BTreeMap as map
use Rattle.esm_journal_state.specs.View.{number_with}
use Rattle.esm_journal_state.proofs.Frontiers.{AreFrontiers, count_updated, at_hand, raised, frontier_fits, frontiers_more, frontiers_passed, frontiers_below, frontiers_end}
use Rattle.esm_journal_state.proofs.gather.frontiers_of.Goals as goal

pub overflow_add-hand : goal.overflow_add-hand
overflow_add-hand c =
    let n = c.in-Some.place.now.0 in
    let now = c.in_ok-hand.hand in
    let taken = at_hand n now.shard now.number (count_at (map.get nat_cmp c.taken_up.new.numbers) n) (number_with c.taken_up.new.numbers now n) c.in_ok-hand.ensures.shard refl ∙ c.in_ok-hand.ensures.numbers n in
    let fits = frontier_fits c.args.fates.now.entries c.loop-place.place-iterator c.next.new.self c.in-Some.place.now c.in-Some.field-0-1.now (number_with c.loop-place.frontiers c.loop-place.hand)
    c.requires c.in-Some.ensures.steps c.loop-place.invariant (c.if-place-hand.true ∙ taken) in
    omega (arith, fits, c.if-place-hand.true)

pub loop-place-preserved-then-place-hand : goal.loop-place-preserved-then-place-hand
loop-place-preserved-then-place-hand c =
    let k = c.in-Some.place.now in
    let now = c.in_ok-hand.hand in
    let before = number_with c.loop-place.frontiers c.loop-place.hand in
    let taken = at_hand k.0 now.shard now.number (count_at (map.get nat_cmp c.taken_up.new.numbers) k.0) (number_with c.taken_up.new.numbers now k.0) c.in_ok-hand.ensures.shard refl ∙ c.in_ok-hand.ensures.numbers k.0 in
    frontiers_more c.args.fates.now.entries c.next.new.self k c.in-Some.field-0-1.now before _
    (rw c.in-Some.ensures.steps at c.loop-place.invariant) (c.if-place-hand.true ∙ taken)
    (λ n. raised k.0 now.shard now.number (count_at (map.get nat_cmp c.taken_up.new.numbers) n) n (before n) c.in_ok-hand.ensures.shard (sym (c.in_ok-hand.ensures.numbers n))
    ∙ ap (λ i. cond (eqb k.0 n) (i + 1) (before n)) (sym c.if-place-hand.true))

pub loop-place-preserved : goal.loop-place-preserved
loop-place-preserved c =
    let n = c.in-Some.place.now.0 in
    let now = c.in_ok-hand.hand in
    let taken = at_hand n now.shard now.number (count_at (map.get nat_cmp c.taken_up.new.numbers) n) (number_with c.taken_up.new.numbers now n) c.in_ok-hand.ensures.shard refl ∙ c.in_ok-hand.ensures.numbers n in
    frontiers_passed c.args.fates.now.entries c.next.new.self c.in-Some.place.now c.in-Some.field-0-1.now (number_with c.loop-place.frontiers c.loop-place.hand) _
    (rw c.in-Some.ensures.steps at c.loop-place.invariant) (λ e. c.if-place-hand.false (e ∙ sym taken)) c.in_ok-hand.ensures.numbers

pub returns-clause-below : goal.returns-clause-below
returns-clause-below c =
    let before = number_with c.loop-place.frontiers c.loop-place.hand in
    let whole = subst (λ left. AreFrontiers c.args.fates.now.entries left before) c.in-None.ensures.steps.0 c.loop-place.invariant in
    frontiers_below c.args.fates.now.entries before (count_at (map.get nat_cmp c.insert.new.self)) whole
    (λ n. count_updated c.loop-place.hand.shard n c.loop-place.hand.number _ _ (c.in_ok-insert.ensures.updates.0 n))

pub returns-clause-end : goal.returns-clause-end
returns-clause-end c =
    let before = number_with c.loop-place.frontiers c.loop-place.hand in
    let whole = subst (λ left. AreFrontiers c.args.fates.now.entries left before) c.in-None.ensures.steps.0 c.loop-place.invariant in
    frontiers_end c.args.fates.now.entries before (count_at (map.get nat_cmp c.insert.new.self)) whole
    (λ n. count_updated c.loop-place.hand.shard n c.loop-place.hand.number _ _ (c.in_ok-insert.ensures.updates.0 n))
