use Rattle.std.proofs.Common.{◌+◌, eqb, length, refl, ap, ◌∙◌, arith}
use Rattle.std.specs.Prelude.{filter}
use Rattle.std.specs.Map.{count_at}
use Rattle.std.specs.Ordering.{nat_cmp}
use Rattle.std.specs.BTreeMap as map
use Rattle.esm_journal_state.specs.View.{number_with}
use Rattle.esm_journal_state.proofs.Frontiers.{at_hand}
use Rattle.esm_journal_state.proofs.Gathering.{count_fits}
use Rattle.esm_journal_state.proofs.gather.counts_of.Goals as goal

pub overflow_add-hand : goal.overflow_add-hand
overflow_add-hand c =
    let n = c.in-Some.place.now.0 in
    let taken = at_hand n c.in_ok-hand.hand.shard c.in_ok-hand.hand.number (count_at (map.get nat_cmp c.taken_up.new.numbers) n) (number_with c.taken_up.new.numbers c.in_ok-hand.hand n) c.in_ok-hand.ensures.shard refl ∙ c.in_ok-hand.ensures.numbers n in
    let counted = ap (λ m. m + length (filter (λ e. eqb e.0.0 n) c.loop-place.place-iterator)) taken ∙ c.loop-place.invariant n in
    omega (arith, count_fits c.loop-place.place-iterator c.args.fates.now.entries c.next.new.self c.in-Some.place.now c.in-Some.field-0-1.now c.in_ok-hand.hand.number c.requires c.in-Some.ensures.steps counted)
