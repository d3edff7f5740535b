use Rattle.std.proofs.Common.{◌<◌, ℕ, List, length, get_or, sym, subst, arith}
use Rattle.esm_ledger.proofs.Counts.{counted_few}
use Rattle.esm_ledger.proofs.preparing.count_landings.Goals as goal

pub count_record-requires : goal.count_record-requires
count_record-requires c =
    let at = c.loop-landing in
    let all = c.requires in
    subst (λ (counts : List ℕ). (k : ℕ) → k < length counts → get_or counts k 0 < 4294967295) (sym c.as_mut_slice.ensures.value)
    (λ k here. (let few = counted_few at.counts.items c.args.landings.now at.landing-index c.args.lanes k at.invariant.size at.invariant.each c.loop-landing-test.true here in omega (arith, few, all)))
