use Rattle.std.proofs.Common.{◌≡◌, ◌-◌, true, false, List, length, sym, ap, ◌∙◌, subst, arith}
use Rattle.std.specs.Prelude.{nat_le}
use Rattle.std.specs.List.Sorted.{IsPartitionPoint}
use Rattle.esm_shard_index.specs.declared.arrivals.Arrival.{Arrival}
use Rattle.esm_shard_index.proofs.ArrivalSteps.{moment_before, moment_at}
use Rattle.esm_shard_index.proofs.arrivals.Arrivals.moment.Goals as goal

pub returns-then-count-eq0 : goal.returns-then-count-eq0
returns-then-count-eq0 c =
    let point = subst (λ (runs : List Arrival). IsPartitionPoint (λ (r : Arrival). nat_le r.first c.args.place ≡ true) (λ (r : Arrival). nat_le r.first c.args.place ≡ false) runs c.runs_up_to-count.result)
    c.as_slice.ensures.value c.runs_up_to-count.ensures.point in
    rw (← c.self.view_is) (sym (moment_before c.self.inside.runs.items 0 c.args.place (λ k d low. point.1 k d (omega arith) low)))

pub returns : goal.returns
returns c =
    let point = subst (λ (runs : List Arrival). IsPartitionPoint (λ (r : Arrival). nat_le r.first c.args.place ≡ true) (λ (r : Arrival). nat_le r.first c.args.place ≡ false) runs c.runs_up_to-count.result)
    c.as_slice.ensures.value c.runs_up_to-count.ensures.point in
    let long : length c.as_slice.result.now ≡ length c.self.inside.runs.items = ap length c.as_slice.ensures.value in
    rw (← c.self.view_is)
    (ap (λ (r : Arrival). r.moment) c.index.ensures
    ∙ sym (moment_at c.self.inside.runs.items 0 c.args.place (c.runs_up_to-count.result - 1) (omega (arith, long))
    (λ k d low. point.0 k d (omega arith) (omega arith)) (λ k d past low. point.1 k d (omega arith) low) c.index.result.now))
