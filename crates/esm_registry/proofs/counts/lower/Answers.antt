use Rattle.std.proofs.Common.{◌≡◌, ◌-◌, Some, None, arith, rules}
use Rattle.esm_registry.specs.Pairs.{count_at}
use Rattle.esm_registry.proofs.CountFacts.{lowered_at}
use Rattle.esm_registry.proofs.counts.lower.Goals as goal

pub returns-then-count-le1 : goal.returns-then-count-le1
returns-then-count-le1 c =
    let few : 0 ≡ count_at c.args.counts.now c.args.pair.now - 1 = omega (arith, c.count_of-count.ensures) in
    lowered_at c.args.counts.now c.remove.new.self c.args.pair.now None few c.remove.ensures.updates

pub returns-in-Some : goal.returns-in-Some
returns-in-Some c =
    let left = c.count_of-count.result - 1 in
    let fewer : left ≡ count_at c.args.counts.now c.args.pair.now - 1 = omega (arith, c.count_of-count.ensures) in
    lowered_at c.args.counts.now (c.get_mut.follows.lender left) c.args.pair.now (Some left) fewer ((c.get_mut.follows.holds left).3 (search rules))
