use Rattle.std.proofs.Common.{refl, subst}
use Rattle.std.specs.List.{All}
use Rattle.std.proofs.lemmas.List.{take_all}
use Rattle.std.proofs.lemmas.List.Elements.{All-nil}
use Rattle.esm_replay_core.specs.Counts.{HasCount}
use Rattle.esm_replay_core.proofs.Counting.{then_recounted, counts_more}
use Rattle.esm_replay_core.proofs.counts.make_counts.Goals as goal

pub loop-item-init : goal.loop-item-init
loop-item-init c = record { same = record { same = λ q. refl; keys = λ q has. has }; there = All-nil (HasCount c.args.counts.now); last = tt }

pub returns-in_err-make_next-clause-same : goal.returns-in_err-make_next-clause-same
returns-in_err-make_next-clause-same c = then_recounted c.args.counts.now c.loop-item.counts c.make_next.new.counts c.loop-item.invariant.same c.make_next.ensures.same

pub loop-item-preserved : goal.loop-item-preserved
loop-item-preserved c = record {
  same = then_recounted c.args.counts.now c.loop-item.counts c.make_next.new.counts c.loop-item.invariant.same c.make_next.ensures.same;
  there = counts_more c.loop-item.counts c.make_next.new.counts c.args.items.now c.loop-item.item-index c.item-item.result c.loop-item-test.true c.item-item.is c.make_next.ensures.same (rw c.shard-shard.ensures at c.in_ok-make_next.ensures.there) c.loop-item.invariant.there;
  last = c.in_ok-make_next.ensures.there;
}

pub returns-clause-there : goal.returns-clause-there
returns-clause-there c =
    let all = take_all c.loop-item.item-index c.args.items.now c.loop-item-test.false in
    subst (All (HasCount c.loop-item.counts)) all c.loop-item.invariant.there
