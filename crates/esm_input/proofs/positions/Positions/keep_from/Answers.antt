use Rattle.esm_input.proofs.Beginning.{keeping_more}
use Rattle.esm_input.proofs.positions.Positions.keep_from.Goals as goal

pub loop-item-preserved : goal.loop-item-preserved
loop-item-preserved c =
    keeping_more c.args.moment c.args.self.now.begun.items c.loop-item.self.begun.items c.keep_one.new.self.begun.items c.args.items.items c.loop-item.kept.items c.keep_one.new.kept.items c.loop-item.rest.items c.pop.new.self.items c.in-Some.item
    c.in-Some.ensures.items c.in_ok-keep_one.ensures.kept c.in_ok-keep_one.ensures.begun c.loop-item.invariant
