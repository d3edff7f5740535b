use Rattle.std.proofs.Common.{◌≡◌, true}
use Rattle.esm_ddb.specs.Tree.{is_before}
use Rattle.esm_ddb.proofs.OwnItems.{leads_first, leads_last, leads_next, left_smaller}
use Rattle.esm_ddb.proofs.own_item.after_attributes.Goals as goal

pub loop-next-init : goal.loop-next-init
loop-next-init c = leads_first c.args.text.now c.in_ok-first.first.now c.in_ok-first.behind_first.now c.in_ok-first.ensures

pub loop-next-preserved : goal.loop-next-preserved
loop-next-preserved c =
    let less : is_before c.loop-next.before.now c.in_ok-name.name.now ≡ true = cc in
    leads_next c.args.text.now c.loop-next.before.now c.loop-next.left.now c.in-Some.next.now c.in_ok-name.name.now c.in_ok-name.rest.now c.loop-next.invariant c.in-Some.ensures c.in_ok-name.ensures less

pub loop-next-smaller : goal.loop-next-smaller
loop-next-smaller c = left_smaller c.loop-next.left.now c.in-Some.next.now c.in_ok-name.name.now c.in_ok-name.rest.now c.in-Some.ensures c.in_ok-name.ensures

pub returns : goal.returns
returns c = leads_last c.args.text.now c.loop-next.before.now c.loop-next.left.now c.after_part-2.result c.loop-next.invariant c.after_part-2.ensures
