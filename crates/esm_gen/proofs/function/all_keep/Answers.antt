use Rattle.std.proofs.Common.{subst}
use Rattle.std.proofs.lemmas.List.{take_all}
use Rattle.std.proofs.lemmas.List.Elements.{All-more}
use Rattle.std.specs.List.{All}
use Rattle.esm_gen.specs.Function.{IsFunction}
use Rattle.esm_gen.proofs.function.all_keep.Goals as goal

pub loop-caller-preserved : goal.loop-caller-preserved
loop-caller-preserved c =
    All-more IsFunction c.args.callers.now c.loop-caller.caller-index c.caller-item.result c.loop-caller-test.true c.loop-caller.invariant
    (subst IsFunction c.caller-item.is c.keeps.ensures)

pub returns : goal.returns
returns c =
    let all = take_all c.loop-caller.caller-index c.args.callers.now c.loop-caller-test.false in
    subst (All IsFunction) all c.loop-caller.invariant
