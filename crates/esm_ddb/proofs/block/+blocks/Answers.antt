use Rattle.std.proofs.Common.{ℕ, List, sym, subst}
use Rattle.std.specs.Prelude.{IfOk}
use Rattle.esm_ddb.specs.Blocks.{IsTurnedBlock}
use Rattle.esm_ddb.proofs.block.+blocks.Goals as goal

pub returns : goal.returns
returns g t c =
    let front = c.lines_up_to.result.0.now in
    let back = c.lines_up_to.result.1.now in
    let P : List ℕ → Type 0 = λ all. IfOk c.both.result (λ block. IsTurnedBlock c.args.source.now all block) in
    subst P (sym c.lines_up_to.ensures.parts)
    (c.both.ensures c.args.source.now front back c.lines_up_to.ensures.whole c.join-ahead.ensures.first c.join-ahead.ensures.second)
