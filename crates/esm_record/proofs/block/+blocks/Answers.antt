use Rattle.std.proofs.Common.{◌≡◌, List, subst}
use Rattle.std.specs.Prelude.{IfOk}
use Rattle.esm_record.specs.Parsing.{parsed_lines}
use Rattle.esm_record.proofs.Blocks.{Said, both_parsed}
use Rattle.esm_record.proofs.block.+blocks.Goals as goal

pub returns : goal.returns
returns g t c =
    let front = c.lines_up_to.result.0.now in
    let back = c.lines_up_to.result.1.now in
    let P : List Said → Type 0 = λ all. IfOk c.both.result (λ v. v.items ≡ all) in
    subst P (both_parsed c.args.kind c.args.block.now front back c.lines_up_to.ensures.parts c.lines_up_to.ensures.whole)
    (c.both.ensures (parsed_lines c.args.kind front) (parsed_lines c.args.kind back) c.join-ahead.ensures.first c.join-ahead.ensures.second)
