use Rattle.std.proofs.Common.{rules, ◌≡◌, List, ◌++◌, ap, ◌∙◌, refl, subst, arith}
use Rattle.std.proofs.lemmas.Grind.{common_steps}
use Rattle.std.specs.Prelude.{IfOk}
use Rattle.esm_record.specs.Parsing.{parse_line, parsed_lines}
use Rattle.esm_record.specs.LineBlocks.{NoLineFeed}
use Rattle.esm_record.proofs.Blocks.{Said, one_parsed, all_parsed}
use Rattle.esm_record.proofs.block.parse_chunk.Goals as goal

pub loop-line-preserved : goal.loop-line-preserved
loop-line-preserved c =
    let all : List Said = parsed_lines c.args.kind c.args.chunk.now in
    ap (λ (done : List Said). done ++ parsed_lines c.args.kind c.in-Some.after.now) c.in_ok-packed-2.ensures
    ∙ one_parsed c.args.kind c.loop-line.packed all c.loop-line.rest.now c.in-Some.line.now c.in-Some.after.now (parse_line c.args.kind c.in-Some.line.now) c.loop-line.invariant c.in-Some.ensures.some refl

pub returns : goal.returns
returns c =
    let none : NoLineFeed c.loop-line.rest.now = first_of (search rules, grind (arith, common_steps)) in
    let P : List Said → Type 0 = λ all. IfOk c.into_parsed.result (λ v. v.items ≡ all) in
    subst P (all_parsed c.args.kind c.loop-line.packed (parsed_lines c.args.kind c.args.chunk.now) c.loop-line.rest.now c.loop-line.invariant none) c.into_parsed.ensures
