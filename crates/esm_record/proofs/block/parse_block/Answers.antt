use Rattle.std.proofs.Common.{rules, ◌≡◌, List, ◌++◌, ap, ◌∙◌, arith}
use Rattle.std.proofs.lemmas.Grind.{common_steps}
use Rattle.esm_record.specs.Parsing.{parsed_lines}
use Rattle.esm_record.specs.LineBlocks.{NoLineFeed}
use Rattle.esm_record.proofs.Blocks.{Said, chunk_parsed, all_parsed}
use Rattle.esm_record.proofs.block.parse_block.Goals as goal

pub loop-chunk-preserved : goal.loop-chunk-preserved
loop-chunk-preserved c =
    let all : List Said = parsed_lines c.args.kind c.args.block.now in
    let appended : c.append.new.self.items ≡ c.loop-chunk.parsed.items ++ c.in_ok-said.said.items = c.in_ok-append.ensures.items in
    ap (λ (done : List Said). done ++ parsed_lines c.args.kind c.in-Some.after.now) appended
    ∙ chunk_parsed c.args.kind c.loop-chunk.parsed.items all c.in_ok-said.said.items c.loop-chunk.rest.now c.in-Some.chunk.now c.in-Some.after.now c.loop-chunk.invariant c.in-Some.ensures.parts c.in-Some.ensures.whole c.in_ok-said.ensures

pub returns : goal.returns
returns c =
    let none : NoLineFeed c.loop-chunk.rest.now = first_of (search rules, grind (arith, common_steps)) in
    all_parsed c.args.kind c.loop-chunk.parsed.items (parsed_lines c.args.kind c.args.block.now) c.loop-chunk.rest.now c.loop-chunk.invariant none
