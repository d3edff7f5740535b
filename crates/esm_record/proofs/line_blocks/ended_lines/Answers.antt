use Rattle.std.proofs.Common.{ℕ, List, sym, ap, subst, ◌∙◌}
use Rattle.esm_record.specs.Input.{lines_of, begun}
use Rattle.esm_record.specs.LineBlocks.{NoLineFeed}
use Rattle.esm_record.proofs.FirstLine.{has_none}
use Rattle.esm_record.proofs.Blocks.{whole_at, none_after}
use Rattle.esm_record.proofs.line_blocks.ended_lines.Goals as goal

pub returns-in-Some-clause-whole : goal.returns-in-Some-clause-whole
returns-in-Some-clause-whole c =
    ap (λ (l : List ℕ). begun (lines_of l)) c.split_at.ensures.front ∙ whole_at c.args.bytes.now c.in-Some.at c.in-Some.ensures.0.high c.in-Some.ensures.1

pub returns-in-Some-clause-rest : goal.returns-in-Some-clause-rest
returns-in-Some-clause-rest c = subst NoLineFeed (sym c.split_at.ensures.back) (none_after c.args.bytes.now c.in-Some.at c.in-Some.ensures.0)

pub returns-in-None-clause-rest : goal.returns-in-None-clause-rest
returns-in-None-clause-rest c = subst NoLineFeed (sym c.split_at-in-None.ensures.back) (has_none c.args.bytes.now c.in-None.ensures)
