use Rattle.std.proofs.Common.{ℕ, List, ap, ◌∙◌}
use Rattle.esm_record.specs.Input.{lines_of, begun}
use Rattle.esm_record.proofs.FirstLine.{has_none}
use Rattle.esm_record.proofs.Blocks.{whole_at, whole_near}
use Rattle.esm_record.proofs.block.next_chunk.Goals as goal

pub returns-in-Some-clause-whole : goal.returns-in-Some-clause-whole
returns-in-Some-clause-whole c =
    ap (λ (l : List ℕ). begun (lines_of l)) c.split_at.ensures.front ∙ whole_near c.args.bytes.now c.min.result c.in-Some.at c.in-Some.ensures.0.high c.in-Some.ensures.1

pub returns-in-Some-memchr-clause-whole : goal.returns-in-Some-memchr-clause-whole
returns-in-Some-memchr-clause-whole c =
    ap (λ (l : List ℕ). begun (lines_of l)) c.split_at-in-Some-memchr.ensures.front ∙ whole_at c.args.bytes.now c.in-Some-memchr.at c.in-Some-memchr.ensures.0.high c.in-Some-memchr.ensures.1

pub returns-in-None-clause-none : goal.returns-in-None-clause-none
returns-in-None-clause-none c = has_none c.args.bytes.now c.in-None.ensures
