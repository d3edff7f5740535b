use Rattle.std.proofs.Common.{List, ap, subst, ◌∙◌}
use Rattle.std.specs.Prelude.{fold}
use Rattle.esm_record.specs.Input.{input_so_far}
use Rattle.esm_record.specs.Parsing.{add_parsed}
use Rattle.esm_record.specs.Splitting.{Stands}
use Rattle.esm_record.proofs.Blocks.{Said, block_read, both_ok}
use Rattle.esm_record.proofs.splitter.Splitter.read_lines.Goals as goal

pub returns-clause-read : goal.returns-clause-read
returns-clause-read g c = both_ok c.take_lines.result (λ step same bytes before read.
    let P : List Said → Type 0 = λ lines. Stands (fold add_parsed (input_so_far c.args.self.now.kind bytes) lines) before c.take_lines.new.items.items c.take_lines.new.self in
    let stands = subst P c.in_ok-parsed.ensures (step (input_so_far c.args.self.now.kind bytes) before read.stands) in
    block_read bytes c.args.lines.now before c.args.items.now.items c.take_lines.new.items.items c.args.self.now c.take_lines.new.self read c.requires.going c.requires.fresh c.requires.whole c.take_lines.ensures.kind (ap (λ b. b.items) same ∙ c.requires.fresh) stands) c.take_lines.ensures.stands c.take_lines.ensures.begun
