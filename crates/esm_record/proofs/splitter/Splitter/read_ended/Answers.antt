use Rattle.std.proofs.Common.{lit≤}
use Rattle.esm_record.proofs.Steps.{on_ok, goes_start}
use Rattle.esm_record.proofs.Blocks.{goes_rest}
use Rattle.esm_record.proofs.splitter.Splitter.read_ended.Goals as goal

pub returns-clause-read : goal.returns-clause-read
returns-clause-read g c =
    let start = goes_start c.args.piece.now c.args.items.now.items c.args.self.now c.requires.going (let nothing = c.requires.fresh in rw nothing (lit≤ tt)) in
    on_ok c.read_more.result (λ more.
    goes_rest c.args.piece.now c.args.piece.now c.ended_lines.result.0.now c.ended_lines.result.1.now
    c.args.items.now.items c.args.items.now.items c.read_lines.new.items.items c.read_more.new.items.items
    c.args.self.now c.args.self.now c.read_lines.new.self c.read_more.new.self
    start c.ended_lines.ensures.parts c.in_ok-read_lines.ensures.read more) c.read_more.ensures.read
