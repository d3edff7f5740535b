use Rattle.std.proofs.Common.{◌≡◌, ◌++◌, true}
use Rattle.std.specs.List.{concat}
use Rattle.std.specs.Prelude.{is_some}
use Rattle.esm_ddb.specs.States.{state_of}
use Rattle.esm_ddb.proofs.Blocks.{bad_rest, both_read}
use Rattle.esm_ddb.proofs.Steps.{on_ok}
use Rattle.esm_ddb.proofs.parallel.read_ended.Goals as goal

pub returns-then-is_some-clause-read : goal.returns-then-is_some-clause-read
returns-then-is_some-clause-read g c = λ bytes before read.
    let some : is_some c.read_lines.new.reading.bad ≡ true = cc in
    bad_rest c.args.piece.now c.ended_lines.result.0.now c.ended_lines.result.1.now bytes before (concat c.read_lines.new.pieces.items)
    (state_of c.read_lines.new.reading) c.ended_lines.ensures.parts some (c.in_ok-read_lines.ensures.read bytes before read)

pub returns-clause-read : goal.returns-clause-read
returns-clause-read g c = on_ok c.begin_line.result (λ more bytes before read.
    both_read c.args.piece.now c.ended_lines.result.0.now c.ended_lines.result.1.now bytes before (concat c.read_lines.new.pieces.items)
    (state_of c.begin_line.new.self) c.ended_lines.ensures.parts
    (more (bytes ++ c.ended_lines.result.0.now) before (concat c.read_lines.new.pieces.items) (c.in_ok-read_lines.ensures.read bytes before read))) c.begin_line.ensures.read
