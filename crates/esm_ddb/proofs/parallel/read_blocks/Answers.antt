use Rattle.std.proofs.Common.{◌≡◌, List, ℕ, true, false}
use Rattle.std.specs.List.{concat}
use Rattle.std.specs.Prelude.{is_some}
use Rattle.esm_ddb.specs.States.{state_of}
use Rattle.esm_ddb.proofs.Blocks.{goes_tail}
use Rattle.esm_ddb.proofs.Steps.{on_ok, goes_start, goes_line, goes_bad}
use Rattle.esm_ddb.proofs.parallel.read_blocks.Goals as goal

pub returns-then-is_some-clause-read : goal.returns-then-is_some-clause-read
returns-then-is_some-clause-read g c =
    let some : is_some c.end_begun.new.reading.bad ≡ true = cc in
    let given : List ℕ = concat c.args.pieces.now.items in
    let start = goes_start c.args.piece.now given (state_of c.args.reading.now) c.requires.going in
    goes_bad c.args.piece.now c.args.piece.now c.in-Some.line.now c.in-Some.after.now given given (concat c.end_begun.new.pieces.items)
    (state_of c.args.reading.now) (state_of c.args.reading.now) (state_of c.end_begun.new.reading)
    start c.in-Some.ensures.some c.in_ok-end_begun.ensures.stands c.in_ok-end_begun.ensures.ended c.in_ok-end_begun.ensures.source some

pub returns-clause-read : goal.returns-clause-read
returns-clause-read g c =
    let none : is_some c.end_begun.new.reading.bad ≡ false = cc in
    let given : List ℕ = concat c.args.pieces.now.items in
    let start = goes_start c.args.piece.now given (state_of c.args.reading.now) c.requires.going in
    let line = goes_line c.args.piece.now c.args.piece.now c.in-Some.line.now c.in-Some.after.now given given (concat c.end_begun.new.pieces.items)
    (state_of c.args.reading.now) (state_of c.args.reading.now) (state_of c.end_begun.new.reading)
    start c.in-Some.ensures.some c.in_ok-end_begun.ensures.stands c.in_ok-end_begun.ensures.ended c.in_ok-end_begun.ensures.source none in
    on_ok c.read_ended-2.result (λ more.
    goes_tail c.args.piece.now c.in-Some.after.now given (concat c.end_begun.new.pieces.items) (concat c.read_ended-2.new.pieces.items)
    (state_of c.args.reading.now) (state_of c.end_begun.new.reading) (state_of c.read_ended-2.new.reading) line more) c.read_ended-2.ensures.read
