use Rattle.std.proofs.Common.{◌≡◌, true, false}
use Rattle.std.specs.Prelude.{is_some}
use Rattle.esm_ddb.specs.States.{state_of}
use Rattle.esm_ddb.proofs.Steps.{on_ok, goes_line, goes_bad, goes_end}
use Rattle.esm_ddb.proofs.splitter.Splitter.read_piece.Goals as goal

pub returns-then-is_some-clause-read : goal.returns-then-is_some-clause-read
returns-then-is_some-clause-read c =
    let some : is_some c.end_line.new.self.bad ≡ true = cc in
    goes_bad c.args.piece.now c.loop-line.rest.now c.in-Some.line.now c.in-Some.after.now c.args.out.now.items c.loop-line.out.items c.end_line.new.out.items (state_of c.args.self.now) (state_of c.loop-line.self) (state_of c.end_line.new.self) c.loop-line.invariant c.in-Some.ensures.some c.in_ok-end_line.ensures.stands c.in_ok-end_line.ensures.ended c.in_ok-end_line.ensures.source some

pub loop-line-preserved : goal.loop-line-preserved
loop-line-preserved c =
    let none : is_some c.end_line.new.self.bad ≡ false = cc in
    goes_line c.args.piece.now c.loop-line.rest.now c.in-Some.line.now c.in-Some.after.now c.args.out.now.items c.loop-line.out.items c.end_line.new.out.items (state_of c.args.self.now) (state_of c.loop-line.self) (state_of c.end_line.new.self) c.loop-line.invariant c.in-Some.ensures.some c.in_ok-end_line.ensures.stands c.in_ok-end_line.ensures.ended c.in_ok-end_line.ensures.source none

pub returns-clause-read : goal.returns-clause-read
returns-clause-read c = on_ok c.begin_line.result (λ more bytes before h. goes_end c.args.piece.now c.loop-line.rest.now c.args.out.now.items c.loop-line.out.items (state_of c.args.self.now) (state_of c.loop-line.self) (state_of c.begin_line.new.self) c.loop-line.invariant more bytes before h) c.begin_line.ensures.read
