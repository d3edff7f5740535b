use Rattle.std.proofs.Common.{◌≡◌, true}
use Rattle.std.specs.List.{concat}
use Rattle.std.specs.Prelude.{is_some}
use Rattle.esm_ddb.specs.States.{state_of}
use Rattle.esm_ddb.proofs.Steps.{bad_more}
use Rattle.esm_ddb.proofs.parallel.read_parallel.Goals as goal

pub returns-then-is_some-clause-read : goal.returns-then-is_some-clause-read
returns-then-is_some-clause-read g c = λ bytes before read.
    let some : is_some c.args.reading.now.bad ≡ true = cc in
    bad_more bytes c.args.piece.now before (concat c.args.pieces.now.items) (state_of c.args.reading.now) read some
