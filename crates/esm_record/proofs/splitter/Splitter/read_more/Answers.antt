use Rattle.std.proofs.Common.{◌≡◌, true}
use Rattle.std.specs.Prelude.{is_some}
use Rattle.esm_record.proofs.Steps.{bad_more}
use Rattle.esm_record.proofs.splitter.Splitter.read_more.Goals as goal

pub returns-then-is_some-clause-read : goal.returns-then-is_some-clause-read
returns-then-is_some-clause-read c = λ bytes before read.
    let some : is_some c.args.self.now.bad ≡ true = cc in
    bad_more bytes c.args.piece.now before c.args.items.now.items c.args.self.now read some
