use Rattle.std.proofs.Common.{◌≡◌, true, false, sym, subst}
use Rattle.std.specs.Prelude.{is_some}
use Rattle.esm_record.specs.Input.{Input, input_so_far}
use Rattle.esm_record.specs.Splitting.{Stands}
use Rattle.esm_record.proofs.Steps.{on_ok, bad_end, all_read}
use Rattle.esm_record.proofs.splitter.Splitter.read_end.Goals as goal

pub returns-then-is_some-clause-read : goal.returns-then-is_some-clause-read
returns-then-is_some-clause-read c = λ bytes before read.
    let some : is_some c.args.self.now.bad ≡ true = cc in
    bad_end bytes before c.args.items.now.items c.args.self.now read some

pub returns-clause-read : goal.returns-clause-read
returns-clause-read c =
    let none : is_some c.args.self.now.bad ≡ false = cc in
    on_ok c.end_line.result (λ step bytes before read.
    let P : Input → Type 0 = λ i. Stands i before c.end_line.new.items.items c.end_line.new.self in
    subst P (sym (all_read bytes before c.args.items.now.items c.args.self.now read none)) (step (input_so_far c.args.self.now.kind bytes) before read.stands)) c.end_line.ensures.stands
