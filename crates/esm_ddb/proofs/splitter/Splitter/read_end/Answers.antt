use Rattle.std.proofs.Common.{◌≡◌, true, false, sym, subst}
use Rattle.std.specs.Prelude.{is_some}
use Rattle.esm_ddb.specs.States.{state_of}
use Rattle.esm_ddb.specs.Translation.{Translation, translation_so_far}
use Rattle.esm_ddb.specs.Translating.{Stands}
use Rattle.esm_ddb.proofs.Steps.{on_ok, bad_end, all_read}
use Rattle.esm_ddb.proofs.splitter.Splitter.read_end.Goals as goal

pub returns-then-is_some-clause-read : goal.returns-then-is_some-clause-read
returns-then-is_some-clause-read c = λ bytes before read.
    let some : is_some c.args.self.now.bad ≡ true = cc in
    bad_end bytes before c.args.out.now.items (state_of c.args.self.now) read some

pub returns-clause-read : goal.returns-clause-read
returns-clause-read c =
    let none : is_some c.args.self.now.bad ≡ false = cc in
    on_ok c.end_line.result (λ step bytes before read.
    let P : Translation → Type 0 = λ t. Stands t before c.end_line.new.out.items (state_of c.end_line.new.self) in
    subst P (sym (all_read bytes before c.args.out.now.items (state_of c.args.self.now) read none)) (step (translation_so_far c.args.self.now.source bytes) before read.stands)) c.end_line.ensures.stands
