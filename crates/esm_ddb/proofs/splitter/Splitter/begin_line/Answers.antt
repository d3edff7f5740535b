use Rattle.std.proofs.Common.{◌≡◌, ◌++◌, ◌≤◌, ◌<◌, ◌+◌, length, length-append, refl, ap, arith}
use Rattle.std.proofs.lemmas.Grind.{common_steps}
use Rattle.esm_ddb.specs.States.{state_of}
use Rattle.esm_ddb.proofs.Steps.{on_ok, long_read, more_read}
use Rattle.esm_ddb.proofs.splitter.Splitter.begin_line.Goals as goal

pub returns-then-more-saturating_sub-clause-read : goal.returns-then-more-saturating_sub-clause-read
returns-then-more-saturating_sub-clause-read c =
    let long : 8388608 < length c.args.self.now.begun.items + length c.args.more.now = omega (arith, c.args.self.now.begun.ok.0) in
    on_ok c.refuse_long.result (λ bad bytes before given read. long_read bytes c.args.more.now before given (state_of c.args.self.now) (state_of c.refuse_long.new.self) read c.requires.going c.requires.in_line c.refuse_long.ensures.source bad long) c.refuse_long.ensures.bad

pub returns-clause-read : goal.returns-clause-read
returns-clause-read c = λ bytes before given read.
    let grown : c.extend_from_slice.new.self.items ≡ c.args.self.now.begun.items ++ c.args.more.now = grind (arith, common_steps) in
    let kept : length c.args.self.now.begun.items ≤ 8388608 = read.short c.requires.going in
    let short : length c.extend_from_slice.new.self.items ≤ 8388608 = omega (arith, kept, ap length grown, length-append c.args.self.now.begun.items c.args.more.now, c.args.self.now.begun.ok.0) in
    more_read bytes c.args.more.now before given (state_of c.args.self.now) (state_of (record c.args.self.now { begun = c.extend_from_slice.new.self })) read c.requires.going c.requires.in_line refl refl refl grown short
