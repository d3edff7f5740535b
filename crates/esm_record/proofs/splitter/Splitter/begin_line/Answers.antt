use Rattle.std.proofs.Common.{◌≡◌, ◌++◌, ◌≤◌, ◌<◌, ◌+◌, length, length-append, refl, ap, arith}
use Rattle.std.proofs.lemmas.Grind.{common_steps}
use Rattle.esm_record.proofs.Steps.{on_ok, long_read, more_read}
use Rattle.esm_record.proofs.splitter.Splitter.begin_line.Goals as goal

pub returns-then-more-len-clause-read : goal.returns-then-more-len-clause-read
returns-then-more-len-clause-read c =
    let long : 8388608 < length c.args.self.now.begun.items + length c.args.more.now = omega (arith, c.args.self.now.begun.ok.0) in
    on_ok c.refuse_long.result (λ bad bytes before items read. long_read bytes c.args.more.now before items c.args.self.now c.refuse_long.new.self read c.requires.going c.requires.in_line c.refuse_long.ensures.kind bad long) c.refuse_long.ensures.bad

pub returns-clause-read : goal.returns-clause-read
returns-clause-read c = λ bytes before items read.
    let grown : c.extend_from_slice.new.self.items ≡ c.args.self.now.begun.items ++ c.args.more.now = grind (arith, common_steps) in
    let short : length c.extend_from_slice.new.self.items ≤ 8388608 = omega (arith, ap length grown, length-append c.args.self.now.begun.items c.args.more.now, c.args.self.now.begun.ok.0) in
    more_read bytes c.args.more.now before items c.args.self.now (record c.args.self.now { begun = c.extend_from_slice.new.self }) read c.requires.going c.requires.in_line refl refl refl refl grown short
