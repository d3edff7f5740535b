use Rattle.std.proofs.Common.{rules, ◌<◌, arith, append_assoc}
use Rattle.esm_model.proofs.NumberLemmas.{last_digits_more}
use Rattle.esm_event.proofs.digits.+push_digits.Goals as goal

pub returns : goal.returns
returns t c =
    let wide : 0 < c.args.width = omega arith in
    rw (last_digits_more c.args.base c.args.width c.args.number wide) (search (rules, append_assoc))
