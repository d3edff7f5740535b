use Rattle.std.proofs.Common.{◌≡◌, ◌≢◌, ◌≤◌, length, get_or, arith}
use Rattle.std.proofs.lemmas.Str.Pattern.{starts_char}
use Rattle.esm_cli.proofs.Numerals.{begins_without_plus, begins_with_zero, number_some, number_none}
use Rattle.esm_cli.proofs.number.whole_number.Goals as goal
use Rattle.esm_cli.proofs.number.whole_number.Goals.{else-word-gt1-via-then-word-gt1+else-starts_with-2, else-word-gt1-via-else-word-gt1}

pub returns-then-starts_with-clause-none : goal.returns-then-starts_with-clause-none
returns-then-starts_with-clause-none c = λ n fits spelled.
    begins_without_plus n c.args.word.now fits spelled
    ((starts_char 43 c.args.word.now _ c.starts_with.ensures.cases (omega arith) (omega arith)).0 c.if-starts_with.true)

pub returns-then-starts_with-2-clause-none : goal.returns-then-starts_with-2-clause-none
returns-then-starts_with-2-clause-none c = λ n fits spelled.
    let first = (starts_char 48 c.args.word.now _ c.starts_with-then-word-gt1.ensures.cases (omega arith) (omega arith)).0 c.if-starts_with-2.true in
    omega (arith, begins_with_zero n c.args.word.now fits spelled first)

pub returns-clause-some : goal.returns-clause-some
returns-clause-some c =
    let plus : get_or c.args.word.now 0 0 ≢ 43 = λ first.
    let is = (starts_char 43 c.args.word.now _ c.starts_with.ensures.cases (omega arith) (omega arith)).1 first in
    let not' = c.if-starts_with.false in cc in
    let lone : get_or c.args.word.now 0 0 ≡ 48 → length c.args.word.now ≤ 1 = λ first.
    elim c.else-word-gt1.branch [
      | else-word-gt1-via-then-word-gt1+else-starts_with-2 w ↦
          let is = (starts_char 48 c.args.word.now _ w.starts_with-then-word-gt1.ensures.cases (omega arith) (omega arith)).1 first in
          let not' = w.if-starts_with-2.false in absurd (cc)
      | else-word-gt1-via-else-word-gt1 w ↦ omega arith
    ] in
    number_some c.args.word.now c.parse.result c.ok.result c.parse.ensures.value.0 c.ok.ensures.value plus lone

pub returns-clause-none : goal.returns-clause-none
returns-clause-none c = number_none c.args.word.now c.parse.result c.ok.result c.parse.ensures.value.0 c.ok.ensures.value
