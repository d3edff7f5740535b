use Rattle.std.proofs.Common.{◌≡◌, get_or, sym, arith}
use Rattle.std.specs.Char.{is_ascii_digit, digit_value}
use Rattle.std.proofs.lemmas.Bool.Decides.{nat_tests}
use Rattle.std.proofs.lemmas.Int.Digits.{digits_value_more}
use Rattle.http1.proofs.TextLemmas.{list_all_more}
use Rattle.esm_api.proofs.length.number.Goals as goal

pub loop-digit-preserved : goal.loop-digit-preserved
loop-digit-preserved c =
    let text = c.args.text.now in
    let digit : digit_value (get_or text c.loop-digit.digit-index 0) ≡ c.from.result = grind (arith, nat_tests) in
    record {
      value = omega (arith, digits_value_more 10 text c.loop-digit.digit-index c.loop-digit-test.true, digit, c.min-count.ensures, c.loop-digit.invariant.value);
      digits = list_all_more is_ascii_digit text c.loop-digit.digit-index 0 c.loop-digit-test.true c.loop-digit.invariant.digits (sym c.if-not-is_ascii_digit.ensures.value);
    }
