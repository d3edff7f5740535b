use Rattle.std.proofs.Common.{◌≡◌, ◌*◌, ◌+◌, ◌-◌, take, get_or, arith}
use Rattle.std.specs.Str.Parse.{digits_value}
use Rattle.std.proofs.lemmas.Int.Digits.{digits_value_more}
use Rattle.esm_record.proofs.Digits.{a_digit, digit_at}
use Rattle.esm_record.proofs.UsualDigits.{before_last}
use Rattle.esm_record.proofs.decimal.number_of.Goals as goal

pub overflow_mul-number : goal.overflow_mul-number
overflow_mul-number c =
    let below = before_last c.args.digits.now c.loop-digit.digit-index c.requires.digits (omega arith) in
    let known : c.loop-digit.number ≡ digits_value 10 (take c.loop-digit.digit-index c.args.digits.now) = c.loop-digit.invariant in
    omega arith

pub overflow_add-number : goal.overflow_add-number
overflow_add-number c =
    let below = before_last c.args.digits.now c.loop-digit.digit-index c.requires.digits (omega arith) in
    let known : c.loop-digit.number ≡ digits_value 10 (take c.loop-digit.digit-index c.args.digits.now) = c.loop-digit.invariant in
    let digit = a_digit (get_or c.args.digits.now c.loop-digit.digit-index 0) (digit_at c.args.digits.now c.loop-digit.digit-index c.requires.digits c.loop-digit-test.true) in
    omega arith

pub loop-digit-preserved : goal.loop-digit-preserved
loop-digit-preserved c =
    let known : c.loop-digit.number ≡ digits_value 10 (take c.loop-digit.digit-index c.args.digits.now) = c.loop-digit.invariant in
    let digit = a_digit (get_or c.args.digits.now c.loop-digit.digit-index 0) (digit_at c.args.digits.now c.loop-digit.digit-index c.requires.digits c.loop-digit-test.true) in
    let more = digits_value_more 10 c.args.digits.now c.loop-digit.digit-index c.loop-digit-test.true in
    let step : c.loop-digit.number * 10 + (get_or c.args.digits.now c.loop-digit.digit-index 0 - 48) ≡ digits_value 10 (take (c.loop-digit.digit-index + 1) c.args.digits.now) = omega arith in
    step
