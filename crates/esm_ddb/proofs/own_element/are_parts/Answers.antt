use Rattle.std.proofs.Common.{arith}
use Rattle.esm_ddb.proofs.own_element.are_parts.Goals as goal

pub returns : goal.returns
returns c = λ is. record {
  digits = cc;
  some = grind arith;
  few = omega arith;
  no_zero = c.if-whole-eq48.false;
  fraction_digits = cc;
  three = grind arith;
}
