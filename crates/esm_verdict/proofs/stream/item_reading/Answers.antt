use Rattle.std.proofs.Common.{sym, refl, rules, arith}
use Rattle.esm_verdict.proofs.ReadingLemmas.{empty_item_reading, some_item_reading}
use Rattle.esm_verdict.proofs.stream.item_reading.Goals as goal

pub returns-then-is_empty : goal.returns-then-is_empty
returns-then-is_empty c = sym (empty_item_reading c.args.batch.now c.args.body.now (search rules))

pub returns-in-Some : goal.returns-in-Some
returns-in-Some c =
    let some = some_item_reading c.args.batch.now c.args.body.now (grind (arith, c.if-is_empty.ensures)) in
    let is = c.in_ok-value.ensures in
    rw (some, ← is, c.in-Some.is) c.value_reading.ensures

pub returns-in-None : goal.returns-in-None
returns-in-None c =
    let some = some_item_reading c.args.batch.now c.args.body.now (grind (arith, c.if-is_empty.ensures)) in
    let is = c.in_ok-value.ensures in
    rw (some, ← is, c.in-None.is) refl
