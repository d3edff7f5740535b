use Rattle.std.proofs.Common.{◌∙◌, sym, rules, arith, refl}
use Rattle.esm_window.proofs.Agreeing.{state_is_scanned, read_within}
use Rattle.esm_window.proofs.States.{no_bytes, some_bytes}
use Rattle.esm_window.proofs.state.read_state.Goals as goal

pub returns-then-is_empty : goal.returns-then-is_empty
returns-then-is_empty c =
    record { read = sym (no_bytes c.args.body.now (search rules)) ∙ sym (state_is_scanned c.args.body.now); within = tt }

pub returns-in-Some-clause-read : goal.returns-in-Some-clause-read
returns-in-Some-clause-read c =
    let some = some_bytes c.args.body.now (grind (arith, c.if-is_empty.ensures)) in
    let is = c.in_ok-value.ensures in
    rw (state_is_scanned c.args.body.now, some, ← is, c.in-Some.is) c.value_state.ensures

pub returns-in-Some-clause-within : goal.returns-in-Some-clause-within
returns-in-Some-clause-within c = read_within _ c.args.body.now c.value_state.result (returns-in-Some-clause-read c)

pub returns-in-None : goal.returns-in-None
returns-in-None c =
    let some = some_bytes c.args.body.now (grind (arith, c.if-is_empty.ensures)) in
    let is = c.in_ok-value.ensures in
    record { read = rw (state_is_scanned c.args.body.now, some, ← is, c.in-None.is) refl; within = tt }
