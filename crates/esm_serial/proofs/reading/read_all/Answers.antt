use Rattle.std.proofs.Common.{◌∙◌, ap, rules}
use Rattle.esm_input.specs.Reading.{handed, InputState}
use Rattle.esm_serial.specs.Readings.{IsStopOf}
use Rattle.esm_serial.specs.declared.reading.Stop.TheVariants as stop
use Rattle.esm_serial.proofs.Handing.{err_as}
use Rattle.esm_serial.proofs.Pieces.{come_some, come_stop, next_fits, cut_coming, cut_reading}
use Rattle.esm_serial.proofs.reading.read_all.Goals as goal

pub returns-in_err-items-clause-stop : goal.returns-in_err-items-clause-stop
returns-in_err-items-clause-stop g c = err_as c.from_residual.result stop.OutOfMemory (IsStopOf g.B.Serial g.C.Clock.gave g.S.Source.left c.args.book.now c.read.new.self c.loop.book) c.from_residual.ensures.1
    (c.loop.invariant.3, cut_reading g.S.Source.faults g.S.Source.left c.loop.input c.read.new.self (g.B.Serial.items c.loop.book) (c.stands.ensures c.loop.invariant.6) c.loop.invariant.6 (search rules) c.read.ensures.kept c.read.ensures.found c.read.ensures.taken c.loop.invariant.5)

pub hand_on-requires-clause-within : goal.hand_on-requires-clause-within
hand_on-requires-clause-within g c = next_fits c.handed_is_within.ensures (g.B.Serial.items c.loop.book) c.loop.input c.read.new.self c.in_ok-items.items.items c.in_ok-items.ensures.handed c.loop.invariant.5

pub returns-in_err-hand_on-clause-stop : goal.returns-in_err-hand_on-clause-stop
returns-in_err-hand_on-clause-stop g c =
    let some = come_some (g.B.Serial.items c.loop.book) (g.B.Serial.items c.hand_on.new.book) (handed c.loop.input) c.in_ok-items.items.items (handed c.read.new.self) c.in_ok-items.ensures.handed c.loop.invariant.5 c.hand_on.ensures.some in
    let short = cut_coming g.S.Source.faults g.S.Source.left c.read.new.self (g.B.Serial.items c.hand_on.new.book) (c.stands-in-loop.ensures (ap (λ (i : InputState _). i.failed) c.in_ok-items.ensures.rest ∙ c.loop.invariant.6)) some in
    err_as c.from_residual-in_err-hand_on.result c.in_err-hand_on.field-0.0 (IsStopOf g.B.Serial g.C.Clock.gave g.S.Source.left c.args.book.now c.read.new.self c.hand_on.new.book) c.from_residual-in_err-hand_on.ensures.1
    (come_stop g.B.Serial g.C.Clock.gave g.S.Source.left c.args.book.now c.loop.book c.hand_on.new.book c.loop.input c.read.new.self c.in_ok-items.items.items c.in_err-hand_on.field-0.0 c.loop.invariant.2 c.in_ok-items.ensures.handed c.loop.invariant.5 c.hand_on.ensures.some short c.in_err-hand_on.ensures.stop)
