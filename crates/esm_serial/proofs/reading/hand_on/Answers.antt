use Rattle.std.proofs.Common.{[], sym, subst, append-nil}
use Rattle.std.specs.List.{All}
use Rattle.std.proofs.lemmas.List.Elements.{All-take, All-drop}
use Rattle.esm_model.specs.Items.{IsValidItem}
use Rattle.esm_serial.specs.Readings.{IsStopFor}
use Rattle.esm_serial.proofs.Bringing.{brings_none, brings_then}
use Rattle.esm_serial.proofs.Handing.{handing_none, split_parts, fits, handing_on, handing_some, handing_all, handing_stop, handing_stop_if, err_as, some_none, on_ok}
use Rattle.esm_serial.proofs.reading.hand_on.Goals as goal

pub loop-rest-init : goal.loop-rest-init
loop-rest-init g c = (
  brings_none g.B.Serial g.C.Clock.gave c.args.book.now c.requires.going,
  c.requires.unchanged,
  c.requires.valid,
  handing_none (g.B.Serial.items c.args.book.now) c.args.items.items,
)

pub returns-in_default-clause-some : goal.returns-in_default-clause-some
returns-in_default-clause-some g c = some_none (g.B.Serial.items c.args.book.now) (g.B.Serial.items c.loop-rest.book) c.args.items.items c.loop-rest.rest.items c.loop-rest.invariant.3

pub note-requires-clause-valid : goal.note-requires-clause-valid
note-requires-clause-valid g c =
    subst (λ k. All (IsValidItem k) c.split_off.new.self.items) (sym c.loop-rest.invariant.0.kind)
    (subst (All (IsValidItem (g.B.Serial.kind c.args.book.now))) (sym c.in-Ok.ensures.items) (All-take (IsValidItem (g.B.Serial.kind c.args.book.now)) 10000 c.loop-rest.rest.items c.loop-rest.invariant.2))

pub note-requires-clause-within : goal.note-requires-clause-within
note-requires-clause-within g c = fits (g.B.Serial.items c.args.book.now) (g.B.Serial.items c.loop-rest.book) c.args.items.items c.loop-rest.rest.items c.loop-rest.invariant.3
    (g.B.Serial.items c.loop-rest.book) c.split_off.new.self.items c.in-Ok.later.items
    (split_parts 10000 c.loop-rest.rest.items c.split_off.new.self.items c.in-Ok.later.items c.in-Ok.ensures.items c.in-Ok.ensures.tail) c.requires.within

pub returns-in_err-note-clause-brings : goal.returns-in_err-note-clause-brings
returns-in_err-note-clause-brings g c = brings_then g.B.Serial g.C.Clock.gave c.args.book.now c.loop-rest.book c.note.new.book c.loop-rest.invariant.0 c.note.ensures.brings

pub returns-in_err-note-clause-some : goal.returns-in_err-note-clause-some
returns-in_err-note-clause-some g c = handing_some (g.B.Serial.items c.args.book.now) (g.B.Serial.items c.loop-rest.book) c.args.items.items c.loop-rest.rest.items c.loop-rest.invariant.3 (g.B.Serial.items c.note.new.book) c.split_off.new.self.items c.in-Ok.later.items
    (split_parts 10000 c.loop-rest.rest.items c.split_off.new.self.items c.in-Ok.later.items c.in-Ok.ensures.items c.in-Ok.ensures.tail) c.note.ensures.some

pub returns-in_err-note-clause-stop : goal.returns-in_err-note-clause-stop
returns-in_err-note-clause-stop g c = err_as c.from_residual.result c.in_err-note.field-0.0 (IsStopFor g.B.Serial g.C.Clock.gave c.args.book.now c.args.items.items c.note.new.book) c.from_residual.ensures.1
    (handing_stop g.B.Serial g.C.Clock.gave c.args.book.now c.loop-rest.book c.note.new.book c.loop-rest.invariant.0 c.args.items.items c.loop-rest.rest.items c.split_off.new.self.items c.in-Ok.later.items c.loop-rest.invariant.3
    (split_parts 10000 c.loop-rest.rest.items c.split_off.new.self.items c.in-Ok.later.items c.in-Ok.ensures.items c.in-Ok.ensures.tail) c.in_err-note.field-0.0 c.in_err-note.ensures.stop)

pub loop-rest-preserved : goal.loop-rest-preserved
loop-rest-preserved g c = (
  brings_then g.B.Serial g.C.Clock.gave c.args.book.now c.loop-rest.book c.note.new.book c.loop-rest.invariant.0 c.note.ensures.brings,
  c.in_ok-note.ensures.unchanged,
  subst (All (IsValidItem (g.B.Serial.kind c.args.book.now))) (sym c.in-Ok.ensures.tail) (All-drop (IsValidItem (g.B.Serial.kind c.args.book.now)) 10000 c.loop-rest.rest.items c.loop-rest.invariant.2),
  handing_on (g.B.Serial.items c.args.book.now) (g.B.Serial.items c.loop-rest.book) c.args.items.items c.loop-rest.rest.items c.loop-rest.invariant.3 (g.B.Serial.items c.note.new.book) c.split_off.new.self.items c.in-Ok.later.items
      (split_parts 10000 c.loop-rest.rest.items c.split_off.new.self.items c.in-Ok.later.items c.in-Ok.ensures.items c.in-Ok.ensures.tail) c.in_ok-note.ensures.came,
)

pub note-requires-2-clause-valid : goal.note-requires-2-clause-valid
note-requires-2-clause-valid g c = subst (λ k. All (IsValidItem k) c.loop-rest.rest.items) (sym c.loop-rest.invariant.0.kind) c.loop-rest.invariant.2

pub note-requires-2-clause-within : goal.note-requires-2-clause-within
note-requires-2-clause-within g c = fits (g.B.Serial.items c.args.book.now) (g.B.Serial.items c.loop-rest.book) c.args.items.items c.loop-rest.rest.items c.loop-rest.invariant.3
    (g.B.Serial.items c.loop-rest.book) c.loop-rest.rest.items [] (sym (append-nil c.loop-rest.rest.items)) c.requires.within

pub returns-clause-brings : goal.returns-clause-brings
returns-clause-brings g c = brings_then g.B.Serial g.C.Clock.gave c.args.book.now c.loop-rest.book c.note-2.new.book c.loop-rest.invariant.0 c.note-2.ensures.brings

pub returns-clause-came : goal.returns-clause-came
returns-clause-came g c =
    on_ok c.note-2.result _ _ (λ came. handing_all (g.B.Serial.items c.args.book.now) (g.B.Serial.items c.note-2.new.book) c.args.items.items
    (handing_on (g.B.Serial.items c.args.book.now) (g.B.Serial.items c.loop-rest.book) c.args.items.items c.loop-rest.rest.items c.loop-rest.invariant.3 (g.B.Serial.items c.note-2.new.book) c.loop-rest.rest.items []
    (sym (append-nil c.loop-rest.rest.items)) came)) c.note-2.ensures.came

pub returns-clause-some : goal.returns-clause-some
returns-clause-some g c = handing_some (g.B.Serial.items c.args.book.now) (g.B.Serial.items c.loop-rest.book) c.args.items.items c.loop-rest.rest.items c.loop-rest.invariant.3 (g.B.Serial.items c.note-2.new.book) c.loop-rest.rest.items []
    (sym (append-nil c.loop-rest.rest.items)) c.note-2.ensures.some

pub returns-clause-stop : goal.returns-clause-stop
returns-clause-stop g c = handing_stop_if g.B.Serial g.C.Clock.gave c.args.book.now c.loop-rest.book c.note-2.new.book c.loop-rest.invariant.0 c.args.items.items c.loop-rest.rest.items c.loop-rest.rest.items [] c.loop-rest.invariant.3
    (sym (append-nil c.loop-rest.rest.items)) c.note-2.result c.note-2.ensures.stop
