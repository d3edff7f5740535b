use Rattle.std.proofs.Common.{[], sym, subst, append-nil}
use Rattle.std.specs.List.{All}
use Rattle.std.proofs.lemmas.List.Elements.{All-take, All-drop}
use Rattle.esm_model.specs.Items.{IsValidItem}
use Rattle.esm_pool.specs.Readings.{IsStopFor}
use Rattle.esm_pool.proofs.Arriving.{split_parts, fits, handing_on, handing_some, handing_stop, handing_stop_if, err_as, some_none}
use Rattle.esm_pool.proofs.coming.hand_on.Goals as goal

pub returns-in_default-clause-some : goal.returns-in_default-clause-some
returns-in_default-clause-some g c = some_none (g.B.Pooled.items c.args.seat.now.seen) (g.B.Pooled.items c.loop-rest.seat.seen) c.args.items.items c.loop-rest.rest.items c.loop-rest.invariant.4

pub note-requires-clause-valid : goal.note-requires-clause-valid
note-requires-clause-valid g c = subst (All (IsValidItem (g.B.Pooled.kind c.args.turn.now.setup))) (sym c.in-Ok.ensures.items) (All-take (IsValidItem (g.B.Pooled.kind c.args.turn.now.setup)) 10000 c.loop-rest.rest.items c.loop-rest.invariant.3)

pub note-requires-clause-within : goal.note-requires-clause-within
note-requires-clause-within g c = fits (g.B.Pooled.items c.args.seat.now.seen) (g.B.Pooled.items c.loop-rest.seat.seen) c.args.items.items c.loop-rest.rest.items c.split_off.new.self.items c.in-Ok.later.items c.loop-rest.invariant.4
    (split_parts 10000 c.loop-rest.rest.items c.split_off.new.self.items c.in-Ok.later.items c.in-Ok.ensures.items c.in-Ok.ensures.tail) c.requires.within

pub returns-in_err-note-clause-some : goal.returns-in_err-note-clause-some
returns-in_err-note-clause-some g c = handing_some (g.B.Pooled.items c.args.seat.now.seen) (g.B.Pooled.items c.loop-rest.seat.seen) c.args.items.items c.loop-rest.rest.items c.loop-rest.invariant.4 (g.B.Pooled.items c.note.new.seat.seen) c.split_off.new.self.items c.in-Ok.later.items
    (split_parts 10000 c.loop-rest.rest.items c.split_off.new.self.items c.in-Ok.later.items c.in-Ok.ensures.items c.in-Ok.ensures.tail) c.note.ensures.some

pub returns-in_err-note-clause-stop : goal.returns-in_err-note-clause-stop
returns-in_err-note-clause-stop g c = err_as c.from_residual.result c.in_err-note.field-0.0 (IsStopFor g.B.Pooled.items g.B.Pooled.differs c.args.turn.now.setup c.args.seat.now.seen c.args.items.items c.note.new.seat.seen c.note.new.seat.mark c.note.new.seat.change) c.from_residual.ensures.1
    (handing_stop g.B.Pooled.items g.B.Pooled.differs c.args.turn.now.setup c.args.seat.now.seen c.loop-rest.seat.seen c.note.new.seat.seen c.args.items.items c.loop-rest.rest.items c.split_off.new.self.items c.in-Ok.later.items c.note.new.seat.mark c.note.new.seat.change c.loop-rest.invariant.4
    (split_parts 10000 c.loop-rest.rest.items c.split_off.new.self.items c.in-Ok.later.items c.in-Ok.ensures.items c.in-Ok.ensures.tail) c.in_err-note.field-0.0 c.in_err-note.ensures.stop)

pub loop-rest-preserved : goal.loop-rest-preserved
loop-rest-preserved g c = (
  c.note.ensures.seated,
  c.note.ensures.going,
  c.in_ok-note.ensures.unchanged,
  subst (All (IsValidItem (g.B.Pooled.kind c.args.turn.now.setup))) (sym c.in-Ok.ensures.tail) (All-drop (IsValidItem (g.B.Pooled.kind c.args.turn.now.setup)) 10000 c.loop-rest.rest.items c.loop-rest.invariant.3),
  handing_on (g.B.Pooled.items c.args.seat.now.seen) (g.B.Pooled.items c.loop-rest.seat.seen) c.args.items.items c.loop-rest.rest.items c.loop-rest.invariant.4 (g.B.Pooled.items c.note.new.seat.seen) c.split_off.new.self.items c.in-Ok.later.items
      (split_parts 10000 c.loop-rest.rest.items c.split_off.new.self.items c.in-Ok.later.items c.in-Ok.ensures.items c.in-Ok.ensures.tail) c.in_ok-note.ensures.came,
)

pub returns-clause-some : goal.returns-clause-some
returns-clause-some g c = handing_some (g.B.Pooled.items c.args.seat.now.seen) (g.B.Pooled.items c.loop-rest.seat.seen) c.args.items.items c.loop-rest.rest.items c.loop-rest.invariant.4 (g.B.Pooled.items c.note-2.new.seat.seen) c.loop-rest.rest.items []
    (sym (append-nil c.loop-rest.rest.items)) c.note-2.ensures.some

pub returns-clause-stop : goal.returns-clause-stop
returns-clause-stop g c = handing_stop_if g.B.Pooled.items g.B.Pooled.differs c.args.turn.now.setup c.args.seat.now.seen c.loop-rest.seat.seen c.note-2.new.seat.seen c.args.items.items c.loop-rest.rest.items c.loop-rest.rest.items [] c.note-2.new.seat.mark c.note-2.new.seat.change c.loop-rest.invariant.4
    (sym (append-nil c.loop-rest.rest.items)) c.note-2.result c.note-2.ensures.stop
