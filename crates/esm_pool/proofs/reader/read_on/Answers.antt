use Rattle.std.proofs.Common.{[], ◌∙◌, ap, refl, sym}
use Rattle.esm_model.specs.Kept.{meaning}
use Rattle.esm_turn.specs.Seats.{SeatView}
use Rattle.esm_input.specs.Reading.{handed, InputState}
use Rattle.esm_pool.specs.Readings.{IsStopOf}
use Rattle.esm_pool.specs.declared.coming.Stop.TheVariants as stop
use Rattle.esm_pool.proofs.Arriving.{err_as}
use Rattle.esm_pool.proofs.Reading.{come_none, come_more, come_some, come_as, some_of_all, asked_come, come_stop, wait_stop, untold, end_none, next_fits, cut_coming, cut_reading}
use Rattle.esm_pool.proofs.Seats.{unused}
use Rattle.esm_pool.proofs.reader.read_on.Goals as goal

pub loop-init : goal.loop-init
loop-init g c =
    let m = meaning g.B.Kept in
    let s : SeatView = c.args.seat.now in
    let others = unused m g.C.Clock.gave c.args.turn.now s c.requires.seated c.requires.unused in (
      tt,
      tt,
      c.requires.seated,
      c.stays.ensures.shut c.args.turn.now.setup [] s.seen others,
      c.requires.unchanged,
      come_none (g.B.Pooled.items s.seen) (handed c.args.input.now) (λ n. c.stays.ensures.items c.args.turn.now.setup [] s.seen others n ∙ c.begins.ensures.items n) c.requires.unread,
      c.requires.good,
      record { kind = refl; factor = refl; start = refl; found = refl },
    )

pub returns-in_err-items-clause-stop : goal.returns-in_err-items-clause-stop
returns-in_err-items-clause-stop g c = err_as c.from_residual.result stop.OutOfMemory (IsStopOf g.S.Source.left g.B.Pooled.items g.B.Pooled.differs g.B.Pooled.spent c.args.turn.now.setup c.read.new.self c.loop.seat.seen c.loop.seat.mark c.loop.seat.change) c.from_residual.ensures.1
    (c.loop.invariant.4, cut_reading g.S.Source.faults g.S.Source.left c.is_ready-ready.new.self c.read.new.self (g.B.Pooled.items c.loop.seat.seen) (c.stands.ensures (ap (λ (i : InputState _). i.failed) c.is_ready-ready.ensures.same ∙ c.loop.invariant.6)) c.read.ensures.kept c.read.ensures.found c.read.ensures.taken (asked_come (g.B.Pooled.items c.loop.seat.seen) c.loop.input c.is_ready-ready.new.self c.is_ready-ready.ensures.same c.loop.invariant.5))

pub hand_on-requires-clause-within : goal.hand_on-requires-clause-within
hand_on-requires-clause-within g c = next_fits c.handed_is_within.ensures (g.B.Pooled.items c.loop.seat.seen) c.is_ready-ready.new.self c.read.new.self c.in_ok-items.items.items c.in_ok-items.ensures.handed (asked_come (g.B.Pooled.items c.loop.seat.seen) c.loop.input c.is_ready-ready.new.self c.is_ready-ready.ensures.same c.loop.invariant.5)

pub loop-preserved-in-Continue-branch-2 : goal.loop-preserved-in-Continue-branch-2
loop-preserved-in-Continue-branch-2 g c = (
  tt,
  tt,
  c.hand_on.ensures.seated,
  c.hand_on.ensures.going,
  c.in_ok-hand_on.ensures.unchanged,
  come_more (g.B.Pooled.items c.loop.seat.seen) (g.B.Pooled.items c.hand_on.new.seat.seen) (handed c.is_ready-ready.new.self) c.in_ok-items.items.items (handed c.read.new.self) c.in_ok-items.ensures.handed (asked_come (g.B.Pooled.items c.loop.seat.seen) c.loop.input c.is_ready-ready.new.self c.is_ready-ready.ensures.same c.loop.invariant.5) c.in_ok-hand_on.ensures.came,
  ap (λ (i : InputState _). i.failed) c.in_ok-items.ensures.rest ∙ (ap (λ (i : InputState _). i.failed) c.is_ready-ready.ensures.same ∙ c.loop.invariant.6),
  record {
    kind = c.read.ensures.kept.0 ∙ (ap (λ (i : InputState _). i.kind) c.is_ready-ready.ensures.same ∙ c.loop.invariant.7.kind);
    factor = c.read.ensures.kept.1 ∙ (ap (λ (i : InputState _). i.factor) c.is_ready-ready.ensures.same ∙ c.loop.invariant.7.factor);
    start = c.read.ensures.kept.2 ∙ (ap (λ (i : InputState _). i.start) c.is_ready-ready.ensures.same ∙ c.loop.invariant.7.start);
    found = c.read.ensures.found ∙ (ap (λ (i : InputState _). i.found) c.is_ready-ready.ensures.same ∙ c.loop.invariant.7.found);
  },
)

pub returns-in_err-hand_on-clause-some : goal.returns-in_err-hand_on-clause-some
returns-in_err-hand_on-clause-some g c = λ other.
    come_some (g.B.Pooled.items c.loop.seat.seen) (g.B.Pooled.items c.hand_on.new.seat.seen) (handed c.is_ready-ready.new.self) c.in_ok-items.items.items (handed c.read.new.self) c.in_ok-items.ensures.handed (asked_come (g.B.Pooled.items c.loop.seat.seen) c.loop.input c.is_ready-ready.new.self c.is_ready-ready.ensures.same c.loop.invariant.5) c.hand_on.ensures.some

pub returns-in_err-hand_on-clause-stop : goal.returns-in_err-hand_on-clause-stop
returns-in_err-hand_on-clause-stop g c =
    let some = come_some (g.B.Pooled.items c.loop.seat.seen) (g.B.Pooled.items c.hand_on.new.seat.seen) (handed c.is_ready-ready.new.self) c.in_ok-items.items.items (handed c.read.new.self) c.in_ok-items.ensures.handed (asked_come (g.B.Pooled.items c.loop.seat.seen) c.loop.input c.is_ready-ready.new.self c.is_ready-ready.ensures.same c.loop.invariant.5) c.hand_on.ensures.some in
    let short = cut_coming g.S.Source.faults g.S.Source.left c.read.new.self (g.B.Pooled.items c.hand_on.new.seat.seen) (c.stands-then-ready.ensures (ap (λ (i : InputState _). i.failed) c.in_ok-items.ensures.rest ∙ (ap (λ (i : InputState _). i.failed) c.is_ready-ready.ensures.same ∙ c.loop.invariant.6))) some in
    err_as c.from_residual-in_err-hand_on.result c.in_err-hand_on.field-0.0 (IsStopOf g.S.Source.left g.B.Pooled.items g.B.Pooled.differs g.B.Pooled.spent c.args.turn.now.setup c.read.new.self c.hand_on.new.seat.seen c.hand_on.new.seat.mark c.hand_on.new.seat.change) c.from_residual-in_err-hand_on.ensures.1
    (come_stop g.S.Source.left g.B.Pooled.items g.B.Pooled.differs g.B.Pooled.spent c.args.turn.now.setup c.is_ready-ready.new.self c.read.new.self c.loop.seat.seen c.hand_on.new.seat.seen c.in_ok-items.items.items c.hand_on.new.seat.mark c.hand_on.new.seat.change c.in_err-hand_on.field-0.0 c.in_ok-items.ensures.handed (asked_come (g.B.Pooled.items c.loop.seat.seen) c.loop.input c.is_ready-ready.new.self c.is_ready-ready.ensures.same c.loop.invariant.5) short c.in_err-hand_on.ensures.stop)

pub returns-in_err-look-clause-some : goal.returns-in_err-look-clause-some
returns-in_err-look-clause-some g c = λ other.
    some_of_all (g.B.Pooled.items c.look.new.seat.seen) (handed c.is_ready-ready.new.self) (come_as (g.B.Pooled.items c.loop.seat.seen) (g.B.Pooled.items c.look.new.seat.seen) c.look.ensures.same (handed c.is_ready-ready.new.self) (asked_come (g.B.Pooled.items c.loop.seat.seen) c.loop.input c.is_ready-ready.new.self c.is_ready-ready.ensures.same c.loop.invariant.5))

pub returns-in_err-look-clause-stop : goal.returns-in_err-look-clause-stop
returns-in_err-look-clause-stop g c =
    let come = come_as (g.B.Pooled.items c.loop.seat.seen) (g.B.Pooled.items c.look.new.seat.seen) c.look.ensures.same (handed c.is_ready-ready.new.self) (asked_come (g.B.Pooled.items c.loop.seat.seen) c.loop.input c.is_ready-ready.new.self c.is_ready-ready.ensures.same c.loop.invariant.5) in
    err_as c.from_residual-in_err-look.result c.in_err-look.field-0.0 (IsStopOf g.S.Source.left g.B.Pooled.items g.B.Pooled.differs g.B.Pooled.spent c.args.turn.now.setup c.is_ready-ready.new.self c.look.new.seat.seen c.look.new.seat.mark c.look.new.seat.change) c.from_residual-in_err-look.ensures.1
    (wait_stop g.S.Source.left g.B.Pooled.items g.B.Pooled.differs g.B.Pooled.spent c.args.turn.now.setup c.is_ready-ready.new.self c.look.new.seat.seen c.look.new.seat.mark c.look.new.seat.change c.in_err-look.field-0.0 (c.look.ensures.unchanged ∙ c.loop.invariant.4) come (ap (λ (i : InputState _). i.end) c.is_ready-ready.ensures.same ∙ end_none c.end.result c.loop.input.end c.end.ensures.value (sym c.is_some.ensures ∙ search)) (c.is_ready-ready.ensures.left ∙ untold (g.S.Source.left c.loop.input.source) c.is_ready-ready.result c.is_ready-ready.ensures.ready (search)) c.in_err-look.ensures.stop)
