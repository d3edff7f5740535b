use Rattle.std.proofs.Common.{◌+◌, sym, ◌∙◌, subst}
use Rattle.esm_model.specs.Kept.{meaning}
use Rattle.esm_turn.specs.Seats.{SeatView}
use Rattle.esm_workers.specs.Seated.{IsSeated}
use Rattle.esm_workers.proofs.Turns.{found, given, gone_back, grown, holds_found, comes_to}
use Rattle.esm_workers.proofs.calling.ask.Goals as goal

pub ask-next-requires-clause-rests : goal.ask-next-requires-clause-rests
ask-next-requires-clause-rests g c =
    let m = meaning g.T.Kept in
    let gave = g.C.Clock.gave in
    let t = c.args.turn.now in
    let s : SeatView = c.args.seat.now in
    let k = c.args.batcher in
    let x = c.take-value.result.value in
    let f = found m gave t (k + 1) s (m.history x) c.requires.seated c.take-value.ensures.legal c.take-value.ensures.begins c.take-value.ensures.mine in
    holds_found m gave t (k + 1) (λ u h. g.T.Pooled.rests u h k) s x f (c.take-value.ensures.setup ∙ c.requires.seated.free.setup_is) (λ h es. c.stays.ensures.rests t.setup h es k) c.requires.rests

pub returns-clause-seated : goal.returns-clause-seated
returns-clause-seated g c =
    let m = meaning g.T.Kept in
    let gave = g.C.Clock.gave in
    let t = c.args.turn.now in
    let s : SeatView = c.args.seat.now in
    let n = c.args.batcher + 1 in
    let x = c.take-value.result.value in
    let y = c.ask-next.new.self in
    let f = found m gave t n s (m.history x) c.requires.seated c.take-value.ensures.legal c.take-value.ensures.begins c.take-value.ensures.mine in
    subst (IsSeated m.author m.may_follow gave t n) (sym (gone_back m gave t n s c.take-value.new.seat c.give.new.seat x y c.take-value.ensures.seat c.give.ensures))
    (given m gave t n c.now-moment.result s x y c.requires.seated f (c.take-value.ensures.setup ∙ c.requires.seated.free.setup_is) c.ask-next.ensures.goes_on c.ask-next.ensures.moments c.now-moment.ensures)

pub returns-clause-no_end : goal.returns-clause-no_end
returns-clause-no_end g c = λ sends.
    let m = meaning g.T.Kept in
    let gave = g.C.Clock.gave in
    let t = c.args.turn.now in
    let s : SeatView = c.args.seat.now in
    let k = c.args.batcher in
    let x = c.take-value.result.value in
    let y = c.ask-next.new.self in
    let f = found m gave t (k + 1) s (m.history x) c.requires.seated c.take-value.ensures.legal c.take-value.ensures.begins c.take-value.ensures.mine in
    comes_to m gave t (k + 1) (λ u h. g.T.Pooled.calls u sends h k) (λ u l. l) s c.give.new.seat x y f (c.take-value.ensures.setup ∙ c.requires.seated.free.setup_is)
    (gone_back m gave t (k + 1) s c.take-value.new.seat c.give.new.seat x y c.take-value.ensures.seat c.give.ensures) (λ h es. c.stays.ensures.calls t.setup sends h es k) (c.ask-next.ensures.no_end sends)

pub returns-clause-grows : goal.returns-clause-grows
returns-clause-grows g c =
    let m = meaning g.T.Kept in
    let gave = g.C.Clock.gave in
    let t = c.args.turn.now in
    let s : SeatView = c.args.seat.now in
    let n = c.args.batcher + 1 in
    let x = c.take-value.result.value in
    let y = c.ask-next.new.self in
    let f = found m gave t n s (m.history x) c.requires.seated c.take-value.ensures.legal c.take-value.ensures.begins c.take-value.ensures.mine in
    grown m gave t n s c.give.new.seat x y f (gone_back m gave t n s c.take-value.new.seat c.give.new.seat x y c.take-value.ensures.seat c.give.ensures) c.ask-next.ensures.goes_on.history_is
