use Rattle.std.proofs.Common.{◌+◌, sym, ◌∙◌}
use Rattle.esm_workers.proofs.Later.{begins_then, follow_from}
use Rattle.esm_workers.proofs.calling.call_all.Goals as goal

pub loop-preserved : goal.loop-preserved
loop-preserved g c = (
  tt,
  tt,
  c.in_ok-answer.ensures.seated,
  c.in_ok-answer.ensures.answer,
  c.in_ok-answer.ensures.called (g.F.Caller.log c.args.caller.now) c.loop.invariant.4,
  begins_then c.args.seat.now.seen c.loop.seat.seen c.round.new.seat.seen c.loop.invariant.5 c.in_ok-answer.ensures.grows,
)

pub returns-in_err-left-clause-later : goal.returns-in_err-left-clause-later
returns-in_err-left-clause-later g c = λ shut.
    let s = c.args.seat.now in
    follow_from (g.T.Kept.author c.args.turn.now.setup) (c.args.batcher + 1) s.seen c.loop.seat.seen (sym c.requires.seated.whole ∙ c.requires.unused) shut c.loop.invariant.5

pub returns-in_default-clause-later : goal.returns-in_default-clause-later
returns-in_default-clause-later g c = λ shut.
    let s = c.args.seat.now in
    follow_from (g.T.Kept.author c.args.turn.now.setup) (c.args.batcher + 1) s.seen c.loop.seat.seen (sym c.requires.seated.whole ∙ c.requires.unused) shut c.loop.invariant.5

pub returns-in_err-answer-clause-later : goal.returns-in_err-answer-clause-later
returns-in_err-answer-clause-later g c = λ shut.
    let s = c.args.seat.now in
    follow_from (g.T.Kept.author c.args.turn.now.setup) (c.args.batcher + 1) s.seen c.round.new.seat.seen (sym c.requires.seated.whole ∙ c.requires.unused) shut
    (begins_then s.seen c.loop.seat.seen c.round.new.seat.seen c.loop.invariant.5 c.in_err-answer.ensures.grows)
