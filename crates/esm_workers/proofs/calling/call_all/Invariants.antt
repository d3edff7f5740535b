use Rattle.std.proofs.Common.{◌+◌}
use mathlib.Core.List.{IsPrefix}
use Rattle.esm_io.specs.Told.{Grows}
use Rattle.esm_workers.specs.Rounds.{IsAnswer}
use Rattle.esm_workers.specs.Seated.{IsSeated}
use Rattle.esm_workers.proofs.calling.call_all.Given as goal

abbrev pub invariant-loop : goal.invariant-loop
invariant-loop g l =
    (goal.iterator-loop g).can_next l.iterator' × (goal.iterator-loop g).is_finite l.iterator'
    × IsSeated g.T.Kept.author g.T.Kept.may_follow g.C.Clock.gave l.turn (l.batcher + 1) l.seat
    × IsAnswer g.T.Pooled.rests g.T.Pooled.runs g.T.Pooled.finished g.T.Pooled.spent l.turn.setup l.batcher l.seat.seen l.seat.mark l.answer
    × Grows (g.F.Caller.log l.fn.caller) (g.F.Caller.log l.caller) (g.T.Pooled.calls l.turn.setup g.F.Caller.sends l.seat.seen l.batcher)
    × IsPrefix l.fn.seat.seen l.seat.seen
