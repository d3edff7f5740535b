use Rattle.std.proofs.Common.{◌+◌, [], ◌∙◌}
use Rattle.esm_model.specs.Kept.{meaning}
use Rattle.esm_workers.proofs.Turns.{unused}
use Rattle.esm_workers.proofs.calling.begin.Goals as goal

pub returns-clause-calls : goal.returns-clause-calls
returns-clause-calls g c = λ sends.
    let m = meaning g.T.Kept in
    let t = c.args.turn.now in
    let s = c.args.seat.now in
    c.stays.ensures.calls t.setup sends [] s.seen c.args.batcher (unused m g.C.Clock.gave t (c.args.batcher + 1) s c.requires.seated c.requires.unused)
    ∙ c.begins.ensures.calls t.setup sends c.args.batcher
