use Rattle.std.proofs.Common.{◌+◌}
use Rattle.esm_model.specs.Kept.{meaning}
use Rattle.esm_workers.proofs.Twice.{goes_on_twice, at_twice}
use Rattle.esm_workers.proofs.calling.end_and_ask.Goals as goal

pub returns-in-Ok-clause-goes_on : goal.returns-in-Ok-clause-goes_on
returns-in-Ok-clause-goes_on g c =
    let m = meaning g.T.Kept in
    goes_on_twice m (c.args.batcher + 1) c.args.book.now c.end_call.new.self c.ask.new.self c.end_call.ensures.goes_on c.ask.ensures.goes_on

pub returns-in-Ok-clause-moments : goal.returns-in-Ok-clause-moments
returns-in-Ok-clause-moments g c =
    let m = meaning g.T.Kept in
    at_twice m (c.args.batcher + 1) c.args.moment c.args.book.now c.end_call.new.self c.ask.new.self c.end_call.ensures.goes_on c.ask.ensures.goes_on c.end_call.ensures.moments c.ask.ensures.moments
