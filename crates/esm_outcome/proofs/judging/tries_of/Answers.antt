use Rattle.esm_outcome.proofs.Called.{ran}
use Rattle.esm_outcome.proofs.judging.tries_of.Goals as goal

pub window_tries-requires-clause-came : goal.window_tries-requires-clause-came
window_tries-requires-clause-came c = (ran c.args.ledger.now c.args.lane c.args.places.now c.args.closing c.requires.kept c.requires.call).came
