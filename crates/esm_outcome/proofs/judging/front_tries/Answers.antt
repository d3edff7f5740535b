use Rattle.std.proofs.Common.{refl}
use Rattle.esm_ledger.proofs.Readings.{runs_low}
use Rattle.esm_outcome.proofs.Called.{lane_settled, never_empty, front_told}
use Rattle.esm_outcome.proofs.judging.front_tries.Goals as goal

pub front-requires-clause-known : goal.front-requires-clause-known
front-requires-clause-known c = runs_low c.args.ledger.now c.args.lane c.requires.kept.rests c.requires.call.runs

pub front-requires-clause-settled : goal.front-requires-clause-settled
front-requires-clause-settled c = lane_settled c.args.ledger.now c.args.lane c.requires.settled

pub unreachable-requires : goal.unreachable-requires
unreachable-requires c = never_empty c.args.ledger.now c.args.lane c.args.places.now c.requires.kept c.requires.call (c.in-None.ensures.none.0 refl)

pub returns : goal.returns
returns c = front_told c.args.ledger.now c.args.lane c.args.places.now c.in-Some.front.places.now c.in-Some.front.fresh c.in-Some.front.tries c.requires.kept c.requires.call c.in-Some.ensures.front
