use Rattle.esm_ledger.specs.Ledger.{past_of, setting_of}
use Rattle.esm_next.proofs.Groups.{front_of}
use Rattle.esm_next.proofs.lane.decide_lane.Goals as goal

pub decide_front-requires-clause-front : goal.decide_front-requires-clause-front
decide_front-requires-clause-front c =
    front_of (setting_of c.args.ledger.now) (past_of c.args.ledger.now) c.args.lane c.in-Some.front.places.now c.in-Some.front.fresh c.in-Some.front.tries c.in-Some.ensures.front (λ none. absurd (let clash = c.in-Some.ensures.none.1 none in cc))
