use Rattle.std.proofs.Common.{◌≡◌, ◌++◌, sym, ◌∙◌}
use Rattle.std.proofs.lemmas.Result.{IfOk-weaker}
use Rattle.esm_model.specs.Owed.{Settled}
use Rattle.esm_ledger.specs.Ledger.{past_of, setting_of, LegalOver}
use Rattle.esm_next.specs.Following.{next_for, next_entries}
use Rattle.esm_next.specs.Deciding.{OverAll, answer_of, decision_entries, NamesLane}
use Rattle.esm_next.proofs.Serving.{IsServed}
use Rattle.esm_next.proofs.Served.{lane_known, lane_came, lane_settled, Asks, all_served, rest_served}
use Rattle.esm_next.proofs.next.decide_next.Goals as goal

pub decide_lane-requires-clause-known : goal.decide_lane-requires-clause-known
decide_lane-requires-clause-known c = lane_known c.args.ledger.now c.args.batcher c.in-Some.lane c.requires.kept (sym c.in-Some.is ∙ c.lane_of_batcher.ensures)

pub decide_lane-requires-clause-came : goal.decide_lane-requires-clause-came
decide_lane-requires-clause-came c = lane_came c.args.ledger.now c.args.batcher c.in-Some.lane c.requires.kept (sym c.in-Some.is ∙ c.lane_of_batcher.ensures)

pub decide_lane-requires-clause-settled : goal.decide_lane-requires-clause-settled
decide_lane-requires-clause-settled c = lane_settled c.args.ledger.now c.in-Some.lane c.requires.settled

pub returns-in-None-clause-answer : goal.returns-in-None-clause-answer
returns-in-None-clause-answer c =
    let l = c.args.ledger.now in
    let k = c.args.batcher in
    let m = c.args.now in
    let asks : Asks l k m = record { kept = c.requires.kept; settled = c.requires.settled; rests = c.requires.rests; later = c.requires.later; moment = c.requires.moment } in
    (rest_served l k m c.is_shut.result c.rest.result asks (sym c.in-None.is ∙ c.lane_of_batcher.ensures) c.is_shut.ensures c.rest.ensures).answer

pub returns-in-None-clause-entries : goal.returns-in-None-clause-entries
returns-in-None-clause-entries c =
    let l = c.args.ledger.now in
    let k = c.args.batcher in
    let m = c.args.now in
    let asks : Asks l k m = record { kept = c.requires.kept; settled = c.requires.settled; rests = c.requires.rests; later = c.requires.later; moment = c.requires.moment } in
    (rest_served l k m c.is_shut.result c.rest.result asks (sym c.in-None.is ∙ c.lane_of_batcher.ensures) c.is_shut.ensures c.rest.ensures).entries

pub returns-in-None-clause-legal : goal.returns-in-None-clause-legal
returns-in-None-clause-legal c =
    let l = c.args.ledger.now in
    let k = c.args.batcher in
    let m = c.args.now in
    let asks : Asks l k m = record { kept = c.requires.kept; settled = c.requires.settled; rests = c.requires.rests; later = c.requires.later; moment = c.requires.moment } in
    (rest_served l k m c.is_shut.result c.rest.result asks (sym c.in-None.is ∙ c.lane_of_batcher.ensures) c.is_shut.ensures c.rest.ensures).legal

pub returns-in-None-clause-settled : goal.returns-in-None-clause-settled
returns-in-None-clause-settled c =
    let l = c.args.ledger.now in
    let k = c.args.batcher in
    let m = c.args.now in
    let asks : Asks l k m = record { kept = c.requires.kept; settled = c.requires.settled; rests = c.requires.rests; later = c.requires.later; moment = c.requires.moment } in
    (rest_served l k m c.is_shut.result c.rest.result asks (sym c.in-None.is ∙ c.lane_of_batcher.ensures) c.is_shut.ensures c.rest.ensures).settled

pub returns-in-None-clause-lane : goal.returns-in-None-clause-lane
returns-in-None-clause-lane c =
    let l = c.args.ledger.now in
    let k = c.args.batcher in
    let m = c.args.now in
    let asks : Asks l k m = record { kept = c.requires.kept; settled = c.requires.settled; rests = c.requires.rests; later = c.requires.later; moment = c.requires.moment } in
    (rest_served l k m c.is_shut.result c.rest.result asks (sym c.in-None.is ∙ c.lane_of_batcher.ensures) c.is_shut.ensures c.rest.ensures).lane

pub returns-in-Some-clause-answer : goal.returns-in-Some-clause-answer
returns-in-Some-clause-answer c =
    let l = c.args.ledger.now in
    let k = c.args.batcher in
    let m = c.args.now in
    let asks : Asks l k m = record { kept = c.requires.kept; settled = c.requires.settled; rests = c.requires.rests; later = c.requires.later; moment = c.requires.moment } in
    IfOk-weaker c.decide_lane.result (IsServed (setting_of l) (past_of l) k m) (λ d. OverAll l (λ s. answer_of d ≡ next_for s (past_of l) k m)) (λ d is. is.answer)
    (all_served l k m c.in-Some.lane c.decide_lane.result asks (sym c.in-Some.is ∙ c.lane_of_batcher.ensures) c.decide_lane.ensures)

pub returns-in-Some-clause-entries : goal.returns-in-Some-clause-entries
returns-in-Some-clause-entries c =
    let l = c.args.ledger.now in
    let k = c.args.batcher in
    let m = c.args.now in
    let asks : Asks l k m = record { kept = c.requires.kept; settled = c.requires.settled; rests = c.requires.rests; later = c.requires.later; moment = c.requires.moment } in
    IfOk-weaker c.decide_lane.result (IsServed (setting_of l) (past_of l) k m) (λ d. OverAll l (λ s. decision_entries d m ≡ next_entries s (past_of l) k m (answer_of d))) (λ d is. is.entries)
    (all_served l k m c.in-Some.lane c.decide_lane.result asks (sym c.in-Some.is ∙ c.lane_of_batcher.ensures) c.decide_lane.ensures)

pub returns-in-Some-clause-legal : goal.returns-in-Some-clause-legal
returns-in-Some-clause-legal c =
    let l = c.args.ledger.now in
    let k = c.args.batcher in
    let m = c.args.now in
    let asks : Asks l k m = record { kept = c.requires.kept; settled = c.requires.settled; rests = c.requires.rests; later = c.requires.later; moment = c.requires.moment } in
    IfOk-weaker c.decide_lane.result (IsServed (setting_of l) (past_of l) k m) (λ d. LegalOver (setting_of l) (decision_entries d m ++ past_of l)) (λ d is. is.legal)
    (all_served l k m c.in-Some.lane c.decide_lane.result asks (sym c.in-Some.is ∙ c.lane_of_batcher.ensures) c.decide_lane.ensures)

pub returns-in-Some-clause-settled : goal.returns-in-Some-clause-settled
returns-in-Some-clause-settled c =
    let l = c.args.ledger.now in
    let k = c.args.batcher in
    let m = c.args.now in
    let asks : Asks l k m = record { kept = c.requires.kept; settled = c.requires.settled; rests = c.requires.rests; later = c.requires.later; moment = c.requires.moment } in
    IfOk-weaker c.decide_lane.result (IsServed (setting_of l) (past_of l) k m) (λ d. OverAll l (λ s. Settled s (decision_entries d m ++ past_of l))) (λ d is. is.settled)
    (all_served l k m c.in-Some.lane c.decide_lane.result asks (sym c.in-Some.is ∙ c.lane_of_batcher.ensures) c.decide_lane.ensures)

pub returns-in-Some-clause-lane : goal.returns-in-Some-clause-lane
returns-in-Some-clause-lane c =
    let l = c.args.ledger.now in
    let k = c.args.batcher in
    let m = c.args.now in
    let asks : Asks l k m = record { kept = c.requires.kept; settled = c.requires.settled; rests = c.requires.rests; later = c.requires.later; moment = c.requires.moment } in
    IfOk-weaker c.decide_lane.result (IsServed (setting_of l) (past_of l) k m) (NamesLane l.config.factor) (λ d is. is.lane)
    (all_served l k m c.in-Some.lane c.decide_lane.result asks (sym c.in-Some.is ∙ c.lane_of_batcher.ensures) c.decide_lane.ensures)
