use Rattle.std.proofs.Common.{◌≡◌, sym, subst, ◌∙◌, Some, None}
use Rattle.esm_ledger.specs.Ledger.{past_of, setting_of}
use Rattle.esm_ledger.specs.Reading.{IsLeastDueWindow}
use Rattle.esm_next.specs.Following.{next_allowed}
use Rattle.esm_next.specs.Deciding.{answer_of, Gives, IsDecided}
use Rattle.esm_next.proofs.Lanes.{decided_finished, decided_paused, decided_due}
use Rattle.esm_next.proofs.Results.{both_ok}
use Rattle.esm_next.proofs.lane.decide_empty.Goals as goal

pub returns-then-is_over : goal.returns-then-is_over
returns-then-is_over c =
    decided_finished (setting_of c.args.ledger.now) (past_of c.args.ledger.now) c.args.lane c.args.now c.requires.none (sym c.is_over.ensures ∙ c.if-is_over.true)

pub returns-in-None : goal.returns-in-None
returns-in-None c =
    let s = setting_of c.args.ledger.now in
    let h = past_of c.args.ledger.now in
    let due : IsLeastDueWindow s h c.args.lane.shard None = subst (IsLeastDueWindow s h c.args.lane.shard) c.in-None.is c.least_due.ensures in
    subst (IsDecided s h c.args.lane c.args.now) (sym c.pause.ensures) (decided_paused s h c.args.lane c.args.now c.requires.none (sym c.is_over.ensures ∙ c.if-is_over.false) due)

pub returns-in-Some : goal.returns-in-Some
returns-in-Some c =
    let s = setting_of c.args.ledger.now in
    let h = past_of c.args.ledger.now in
    let due : IsLeastDueWindow s h c.args.lane.shard (Some c.in-Some.window) = subst (IsLeastDueWindow s h c.args.lane.shard) c.in-Some.is c.least_due.ensures in
    both_ok c.decide_due.result (λ d. answer_of d ≡ next_allowed s h c.args.lane c.args.now) (Gives s h c.args.lane c.args.now) (IsDecided s h c.args.lane c.args.now)
    (λ d answer gives. decided_due s h c.args.lane c.args.now c.in-Some.window d c.requires.none (sym c.is_over.ensures ∙ c.if-is_over.false) due answer gives) c.decide_due.ensures.answer c.decide_due.ensures.gives
