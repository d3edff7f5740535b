use Rattle.std.proofs.Common.{◌≡◌, ◌≤◌, ◌∙◌, ℕ, true, false, take, sym, ap, subst, arith}
use Rattle.std.specs.Prelude.{slice_index}
use Rattle.std.specs.Option.{option_copied}
use Rattle.std.proofs.lemmas.List.Elements.{All-take}
use Rattle.esm_model.specs.declared.moment.TheConstants.{MAX_MOMENT}
use Rattle.esm_model.specs.Fates.{lacks_fate}
use Rattle.esm_ledger.specs.Ledger.{past_of, setting_of}
use Rattle.esm_ledger.proofs.Ledgers.{own_legal}
use Rattle.esm_next.proofs.Bounds.{window_in_low}
use Rattle.esm_next.proofs.Lanes.{first_came, front_came, first_open}
use Rattle.esm_next.specs.Gathering.{call_in, window_in}
use Rattle.esm_next.proofs.Batches.{IsFew, is_few, waits_here, goes_here}
use Rattle.esm_next.proofs.batch.decide_batch.Goals as goal

pub window_in-requires-clause-came : goal.window_in-requires-clause-came
window_in-requires-clause-came c = first_came (setting_of c.args.ledger.now) (past_of c.args.ledger.now) c.args.lane c.args.now c.args.places.now c.args.fresh c.requires.front

pub window_call_of-requires-clause-came : goal.window_call_of-requires-clause-came
window_call_of-requires-clause-came c =
    let low = first_came (setting_of c.args.ledger.now) (past_of c.args.ledger.now) c.args.lane c.args.now c.args.places.now c.args.fresh c.requires.front in
    omega (arith, low)

pub window_call_of-requires-clause-moment : goal.window_call_of-requires-clause-moment
window_call_of-requires-clause-moment c =
    let s = setting_of c.args.ledger.now in
    subst (λ (k : ℕ). k ≤ MAX_MOMENT) (sym c.window_in.ensures) (window_in_low s c.args.lane.shard (slice_index c.args.places.now 0) (λ i r is. c.requires.bounds.records c.args.lane.shard i r is))

pub cut_front-requires-clause-came : goal.cut_front-requires-clause-came
cut_front-requires-clause-came c =
    front_came (setting_of c.args.ledger.now) (past_of c.args.ledger.now) c.args.lane c.args.now c.args.places.now c.args.fresh c.min-most.result c.requires.front

pub cut_front-requires-clause-open : goal.cut_front-requires-clause-open
cut_front-requires-clause-open c = first_open (setting_of c.args.ledger.now) (past_of c.args.ledger.now) c.args.lane c.args.now c.args.places.now c.args.fresh c.min-most.result c.requires.front

pub job-requires-clause-open : goal.job-requires-clause-open
job-requires-clause-open c =
    All-take (λ i. lacks_fate (setting_of c.args.ledger.now) (past_of c.args.ledger.now) c.args.lane.shard i ≡ true) c.in_ok-cut.cut.count (take c.min-most.result c.args.places.now)
    (first_open (setting_of c.args.ledger.now) (past_of c.args.ledger.now) c.args.lane c.args.now c.args.places.now c.args.fresh c.min-most.result c.requires.front)

pub returns-in-Some-clause-answer : goal.returns-in-Some-clause-answer
returns-in-Some-clause-answer c =
    let s = setting_of c.args.ledger.now in
    let h = past_of c.args.ledger.now in
    let places = c.args.places.now in
    let few_is : IsFew s places (take c.min-most.result places) = subst (λ (k : ℕ). IsFew s places (take k places)) (sym c.min-most.ensures) (is_few s places c.requires.front.some) in
    let window_is : option_copied c.as_ref.result ≡ call_in s h c.args.lane.shard (window_in s c.args.lane.shard (slice_index places 0)) false =
    c.as_ref.ensures.value ∙ c.in_ok-window.ensures.value ∙ ap (λ (k : ℕ). call_in s h c.args.lane.shard k false) c.window_in.ensures in
    waits_here s h c.args.lane c.args.now places c.args.fresh (own_legal s h c.requires.kept.rests.legal) c.requires.front (option_copied c.as_ref.result) (take c.min-most.result places) c.in_ok-cut.cut.count
    window_is few_is c.in_ok-cut.ensures.framed c.in_ok-cut.ensures.prefix
    c.in_ok-cut.cut.why c.in-Some.until c.in_ok-cut.ensures.why (sym c.waits_until.ensures ∙ c.in-Some.is)

pub returns-clause-answer : goal.returns-clause-answer
returns-clause-answer c =
    let s = setting_of c.args.ledger.now in
    let h = past_of c.args.ledger.now in
    let places = c.args.places.now in
    let few_is : IsFew s places (take c.min-most.result places) = subst (λ (k : ℕ). IsFew s places (take k places)) (sym c.min-most.ensures) (is_few s places c.requires.front.some) in
    let window_is : option_copied c.as_ref.result ≡ call_in s h c.args.lane.shard (window_in s c.args.lane.shard (slice_index places 0)) false =
    c.as_ref.ensures.value ∙ c.in_ok-window.ensures.value ∙ ap (λ (k : ℕ). call_in s h c.args.lane.shard k false) c.window_in.ensures in
    goes_here s h c.args.lane c.args.now places c.args.fresh (own_legal s h c.requires.kept.rests.legal) c.requires.front (option_copied c.as_ref.result) (take c.min-most.result places) c.in_ok-cut.cut.count
    window_is few_is c.in_ok-cut.ensures.framed c.in_ok-cut.ensures.prefix
    c.in_ok-cut.cut.why c.in_ok-job-in-None.job c.in_ok-cut.ensures.why (sym c.waits_until.ensures ∙ c.in-None.is) c.in_ok-job-in-None.ensures
