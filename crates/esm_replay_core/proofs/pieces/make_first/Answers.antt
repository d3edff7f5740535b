use Rattle.std.proofs.Common.{◌∙◌, sym}
use Rattle.esm_replay_core.proofs.Choices.{first_stays, none_of}
use Rattle.esm_replay_core.proofs.pieces.make_first.Goals as goal

pub returns-then-is_some-clause-stays : goal.returns-then-is_some-clause-stays
returns-then-is_some-clause-stays c = λ told ranges are config calls h was. was

pub returns-in_err-first-clause-stays : goal.returns-in_err-first-clause-stays
returns-in_err-first-clause-stays c = λ told ranges are config calls h was. was

pub returns-clause-stays : goal.returns-clause-stays
returns-clause-stays c = λ told ranges are.
    first_stays told ranges c.args.records.now c.args.waiting.now c.in_ok-first.first (none_of c.args.waiting.now (sym c.is_some.ensures ∙ c.if-is_some.false)) (c.in_ok-first.ensures.pieces told ranges are) (c.in_ok-first.ensures.placed told ranges are)
