use Rattle.std.proofs.Common.{◌≡◌, ℕ, List, reverse, subst, true}
use Rattle.esm_journal_state.specs.Meaning.{history, are_good}
use Rattle.esm_journal_state.specs.Tells.{Tells}
use Rattle.esm_replay_book.specs.Opening.{IsBadPayloads}
use Rattle.esm_replay_book.proofs.Openings.{opened_of, bad_payload, bad_lines}
use Rattle.esm_replay_book.proofs.replay_book.Replay.open.Goals as goal

pub open_over-requires-clause-good : goal.open_over-requires-clause-good
open_over-requires-clause-good g c = subst (λ (ps : List (List ℕ)). are_good (reverse ps) ≡ true) c.payloads.ensures.payloads c.in-Ok.ensures.good

pub open_over-requires-clause-tells : goal.open_over-requires-clause-tells
open_over-requires-clause-tells g c = subst (λ (ps : List (List ℕ)). Tells c.in-Ok.said (history (reverse ps))) c.payloads.ensures.payloads c.in-Ok.ensures.told

pub returns-in-Err-clause-refused : goal.returns-in-Err-clause-refused
returns-in-Err-clause-refused g c =
    bad_payload c.args.pair.payloads c.args.lines.now c.in-Err.why (subst (λ (ps : List (List ℕ)). IsBadPayloads ps c.in-Err.why) c.payloads.ensures.payloads c.in-Err.ensures.bad)

pub returns-in-Ok-open_over-clause-opened : goal.returns-in-Ok-open_over-clause-opened
returns-in-Ok-open_over-clause-opened g c =
    opened_of c.args.config c.args.calls c.in-Ok.said c.args.pair c.args.lines.now c.in-Ok-open_over.book
    (subst (λ (ps : List (List ℕ)). are_good (reverse ps) ≡ true) c.payloads.ensures.payloads c.in-Ok.ensures.good)
    (subst (λ (ps : List (List ℕ)). Tells c.in-Ok.said (history (reverse ps))) c.payloads.ensures.payloads c.in-Ok.ensures.told)
    c.in-Ok.ensures.order c.in-Ok-open_over.ensures.opened

pub returns-in-Err-open_over-clause-refused : goal.returns-in-Err-open_over-clause-refused
returns-in-Err-open_over-clause-refused g c =
    bad_lines c.args.pair.payloads c.args.lines.now c.in-Err-open_over.refused.why
    (subst (λ (ps : List (List ℕ)). are_good (reverse ps) ≡ true) c.payloads.ensures.payloads c.in-Ok.ensures.good)
    c.in-Err-open_over.ensures.refused
