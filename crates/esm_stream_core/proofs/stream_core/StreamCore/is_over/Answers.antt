use Rattle.std.proofs.Common.{◌≡◌, ◌∙◌, true, false, sym}
use Rattle.esm_ledger.specs.Ledger.{setting_of}
use Rattle.esm_stream_core.specs.Quiet.{IsQuiet, IsWanting}
use Rattle.esm_stream_core.proofs.Deciding.{ledger_of}
use Rattle.esm_stream_core.proofs.Ledgers.{told_by, settled_over}
use Rattle.esm_stream_core.proofs.stream_core.StreamCore.is_over.Goals as goal

pub is_over-requires-clause-kept : goal.is_over-requires-clause-kept
is_over-requires-clause-kept c = (ledger_of c.args.self.now c.self.inside c.self.view_is c.self.invariant (sym c.is_whole.ensures ∙ c.if-not-is_whole.false)).keeps

pub is_over-requires-clause-settled : goal.is_over-requires-clause-settled
is_over-requires-clause-settled c =
    let is = ledger_of c.args.self.now c.self.inside c.self.view_is c.self.invariant (sym c.is_whole.ensures ∙ c.if-not-is_whole.false) in
    settled_over c.args.self.now c.self.inside.ledger is (setting_of c.self.inside.ledger).streams (λ n i r at. at)

pub returns-clause-over : goal.returns-clause-over
returns-clause-over c = λ is k low.
    let over : c.is_over.result ≡ true = cc in
    let kept = ledger_of c.args.self.now c.self.inside c.self.view_is c.self.invariant (sym c.is_whole.ensures ∙ c.if-not-is_whole.false) in
    told_by (λ s h. IsQuiet s h k) c.args.self.now c.self.inside.ledger kept (c.is_over.ensures.over over k low)

pub returns-clause-left : goal.returns-clause-left
returns-clause-left c = λ is.
    let over : c.is_over.result ≡ false = cc in
    let kept = ledger_of c.args.self.now c.self.inside c.self.view_is c.self.invariant (sym c.is_whole.ensures ∙ c.if-not-is_whole.false) in
    let found = c.is_over.ensures.left over in
    (found.0, found.1, told_by (λ s h. IsWanting s h found.0) c.args.self.now c.self.inside.ledger kept found.2)
