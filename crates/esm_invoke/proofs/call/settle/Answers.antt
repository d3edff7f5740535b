use Rattle.std.proofs.Common.{false, sym, refl, inr, subst}
use Rattle.esm_invoke.specs.Response.{IsReplyTo}
use Rattle.esm_invoke.specs.ResponseRead.{HasRead, NeverHoldsBody}
use Rattle.esm_invoke.proofs.ReplyLemmas.{never_none, never_without_body}
use Rattle.esm_invoke.proofs.call.settle.Goals as goal

pub returns-in_ok-garbled-in-Never-clause-settled : goal.returns-in_ok-garbled-in-Never-clause-settled
returns-in_ok-garbled-in-Never-clause-settled c =
    let bytes = c.args.bytes.now in
    let read = subst (HasRead bytes c.advance.new.self) c.in-Never.is c.in_ok-advance.ensures.read in
    let never = never_without_body bytes c.args.body.now.head c.requires.begins (subst (NeverHoldsBody bytes) c.advance.ensures.head read) in
    subst (IsReplyTo false bytes) (sym c.in_ok-garbled-in-Never.ensures) (refl, never_none false bytes never, inr (inr never))
