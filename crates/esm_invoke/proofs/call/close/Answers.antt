use Rattle.std.proofs.Common.{true, sym, refl, inl, subst}
use Rattle.esm_invoke.specs.Response.{IsReplyTo}
use Rattle.esm_invoke.proofs.ReplyLemmas.{none_unfinished, answered_at_end, garbled_if}
use Rattle.esm_invoke.proofs.call.close.Goals as goal

pub returns-in-UntilClose : goal.returns-in-UntilClose
returns-in-UntilClose c =
    subst (IsReplyTo true c.args.bytes.now) (sym c.answered.ensures.answer)
    (answered_at_end c.args.bytes.now c.args.body.now c.requires.begins c.requires.awaits c.requires.unfinished c.in-UntilClose.is)

pub returns-in_default : goal.returns-in_default
returns-in_default c =
    garbled_if c.garbled.result true c.args.bytes.now
    (none_unfinished true c.args.bytes.now c.args.body.now c.requires.begins c.requires.awaits c.requires.unfinished (λ e. absurd (c.in_default.not-UntilClose e)))
    (inl refl) c.garbled.ensures
