use Rattle.std.proofs.Common.{◌≡◌, ◌∙◌, ◌-◌, ◌<◌, sym, ap, subst, List, reverse, length, All, arith}
use Rattle.std.proofs.lemmas.List.{reverse-reverse, length-reverse}
use Rattle.std.proofs.lemmas.List.{get_or-reverse}
use Rattle.esm_model.specs.declared.config.Kind.{Kind}
use Rattle.esm_model.specs.declared.entry.Entry.{Entry}
use Rattle.esm_trace.specs.Trace.{trace_text}
use Rattle.esm_trace.specs.Within.{IsWithin}
use Rattle.esm_trace.proofs.Lines.{lines_tell}
use Rattle.esm_trace.proofs.laws.trace_is_the_history.Goals as goal

reversed : (kind : Kind) (h : List Entry) → All (IsWithin kind) h → All (IsWithin kind) (reverse h)
reversed kind h all k d below =
    let fits : k < length h = omega (arith, length-reverse h) in
    subst (IsWithin kind) (sym (get_or-reverse h k d fits)) (all (length h - 1 - k) d (omega arith))

same : (kind : Kind) (h k : List Entry) → All (IsWithin kind) h → All (IsWithin kind) k → trace_text kind h ≡ trace_text kind k → h ≡ k
unfolding trace_text
same kind h k hh hk e =
    let backwards = lines_tell kind (reverse h) (reverse k) (reversed kind h hh) (reversed kind k hk) e in
    sym (reverse-reverse h) ∙ (ap reverse backwards ∙ reverse-reverse k)

pub returns : goal.returns
returns c = same
