use Rattle.std.proofs.Common.{◌≡◌, ◌∙◌, List, true, not, length, reverse, ap, subst}
use Rattle.std.specs.Prelude.{◌==◌}
use Rattle.esm_stream_core.specs.declared.owed.Owed.{Owed}
use Rattle.esm_stream_core.specs.CoreView.{CoreView, paid}
use Rattle.esm_stream_core.specs.Standing.{can_pay}
use Rattle.esm_stream_core.specs.Inside.{view_of}
use Rattle.esm_stream_core.specs.Kept.{IsKept}
use Rattle.esm_stream_core.proofs.Keeping.{IsCoreOf}
use Rattle.esm_stream_core.proofs.Paying.{popped, can_add, core_paid}
use Rattle.esm_stream_core.proofs.stream_core.StreamCore.pay.Goals as goal
use Rattle.esm_stream_core.proofs.stream_core.StreamCore.pay.Goals.{Joined-owed}

pub add_next-requires : goal.add_next-requires
add_next-requires c =
    let x = c.self.inside in
    let o = c.in-Some.owed in
    let ys = c.pop.new.self.items in
    let can : can_pay x.standing ≡ true = ap (λ (v : CoreView). can_pay v.standing) c.self.view_is ∙ c.requires.payable in
    can_add x.ledger (reverse x.coming.items) o (reverse ys) x.standing (subst (λ (os : List Owed). IsKept x.ledger (reverse x.coming.items) os x.standing) (popped x.owed.items ys o c.in-Some.ensures.items) c.self.invariant.kept) can

all_paid : (c : Joined-owed)
    → IsCoreOf (paid (view_of c.self.inside)) (record c.self.inside { ledger = c.add_next.new.ledger; coming = c.add_next.new.coming; owed = c.pop.new.self; standing = c.paid-self-inside.result })
all_paid c =
    core_paid c.self.inside c.add_next.new.ledger c.add_next.new.coming c.pop.new.self c.in-Some.owed (not c.is_empty.result) c.paid-self-inside.result
    (record {
      core = c.self.invariant;
      can = ap (λ (v : CoreView). can_pay v.standing) c.self.view_is ∙ c.requires.payable;
      owed = c.in-Some.ensures.items;
      coming = c.add_next.ensures.coming;
      added = c.add_next.ensures.added;
      more_is = ap not (c.is_empty.ensures ∙ ap (λ (os : List Owed). length os == 0) c.as_slice.ensures.value);
    })
    c.paid-self-inside.ensures

pub invariant_of-self : goal.invariant_of-self
invariant_of-self c = (all_paid c).core

pub returns : goal.returns
returns c = (all_paid c).is ∙ ap paid c.self.view_is
