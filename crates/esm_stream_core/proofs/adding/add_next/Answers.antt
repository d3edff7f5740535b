use Rattle.std.proofs.Common.{List, reverse, subst}
use Rattle.esm_ledger.specs.declared.coming.Coming.{Coming}
use Rattle.esm_stream_core.specs.Adding.{CanAdd}
use Rattle.esm_stream_core.proofs.Additions.{can_add_next}
use Rattle.esm_stream_core.proofs.Paying.{popped}
use Rattle.esm_stream_core.proofs.adding.add_next.Goals as goal

pub add_coming-requires : goal.add_coming-requires
add_coming-requires c =
    let xs = c.args.coming.now.items in
    let ys = c.pop.new.self.items in
    let x = c.in-Some.next in
    can_add_next c.args.ledger.now x (reverse ys) c.args.act (subst (λ (us : List Coming). CanAdd c.args.ledger.now us c.args.act) (popped xs ys x c.in-Some.ensures.items) c.requires)
