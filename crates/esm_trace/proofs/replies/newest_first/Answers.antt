use Rattle.std.proofs.Common.{rules, ◌≡◌, ◌∙◌, sym, ap, [], ◌++◌, map, reverse}
use Rattle.esm_trace.proofs.Order.{map_reverse}
use Rattle.esm_trace.proofs.replies.newest_first.Goals as goal

pub returns : goal.returns
returns c =
    let none : c.loop-list.lists.items ≡ [] = Prim.search rules in
    ap (λ vs. map (λ replies. replies.items) vs) c.reverse-2.ensures.items
    ∙ map_reverse (λ replies. replies.items) c.loop-list.turned.items
    ∙ ap (λ vs. map (λ replies. reverse replies.items) vs ++ reverse (map (λ replies. replies.items) c.loop-list.turned.items)) (sym none)
    ∙ c.loop-list.invariant.1
