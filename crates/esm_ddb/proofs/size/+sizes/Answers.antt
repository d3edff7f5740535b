use Rattle.std.proofs.Common.{◌≡◌, ◌∙◌, ◌+◌, ℕ, arith, ap, max, sym}
use Rattle.json.specs.Value.{items_view, members_view}
use Rattle.esm_model.specs.State.{items_size, members_size}
use Rattle.esm_ddb.specs.Lexemes.{items_sum, members_sum}
use Rattle.esm_ddb.proofs.Sizes.{items_done, items_total, members_done, members_total}
use Rattle.esm_ddb.proofs.size.+sizes.Goals as goal

pub items_size-returns : goal.items_size-returns
items_size-returns t c =
    let xs = c.deref-item-items.result.now in
    let l = c.loop-item in
    let total : l.total ≡ 1 + items_sum (items_view xs) = omega (arith, l.invariant, items_done xs l.item-index c.loop-item-test.false) in
    c.max.ensures ∙ ap (λ (n : ℕ). max n 2) total ∙ sym (items_total (items_view xs)) ∙ ap (λ vs. 1 + items_size (items_view vs)) c.deref-item-items.ensures.value

pub members_size-returns : goal.members_size-returns
members_size-returns t c =
    let xs = c.deref-member-items.result.now in
    let l = c.loop-member in
    let total : l.total ≡ 1 + members_sum (members_view xs) = omega (arith, l.invariant, members_done xs l.member-index c.loop-member-test.false) in
    c.max.ensures ∙ ap (λ (n : ℕ). max n 2) total ∙ sym (members_total (members_view xs)) ∙ ap (λ vs. 1 + members_size (members_view vs)) c.deref-member-items.ensures.value
