use Rattle.std.proofs.Common.{◌≡◌, ◌∙◌, ◌+◌, ℕ, sym, ap}
use Rattle.json.specs.Value.{items_view, value_view}
use Rattle.esm_model.specs.State.{size}
use Rattle.esm_ddb.specs.Event.{elements_at}
use Rattle.esm_ddb.proofs.Finding.{found_more}
use Rattle.esm_ddb.proofs.elements.elements_at.Goals as goal

pub loop-item-preserved : goal.loop-item-preserved
loop-item-preserved c =
    let vs = c.deref-item-items.result.now in
    let v = c.item-item.result in
    let l = c.loop-item in
    let end : c.in_ok-end.end ≡ l.at + size (value_view v) + 0 = c.in_ok-end.ensures ∙ ap (λ (n : ℕ). l.at + n + 0) c.in_ok-size.ensures in
    found_more c.args.places.now (elements_at c.args.places.now c.args.start (items_view vs)) l.found.items c.push.new.self.items l.at c.in_ok-end.end c.in_ok-at.at
    vs l.item-index v c.in-Some.payload c.in_ok-element_at.field-0 c.loop-item-test.true c.item-item.is (sym c.in_ok-payload.ensures ∙ c.in-Some.is) end
    c.in_ok-element_at.ensures c.in_ok-push.ensures.items c.in_ok-at.ensures l.invariant
