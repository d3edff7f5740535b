use Rattle.std.proofs.Common.{◌≡◌, ◌∙◌, ◌∷◌, ◌++◌, [], List, suc, length, map, is_none, sym, ap, append_assoc, arith}
use Rattle.std.specs.Vec.Iter.{into_iter_items}
use Rattle.esm_model.specs.Records.{Record}
use Rattle.esm_ledger.proofs.HeldRecords.{held_next}
use Rattle.esm_ledger.proofs.records.Records.came.Goals as goal

pub loop-item-preserved : goal.loop-item-preserved
loop-item-preserved c =
    let at = c.loop-item in
    let inv = at.invariant in
    let rest = into_iter_items c.next.new.self in
    let steps : into_iter_items at.item-iterator ≡ c.in-Some.item ∷ rest = c.in-Some.ensures.steps.0 in
    let gone = c.in-Some.ensures.steps.1 in
    let short : length (into_iter_items at.item-iterator) ≡ suc (length rest) = ap (λ (rs : List Record). length rs) steps in
    let count = inv.count in
    let left = inv.left in
    let room = inv.room in
    let more = c.came_one.ensures.room in
    record {
      items = ap (λ (rs : List Record). rs ++ rest) c.came_one.ensures.items ∙ append_assoc at.self.items (c.in-Some.item ∷ []) rest ∙ ap (λ (rs : List Record). at.self.items ++ rs) (sym steps) ∙ inv.items;
      held = held_next at.self.held c.came_one.new.self.held (c.args.self.now.held ++ map is_none c.args.fates.now) c.args.fates.now at.at _ (omega (arith, short, count)) c.came_one.ensures.held inv.held;
      count = omega (arith, short, count);
      room = omega (arith, short, room, more);
      left = omega (arith, short, left, gone);
    }
