use Rattle.std.proofs.Common.{◌≡◌, ◌∙◌, ◌++◌, List, ◌∷◌, suc, length, ap, arith}
use Rattle.std.specs.Vec.Iter.{into_iter_items}
use Rattle.esm_model.specs.declared.item.Item.{Item}
use Rattle.esm_queue_book.specs.Coming.{messages_in_items}
use Rattle.esm_queue_book.proofs.Items.{all_rest, one_message}
use Rattle.esm_redrive_run.proofs.book.messages_of.Goals as goal

pub loop-item-preserved : goal.loop-item-preserved
loop-item-preserved c =
    let at = c.loop-item in
    let before : List Item = into_iter_items at.item-iterator in
    let rest : List Item = into_iter_items c.next.new.self in
    let steps : into_iter_items c.loop-item.item-iterator ≡ c.in-Some.item ∷ into_iter_items c.next.new.self = c.in-Some.ensures.steps.0 in
    let gone = c.in-Some.ensures.steps.1 in
    let left = at.invariant.left in
    let short : length (into_iter_items c.loop-item.item-iterator) ≡ suc (length (into_iter_items c.next.new.self)) = ap (λ (xs : List Item). length xs) steps in
    record {
      all = all_rest c.in-Some.item before rest steps at.invariant.all;
      so_far = ap (λ xs. xs ++ messages_in_items rest) c.in_ok-push.ensures.items
          ∙ one_message at.messages.items (messages_in_items (into_iter_items c.into_iter-item-iterator.result)) c.in-Some.item c.message_of.result before rest steps c.message_of.ensures at.invariant.so_far;
      left = omega (arith, short, left, gone);
    }
