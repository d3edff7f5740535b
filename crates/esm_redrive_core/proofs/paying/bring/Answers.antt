use Rattle.std.proofs.Common.{◌≡◌, ◌∙◌, ◌+◌, ◌∷◌, [], List, suc, Bool, true, false, cond, length, vec_len, rules, refl, sym, ap, arith}
use Rattle.std.specs.Vec.Iter.{into_iter_items}
use Rattle.esm_model.specs.declared.item.Message.{Message}
use Rattle.esm_queue_core.specs.Next.{deleted_number}
use Rattle.esm_queue_core.proofs.Bringing.{with_coming, coming_more, coming_none, nothing_left, low_more, count_more}
use Rattle.esm_redrive_core.proofs.paying.bring.Goals as goal

pub loop-message-init : goal.loop-message-init
loop-message-init c =
    let gives = c.into_iter-message-iterator.ensures.into_iter_gives in
    let all : vec_len c.args.coming ≡ length c.args.coming.items = search rules in
    let same = ap (λ (xs : List Message). length xs) gives.0 in
    let room = c.requires.room in
    let few = c.requires.few in
    record {
      state = λ s is. refl;
      room = omega (arith, same, room);
      few = omega (arith, same, few);
      low = omega arith;
      count = omega arith;
      limit = refl;
      left = gives.1 ∙ (all ∙ sym same);
    }

pub loop-message-preserved-then-bring_one : goal.loop-message-preserved-then-bring_one
loop-message-preserved-then-bring_one c =
    let at = c.loop-message in
    let inv = at.invariant in
    let n = at.deleted in
    let x = c.in-Some.message in
    let steps : into_iter_items at.message-iterator ≡ x ∷ into_iter_items c.next.new.self = c.in-Some.ensures.steps.0 in
    let gone = c.in-Some.ensures.steps.1 in
    let short : length (into_iter_items at.message-iterator) ≡ suc (length (into_iter_items c.next.new.self)) = ap (λ (xs : List Message). length xs) steps in
    let number = c.bring_one.ensures.number in
    let spare = c.bring_one.ensures.spare in
    let room = inv.room in
    let few = inv.few in
    let left = inv.left in
    let is : c.bring_one.result ≡ true = c.if-bring_one.true in
    let counted : n + 1 ≡ n + cond c.bring_one.result 1 0 = ap (λ (b : Bool). n + cond b 1 0) (sym is) in
    record {
      state = λ s is. coming_more s c.args.moment at.queue.state c.bring_one.new.queue.state x (into_iter_items c.next.new.self) (into_iter_items at.message-iterator) (c.bring_one.ensures.state s is) steps ∙ inv.state s is;
      room = omega (arith, short, room, spare);
      few = omega (arith, short, few, number);
      low = low_more n (n + 1) (length at.queue.state.messages) (length c.bring_one.new.queue.state.messages) c.bring_one.result inv.low counted number;
      count = count_more (deleted_number c.args.queue.now.state) n (n + 1) (deleted_number at.queue.state) (deleted_number c.bring_one.new.queue.state) c.bring_one.result inv.count c.bring_one.ensures.deleted counted;
      limit = c.bring_one.ensures.limit ∙ inv.limit;
      left = omega (arith, short, left, gone);
    }

pub loop-message-preserved : goal.loop-message-preserved
loop-message-preserved c =
    let at = c.loop-message in
    let inv = at.invariant in
    let n = at.deleted in
    let x = c.in-Some.message in
    let steps : into_iter_items at.message-iterator ≡ x ∷ into_iter_items c.next.new.self = c.in-Some.ensures.steps.0 in
    let gone = c.in-Some.ensures.steps.1 in
    let short : length (into_iter_items at.message-iterator) ≡ suc (length (into_iter_items c.next.new.self)) = ap (λ (xs : List Message). length xs) steps in
    let number = c.bring_one.ensures.number in
    let spare = c.bring_one.ensures.spare in
    let room = inv.room in
    let few = inv.few in
    let left = inv.left in
    let is : c.bring_one.result ≡ false = c.if-bring_one.false in
    let counted : n ≡ n + cond c.bring_one.result 1 0 = (let same : n ≡ n + 0 = omega arith in same ∙ ap (λ (b : Bool). n + cond b 1 0) (sym is)) in
    record {
      state = λ s is. coming_more s c.args.moment at.queue.state c.bring_one.new.queue.state x (into_iter_items c.next.new.self) (into_iter_items at.message-iterator) (c.bring_one.ensures.state s is) steps ∙ inv.state s is;
      room = omega (arith, short, room, spare);
      few = omega (arith, short, few, number);
      low = low_more n (n) (length at.queue.state.messages) (length c.bring_one.new.queue.state.messages) c.bring_one.result inv.low counted number;
      count = count_more (deleted_number c.args.queue.now.state) n (n) (deleted_number at.queue.state) (deleted_number c.bring_one.new.queue.state) c.bring_one.result inv.count c.bring_one.ensures.deleted counted;
      limit = c.bring_one.ensures.limit ∙ inv.limit;
      left = omega (arith, short, left, gone);
    }

pub returns-clause-state : goal.returns-clause-state
returns-clause-state c = λ s is.
    let at = c.loop-message in
    let none = c.in-None.ensures.steps in
    let empty : into_iter_items at.message-iterator ≡ [] = nothing_left (into_iter_items at.message-iterator) (sym at.invariant.left ∙ none.0) in
    let gives = c.into_iter-message-iterator.ensures.into_iter_gives in
    sym (coming_none s c.args.moment at.queue.state (into_iter_items at.message-iterator) empty)
    ∙ (at.invariant.state s is ∙ ap (λ (xs : List Message). with_coming s c.args.moment c.args.queue.now.state xs) gives.0)
