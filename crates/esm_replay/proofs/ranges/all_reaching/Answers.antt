use Rattle.std.proofs.Common.{◌≡◌, ◌∙◌, ◌++◌, ◌∷◌, [], List, suc, length, vec_len, Option, None, rules, sym, ap, arith}
use Rattle.std.specs.Vec.Iter.{into_iter_items}
use Rattle.esm_replay_model.specs.declared.range.Range.{Range}
use Rattle.esm_replay.specs.Ranges.{reaching, all_reaching, last_range}
use Rattle.esm_replay.proofs.Reaching.{more_reach, none_left, no_range}
use Rattle.esm_replay.proofs.ranges.all_reaching.Goals as goal

pub loop-range-init : goal.loop-range-init
loop-range-init c =
    let gives = c.into_iter-range-iterator.ensures.into_iter_gives in
    let all : vec_len c.args.ranges ≡ length c.args.ranges.items = search rules in
    let same = ap (λ (xs : List Range). length xs) gives.0 in
    record {
      so_far = ap (λ (xs : List Range). xs ++ all_reaching (last_range xs) (into_iter_items c.into_iter-range-iterator.result)) c.new-all.ensures.items;
      left = gives.1 ∙ (all ∙ sym same);
    }

pub loop-range-preserved : goal.loop-range-preserved
loop-range-preserved c =
    let at = c.loop-range in
    let rest : List Range = into_iter_items c.next.new.self in
    let steps : into_iter_items at.range-iterator ≡ c.in-Some.range ∷ into_iter_items c.next.new.self = c.in-Some.ensures.steps.0 in
    let gone = c.in-Some.ensures.steps.1 in
    let left = at.invariant.left in
    let short : length (into_iter_items at.range-iterator) ≡ suc (length (into_iter_items c.next.new.self)) = ap (λ (xs : List Range). length xs) steps in
    let before = ap (λ (xs : List Range). at.all.items ++ all_reaching (last_range at.all.items) xs) (sym steps) ∙ at.invariant.so_far in
    let last = c.last_of.ensures ∙ ap (λ (xs : List Range). last_range xs) c.as_slice.ensures.value in
    let is = c.in_ok-next.ensures ∙ ap (λ (o : Option Range). reaching o c.in-Some.range) last in
    record {
      so_far = ap (λ (xs : List Range). xs ++ all_reaching (last_range xs) rest) c.in_ok-push.ensures.items ∙ more_reach at.all.items c.in-Some.range _ rest _ before is;
      left = omega (arith, short, left, gone);
    }

pub returns : goal.returns
returns c =
    let at = c.loop-range in
    let gives = c.into_iter-range-iterator.ensures.into_iter_gives in
    let none = c.in-None.ensures.steps in
    let empty : into_iter_items at.range-iterator ≡ [] = no_range (into_iter_items at.range-iterator) (sym at.invariant.left ∙ none.0) in
    none_left at.all.items _ (into_iter_items at.range-iterator) empty at.invariant.so_far ∙ ap (λ (rs : List Range). all_reaching None rs) gives.0
