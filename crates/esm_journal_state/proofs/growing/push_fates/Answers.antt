use Rattle.std.proofs.Common.{◌≡◌, ◌∙◌, ◌++◌, ℕ, List, [], ◌∷◌, suc, length, sym, ap, arith}
use Rattle.std.specs.Vec.Iter.{into_iter_items}
use Rattle.esm_journal_state.specs.Growing.{fates_named}
use Rattle.esm_journal_state.proofs.Recent.{pushed_more, all_pushed, no_item}
use Rattle.esm_journal_state.proofs.growing.push_fates.Goals as goal

pub bounds-places-index : goal.bounds-places-index
bounds-places-index c =
    let steps : into_iter_items c.loop-text.text-iterator ≡ c.in-Some.text ∷ into_iter_items c.next.new.self = c.in-Some.ensures.steps.0 in
    let short : length (into_iter_items c.loop-text.text-iterator) ≡ suc (length (into_iter_items c.next.new.self)) = ap (λ (xs : List (List ℕ)). length xs) steps in
    omega (arith, short, c.loop-text.invariant.rest)

pub offset_bounds-places-index : goal.offset_bounds-places-index
offset_bounds-places-index c =
    let steps : into_iter_items c.loop-text.text-iterator ≡ c.in-Some.text ∷ into_iter_items c.next.new.self = c.in-Some.ensures.steps.0 in
    let short : length (into_iter_items c.loop-text.text-iterator) ≡ suc (length (into_iter_items c.next.new.self)) = ap (λ (xs : List (List ℕ)). length xs) steps in
    omega (arith, short, c.loop-text.invariant.rest)

pub overflow_add-index : goal.overflow_add-index
overflow_add-index c =
    let steps : into_iter_items c.loop-text.text-iterator ≡ c.in-Some.text ∷ into_iter_items c.next.new.self = c.in-Some.ensures.steps.0 in
    let short : length (into_iter_items c.loop-text.text-iterator) ≡ suc (length (into_iter_items c.next.new.self)) = ap (λ (xs : List (List ℕ)). length xs) steps in
    omega (arith, short, c.loop-text.invariant.rest)

pub loop-text-preserved : goal.loop-text-preserved
loop-text-preserved c =
    let at = c.loop-text in
    let steps : into_iter_items c.loop-text.text-iterator ≡ c.in-Some.text ∷ into_iter_items c.next.new.self = c.in-Some.ensures.steps.0 in
    let gone = c.in-Some.ensures.steps.1 in
    let left = at.invariant.left in
    let short : length (into_iter_items c.loop-text.text-iterator) ≡ suc (length (into_iter_items c.next.new.self)) = ap (λ (xs : List (List ℕ)). length xs) steps in
    record {
      left = omega (arith, short, left, gone);
      rest = omega (arith, short, at.invariant.rest);
      pushed = pushed_more c.args.shard c.args.fate c.args.places.now at.index c.in-Some.text (into_iter_items at.text-iterator) (into_iter_items c.next.new.self) at.recent.items c.push.new.self.items
          (c.args.recent.now.items ++ fates_named c.args.shard c.args.fate c.args.places.now c.args.texts.items)
          (omega (arith, short, at.invariant.rest)) steps c.in_ok-push.ensures.items at.invariant.pushed;
    }

pub returns : goal.returns
returns c =
    let at = c.loop-text in
    let none = c.in-None.ensures.steps in
    let empty : into_iter_items at.text-iterator ≡ [] = no_item (into_iter_items at.text-iterator) (sym at.invariant.left ∙ none.0) in
    all_pushed c.args.shard c.args.fate _ (into_iter_items at.text-iterator) at.recent.items
    (c.args.recent.now.items ++ fates_named c.args.shard c.args.fate c.args.places.now c.args.texts.items) empty at.invariant.pushed
