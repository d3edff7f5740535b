use Rattle.std.proofs.Common.{◌≡◌, ◌∙◌, ℕ, List, [], ◌∷◌, suc, length, sym, ap, arith}
use Rattle.std.specs.Vec.Iter.{into_iter_items}
use Rattle.esm_journal_state.specs.declared.kept.KeptFate.{KeptFate}
use Rattle.esm_journal_state.specs.Growing.{fate_with}
use Rattle.esm_journal_state.proofs.Recent.{put_more, no_item}
use Rattle.esm_journal_state.proofs.growing.put_each.Goals as goal

pub loop-entry-preserved-in_ok-insert : goal.loop-entry-preserved-in_ok-insert
loop-entry-preserved-in_ok-insert c =
    let at = c.loop-entry in
    let steps : into_iter_items c.loop-entry.entry-iterator ≡ c.in-Some.entry ∷ into_iter_items c.next.new.self = c.in-Some.ensures.steps.0 in
    let gone = c.in-Some.ensures.steps.1 in
    let left = at.invariant.left in
    let short : length (into_iter_items c.loop-entry.entry-iterator) ≡ suc (length (into_iter_items c.next.new.self)) = ap (λ (xs : List ((ℕ × ℕ) × KeptFate)). length xs) steps in
    record {
      left = omega (arith, short, left, gone);
      kept = λ n i.
          put_more at.fates c.insert.new.self c.in-Some.entry (into_iter_items at.entry-iterator) (into_iter_items c.next.new.self) n i
          (fate_with c.args.fates.now c.args.recent.items n i) c.in_ok-insert.ensures.updates.0 steps (at.invariant.kept n i);
    }

pub loop-entry-preserved : goal.loop-entry-preserved
loop-entry-preserved c =
    let at = c.loop-entry in
    let steps : into_iter_items c.loop-entry.entry-iterator ≡ c.in-Some.entry ∷ into_iter_items c.next.new.self = c.in-Some.ensures.steps.0 in
    let gone = c.in-Some.ensures.steps.1 in
    let left = at.invariant.left in
    let short : length (into_iter_items c.loop-entry.entry-iterator) ≡ suc (length (into_iter_items c.next.new.self)) = ap (λ (xs : List ((ℕ × ℕ) × KeptFate)). length xs) steps in
    record {
      left = omega (arith, short, left, gone);
      kept = λ n i.
          put_more at.fates c.insert.new.self c.in-Some.entry (into_iter_items at.entry-iterator) (into_iter_items c.next.new.self) n i
          (fate_with c.args.fates.now c.args.recent.items n i) c.in_ok-insert.ensures.updates.0 steps (at.invariant.kept n i);
    }

pub returns : goal.returns
returns c = λ n i.
    let at = c.loop-entry in
    let none = c.in-None.ensures.steps in
    let empty : into_iter_items at.entry-iterator ≡ [] = no_item (into_iter_items at.entry-iterator) (sym at.invariant.left ∙ none.0) in
    ap (λ es. fate_with at.fates es n i) (sym empty) ∙ at.invariant.kept n i
