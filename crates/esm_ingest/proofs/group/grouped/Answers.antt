use Rattle.std.proofs.Common.{◌≡◌, ◌∙◌, ◌∷◌, [], List, suc, map, length, vec_len, rules, sym, ap, ap₂, arith}
use Rattle.std.specs.Vec.Iter.{into_iter_items}
use Rattle.esm_model.specs.Records.{Record}
use Rattle.esm_model.specs.Setting.{Stream}
use Rattle.esm_ingest.specs.declared.group.Group.{Group}
use Rattle.esm_ingest.specs.Coming.{with_records}
use Rattle.esm_ingest.specs.Inside.{stream_in}
use Rattle.esm_ingest.proofs.Groups.{no_record}
use Rattle.esm_ingest.proofs.group.grouped.Goals as goal

pub loop-item-init : goal.loop-item-init
loop-item-init c =
    let gives = c.into_iter-item-iterator.ensures.into_iter_gives in
    let all : vec_len c.args.items ≡ length c.args.items.items = search rules in
    let same = ap (λ (xs : List Record). length xs) gives.0 in
    record {
      index = λ n. search rules;
      run = tt;
      so_far = ap₂ (λ (gs : List Group) (rs : List Record). with_records (map stream_in gs) rs) c.new-groups.ensures.items gives.0;
      left = gives.1 ∙ (all ∙ sym same);
    }

pub loop-item-preserved : goal.loop-item-preserved
loop-item-preserved c =
    let at = c.loop-item in
    let inv = at.invariant in
    let x = c.in-Some.item in
    let steps : into_iter_items at.item-iterator ≡ x ∷ into_iter_items c.next.new.self = c.in-Some.ensures.steps.0 in
    let gone = c.in-Some.ensures.steps.1 in
    let short : length (into_iter_items at.item-iterator) ≡ suc (length (into_iter_items c.next.new.self)) = ap (λ (xs : List Record). length xs) steps in
    let left = inv.left in
    record {
      index = c.in_ok-run.ensures.index;
      run = c.in_ok-run.ensures.run;
      so_far = ap (λ (ts : List Stream). with_records ts (into_iter_items c.next.new.self)) c.in_ok-run.ensures.groups ∙ (ap (λ (rs : List Record). with_records (map stream_in at.groups.items) rs) (sym steps) ∙ inv.so_far);
      left = omega (arith, short, left, gone);
    }

pub returns : goal.returns
returns c =
    let at = c.loop-item in
    let none = c.in-None.ensures.steps in
    let empty : into_iter_items at.item-iterator ≡ [] = no_record (into_iter_items at.item-iterator) (sym at.invariant.left ∙ none.0) in
    ap (λ (rs : List Record). with_records (map stream_in at.groups.items) rs) (sym empty) ∙ at.invariant.so_far
