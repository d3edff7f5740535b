use Rattle.std.proofs.Common.{◌≡◌, ◌<◌, ◌∙◌, refl, sym, ap, subst, length, arith, false, inl, inr}
use Rattle.std.specs.Prelude.{count_by, ◌==◌, IsSome}
use Rattle.std.specs.Ordering.{nat_cmp}
use Rattle.std.specs.BTreeMap.{get}
use Rattle.std.proofs.lemmas.Bool.{cases_Bool, cond-true, cond-false, both_ways}
use Rattle.std.proofs.lemmas.List.{length-set}
use Rattle.esm_queue.specs.Moments.{Timed, is_set}
use Rattle.esm_queue.specs.Counted.{times}
use Rattle.esm_queue.proofs.Counting.{count_room, counted_set, still_some, still_key, still_early}
use Rattle.esm_queue.proofs.timeline.Timeline.set.Goals as goal

pub add_one-requires : goal.add_one-requires
add_one-requires c =
    let t = c.self.inside in
    let m = c.args.moment in
    let inv = c.self.invariant in
    let place : c.args.place < length t.moments.items = subst (λ (v : Timed). c.args.place < length v.moments) (sym c.self.view_is) c.requires in
    let room : count_by (λ x. x == m) t.moments.items < length t.moments.items = count_room t.moments.items c.args.place m place (λ same. c.if-old-moment.false (c.moment_at-old.ensures ∙ same)) in
    let few = inv.few in
    elim (cases_Bool (is_set m)) [
      | inl is ↦ (let n : times t.counts m ≡ count_by (λ x. x == m) t.moments.items = inv.counted m ∙ cond-true (is_set m) (count_by (λ x. x == m) t.moments.items) 0 is in omega arith)
      | inr not' ↦ (let n : times t.counts m ≡ 0 = inv.counted m ∙ cond-false (is_set m) (count_by (λ x. x == m) t.moments.items) 0 not' in omega arith)
    ]

pub returns-in_err-add_one-clause-succeeds : goal.returns-in_err-add_one-clause-succeeds
returns-in_err-add_one-clause-succeeds c = λ same.
    let t = c.self.inside in
    let m = c.args.moment in
    let here : m ≡ t.ready = same ∙ sym (ap (λ (v : Timed). v.ready) c.self.view_is) in
    let e = c.in_err-add_one.ensures in
    elim (cases_Bool (is_set m)) [
      | inl is ↦ absurd (both_ways false refl (e.succeeds (subst (λ v. IsSome (get nat_cmp t.counts v)) (sym here) (c.self.invariant.ready (ap is_set (sym here) ∙ is)))))
      | inr not' ↦ absurd (both_ways false refl (e.blank not'))
    ]

pub invariant_of-self-2 : goal.invariant_of-self-2
invariant_of-self-2 c =
    let t = c.self.inside in
    let xs = t.moments.items in
    let p = c.args.place in
    let within : p < length xs = subst (λ (v : Timed). p < length v.moments) (sym c.self.view_is) c.requires in
    let size : length c.set_moment.new.moments.items ≡ length xs = ap length c.set_moment.ensures.items ∙ length-set xs p c.args.moment in
    let few = c.self.invariant.few in
    record {
      few = omega arith;
      counted = λ v. counted_set c.moment_at-old.result c.args.moment p v (times t.counts v) (times c.add_one.new.counts v) (times c.remove_one.new.counts v) xs c.set_moment.new.moments.items within c.moment_at-old.ensures c.set_moment.ensures.items (c.self.invariant.counted v) (c.in_ok-add_one.ensures.ok v) (c.remove_one.ensures.times v);
      some = λ v zero. still_some t.ready c.moment_at-old.result v c.still_ready-self-inside.result c.still_ready-self-inside.ensures (c.self.invariant.some v (c.add_one.ensures.zero v (c.remove_one.ensures.zero v zero))) c.self.invariant.early
          (λ set' same. c.remove_one.ensures.gone set' (ap (get nat_cmp c.remove_one.new.counts) (sym same) ∙ zero));
      ready = still_key c.remove_one.new.counts t.ready c.moment_at-old.result c.still_ready-self-inside.result c.still_ready-self-inside.ensures
          (λ set' apart. subst (λ o. IsSome o) (sym (c.remove_one.ensures.keys t.ready apart)) (c.add_one.ensures.keys t.ready (c.self.invariant.ready set')));
      early = still_early t.ready c.moment_at-old.result c.still_ready-self-inside.result c.still_ready-self-inside.ensures c.self.invariant.early;
    }
