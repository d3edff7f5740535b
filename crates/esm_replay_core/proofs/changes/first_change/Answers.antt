use Rattle.std.proofs.Common.{◌≡◌, ◌∙◌, ◌+◌, ◌++◌, true, false, Option, List, take, drop, sym, ap, arith}
use Rattle.std.specs.Prelude.{is_some}
use Rattle.std.specs.Ordering.{nat_cmp}
use Rattle.std.specs.Map.{count_at}
use Rattle.std.specs.BTreeMap.{get}
use Rattle.std.proofs.lemmas.List.{append-nil, take_all}
use Rattle.esm_model.specs.declared.book.Change.{Change}
use Rattle.esm_model.specs.Records.{Record}
use Rattle.esm_replay.specs.Records.{are_named}
use Rattle.esm_replay.specs.Coming.{first_change}
use Rattle.esm_replay_core.proofs.Tallying.{tally_more, place_at_hand, still_tallied}
use Rattle.esm_replay_core.proofs.Differing.{few_front, looked, named_more, none_after, or_some, or_none}
use Rattle.esm_replay_core.proofs.changes.first_change.Goals as goal

pub loop-item-init : goal.loop-item-init
loop-item-init c = record {
  tallied = λ q. (let is = c.new_tally-tally.ensures q in let none : count_at (get nat_cmp c.args.counts.now) q ≡ count_at (get nat_cmp c.args.counts.now) q + 0 = omega arith in is ∙ none);
  named = λ before are. c.in_ok-named.ensures.items;
  rest = λ before are. ap (λ (rs : List Record). first_change c.args.said.now rs c.args.items.now) (sym (append-nil before));
}

pub count_next-requires : goal.count_next-requires
count_next-requires c =
    let x = c.item-item.result in
    let i = c.loop-item.item-index in
    let few = c.requires x.shard in
    let front = few_front c.args.items.now i x.shard (omega (arith, c.loop-item-test.true)) in
    let tallied = still_tallied c.args.counts.now c.loop-item.tally c.take_in_hand.new.tally (take i c.args.items.now) c.in_ok-take_in_hand.ensures.same c.loop-item.invariant.tallied in
    let place = place_at_hand c.args.counts.now c.take_in_hand.new.tally (take i c.args.items.now) x.shard (c.in_ok-take_in_hand.ensures.here ∙ c.shard.ensures) tallied in
    omega (arith, few, front, place, c.loop-item-test.true)

pub returns-then-is_some-clause-change : goal.returns-then-is_some-clause-change
returns-then-is_some-clause-change c = λ before are.
    let x = c.item-item.result in
    let i = c.loop-item.item-index in
    let tallied = still_tallied c.args.counts.now c.loop-item.tally c.take_in_hand.new.tally (take i c.args.items.now) c.in_ok-take_in_hand.ensures.same c.loop-item.invariant.tallied in
    let place = place_at_hand c.args.counts.now c.take_in_hand.new.tally (take i c.args.items.now) x.shard (c.in_ok-take_in_hand.ensures.here ∙ c.shard.ensures) tallied in
    sym (c.loop-item.invariant.rest before are
    ∙ looked c.args.said.now c.args.counts.now c.args.items.now i x c.take_in_hand.new.tally.place c.in_ok-found.found.change c.loop-item-test.true c.item-item.is place c.in_ok-found.ensures.change before are
    ∙ or_some c.in_ok-found.found.change (first_change c.args.said.now (before ++ take (i + 1) c.args.items.now) (drop (i + 1) c.args.items.now)) (sym c.is_some.ensures ∙ c.if-is_some.true))

pub returns-then-is_some-clause-named : goal.returns-then-is_some-clause-named
returns-then-is_some-clause-named c = λ before are none.
    let some : is_some c.in_ok-found.found.change ≡ true = sym c.is_some.ensures ∙ c.if-is_some.true in
    let clash : true ≡ false = sym some ∙ ap (λ (o : Option Change). is_some o) none in
    absurd (cc)

pub loop-item-preserved : goal.loop-item-preserved
loop-item-preserved c =
    let x = c.item-item.result in
    let i = c.loop-item.item-index in
    let tallied = still_tallied c.args.counts.now c.loop-item.tally c.take_in_hand.new.tally (take i c.args.items.now) c.in_ok-take_in_hand.ensures.same c.loop-item.invariant.tallied in
    let place = place_at_hand c.args.counts.now c.take_in_hand.new.tally (take i c.args.items.now) x.shard (c.in_ok-take_in_hand.ensures.here ∙ c.shard.ensures) tallied in
    record {
      tallied = tally_more c.args.counts.now c.take_in_hand.new.tally c.count_next.new.tally c.args.items.now i x c.loop-item-test.true c.item-item.is (c.in_ok-take_in_hand.ensures.here ∙ c.shard.ensures) tallied c.count_next.ensures;
      named = λ before are. named_more c.args.said.now c.args.ranges.now c.args.counts.now before c.args.items.now i x c.take_in_hand.new.tally.place c.in_ok-found.found.is_named c.loop-item.named.items c.push.new.self.items
          c.loop-item-test.true c.item-item.is are place c.in_ok-found.ensures.named (c.loop-item.invariant.named before are) c.in_ok-push.ensures.items;
      rest = λ before are.
          c.loop-item.invariant.rest before are
          ∙ looked c.args.said.now c.args.counts.now c.args.items.now i x c.take_in_hand.new.tally.place c.in_ok-found.found.change c.loop-item-test.true c.item-item.is place c.in_ok-found.ensures.change before are
          ∙ or_none c.in_ok-found.found.change (first_change c.args.said.now (before ++ take (i + 1) c.args.items.now) (drop (i + 1) c.args.items.now)) (sym c.is_some.ensures ∙ c.if-is_some.false);
    }

pub returns-clause-named : goal.returns-clause-named
returns-clause-named c = λ before are none.
    c.loop-item.invariant.named before are ∙ ap (are_named c.args.said.now c.args.ranges.now before) (take_all c.loop-item.item-index c.args.items.now (omega (arith, c.loop-item-test.false)))

pub returns-clause-change : goal.returns-clause-change
returns-clause-change c = λ before are.
    sym (c.loop-item.invariant.rest before are ∙ none_after c.args.said.now (before ++ take c.loop-item.item-index c.args.items.now) c.args.items.now c.loop-item.item-index c.loop-item-test.false)
