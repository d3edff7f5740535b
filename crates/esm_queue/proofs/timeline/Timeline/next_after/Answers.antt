use Rattle.std.proofs.Common.{◌≡◌, ◌<◌, Some, ap, subst, sym, ◌∙◌}
use Rattle.std.proofs.lemmas.Bool.{both_ways}
use Rattle.std.specs.Prelude.{filter}
use Rattle.std.specs.Ordering.{nat_cmp}
use Rattle.std.specs.BTreeMap.{get}
use Rattle.esm_queue_model.specs.Queue.{least}
use Rattle.esm_queue.specs.declared.moment_tree.TheConstants.{NEVER}
use Rattle.esm_queue.specs.Moments.{Timed, is_after}
use Rattle.esm_queue.proofs.Counting.{next_none, next_some, next_past}
use Rattle.esm_queue.proofs.timeline.Timeline.next_after.Goals as goal

pub returns-in-None : goal.returns-in-None
returns-in-None c =
    let t = c.self.inside in
    next_none t.counts t.moments.items c.args.at c.self.invariant.counted c.in-None.ensures.none
    ∙ ap (λ (v : Timed). least (filter (is_after c.args.at) v.moments)) c.self.view_is

pub key_after-requires-then-is_blank : goal.key_after-requires-then-is_blank
key_after-requires-then-is_blank c =
    let t = c.self.inside in
    let k = c.in-Some.moment in
    let blank : get nat_cmp t.counts k ≡ Some 0 = c.is_blank.ensures.0 c.if-is_blank.true in
    subst (λ m. m < NEVER) (sym (c.self.invariant.some k blank)) c.self.invariant.early

pub returns-then-is_blank : goal.returns-then-is_blank
returns-then-is_blank c =
    let t = c.self.inside in
    let k = c.in-Some.moment in
    let blank : get nat_cmp t.counts k ≡ Some 0 = c.is_blank.ensures.0 c.if-is_blank.true in
    let ready = c.self.invariant.some k blank in
    let e = c.key_after-then-is_blank.ensures in
    next_past t.counts t.moments.items c.args.at k c.key_after-then-is_blank.result c.self.invariant.counted (λ w zero. c.self.invariant.some w zero ∙ sym ready) blank c.in-Some.ensures.some e.none e.some
    ∙ ap (λ (v : Timed). least (filter (is_after c.args.at) v.moments)) c.self.view_is

pub returns-else-is_blank : goal.returns-else-is_blank
returns-else-is_blank c =
    let t = c.self.inside in
    let k = c.in-Some.moment in
    next_some t.counts t.moments.items c.args.at k c.self.invariant.counted (λ zero. both_ways c.is_blank.result c.if-is_blank.false (c.is_blank.ensures.1 zero)) c.in-Some.ensures.some
    ∙ ap (λ (v : Timed). least (filter (is_after c.args.at) v.moments)) c.self.view_is
