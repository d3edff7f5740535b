use Rattle.std.proofs.Common.{◌≡◌, ◌∙◌, ◌+◌, ◌<◌, ◌^◌, List, [], length, drop, rules, sym, ap, subst, Some}
use Rattle.std.specs.Ordering.{nat_cmp}
use Rattle.std.specs.Map.{count_at}
use Rattle.std.specs.BTreeMap.{get}
use Rattle.esm_model.specs.declared.book.Change.{Change}
use Rattle.esm_model.specs.Records.{Record}
use Rattle.esm_replay_core.specs.View.{ReplayView}
use Rattle.esm_replay.specs.Records.{are_named}
use Rattle.esm_replay.specs.Coming.{first_change, IsKeptChange}
use Rattle.esm_replay_core.specs.Owing.{still_coming}
use Rattle.esm_replay_core.specs.Kept.{parts_of}
use Rattle.esm_replay_core.proofs.Keeping.{IsStill, settled_of, still_is}
use Rattle.esm_replay_core.proofs.Tellings.{kept_change}
use Rattle.esm_replay_core.proofs.Deciding.{counts_low, first_is, refused_so, core_recounted, core_coming, came_all, undone}
use Rattle.esm_replay_core.proofs.replay_core.ReplayCore.came.Goals as goal

pub first_change-requires : goal.first_change-requires
first_change-requires c = λ q.
    let p = parts_of c.self.inside in
    subst (λ (rs : List Record). count_at (get nat_cmp p.counts) q + length rs < 2 ^ 32) (sym c.as_slice.ensures.value)
    (counts_low p c.args.self.now (length c.args.items.items) c.self.invariant.0 c.self.view_is c.requires.places q)

pub returns-in-Err-clause-refused : goal.returns-in-Err-clause-refused
returns-in-Err-clause-refused c =
    let p = parts_of c.self.inside in
    let v = c.args.self.now in
    let first = first_is p v c.as_slice.result.now c.args.items.items c.in_ok-looked.looked.change c.self.invariant.0 c.self.view_is c.as_slice.ensures.value c.in_ok-looked.ensures.change in
    refused_so (λ (x : Change). c.in_ok-looked.looked.change ≡ Some x) (λ (x : Change). (first_change v.opened.said v.records c.args.items.items ≡ Some x) × IsKeptChange v.opened.said x) c.in-Err.refusal
    (λ x is. (sym first ∙ is, kept_change v.opened.said v.records c.args.items.items x (sym first ∙ is))) c.in-Err.ensures.err

pub invariant_of-self : goal.invariant_of-self
invariant_of-self c =
    let p = parts_of c.self.inside in
    let settled = settled_of p c.args.self.now c.self.view_is c.requires.settled in
    let done = core_recounted p c.self.inside.came c.self.inside.records.items c.take_in.new.records.items c.take_in.new.counts c.self.invariant.0 settled c.self.invariant.1 c.in_err-take_in.ensures.err c.take_in.ensures.same in (
      done.0,
      done.1,
      c.in_err-take_in.ensures.unnamed ∙ c.self.invariant.2 ∙ ap (are_named p.opened.said p.opened.ranges []) (sym c.in_err-take_in.ensures.err),
    )

pub invariant_of-self-2 : goal.invariant_of-self-2
invariant_of-self-2 c =
    let p = parts_of c.self.inside in
    let v = c.args.self.now in
    let settled = settled_of p v c.self.view_is c.requires.settled in
    let long : c.len.result ≡ length c.take_in.new.records.items = c.len.ensures ∙ search rules in
    let still : IsStill (drop c.self.inside.came c.take_in.new.records.items) c.put.new.place = subst (IsStill (drop c.self.inside.came c.take_in.new.records.items)) (ap (still_coming c.self.inside.came) (sym long) ∙ sym c.still_coming.ensures ∙ sym c.put.ensures) (still_is c.take_in.new.records.items c.self.inside.came) in
    let done = core_coming p v c.self.inside.came c.self.inside.records.items c.take_in.new.records.items c.args.items.items c.take_in.new.counts c.put.new.place c.self.invariant.0 settled c.self.view_is c.self.invariant.1 c.requires.early
    c.in_ok-take_in.ensures.ok c.requires.valid c.requires.places c.take_in.ensures.same c.in_ok-take_in.ensures.there still c.clear.new.waiting c.clear.ensures in (
      done.kept.0,
      done.kept.1,
      c.in_ok-take_in.ensures.named
          ∙ came_all p c.self.inside.came c.self.inside.records.items c.args.items.items c.as_slice.result.now c.self.inside.are_named.items c.in_ok-looked.looked.named.items c.self.invariant.0 settled.coming c.as_slice.ensures.value c.self.invariant.2
          (λ before are. c.in_ok-looked.ensures.named before are c.in-Ok.ensures.ok)
          ∙ ap (are_named p.opened.said p.opened.ranges []) (sym c.in_ok-take_in.ensures.ok),
    )

pub returns-clause-same : goal.returns-clause-same
returns-clause-same c =
    let p = parts_of c.self.inside in
    let v = c.args.self.now in
    let first = first_is p v c.as_slice.result.now c.args.items.items c.in_ok-looked.looked.change c.self.invariant.0 c.self.view_is c.as_slice.ensures.value c.in_ok-looked.ensures.change in
    sym first ∙ c.in-Ok.ensures.ok

pub returns-clause-owes : goal.returns-clause-owes
returns-clause-owes c =
    let p = parts_of c.self.inside in
    let v = c.args.self.now in
    let settled = settled_of p v c.self.view_is c.requires.settled in
    let long : c.len.result ≡ length c.take_in.new.records.items = c.len.ensures ∙ search rules in
    let still : IsStill (drop c.self.inside.came c.take_in.new.records.items) c.put.new.place = subst (IsStill (drop c.self.inside.came c.take_in.new.records.items)) (ap (still_coming c.self.inside.came) (sym long) ∙ sym c.still_coming.ensures ∙ sym c.put.ensures) (still_is c.take_in.new.records.items c.self.inside.came) in
    (core_coming p v c.self.inside.came c.self.inside.records.items c.take_in.new.records.items c.args.items.items c.take_in.new.counts c.put.new.place c.self.invariant.0 settled c.self.view_is c.self.invariant.1 c.requires.early
    c.in_ok-take_in.ensures.ok c.requires.valid c.requires.places c.take_in.ensures.same c.in_ok-take_in.ensures.there still c.clear.new.waiting c.clear.ensures).owes

pub returns-clause-undone : goal.returns-clause-undone
returns-clause-undone c =
    let p = parts_of c.self.inside in
    let v = c.args.self.now in
    let settled = settled_of p v c.self.view_is c.requires.settled in
    let long : c.len.result ≡ length c.take_in.new.records.items = c.len.ensures ∙ search rules in
    let still : IsStill (drop c.self.inside.came c.take_in.new.records.items) c.put.new.place = subst (IsStill (drop c.self.inside.came c.take_in.new.records.items)) (ap (still_coming c.self.inside.came) (sym long) ∙ sym c.still_coming.ensures ∙ sym c.put.ensures) (still_is c.take_in.new.records.items c.self.inside.came) in
    undone v _ c.args.items.items [] (core_coming p v c.self.inside.came c.self.inside.records.items c.take_in.new.records.items c.args.items.items c.take_in.new.counts c.put.new.place c.self.invariant.0 settled c.self.view_is c.self.invariant.1 c.requires.early
    c.in_ok-take_in.ensures.ok c.requires.valid c.requires.places c.take_in.ensures.same c.in_ok-take_in.ensures.there still c.clear.new.waiting c.clear.ensures).owes
    (sym (ap (λ (u : ReplayView). u.coming) c.self.view_is) ∙ settled.coming) (sym (ap (λ (u : ReplayView). u.owed) c.self.view_is) ∙ settled.entries)
