use Rattle.std.proofs.Common.{◌≡◌, ◌∙◌, true, false, length, reverse, vec_len, rules, arith, sym, ap, subst}
use Rattle.std.specs.Vec.{vec_capacity}
use Rattle.esm_model.specs.declared.entry.Entry.{Entry}
use Rattle.esm_model.specs.declared.entry.Entry.TheVariants.{Shut}
use Rattle.esm_model.specs.Entries.{is_shut}
use Rattle.esm_queue_core.specs.declared.standing.Standing.{Standing}
use Rattle.esm_queue_core.specs.CoreView.{CoreView}
use Rattle.esm_queue_core.specs.Kept.{IsKept}
use Rattle.esm_queue_core.specs.Inside.{parts_of}
use Rattle.esm_queue_core.specs.Standing.{standing_shut}
use Rattle.esm_queue_core.proofs.Added.{noting, kept_noted, kept_pushed, pushed_past, pushed_number}
use Rattle.esm_queue_core.proofs.Shutting.{shut_notes, shut_room}
use Rattle.esm_queue_core.proofs.queue_core.QueueCore.shut.Goals as goal

pub push_reserved-requires : goal.push_reserved-requires
push_reserved-requires c =
    let p = parts_of c.self.inside in
    let going : is_shut p.past ≡ false = ap (λ (v : CoreView). is_shut v.past) c.self.view_is ∙ c.requires in
    let room = shut_room p c.self.invariant going in
    let all : vec_len c.self.inside.history ≡ length c.self.inside.history.items = search rules in
    omega arith

pub invariant_of-self : goal.invariant_of-self
invariant_of-self c =
    let p = parts_of c.self.inside in
    let old = c.self.inside.history.items in
    let new = c.push_reserved.new.self.items in
    let e : Entry = Shut c.raised_to-now.result in
    let st = standing_shut p.standing p.first p.gift in
    let going : is_shut p.past ≡ false = ap (λ (v : CoreView). is_shut v.past) c.self.view_is ∙ c.requires in
    let kept : IsKept (noting p e true st) = kept_noted p e true st c.self.invariant (shut_notes p c.raised_to-now.result c.self.invariant going c.raised_to-now.ensures.goes_on c.raised_to-now.ensures.in_time) in
    subst (λ (s : Standing). IsKept (record (noting p e true s) { past = reverse new; number = length new; capacity = vec_capacity c.push_reserved.new.self })) (sym c.shut-self-inside.ensures)
    (kept_pushed (noting p e true st) new _ kept (pushed_past old new e c.push_reserved.ensures.items) (pushed_number old new e c.push_reserved.ensures.items) (sym c.push_reserved.ensures.capacity))
