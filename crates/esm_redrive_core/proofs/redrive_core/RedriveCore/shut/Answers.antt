use Rattle.std.proofs.Common.{◌≡◌, ◌∙◌, true, false, length, vec_len, rules, arith, sym, ap}
use Rattle.esm_model.specs.declared.entry.Entry.{Entry}
use Rattle.esm_model.specs.declared.entry.Entry.TheVariants.{Shut}
use Rattle.esm_model.specs.Entries.{is_shut}
use Rattle.esm_redrive_core.specs.RedriveView.{RedriveView}
use Rattle.esm_redrive_core.specs.Kept.{IsKept}
use Rattle.esm_redrive_core.specs.Inside.{parts_of}
use Rattle.esm_redrive_core.proofs.Keeping.{kept_pushed, pushed_past, pushed_number}
use Rattle.esm_redrive_core.proofs.Noting.{noting, kept_noted, shut_notes, shut_room}
use Rattle.esm_redrive_core.proofs.redrive_core.RedriveCore.shut.Goals as goal

pub push_reserved-requires : goal.push_reserved-requires
push_reserved-requires c =
    let p = parts_of c.self.inside in
    let going : is_shut p.past ≡ false = ap (λ (v : RedriveView). is_shut v.past) c.self.view_is ∙ c.requires in
    let room = shut_room p c.self.invariant going in
    let all : vec_len c.self.inside.history ≡ length c.self.inside.history.items = search rules in
    omega (arith, room, all)

pub invariant_of-self : goal.invariant_of-self
invariant_of-self c =
    let p = parts_of c.self.inside in
    let old = c.self.inside.history.items in
    let new = c.push_reserved.new.self.items in
    let e : Entry = Shut c.raised_to-now.result in
    let going : is_shut p.past ≡ false = ap (λ (v : RedriveView). is_shut v.past) c.self.view_is ∙ c.requires in
    let kept : IsKept (noting p e true p.running) = kept_noted p e true p.running c.self.invariant (shut_notes p c.raised_to-now.result c.self.invariant going c.raised_to-now.ensures.in_time) in
    kept_pushed (noting p e true p.running) new _ kept (pushed_past old new e c.push_reserved.ensures.items) (pushed_number old new e c.push_reserved.ensures.items) (sym c.push_reserved.ensures.capacity)
