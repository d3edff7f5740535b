use Rattle.std.proofs.Common.{◌≡◌, ◌∙◌, [], List, ℕ, rules, length, vec_len, refl, sym, ap, subst, IfOk, OnOk}
use Rattle.esm_model.specs.declared.book.Next.{Next}
use Rattle.esm_model.specs.declared.entry.Entry.{Entry}
use Rattle.esm_redrive_core.specs.RedriveView.{owing}
use Rattle.esm_redrive_core.specs.Adding.{redrive_next, redrive_next_entries}
use Rattle.esm_redrive_core.specs.Inside.{parts_of}
use Rattle.esm_redrive_core.proofs.Due.{due_at, none_due, moment_is, short_of}
use Rattle.esm_redrive_core.proofs.redrive_core.RedriveCore.next.Goals as goal

pub move_out-requires-clause-within : goal.move_out-requires-clause-within
move_out-requires-clause-within c =
    let p = parts_of c.self.inside in
    (due_at p c.args.self.now c.raised_to-now.result c.first_due.result c.self.invariant c.self.view_is c.raised_to-now.ensures.in_time c.first_due.ensures c.in-Some.place c.in-Some.is).within

pub move_out-requires-clause-short : goal.move_out-requires-clause-short
move_out-requires-clause-short c =
    let all : vec_len c.self.inside.history ≡ length c.self.inside.history.items = search rules in
    short_of (parts_of c.self.inside) c.args.self.now c.self.inside.history.items c.len.result c.self.view_is refl (c.len.ensures ∙ all) (c.may_decide.ensures c.if-not-may_decide.false)

pub begin-requires-clause-none_due : goal.begin-requires-clause-none_due
begin-requires-clause-none_due c =
    let p = parts_of c.self.inside in
    (none_due p c.args.self.now c.raised_to-now.result c.first_due.result c.self.invariant c.self.view_is c.raised_to-now.ensures.in_time c.first_due.ensures c.in-None.is).none

pub begin-requires-clause-short : goal.begin-requires-clause-short
begin-requires-clause-short c =
    let all : vec_len c.self.inside.history ≡ length c.self.inside.history.items = search rules in
    short_of (parts_of c.self.inside) c.args.self.now c.self.inside.history.items c.len.result c.self.view_is refl (c.len.ensures ∙ all) (c.may_decide.ensures c.if-not-may_decide.false)

pub returns-in_ok-move_out-in-Some-clause-answer : goal.returns-in_ok-move_out-in-Some-clause-answer
returns-in_ok-move_out-in-Some-clause-answer c =
    let p = parts_of c.self.inside in
    let v = c.args.self.now in
    let due = due_at p v c.raised_to-now.result c.first_due.result c.self.invariant c.self.view_is c.raised_to-now.ensures.in_time c.first_due.ensures c.in-Some.place c.in-Some.is in
    let now = moment_is p v c.raised_to-now.result c.args.moment c.self.invariant c.self.view_is c.raised_to-now.ensures.value in
    sym due.answers ∙ ap (λ (m : ℕ). redrive_next v.setting v.past m) now

pub returns-in_ok-move_out-in-Some-clause-owes : goal.returns-in_ok-move_out-in-Some-clause-owes
returns-in_ok-move_out-in-Some-clause-owes c =
    let p = parts_of c.self.inside in
    let v = c.args.self.now in
    let due = due_at p v c.raised_to-now.result c.first_due.result c.self.invariant c.self.view_is c.raised_to-now.ensures.in_time c.first_due.ensures c.in-Some.place c.in-Some.is in
    let now = moment_is p v c.raised_to-now.result c.args.moment c.self.invariant c.self.view_is c.raised_to-now.ensures.value in
    c.in_ok-move_out-in-Some.ensures.owes ∙ ap (λ (es : List Entry). owing v [] es) (sym due.adds ∙ ap (λ (m : ℕ). redrive_next_entries v.setting v.past m) now)

pub returns-in-None-clause-answer : goal.returns-in-None-clause-answer
returns-in-None-clause-answer c =
    let p = parts_of c.self.inside in
    let v = c.args.self.now in
    let none = none_due p v c.raised_to-now.result c.first_due.result c.self.invariant c.self.view_is c.raised_to-now.ensures.in_time c.first_due.ensures c.in-None.is in
    let now = moment_is p v c.raised_to-now.result c.args.moment c.self.invariant c.self.view_is c.raised_to-now.ensures.value in
    subst (λ (n : Next). IfOk c.begin.result (λ next. next ≡ n)) (sym none.answers ∙ ap (λ (m : ℕ). redrive_next v.setting v.past m) now) c.begin.ensures.answer

pub returns-in-None-clause-owes : goal.returns-in-None-clause-owes
returns-in-None-clause-owes c =
    let p = parts_of c.self.inside in
    let v = c.args.self.now in
    let none = none_due p v c.raised_to-now.result c.first_due.result c.self.invariant c.self.view_is c.raised_to-now.ensures.in_time c.first_due.ensures c.in-None.is in
    let now = moment_is p v c.raised_to-now.result c.args.moment c.self.invariant c.self.view_is c.raised_to-now.ensures.value in
    subst (λ (es : List Entry). OnOk c.begin.result (c.begin.new.self ≡ owing v [] es)) (sym none.adds ∙ ap (λ (m : ℕ). redrive_next_entries v.setting v.past m) now) c.begin.ensures.owes
