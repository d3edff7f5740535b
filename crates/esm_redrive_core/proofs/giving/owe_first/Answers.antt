use Rattle.std.proofs.Common.{◌≤◌, ◌++◌, vec_len, length, sym, ◌∙◌, arith}
use Rattle.std.proofs.lemmas.Bool.{eqb-true, eqb-false}
use Rattle.esm_queue_core.specs.Kept.{messages_stored}
use Rattle.esm_redrive_core.proofs.Owing.{owed_before, all_before, lines_before, nothing_gave}
use Rattle.esm_redrive_core.proofs.giving.owe_first.Goals as goal

pub returns-then-is_empty-clause-entries : goal.returns-then-is_empty-clause-entries
returns-then-is_empty-clause-entries c =
    let none = eqb-true (vec_len c.args.places) 0 (sym c.is_empty.ensures ∙ c.if-is_empty.true) in
    nothing_gave c.args.by c.args.places.items c.args.fate c.args.moment _ (omega (arith, none, c.args.places.ok))

pub gift_of-requires-clause-some : goal.gift_of-requires-clause-some
gift_of-requires-clause-some c =
    let ne = eqb-false (vec_len c.args.places) 0 (sym c.is_empty.ensures ∙ c.if-is_empty.false) in
    omega (arith, ne, c.args.places.ok)

pub returns-clause-entries : goal.returns-clause-entries
returns-clause-entries c =
    let ne = eqb-false (vec_len c.args.places) 0 (sym c.is_empty.ensures ∙ c.if-is_empty.false) in
    let some : 1 ≤ length c.args.places.items = omega (arith, ne, c.args.places.ok) in
    owed_before c.args.gifts.now.items c.push.new.self.items c.in_ok-gift.gift c.args.by c.args.places.items c.args.fate c.args.moment c.in_ok-push.ensures.items some c.in_ok-gift.ensures.entry

pub returns-clause-all : goal.returns-clause-all
returns-clause-all c = all_before (messages_stored c.args.queue.now.state ++ c.args.coming.now) c.args.gifts.now.items c.push.new.self.items c.in_ok-gift.gift c.in_ok-push.ensures.items c.in_ok-gift.ensures.written c.requires.all

pub returns-clause-lines : goal.returns-clause-lines
returns-clause-lines c = lines_before c.args.gifts.now.items c.push.new.self.items c.in_ok-gift.gift c.in_ok-push.ensures.items c.in_ok-gift.ensures.line
