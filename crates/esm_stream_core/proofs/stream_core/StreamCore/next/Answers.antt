use Rattle.std.proofs.Common.{◌≡◌, ℕ, List, [], ◌∷◌, ◌<◌, length, refl, sym, ap, ◌∙◌, subst, rules, Fits, w32}
use Rattle.esm_model.specs.declared.book.Next.TheVariants as next
use Rattle.esm_model.specs.declared.entry.Entry.TheVariants.{Began}
use Rattle.esm_next.specs.declared.decision.Decision.{Decision}
use Rattle.esm_next.specs.declared.decision.Decision.TheVariants as decision
use Rattle.esm_next.specs.Deciding.{answer_of}
use Rattle.esm_outcome.specs.Ending.{MaySettle}
use Rattle.esm_stream_core.specs.CoreView.{owing}
use Rattle.esm_stream_core.specs.Calls.{moment_for, IsNextOver, next_adds}
use Rattle.esm_stream_core.specs.Inside.{view_of}
use Rattle.esm_stream_core.proofs.Deciding.{IsIdle, idle, ledger_of}
use Rattle.esm_stream_core.proofs.Ledgers.{moment_is, is_later, within_bounds, settled_over, lane_rests, Follows, follows, answers, owes_next, few_expire}
use Rattle.esm_stream_core.proofs.stream_core.StreamCore.next.Goals as goal
use Rattle.esm_stream_core.proofs.stream_core.StreamCore.next.Goals.{In_ok-job}

pub decide_next-requires-clause-kept : goal.decide_next-requires-clause-kept
decide_next-requires-clause-kept c = (ledger_of (view_of c.self.inside) c.self.inside refl c.self.invariant (sym c.is_whole.ensures ∙ c.if-not-is_whole.false)).keeps

pub decide_next-requires-clause-later : goal.decide_next-requires-clause-later
decide_next-requires-clause-later c = (is_later (view_of c.self.inside) c.self.inside c.raised_to-now.result refl c.self.invariant c.raised_to-now.ensures.goes_on c.raised_to-now.ensures.in_time).not_back

pub decide_next-requires-clause-bounds : goal.decide_next-requires-clause-bounds
decide_next-requires-clause-bounds c = within_bounds c.args.self.now c.self.inside.ledger (ledger_of c.args.self.now c.self.inside c.self.view_is c.self.invariant (sym c.is_whole.ensures ∙ c.if-not-is_whole.false))

pub decide_next-requires-clause-settled : goal.decide_next-requires-clause-settled
decide_next-requires-clause-settled c = settled_over c.args.self.now c.self.inside.ledger (ledger_of c.args.self.now c.self.inside c.self.view_is c.self.invariant (sym c.is_whole.ensures ∙ c.if-not-is_whole.false))

pub decide_next-requires-clause-rests : goal.decide_next-requires-clause-rests
decide_next-requires-clause-rests c = lane_rests c.args.self.now c.self.inside.ledger c.args.batcher (ledger_of c.args.self.now c.self.inside c.self.view_is c.self.invariant (sym c.is_whole.ensures ∙ c.if-not-is_whole.false)) c.requires.rests

-- the decision follows the history
so : (c : In_ok-job) (d : Decision) → c.in_ok-job.field-0 ≡ d → Follows c.args.self.now c.args.batcher c.raised_to-now.result d
so c d is =
    let v = c.args.self.now in
    let e = c.in_ok-job.ensures in
    follows v c.self.inside.ledger c.args.batcher c.raised_to-now.result c.in_ok-job.field-0 d (ledger_of v c.self.inside c.self.view_is c.self.invariant (sym c.is_whole.ensures ∙ c.if-not-is_whole.false)) e.answer e.entries e.legal e.settled e.lane is

-- at the moment of the call
now_is : (c : In_ok-job) → c.raised_to-now.result ≡ moment_for c.args.self.now.past c.args.moment
now_is c = moment_is c.args.self.now c.self.inside c.args.moment c.raised_to-now.result c.self.view_is c.self.invariant c.raised_to-now.ensures.value

-- the answer, where it is the decision's
told : (c : In_ok-job) (d : Decision) (is : c.in_ok-job.field-0 ≡ d) → IsNextOver c.args.self.now c.args.batcher (moment_for c.args.self.now.past c.args.moment) (answer_of d)
told c d is = answers c.args.self.now c.args.batcher c.raised_to-now.result (moment_for c.args.self.now.past c.args.moment) d (so c d is) (now_is c)

-- nothing is owed before
rests : (c : In_ok-job) → IsIdle c.args.self.now
rests c = idle c.args.self.now c.self.inside (record { is = c.self.view_is; none = c.requires.settled; core = c.self.invariant; whole = (sym c.is_whole.ensures ∙ c.if-not-is_whole.false) })

pub owe_call-requires-clause-may : goal.owe_call-requires-clause-may
owe_call-requires-clause-may c =
    let m = c.raised_to-now.result in
    let job = c.in-Call.job in
    let f = so (goal.at.owe_call-requires-clause-may c).In_ok-job (decision.Call job) c.in-Call.is in
    subst (λ (places : List ℕ). MaySettle c.args.self.now.setting c.args.self.now.past (Began job.lane places job.closing m ∷ [])) (sym c.in_ok-places-in-Call.ensures) (f.legal, f.settled)

pub overflow_cast-count : goal.overflow_cast-count
overflow_cast-count c =
    let e = c.in-Expire in
    let low : length e.places < 4294967296 = few_expire c.args.self.now c.args.batcher c.raised_to-now.result e.lane e.places e.line (so (goal.at.overflow_cast-count c).In_ok-job (decision.Expire e.lane e.places e.line) e.is) in
    subst (λ (xs : List ℕ). Fits w32 (length xs)) (sym c.as_slice.ensures) (search rules)

pub owe_expiry-requires-clause-known : goal.owe_expiry-requires-clause-known
owe_expiry-requires-clause-known c =
    let e = c.in-Expire in
    (so (goal.at.owe_expiry-requires-clause-known c).In_ok-job (decision.Expire e.lane e.places e.line) e.is).lane

pub owe_expiry-requires-clause-may : goal.owe_expiry-requires-clause-may
owe_expiry-requires-clause-may c =
    let e = c.in-Expire in
    let f = so (goal.at.owe_expiry-requires-clause-may c).In_ok-job (decision.Expire e.lane e.places e.line) e.is in
    (f.legal, f.settled)

pub returns-in_ok-owe_call-in-Call-clause-answer : goal.returns-in_ok-owe_call-in-Call-clause-answer
returns-in_ok-owe_call-in-Call-clause-answer c = told (goal.at.returns-in_ok-owe_call-in-Call-clause-answer c).In_ok-job (decision.Call c.in-Call.job) c.in-Call.is

pub returns-in_ok-owe_call-in-Call-clause-owes : goal.returns-in_ok-owe_call-in-Call-clause-owes
returns-in_ok-owe_call-in-Call-clause-owes c =
    let v = c.args.self.now in
    let m = c.raised_to-now.result in
    let job = c.in-Call.job in
    let at = (goal.at.returns-in_ok-owe_call-in-Call-clause-owes c).In_ok-job in
    owes_next v c.owe_call.new.self c.args.batcher m (moment_for v.past c.args.moment) (decision.Call job) (so at (decision.Call job) c.in-Call.is) (now_is at)
    (c.in_ok-owe_call-in-Call.ensures.owes
    ∙ ap (λ (places : List ℕ). owing v [] (Began job.lane places job.closing m ∷ [])) c.in_ok-places-in-Call.ensures)

pub returns-in_ok-owe_expiry-in-Expire-clause-answer : goal.returns-in_ok-owe_expiry-in-Expire-clause-answer
returns-in_ok-owe_expiry-in-Expire-clause-answer c =
    let v = c.args.self.now in
    let e = c.in-Expire in
    subst (λ (places : List ℕ). IsNextOver v c.args.batcher (moment_for v.past c.args.moment) (next.Gave (length places))) (sym c.as_slice.ensures)
    (told (goal.at.returns-in_ok-owe_expiry-in-Expire-clause-answer c).In_ok-job (decision.Expire e.lane e.places e.line) e.is)

pub returns-in_ok-owe_expiry-in-Expire-clause-owes : goal.returns-in_ok-owe_expiry-in-Expire-clause-owes
returns-in_ok-owe_expiry-in-Expire-clause-owes c =
    let v = c.args.self.now in
    let m = c.raised_to-now.result in
    let e = c.in-Expire in
    let d : Decision = decision.Expire e.lane e.places e.line in
    let at = (goal.at.returns-in_ok-owe_expiry-in-Expire-clause-owes c).In_ok-job in
    subst (λ (places : List ℕ). c.owe_expiry.new.self ≡ owing v [] (next_adds v c.args.batcher (moment_for v.past c.args.moment) (next.Gave (length places)))) (sym c.as_slice.ensures)
    (owes_next v c.owe_expiry.new.self c.args.batcher m (moment_for v.past c.args.moment) d (so at d e.is) (now_is at)
    c.in_ok-owe_expiry-in-Expire.ensures.owes)

pub returns-in-Idle-clause-answer : goal.returns-in-Idle-clause-answer
returns-in-Idle-clause-answer c = told (goal.at.returns-in-Idle-clause-answer c).In_ok-job (decision.Idle c.in-Idle.until) c.in-Idle.is

pub returns-in-Idle-clause-owes : goal.returns-in-Idle-clause-owes
returns-in-Idle-clause-owes c = (rests (goal.at.returns-in-Idle-clause-owes c).In_ok-job).owes

pub returns-in-Idle-clause-undone : goal.returns-in-Idle-clause-undone
returns-in-Idle-clause-undone c = (rests (goal.at.returns-in-Idle-clause-undone c).In_ok-job).undone

pub returns-in-Idle-clause-legal : goal.returns-in-Idle-clause-legal
returns-in-Idle-clause-legal c = (rests (goal.at.returns-in-Idle-clause-legal c).In_ok-job).legal

pub returns-in-Idle-clause-settled : goal.returns-in-Idle-clause-settled
returns-in-Idle-clause-settled c = (rests (goal.at.returns-in-Idle-clause-settled c).In_ok-job).settled

pub returns-in-Spent-clause-answer : goal.returns-in-Spent-clause-answer
returns-in-Spent-clause-answer c = told (goal.at.returns-in-Spent-clause-answer c).In_ok-job decision.Spent c.in-Spent.is

pub returns-in-Spent-clause-owes : goal.returns-in-Spent-clause-owes
returns-in-Spent-clause-owes c = (rests (goal.at.returns-in-Spent-clause-owes c).In_ok-job).owes

pub returns-in-Spent-clause-undone : goal.returns-in-Spent-clause-undone
returns-in-Spent-clause-undone c = (rests (goal.at.returns-in-Spent-clause-undone c).In_ok-job).undone

pub returns-in-Spent-clause-legal : goal.returns-in-Spent-clause-legal
returns-in-Spent-clause-legal c = (rests (goal.at.returns-in-Spent-clause-legal c).In_ok-job).legal

pub returns-in-Spent-clause-settled : goal.returns-in-Spent-clause-settled
returns-in-Spent-clause-settled c = (rests (goal.at.returns-in-Spent-clause-settled c).In_ok-job).settled

pub returns-in-Finished-clause-answer : goal.returns-in-Finished-clause-answer
returns-in-Finished-clause-answer c = told (goal.at.returns-in-Finished-clause-answer c).In_ok-job decision.Finished c.in-Finished.is

pub returns-in-Finished-clause-owes : goal.returns-in-Finished-clause-owes
returns-in-Finished-clause-owes c = (rests (goal.at.returns-in-Finished-clause-owes c).In_ok-job).owes

pub returns-in-Finished-clause-undone : goal.returns-in-Finished-clause-undone
returns-in-Finished-clause-undone c = (rests (goal.at.returns-in-Finished-clause-undone c).In_ok-job).undone

pub returns-in-Finished-clause-legal : goal.returns-in-Finished-clause-legal
returns-in-Finished-clause-legal c = (rests (goal.at.returns-in-Finished-clause-legal c).In_ok-job).legal

pub returns-in-Finished-clause-settled : goal.returns-in-Finished-clause-settled
returns-in-Finished-clause-settled c = (rests (goal.at.returns-in-Finished-clause-settled c).In_ok-job).settled
