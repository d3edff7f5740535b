use Rattle.std.proofs.Common.{[], ◌∷◌, refl}
use Rattle.esm_model.specs.declared.entry.Entry.TheVariants.{Began}
use Rattle.esm_stream_core.proofs.Deciding.{begun, begun_on, Decided, undecided}
use Rattle.esm_stream_core.proofs.Calls.{call_known, call_decided}
use Rattle.esm_stream_core.proofs.stream_core.StreamCore.owe_call.Goals as goal
use Rattle.esm_stream_core.proofs.stream_core.StreamCore.owe_call.Goals.{In_ok-push}

pub prepare_call-requires-clause-kept : goal.prepare_call-requires-clause-kept
prepare_call-requires-clause-kept c =
    (begun_on c.args.self.now c.self.inside (begun c.args.self.now c.self.inside c.self.view_is c.requires.settled c.self.invariant c.requires.whole)).keeps

pub prepare_call-requires-clause-known : goal.prepare_call-requires-clause-known
prepare_call-requires-clause-known c =
    call_known c.args.self.now c.self.inside c.args.lane c.args.places c.args.closing c.args.moment
    (begun c.args.self.now c.self.inside c.self.view_is c.requires.settled c.self.invariant c.requires.whole) c.requires.may

pub invariant_of-self : goal.invariant_of-self
invariant_of-self c =
    let b = begun c.args.self.now c.self.inside c.self.view_is c.requires.settled c.self.invariant c.requires.whole in
    (undecided c.args.self.now c.self.inside c.prepare_call.new.ledger c.self.inside.owed b c.prepare_call.ensures.same refl).core

pub invariant_of-self-in_err-push : goal.invariant_of-self-in_err-push
invariant_of-self-in_err-push c =
    let b = begun c.args.self.now c.self.inside c.self.view_is c.requires.settled c.self.invariant c.requires.whole in
    (undecided c.args.self.now c.self.inside c.prepare_call.new.ledger c.push.new.self b c.prepare_call.ensures.same c.in_err-push.ensures.items).core

all_decided : (c : In_ok-push) → Decided c.args.self.now (record c.self.inside { ledger = c.prepare_call.new.ledger; owed = c.push.new.self }) [] (Began c.args.lane c.args.places c.args.closing c.args.moment ∷ [])
all_decided c =
    let a = c.args in
    call_decided a.self.now c.self.inside c.prepare_call.new.ledger c.push.new.self a.lane a.places a.closing a.moment (begun a.self.now c.self.inside c.self.view_is c.requires.settled c.self.invariant c.requires.whole)
    c.requires.may c.prepare_call.ensures.same c.in_ok-prepare_call.ensures.splits c.in_ok-prepare_call.ensures.room c.in_ok-push.ensures.items

pub invariant_of-self-2 : goal.invariant_of-self-2
invariant_of-self-2 c = (all_decided c).core

pub returns-clause-owes : goal.returns-clause-owes
returns-clause-owes c = (all_decided c).owes

pub returns-clause-undone : goal.returns-clause-undone
returns-clause-undone c = (all_decided c).undone

pub returns-clause-legal : goal.returns-clause-legal
returns-clause-legal c = (all_decided c).legal

pub returns-clause-settled : goal.returns-clause-settled
returns-clause-settled c = (all_decided c).settled
