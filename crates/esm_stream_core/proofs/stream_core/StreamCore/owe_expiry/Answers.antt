use Rattle.std.proofs.Common.{[], ◌∷◌, List, refl, sym, subst}
use Rattle.esm_model.specs.declared.entry.Entry.{Entry}
use Rattle.esm_model.specs.Setting.{Setting}
use Rattle.esm_ledger.specs.Ledger.{past_of, setting_of}
use Rattle.esm_ledger.specs.Reading.{AreOpen}
use Rattle.esm_stream_core.specs.Kept.{IsSame}
use Rattle.esm_stream_core.specs.Acts.{IsWritable}
use Rattle.esm_stream_core.proofs.Deciding.{Begins, begun, begun_sound, begun_as, Decided, undecided, moved}
use Rattle.esm_stream_core.proofs.OpenNames.{expiry_open}
use Rattle.esm_stream_core.proofs.Calls.{expiry_of, expiry_next, expiry_decided}
use Rattle.esm_stream_core.proofs.stream_core.StreamCore.owe_expiry.Goals as goal
use Rattle.esm_stream_core.proofs.stream_core.StreamCore.owe_expiry.Goals.{After-prepare_entries, In_ok-push}

begins : (c : After-prepare_entries) → Begins c.args.self.now c.self.inside
begins c = begun c.args.self.now c.self.inside c.self.view_is c.requires.settled c.self.invariant c.requires.whole

same : (c : After-prepare_entries) → IsSame c.self.inside.ledger c.prepare_entries.new.self
same c = record { keeps = c.prepare_entries.ensures.kept; past = c.prepare_entries.ensures.past; setting = c.prepare_entries.ensures.setting }

pub expired-requires-clause-writable : goal.expired-requires-clause-writable
expired-requires-clause-writable c =
    let x = c.self.inside in
    let a = c.args in
    let b = begins (goal.at.expired-requires-clause-writable c).After-prepare_entries in
    let sound = begun_sound a.self.now x b in
    let e = expiry_of a.lane a.places a.line a.moment in
    subst (λ (s : Setting). IsWritable s e) (sym c.prepare_entries.ensures.setting)
    (c.next_may_be_written.ensures (setting_of x.ledger) (past_of x.ledger) (e ∷ []) sound.bounds sound.keeps.config (expiry_next a.self.now x a.lane a.places a.line a.moment b c.requires.may)).0

pub expired-requires-clause-open : goal.expired-requires-clause-open
expired-requires-clause-open c =
    let x = c.self.inside in
    let a = c.args in
    let at = (goal.at.expired-requires-clause-open c).After-prepare_entries in
    moved x.ledger c.prepare_entries.new.self (λ (s : Setting) (h : List Entry). AreOpen s h a.lane.shard a.places) (same at)
    (begun_as a.self.now x (λ (s : Setting) (h : List Entry). AreOpen s h a.lane.shard a.places) (begins at)
    (expiry_open a.self.now.setting a.self.now.past a.lane a.places a.line a.moment c.requires.may))

pub invariant_of-self : goal.invariant_of-self
invariant_of-self c =
    let at = (goal.at.invariant_of-self c).After-prepare_entries in
    (undecided c.args.self.now c.self.inside c.prepare_entries.new.self c.self.inside.owed (begins at) (same at) refl).core

pub invariant_of-self-in_err-owed : goal.invariant_of-self-in_err-owed
invariant_of-self-in_err-owed c =
    let at = (goal.at.invariant_of-self-in_err-owed c).After-prepare_entries in
    (undecided c.args.self.now c.self.inside c.prepare_entries.new.self c.self.inside.owed (begins at) (same at) refl).core

pub invariant_of-self-in_err-push : goal.invariant_of-self-in_err-push
invariant_of-self-in_err-push c =
    let at = (goal.at.invariant_of-self-in_err-push c).After-prepare_entries in
    (undecided c.args.self.now c.self.inside c.prepare_entries.new.self c.push.new.self (begins at) (same at) c.in_err-push.ensures.items).core

all_decided : (c : In_ok-push) → Decided c.args.self.now (record c.self.inside { ledger = c.prepare_entries.new.self; owed = c.push.new.self }) [] (expiry_of c.args.lane c.args.places c.args.line c.args.moment ∷ [])
all_decided c =
    let a = c.args in
    let at = (goal.at.invariant_of-self-2 c).After-prepare_entries in
    expiry_decided a.self.now c.self.inside c.prepare_entries.new.self c.push.new.self a.lane a.places a.line a.moment c.in_ok-owed.owed (begins at) c.requires.known c.requires.may
    (same at) c.in_ok-prepare_entries.ensures.ok c.in_ok-owed.ensures.act c.in_ok-owed.ensures.written c.in_ok-push.ensures.items

pub invariant_of-self-2 : goal.invariant_of-self-2
invariant_of-self-2 c = (all_decided c).core

pub returns-clause-owes : goal.returns-clause-owes
returns-clause-owes c = (all_decided c).owes

pub returns-clause-undone : goal.returns-clause-undone
returns-clause-undone c = (all_decided c).undone

pub returns-clause-legal : goal.returns-clause-legal
returns-clause-legal c = (all_decided c).legal

pub returns-clause-settled : goal.returns-clause-settled
returns-clause-settled c = (all_decided c).settled
