use Rattle.esm_ledger.specs.Ledger.{past_of, setting_of}
use Rattle.esm_stream_core.proofs.Endings.{popped_writable, popped_open, more_turned}
use Rattle.esm_stream_core.proofs.payload.dues_owed.Goals as goal

pub due_owed-requires-clause-writable : goal.due_owed-requires-clause-writable
due_owed-requires-clause-writable c =
    let x = c.args in
    popped_writable (setting_of x.ledger.now) x.lane x.moment x.dues.items c.loop-due.dues.items c.pop.new.self.items c.in-Some.due c.loop-due.owed.items c.loop-due.invariant c.in-Some.ensures.items c.requires.writable

pub due_owed-requires-clause-open : goal.due_owed-requires-clause-open
due_owed-requires-clause-open c =
    let x = c.args in
    popped_open (setting_of x.ledger.now) (past_of x.ledger.now) x.lane x.moment x.dues.items c.loop-due.dues.items c.pop.new.self.items c.in-Some.due c.loop-due.owed.items c.loop-due.invariant c.in-Some.ensures.items c.requires.open

pub loop-due-preserved : goal.loop-due-preserved
loop-due-preserved c =
    let x = c.args in
    more_turned (setting_of x.ledger.now) x.lane x.moment x.dues.items c.loop-due.dues.items c.pop.new.self.items c.in-Some.due c.loop-due.owed.items c.push.new.self.items c.in_ok-one.one c.loop-due.invariant c.in-Some.ensures.items c.in_ok-push.ensures.items
    (record { act = c.in_ok-one.ensures.act; written = c.in_ok-one.ensures.written })
