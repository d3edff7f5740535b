use Rattle.std.proofs.Common.{◌+◌, ℕ, List, length, arith, ap}
use Rattle.std.proofs.lemmas.Result.{err_from_is_err_and}
use Rattle.esm_io.specs.Meanings.{disk}
use Rattle.esm_journal.proofs.Loops.{one_read, damaged_next}
use Rattle.esm_journal.proofs.Runs.{refused_more}
use Rattle.esm_journal.proofs.entry_reading.read_entries.Goals as goal

pub returns-in_err-payload-clause-refused : goal.returns-in_err-payload-clause-refused
returns-in_err-payload-clause-refused g c =
    let p = err_from_is_err_and c.from_residual.result c.from_residual.ensures.1 in
    let so_far = c.loop-ahead.invariant in
    rw (p.1, p.2) (refused_more _ _ _ _ _ _ c.in_err-payload.field-0.0 c.in_err-payload.ensures.refused (λ first none. none)
    (λ place bad. damaged_next (disk g.D.Disk) c.args.size c.args.disk.now
    c.loop-ahead.disk c.loop-ahead.payloads.items c.loop-ahead.place place c.loop-ahead.ahead so_far bad)
    (λ rose. let never_falls = so_far.only_read.never_falls in λ top. omega (arith, rose top)))

pub loop-ahead-preserved : goal.loop-ahead-preserved
loop-ahead-preserved g c =
    rw c.in_ok-push.ensures.items (one_read (disk g.D.Disk) c.args.size c.args.disk.now
    c.loop-ahead.disk c.read_entry.new.disk c.loop-ahead.payloads.items c.in-Some.payload c.loop-ahead.place (c.loop-ahead.place + (5 + length c.as_slice.result.now)) c.loop-ahead.ahead c.read_entry.new.ahead
    c.loop-ahead.invariant c.read_entry.ensures.only_read
    (rw c.in-Some.is at c.in_ok-payload.ensures.whole) (omega (arith, ap (λ (l : List ℕ). length l) c.as_slice.ensures)) (rw c.in-Some.is at c.in_ok-payload.ensures.next) (rw c.in-Some.is at c.in_ok-payload.ensures.short) c.read_entry.ensures.ahead)
