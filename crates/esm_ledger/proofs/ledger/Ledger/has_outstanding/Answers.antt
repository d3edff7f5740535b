use Rattle.std.proofs.Common.{arith}
use Rattle.esm_ledger.proofs.Readings.{no_records, windows_here, none_outstanding, some_outstanding}
use Rattle.esm_ledger.proofs.ledger.Ledger.has_outstanding.Goals as goal

pub returns-in-None-clause-none : goal.returns-in-None-clause-none
returns-in-None-clause-none c = λ off w. no_records c.args.self.now c.args.shard w c.requires.rests c.in-None.ensures.none

pub returns-in-Some-clause-none : goal.returns-in-Some-clause-none
returns-in-Some-clause-none c = λ off.
    let tell = windows_here c.args.self.now c.args.shard c.in-Some.kept.now c.requires c.in-Some.ensures.at (λ e. omega arith) in
    none_outstanding c.args.self.now c.args.shard c.in-Some.kept.now tell (c.has_outstanding.ensures.none off)

pub returns-in-Some-clause-some : goal.returns-in-Some-clause-some
returns-in-Some-clause-some c = λ on.
    let tell = windows_here c.args.self.now c.args.shard c.in-Some.kept.now c.requires c.in-Some.ensures.at (λ e. omega arith) in
    some_outstanding c.args.self.now c.args.shard c.in-Some.kept.now tell (c.has_outstanding.ensures.some on)
