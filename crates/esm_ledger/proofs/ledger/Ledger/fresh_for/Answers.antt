use Rattle.std.proofs.Common.{not, sym, ap}
use Rattle.esm_ledger.proofs.Ledgers.{nowhere_none}
use Rattle.esm_ledger.proofs.NextRecords.{nowhere_new, somewhere_known}
use Rattle.esm_ledger.proofs.ledger.Ledger.fresh_for.Goals as goal

pub first_of-requires-clause-none : goal.first_of-requires-clause-none
first_of-requires-clause-none c = nowhere_none c.args.self.now c.args.shard c.requires.kept.rests c.in-None.ensures.none

pub returns-in_ok-fresh-in-None-clause-named : goal.returns-in_ok-fresh-in-None-clause-named
returns-in_ok-fresh-in-None-clause-named c = sym (ap not (nowhere_new c.args.self.now c.args.shard c.requires.kept c.in-None.ensures.none))

pub returns-in-Some-clause-named : goal.returns-in-Some-clause-named
returns-in-Some-clause-named c = sym (ap not (somewhere_known c.args.self.now c.args.shard _ c.requires.kept c.in-Some.ensures.at))
