use Rattle.std.proofs.Common.{reverse, refl, ap}
use Rattle.esm_ledger.specs.declared.ledger.Ledger.{Ledger}
use Rattle.esm_ledger.proofs.KeptLedgers.{keeps_reserved}
use Rattle.esm_ledger.proofs.Prepared.{all_stays}
use Rattle.esm_ledger.proofs.ledger.Ledger.prepare_entries.Goals as goal

pub returns-in_err-reserve-clause-kept : goal.returns-in_err-reserve-clause-kept
returns-in_err-reserve-clause-kept c =
    let d : Ledger = record c.args.self.now { history = c.reserve.new.self } in
    keeps_reserved c.args.self.now d c.requires.kept refl c.reserve.ensures.items c.reserve.ensures.len c.reserve.ensures.capacity

pub returns-clause-kept : goal.returns-clause-kept
returns-clause-kept c =
    let d : Ledger = record c.args.self.now { history = c.reserve.new.self } in
    keeps_reserved c.args.self.now d c.requires.kept refl c.reserve.ensures.items c.reserve.ensures.len c.reserve.ensures.capacity

pub returns-in_err-reserve-clause-stays : goal.returns-in_err-reserve-clause-stays
returns-in_err-reserve-clause-stays c =
    let d : Ledger = record c.args.self.now { history = c.reserve.new.self } in
    all_stays c.args.self.now d refl (ap reverse c.reserve.ensures.items) refl

pub returns-clause-stays : goal.returns-clause-stays
returns-clause-stays c =
    let d : Ledger = record c.args.self.now { history = c.reserve.new.self } in
    all_stays c.args.self.now d refl (ap reverse c.reserve.ensures.items) refl
