use Rattle.std.proofs.Common.{refl}
use Rattle.esm_ledger.specs.declared.ledger.Ledger.{Ledger}
use Rattle.esm_ledger.proofs.Prepared.{widened}
use Rattle.esm_ledger.proofs.ledger.Ledger.prepare_shards.Goals as goal

pub returns-in_err-reserve-clause-kept : goal.returns-in_err-reserve-clause-kept
returns-in_err-reserve-clause-kept c =
    let d : Ledger = record c.args.self.now { shards = c.reserve.new.self } in
    (widened c.args.self.now d c.requires.kept refl c.reserve.ensures.items).kept

pub returns-in_err-reserve-clause-setting : goal.returns-in_err-reserve-clause-setting
returns-in_err-reserve-clause-setting c =
    let d : Ledger = record c.args.self.now { shards = c.reserve.new.self } in
    (widened c.args.self.now d c.requires.kept refl c.reserve.ensures.items).setting

pub returns-in_err-reserve-clause-room : goal.returns-in_err-reserve-clause-room
returns-in_err-reserve-clause-room c =
    let d : Ledger = record c.args.self.now { shards = c.reserve.new.self } in
    (widened c.args.self.now d c.requires.kept refl c.reserve.ensures.items).room

pub returns-in_err-reserve-clause-stays : goal.returns-in_err-reserve-clause-stays
returns-in_err-reserve-clause-stays c =
    let d : Ledger = record c.args.self.now { shards = c.reserve.new.self } in
    (widened c.args.self.now d c.requires.kept refl c.reserve.ensures.items).stays

pub returns-clause-kept : goal.returns-clause-kept
returns-clause-kept c =
    let d : Ledger = record c.args.self.now { shards = c.reserve.new.self } in
    (widened c.args.self.now d c.requires.kept refl c.reserve.ensures.items).kept

pub returns-clause-setting : goal.returns-clause-setting
returns-clause-setting c =
    let d : Ledger = record c.args.self.now { shards = c.reserve.new.self } in
    (widened c.args.self.now d c.requires.kept refl c.reserve.ensures.items).setting

pub returns-clause-room : goal.returns-clause-room
returns-clause-room c =
    let d : Ledger = record c.args.self.now { shards = c.reserve.new.self } in
    (widened c.args.self.now d c.requires.kept refl c.reserve.ensures.items).room

pub returns-clause-stays : goal.returns-clause-stays
returns-clause-stays c =
    let d : Ledger = record c.args.self.now { shards = c.reserve.new.self } in
    (widened c.args.self.now d c.requires.kept refl c.reserve.ensures.items).stays
