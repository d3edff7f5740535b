use Rattle.std.proofs.Common.{sym, refl, arith}
use Rattle.esm_ledger.specs.Shard.{IsShard}
use Rattle.esm_ledger.specs.Ledger.{past_of, setting_of}
use Rattle.esm_ledger.proofs.Ledgers.{own_legal}
use Rattle.esm_ledger.proofs.NextRecords.{factor_is, windows_found}
use Rattle.esm_ledger.proofs.ledger.Ledger.first_of.Goals as goal

pub new-requires-clause-some : goal.new-requires-clause-some
new-requires-clause-some c = (factor_is c.args.self.now.config c.requires.kept.config).some

pub new-requires-clause-most : goal.new-requires-clause-most
new-requires-clause-most c = (let most = (factor_is c.args.self.now.config c.requires.kept.config).most in omega (arith, most))

pub prepare_records-requires-clause-lanes : goal.prepare_records-requires-clause-lanes
prepare_records-requires-clause-lanes c =
    let s = setting_of c.args.self.now in
    let h = past_of c.args.self.now in
    let is : IsShard (setting_of c.args.self.now) (past_of c.args.self.now) c.in_ok-fresh.fresh =
    c.in_ok-fresh.ensures.kept s h (c.requires.kept.found c.args.shard) refl (own_legal s h c.requires.kept.rests.legal) c.requires.none (windows_found c.args.self.now c.args.shard c.in_ok-windows.windows c.in_ok-windows.ensures) in
    sym is.factor

pub returns-clause-is : goal.returns-clause-is
returns-clause-is c =
    let s = setting_of c.args.self.now in
    let h = past_of c.args.self.now in
    let is : IsShard (setting_of c.args.self.now) (past_of c.args.self.now) c.in_ok-fresh.fresh =
    c.in_ok-fresh.ensures.kept s h (c.requires.kept.found c.args.shard) refl (own_legal s h c.requires.kept.rests.legal) c.requires.none (windows_found c.args.self.now c.args.shard c.in_ok-windows.windows c.in_ok-windows.ensures) in
    c.prepare_records.ensures.kept s h is
