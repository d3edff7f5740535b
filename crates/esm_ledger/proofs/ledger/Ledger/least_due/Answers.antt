use Rattle.std.proofs.Common.{Bool, subst, arith}
use Rattle.esm_shard_index.specs.Windows.{IsLeastDue}
use Rattle.esm_ledger.specs.Ledger.{past_of, setting_of}
use Rattle.esm_ledger.proofs.Readings.{no_records, windows_here, least_none, least_here}
use Rattle.esm_ledger.proofs.ledger.Ledger.least_due.Goals as goal

pub returns-in-None : goal.returns-in-None
returns-in-None c =
    let self = c.args.self.now in
    least_none (setting_of self) (past_of self) c.args.shard (λ w. no_records self c.args.shard w c.requires.kept.rests c.in-None.ensures.none)

pub returns-in-Some : goal.returns-in-Some
returns-in-Some c =
    let self = c.args.self.now in
    let x = c.in-Some.kept.now in
    let tell = windows_here self c.args.shard x c.requires.kept c.in-Some.ensures.at (λ e. omega arith) in
    least_here (setting_of self) (past_of self) c.args.shard x.windows c.least_due.result tell (subst (λ (b : Bool). IsLeastDue x.windows b c.least_due.result) c.requires.kept.rests.shut c.least_due.ensures)
