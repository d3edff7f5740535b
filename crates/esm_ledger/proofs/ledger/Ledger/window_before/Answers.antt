use Rattle.std.proofs.Common.{sym, ap, ◌∙◌}
use Rattle.esm_shard_index.specs.Windows.{window_before}
use Rattle.esm_ledger.specs.Ledger.{past_of, setting_of}
use Rattle.esm_ledger.specs.Measuring.{last_window}
use Rattle.esm_ledger.proofs.Ledgers.{nowhere_none}
use Rattle.esm_ledger.proofs.NextRecords.{last_kept}
use Rattle.esm_ledger.proofs.ledger.Ledger.window_before.Goals as goal

pub returns-in-None : goal.returns-in-None
returns-in-None c = sym (ap (window_before (setting_of c.args.self.now) c.args.shard) (nowhere_none c.args.self.now c.args.shard c.requires.rests c.in-None.ensures.none))

pub returns-in-Some : goal.returns-in-Some
returns-in-Some c =
    let at = c.in-Some.ensures.at in
    c.window_of_last.ensures ∙ ap last_window c.as_slice.ensures.value ∙ last_kept (setting_of c.args.self.now) (past_of c.args.self.now) c.in-Some.kept.now c.args.shard at.2 (c.requires.each c.args.shard c.in-Some.kept.now at)
