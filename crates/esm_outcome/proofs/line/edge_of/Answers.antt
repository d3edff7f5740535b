use Rattle.std.proofs.Common.{sym, ap, ◌∙◌}
use Rattle.std.specs.Prelude.{option_copied}
use Rattle.esm_ledger.specs.Ledger.{past_of, setting_of}
use Rattle.esm_ledger.proofs.Readings.{legal_of}
use Rattle.esm_outcome.proofs.Lines.{came_there, shard_low}
use Rattle.esm_outcome.proofs.line.edge_of.Goals as goal

pub unreachable-requires : goal.unreachable-requires
unreachable-requires c =
    let l = c.args.ledger.now in
    came_there (setting_of l) (past_of l) c.args.shard c.args.place (legal_of l c.requires.kept.rests) c.requires.came (sym (ap option_copied c.in-None.is) ∙ c.record.ensures)

pub returns-in_err-sequence_copy-in-Some-clause-named : goal.returns-in_err-sequence_copy-in-Some-clause-named
returns-in_err-sequence_copy-in-Some-clause-named c =
    let l = c.args.ledger.now in
    shard_low (setting_of l) (past_of l) c.args.shard c.args.place c.requires.valid (legal_of l c.requires.kept.rests) c.requires.came
