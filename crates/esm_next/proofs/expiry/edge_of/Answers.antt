use Rattle.std.proofs.Common.{sym, ap, ◌∙◌}
use Rattle.std.specs.Prelude.{option_copied}
use Rattle.esm_ledger.specs.Ledger.{past_of, setting_of}
use Rattle.esm_ledger.proofs.Ledgers.{own_legal}
use Rattle.esm_next.proofs.Lines.{came_there}
use Rattle.esm_next.proofs.expiry.edge_of.Goals as goal

pub unreachable-requires : goal.unreachable-requires
unreachable-requires c =
    let s = setting_of c.args.ledger.now in
    let h = past_of c.args.ledger.now in
    came_there s h c.args.shard c.args.place (own_legal s h c.requires.kept.rests.legal) c.requires.came (sym (ap option_copied c.in-None.is) ∙ c.record.ensures)
