use Rattle.std.proofs.Common.{◌∙◌, sym}
use Rattle.esm_ledger.proofs.Readings.{record_here, record_absent, held_here}
use Rattle.esm_ledger.proofs.ledger.Ledger.record.Goals as goal

pub get-requires : goal.get-requires
get-requires c = held_here c.args.self.now c.args.shard c.args.place c.in-Some.kept.now c.requires.kept c.in-Some.ensures.at c.requires.open

pub returns-in-None : goal.returns-in-None
returns-in-None c = sym (record_absent c.args.self.now c.args.shard c.args.place c.in-None.ensures.none)

pub returns-in-Some : goal.returns-in-Some
returns-in-Some c =
    c.get.ensures ∙ sym (record_here c.args.self.now c.args.shard c.args.place c.in-Some.kept.now c.requires.kept.rests c.in-Some.ensures.at)
