use Rattle.std.proofs.Common.{◌∙◌, length, sym, ap}
use Rattle.esm_ledger.proofs.Readings.{lane_known, open_absent, grouped_here}
use Rattle.esm_ledger.proofs.ledger.Ledger.open_count.Goals as goal

pub count-requires : goal.count-requires
count-requires c = record { known = lane_known c.args.self.now c.args.lane c.in-Some.kept.now c.requires.kept.rests c.in-Some.ensures.at c.requires.known }

pub returns-in-None : goal.returns-in-None
returns-in-None c = sym (ap length (open_absent c.args.self.now c.args.lane c.requires.kept.rests c.in-None.ensures.none))

pub returns-in-Some : goal.returns-in-Some
returns-in-Some c =
    let g = grouped_here c.args.self.now c.args.lane c.in-Some.kept.now c.requires.kept c.requires.settled c.in-Some.ensures.at c.requires.known in
    c.count.ensures ∙ sym (ap length g.opens)
