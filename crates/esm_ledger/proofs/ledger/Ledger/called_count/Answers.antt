use Rattle.esm_ledger.proofs.Readings.{lane_known}
use Rattle.esm_ledger.proofs.ledger.Ledger.called_count.Goals as goal

pub state-requires : goal.state-requires
state-requires c = lane_known c.args.self.now c.args.lane c.in-Some.kept.now c.requires.kept.rests c.in-Some.ensures.at c.requires.known
