use Rattle.std.proofs.Common.{reverse, arith}
use Rattle.esm_stream_core.proofs.Leaving.{left_in}
use Rattle.esm_stream_core.proofs.stream_core.StreamCore.entries.Goals as goal

pub returns-clause-few : goal.returns-clause-few
returns-clause-few c =
    let x = c.self.inside in
    let short = (left_in x.ledger (reverse x.coming.items) (reverse x.owed.items) x.standing c.self.invariant.kept.stands).places.short in
    omega (arith, short, c.len.ensures)
