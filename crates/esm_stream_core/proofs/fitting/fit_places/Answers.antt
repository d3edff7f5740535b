use Rattle.std.proofs.Common.{length, arith}
use Rattle.esm_ledger.specs.Ledger.{past_of}
use Rattle.esm_stream_core.proofs.Fits.{find_more, fit_places}
use Rattle.esm_stream_core.proofs.fitting.fit_places.Goals as goal

pub loop-item-preserved : goal.loop-item-preserved
loop-item-preserved c =
    find_more (past_of c.args.ledger.now) (length c.args.items.now) c.args.items.now c.loop-item.item-index c.item-item.result c.loop-item-test.true c.item-item.is c.loop-item.invariant (rw (← c.shard.ensures) (omega arith))

pub returns : goal.returns
returns c = λ _. fit_places (past_of c.args.ledger.now) c.args.items.now c.loop-item.item-index c.loop-item-test.false c.requires.few c.loop-item.invariant
