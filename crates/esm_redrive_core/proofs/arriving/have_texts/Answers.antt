use Rattle.esm_redrive_core.proofs.Arrived.{texts_more, texts_all}
use Rattle.esm_redrive_core.proofs.arriving.have_texts.Goals as goal

pub loop-place-preserved : goal.loop-place-preserved
loop-place-preserved c = texts_more c.args.items.now c.loop-place.place c.index-items-place.result c.loop-place-test.true c.index-items-place.is c.has_texts.ensures c.loop-place.invariant

pub returns : goal.returns
returns c = texts_all c.args.items.now c.loop-place.place c.loop-place-test.false c.loop-place.invariant
