use Rattle.esm_trace.specs.Trace.{entry_line}
use Rattle.esm_trace.proofs.Histories.{text_goes_on, reply_is, count_goes_on}
use Rattle.esm_trace.proofs.trace.push_trace.Goals as goal

pub push_next-requires : goal.push_next-requires
push_next-requires c = record {
  next = λ reply is. reply_is c.args.history.now c.args.replies.now c.loop-entry.entry-index c.loop-entry.told c.entry-item.result reply
      c.requires.replies c.loop-entry.invariant.told c.loop-entry-test.true c.entry-item.is is;
}

pub loop-entry-preserved : goal.loop-entry-preserved
loop-entry-preserved c = record {
  text = text_goes_on (entry_line c.args.kind) c.args.history.now c.loop-entry.entry-index c.entry-item.result c.args.out.now.items
      c.loop-entry.out.items c.push_next.new.out.items c.loop-entry-test.true c.entry-item.is c.loop-entry.invariant.text c.in_ok-told.ensures.text;
  told = count_goes_on c.args.history.now c.loop-entry.entry-index c.entry-item.result c.loop-entry.told c.in_ok-told.told
      c.loop-entry-test.true c.entry-item.is c.loop-entry.invariant.told c.in_ok-told.ensures.told;
}
