use Rattle.std.proofs.Common.{◌∙◌, sym, ap, subst, ◌++◌, map}
use Rattle.std.specs.List.{filter_map}
use Rattle.esm_trace.specs.Onward.{AreLeft, HasReply, IsMoved}
use Rattle.esm_trace.specs.Trace.{reply_in}
use Rattle.esm_trace.proofs.Order.{begins, has_reply, left_onward, told_onward, turned_each}
use Rattle.esm_trace.proofs.replies.in_order.Goals as goal

pub loop-entry-init : goal.loop-entry-init
loop-entry-init c = record {
  left = subst (λ shards. AreLeft c.args.batchers shards (map (λ list. list.items) c.in_ok-left.left.items) c.args.history.now) (sym c.new-shards.ensures.items)
      (begins c.args.batchers c.args.history.now (map (λ list. list.items) c.args.kept.items) (map (λ list. list.items) c.in_ok-left.left.items) c.requires.kept
      (c.in_ok-left.ensures ∙ turned_each (λ list. list.items) c.args.kept.items));
  told = ap (λ replies. replies ++ filter_map reply_in c.args.history.now) c.new-replies.ensures.items;
}

pub move_reply-requires : goal.move_reply-requires
move_reply-requires c = record {
  next = subst (λ shards. HasReply c.args.batchers shards (map (λ list. list.items) c.loop-entry.left.items) c.entry-item.result) (sym c.deref.ensures.value)
      (has_reply c.args.batchers c.loop-entry.shards.items (map (λ list. list.items) c.loop-entry.left.items) c.args.history.now c.loop-entry.entry-index c.entry-item.result
      c.loop-entry.invariant.left c.loop-entry-test.true c.entry-item.is);
}

pub loop-entry-preserved : goal.loop-entry-preserved
loop-entry-preserved c = record {
  left = left_onward c.args.batchers c.loop-entry.shards.items c.note_shard.new.shards.items (map (λ list. list.items) c.loop-entry.left.items) (map (λ list. list.items) c.move_reply.new.left.items)
      c.args.history.now c.loop-entry.entry-index c.entry-item.result c.loop-entry.invariant.left c.loop-entry-test.true c.entry-item.is
      (subst (λ shards. IsMoved c.args.batchers shards c.entry-item.result (map (λ list. list.items) c.loop-entry.left.items) (map (λ list. list.items) c.move_reply.new.left.items)) c.deref.ensures.value c.in_ok-move_reply.ensures.moved)
      c.in_ok-note_shard.ensures;
  told = told_onward c.args.history.now c.loop-entry.entry-index c.entry-item.result c.loop-entry.replies.items c.move_reply.new.replies.items
      c.loop-entry.invariant.told c.loop-entry-test.true c.entry-item.is c.in_ok-move_reply.ensures.told;
}
