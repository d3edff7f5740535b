use Rattle.esm_trace.proofs.Order.{moved_end, told_end}
use Rattle.esm_trace.proofs.replies.move_reply.Goals as goal

pub returns-in_ok-push-clause-told : goal.returns-in_ok-push-clause-told
returns-in_ok-push-clause-told c = told_end (λ list. list.items) c.args.batchers c.args.shards.now c.args.left.now.items c.take_last.new.lists.items c.args.entry.now
    c.in-Ended.lane c.in-Ended.reply c.in-Some-take_last.reply c.in-Ended.moment c.in-Some.k
    c.requires.next c.in-Ended.is c.in-Some.ensures c.in-Some-take_last.ensures.there c.in-Some-take_last.ensures.taken
    c.args.replies.now.items c.push.new.self.items c.in_ok-push.ensures.items

pub returns-in_ok-push-clause-moved : goal.returns-in_ok-push-clause-moved
returns-in_ok-push-clause-moved c = moved_end (λ list. list.items) c.args.batchers c.args.shards.now c.args.left.now.items c.take_last.new.lists.items c.args.entry.now
    c.in-Ended.lane c.in-Ended.reply c.in-Some-take_last.reply c.in-Ended.moment c.in-Some.k
    c.requires.next c.in-Ended.is c.in-Some.ensures c.in-Some-take_last.ensures.there c.in-Some-take_last.ensures.taken
    c.in-Some-take_last.ensures.as_many c.in-Some-take_last.ensures.others
