use Rattle.std.proofs.Common.{rules, ◌<◌, length}
use Rattle.esm_trace.proofs.Order.{last_taken, others_stay}
use Rattle.esm_trace.proofs.replies.take_last.Goals as goal

pub returns-then-k-len-clause-taken : goal.returns-then-k-len-clause-taken
returns-then-k-len-clause-taken c =
    let within : c.args.k < length c.args.lists.now.items = Prim.search rules in
    last_taken (λ list. list.items) c.args.lists.now.items c.args.k c.index_mut.result.now c.pop.new.self c.pop.result within c.index_mut.ensures.value c.pop.ensures.items

pub returns-then-k-len-clause-others : goal.returns-then-k-len-clause-others
returns-then-k-len-clause-others c = others_stay (λ list. list.items) c.args.lists.now.items c.args.k c.pop.new.self
