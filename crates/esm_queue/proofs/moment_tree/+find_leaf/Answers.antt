use Rattle.std.proofs.Common.{arith, refl, rules}
use Rattle.std.proofs.lemmas.Option.{IfSome_then}
use Rattle.esm_queue.proofs.Trees.{halves, all_before, all_late, left_leaf, right_leaf, no_leaf}
use Rattle.esm_queue.proofs.moment_tree.+find_leaf.Goals.{then-node-from-via-then-node-from, then-node-from-via-else-node-from+then-at-nodes}
use Rattle.esm_queue.proofs.moment_tree.+find_leaf.Goals as goal

pub returns-then-node-from-clause-none : goal.returns-then-node-from-clause-none
returns-then-node-from-clause-none t c = λ none.
    elim c.then-node-from.branch [
      | then-node-from-via-then-node-from w ↦ all_before c.args.nodes.now c.args.node c.args.height c.args.from c.args.at w.if-node-from.true
      | then-node-from-via-else-node-from+then-at-nodes w ↦ all_late c.args.nodes.now c.args.width c.args.node c.args.height c.args.from c.args.at c.requires.least c.requires.some c.requires.within w.if-at-nodes.true
    ]

pub find_leaf-requires : goal.find_leaf-requires
find_leaf-requires t c =
    let half = halves c.args.node c.args.height c.if-height-eq0.false in
    (search rules, (omega arith, (omega arith, (c.requires.whole, (omega arith, (c.requires.few, c.requires.least))))))

pub find_leaf-requires-in-None : goal.find_leaf-requires-in-None
find_leaf-requires-in-None t c =
    let half = halves c.args.node c.args.height c.if-height-eq0.false in
    (search rules, (omega arith, (omega arith, (c.requires.whole, (omega arith, (c.requires.few, c.requires.least))))))

pub returns-in-Some-clause-some : goal.returns-in-Some-clause-some
returns-in-Some-clause-some t c = left_leaf c.args.nodes.now c.args.node c.args.height c.args.from c.args.at c.in-Some.leaf c.if-height-eq0.false c.in-Some.ensures.some

pub returns-in-None-clause-none : goal.returns-in-None-clause-none
returns-in-None-clause-none t c = λ none.
    no_leaf c.args.nodes.now c.args.node c.args.height c.args.from c.args.at c.if-height-eq0.false (c.in-None.ensures.none refl) (c.find_leaf-in-None.ensures.none none)

pub returns-in-None-clause-some : goal.returns-in-None-clause-some
returns-in-None-clause-some t c =
    IfSome_then c.find_leaf-in-None.result c.find_leaf-in-None.ensures.some
    (λ leaf f. right_leaf c.args.nodes.now c.args.node c.args.height c.args.from c.args.at leaf c.if-height-eq0.false (c.in-None.ensures.none refl) f)
