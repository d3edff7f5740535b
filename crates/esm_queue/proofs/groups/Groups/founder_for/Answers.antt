use Rattle.std.proofs.Common.{◌≡◌, true, subst, arith, rules, List}
use Rattle.esm_queue.specs.declared.links.Link.{Link}
use Rattle.esm_queue.proofs.Naming.{found_same}
use Rattle.esm_queue.specs.Links.{founder_at}
use Rattle.esm_queue.proofs.groups.Groups.founder_for.Goals as goal

pub returns-else-found-clause-same : goal.returns-else-found-clause-same
returns-else-found-clause-same c = λ i low.
    let g = c.args.self.now in
    let links = g.links.items in
    let r = c.founder_of-found.result in
    let on : g.fifo ≡ true = search rules in
    let found = c.founder_of-found.ensures.found c.if-found.false in
    let own : founder_at links r ≡ r = subst (λ (ls : List Link). founder_at ls r ≡ r) c.as_slice.ensures.value found.1 in
    let next = c.requires.next in
    found_same g.fifo c.args.messages.now links c.args.group.now r c.requires.grouped.founded on (found.0, own, found.2) i (omega arith)
