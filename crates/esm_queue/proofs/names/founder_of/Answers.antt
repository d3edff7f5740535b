use Rattle.std.proofs.Common.{◌≡◌, length, sym, ap, ◌∙◌, false, arith, rules}
use Rattle.std.proofs.lemmas.List.{get_or_default}
use Rattle.esm_queue_model.specs.Queue.{is_group}
use Rattle.esm_queue.specs.declared.links.Link.{Link}
use Rattle.esm_queue.specs.Links.{blank, group_at, group_in}
use Rattle.esm_queue_model.specs.declared.stored.Stored.{Stored}
use Rattle.std.specs.Prelude.{Option, Some}
use Rattle.std.proofs.lemmas.Option.{slice_get-get_or}
use Rattle.esm_queue.proofs.Naming.{chain_stands, chain_rest, none_named}
use Rattle.esm_queue.proofs.names.founder_of.Goals as goal

pub loop-at-preserved : goal.loop-at-preserved
loop-at-preserved c =
    let at = c.loop-at.at in
    let xs = c.args.messages.now in
    let links = c.args.links.now in
    let buckets = c.args.buckets.now in
    let here = c.loop-at.invariant.stands c.loop-at-test.true in
    let low = here.0 in
    let sized = c.requires.founded.sized in
    let zero : Link = record { founder = 0; next = 0; prev = 0; last = 0; earlier = 0 } in
    let is = ap (λ (l : Link). l.earlier) (get_or_default links at zero blank (omega arith)) in
    let x = c.index-messages-at.result in
    let found = slice_get-get_or xs at x low ∙ ap (λ (y : Stored). Some y) (sym c.index-messages-at.is) in
    let other : is_group (group_at xs at) c.args.group.now ≡ false = ap (λ (o : Option Stored). is_group (group_in o) c.args.group.now) found ∙ search rules in
    record {
      stands = chain_stands (length buckets) xs links buckets c.args.group.now at _ c.requires.chained is here;
      rest = λ j within own named. chain_rest (length buckets) xs links buckets c.args.group.now at _ c.requires.chained is here other j within own named (c.loop-at.invariant.rest j within own named).0;
    }

pub returns-clause-none : goal.returns-clause-none
returns-clause-none c = λ end. none_named c.args.messages.now c.args.links.now c.args.group.now c.loop-at.at c.requires.founded c.requires.few (search rules) c.loop-at.invariant.rest
