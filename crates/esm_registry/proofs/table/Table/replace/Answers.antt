use Rattle.std.proofs.Common.{◌≡◌, ◌∙◌, Some, None, option_map, sym, ap, subst}
use Rattle.esm_registry.specs.Index.{HasPair, arns_of}
use Rattle.esm_registry.specs.Lists.{replaced}
use Rattle.esm_registry.specs.Pairs.{arns}
use Rattle.esm_registry.specs.Places.{list_of}
use Rattle.esm_registry.proofs.TableFacts.{counted_replaced, with_list}
use Rattle.esm_registry.proofs.table.Table.replace.Goals as goal

pub invariant_of-self : goal.invariant_of-self
invariant_of-self c =
    let t = c.self.inside in
    let w = c.args.mapping in
    let its = subst (λ v. HasPair v.mappings.list w.id (arns c.args.pair.now)) (sym c.self.view_is) c.requires.its in
    let promise : option_map arns t.promised ≡ Some (arns_of w.config) = ap (λ v. v.promised) c.self.view_is ∙ c.requires.promised in
    record {
      index = c.replace.ensures.index t.next c.self.invariant.index;
      counted =
          counted_replaced t.counts c.lower.new.counts t.mappings t.places t.next (option_map arns t.promised) w (list_of c.replace.new.mappings)
          (arns c.args.pair.now) c.self.invariant.index c.self.invariant.counted its promise c.lower.ensures (c.replace.ensures.list t.next c.self.invariant.index);
    }

pub returns : goal.returns
returns c =
    let t = c.self.inside in
    rw (← c.self.view_is)
    (with_list (replaced c.args.mapping.id c.args.mapping (list_of t.mappings)) (list_of c.replace.new.mappings) t.created None
    (c.replace.ensures.list t.next c.self.invariant.index))
