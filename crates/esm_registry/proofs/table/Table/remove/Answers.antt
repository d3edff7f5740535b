use Rattle.std.proofs.Common.{option_map, sym, subst}
use Rattle.esm_registry.specs.Index.{HasPair}
use Rattle.esm_registry.specs.Lists.{without}
use Rattle.esm_registry.specs.Pairs.{arns}
use Rattle.esm_registry.specs.Places.{list_of}
use Rattle.esm_registry.proofs.TableFacts.{counted_removed, with_list}
use Rattle.esm_registry.proofs.table.Table.remove.Goals as goal

pub invariant_of-self : goal.invariant_of-self
invariant_of-self c =
    let t = c.self.inside in
    let list_is = c.unplace.ensures.list t.next c.self.invariant.index in
    let its = subst (λ v. HasPair v.mappings.list c.args.id.now (arns c.args.pair.now)) (sym c.self.view_is) c.requires in
    record {
      index = c.unplace.ensures.index t.next c.self.invariant.index;
      counted =
          counted_removed t.counts c.lower.new.counts t.mappings t.places t.next (option_map arns t.promised) c.args.id.now (list_of c.unplace.new.mappings)
          (arns c.args.pair.now) c.self.invariant.index c.self.invariant.counted its c.lower.ensures list_is;
    }

pub returns : goal.returns
returns c =
    let t = c.self.inside in
    rw (← c.self.view_is)
    (with_list (without c.args.id.now (list_of t.mappings)) (list_of c.unplace.new.mappings) t.created (option_map arns t.promised)
    (c.unplace.ensures.list t.next c.self.invariant.index))
