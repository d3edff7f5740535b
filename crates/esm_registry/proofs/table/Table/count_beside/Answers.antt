use Rattle.std.proofs.Common.{◌≡◌, ◌∙◌, Some, None, option_map, sym, ap, arith}
use Rattle.esm_registry.specs.Index.{arns_of}
use Rattle.esm_registry.specs.Lists.{mapping_at}
use Rattle.esm_registry.specs.Pairs.{arns}
use Rattle.esm_registry.specs.Places.{list_of}
use Rattle.esm_registry.proofs.TableFacts.{counted_beside, one_yes, one_no}
use Rattle.esm_registry.proofs.table.Table.count_beside.Goals as goal

pub overflow_sub-result : goal.overflow_sub-result
overflow_sub-result c =
    let t = c.self.inside in
    let m = c.args.mapping.now in
    let free : option_map arns t.promised ≡ None = ap (λ v. v.promised) c.self.view_is ∙ c.requires.free in
    let there : mapping_at m.id (list_of t.mappings) ≡ Some m = ap (λ v. mapping_at m.id v.mappings.list) c.self.view_is ∙ c.requires.there in
    let total = counted_beside t.counts t.mappings t.places t.next (option_map arns t.promised) m c.self.invariant.index c.self.invariant.counted free there c.args.pair.now in
    let one = one_yes (arns c.args.pair.now) (arns_of m.config) (sym c.is_pair.ensures ∙ c.if-is_pair.true) in
    omega (arith, c.count_of-count.ensures, total, one)

pub returns-then-is_pair : goal.returns-then-is_pair
returns-then-is_pair c =
    let t = c.self.inside in
    let m = c.args.mapping.now in
    let free : option_map arns t.promised ≡ None = ap (λ v. v.promised) c.self.view_is ∙ c.requires.free in
    let there : mapping_at m.id (list_of t.mappings) ≡ Some m = ap (λ v. mapping_at m.id v.mappings.list) c.self.view_is ∙ c.requires.there in
    let total = counted_beside t.counts t.mappings t.places t.next (option_map arns t.promised) m c.self.invariant.index c.self.invariant.counted free there c.args.pair.now in
    let one = one_yes (arns c.args.pair.now) (arns_of m.config) (sym c.is_pair.ensures ∙ c.if-is_pair.true) in
    rw (← c.self.view_is) (omega (arith, c.count_of-count.ensures, total, one))

pub returns-else-is_pair : goal.returns-else-is_pair
returns-else-is_pair c =
    let t = c.self.inside in
    let m = c.args.mapping.now in
    let free : option_map arns t.promised ≡ None = ap (λ v. v.promised) c.self.view_is ∙ c.requires.free in
    let there : mapping_at m.id (list_of t.mappings) ≡ Some m = ap (λ v. mapping_at m.id v.mappings.list) c.self.view_is ∙ c.requires.there in
    let total = counted_beside t.counts t.mappings t.places t.next (option_map arns t.promised) m c.self.invariant.index c.self.invariant.counted free there c.args.pair.now in
    let none = one_no (arns c.args.pair.now) (arns_of m.config) (sym c.is_pair.ensures ∙ c.if-is_pair.false) in
    rw (← c.self.view_is) (omega (arith, c.count_of-count.ensures, total, none))
