use Rattle.std.proofs.Common.{◌≡◌, ◌∙◌, ◌+◌, None, option_map, ap}
use Rattle.esm_registry.specs.Lists.{has_id, mapping_at, without}
use Rattle.esm_registry.specs.Places.{list_of}
use Rattle.esm_registry.specs.Pairs.{arns}
use Rattle.esm_registry.proofs.IndexFacts.{has_its_id}
use Rattle.esm_registry.proofs.ListFacts.{without_last}
use Rattle.esm_registry.proofs.TableFacts.{counted_added, counted_same, with_list}
use Rattle.esm_registry.proofs.table.Table.add.Goals as goal
use Rattle.std.proofs.Common.{refl}

pub place-requires-clause-is_new : goal.place-requires-clause-is_new
place-requires-clause-is_new c = ap (λ v. mapping_at c.args.mapping.id v.mappings.list) c.self.view_is ∙ c.requires.is_new

pub invariant_of-self-in-Ok : goal.invariant_of-self-in-Ok
invariant_of-self-in-Ok c =
    let t = c.self.inside in
    record {
      index = c.in_ok-place.ensures.index;
      counted =
          counted_added t.counts c.raise.new.counts (list_of t.mappings) (list_of c.place.new.mappings) (option_map arns t.promised) c.args.mapping (arns c.args.pair)
          c.self.invariant.counted c.in-Ok.ensures.raised c.in_ok-place.ensures.list c.requires.pair;
    }

pub invariant_of-self-in-Err : goal.invariant_of-self-in-Err
invariant_of-self-in-Err c =
    let t = c.self.inside in
    let m = c.args.mapping in
    let is_new : mapping_at m.id (list_of t.mappings) ≡ None = ap (λ v. mapping_at m.id v.mappings.list) c.self.view_is ∙ c.requires.is_new in
    let back : list_of c.unplace.new.mappings ≡ list_of t.mappings =
    c.unplace.ensures.list (t.next + 1) c.in_ok-place.ensures.index ∙ ap (without m.id) c.in_ok-place.ensures.list
    ∙ without_last (has_id m.id) (list_of t.mappings) m is_new (has_its_id m.id m refl) in
    record {
      index = c.unplace.ensures.index (t.next + 1) c.in_ok-place.ensures.index;
      counted =
          counted_same t.counts c.raise.new.counts (list_of t.mappings) (list_of c.unplace.new.mappings) (option_map arns t.promised)
          c.self.invariant.counted c.in-Err.ensures.kept back;
    }

pub returns-in-Err-clause-kept : goal.returns-in-Err-clause-kept
returns-in-Err-clause-kept c =
    let t = c.self.inside in
    let m = c.args.mapping in
    let is_new : mapping_at m.id (list_of t.mappings) ≡ None = ap (λ v. mapping_at m.id v.mappings.list) c.self.view_is ∙ c.requires.is_new in
    let back : list_of c.unplace.new.mappings ≡ list_of t.mappings =
    c.unplace.ensures.list (t.next + 1) c.in_ok-place.ensures.index ∙ ap (without m.id) c.in_ok-place.ensures.list
    ∙ without_last (has_id m.id) (list_of t.mappings) m is_new (has_its_id m.id m refl) in
    with_list (list_of t.mappings) (list_of c.unplace.new.mappings) t.created (option_map arns t.promised) back ∙ c.self.view_is
