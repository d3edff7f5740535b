use Rattle.std.proofs.Common.{◌≡◌, ◌∙◌, [], false, map, rules, sym, subst}
use Rattle.std.specs.Map.Iter.{deref}
use Rattle.std.proofs.lemmas.Map.Iter.{iter_end}
use Rattle.esm_registry.specs.Places.{list_of}
use Rattle.esm_registry.proofs.Written.{HasWritten, written_none, written_more, written_all}
use Rattle.esm_registry.proofs.table.Table.text.Goals as goal

pub loop-mapping-init : goal.loop-mapping-init
loop-mapping-init c = subst (λ t. HasWritten t false []) (sym c.in_ok-text.ensures.items) written_none

pub loop-mapping-preserved : goal.loop-mapping-preserved
loop-mapping-preserved c =
    written_more c.loop-mapping.text.items c.push_mapping.new.text.items c.loop-mapping.later c.loop-mapping.yielded c.in-Some.mapping
    c.loop-mapping.invariant c.in_ok-push_mapping.ensures

pub returns : goal.returns
returns c =
    let all : map deref c.loop-mapping.yielded ≡ list_of c.self.inside.mappings = search (rules, iter_end) in
    rw (← c.self.view_is) (c.in_ok-extend_from_slice.ensures.items
    ∙ written_all c.loop-mapping.text.items c.loop-mapping.later c.loop-mapping.yielded (list_of c.self.inside.mappings) c.loop-mapping.invariant all)
