use Rattle.std.proofs.Common.{◌≡◌, ◌++◌, take}
use Rattle.std.specs.List.{flat_map}
use Rattle.esm_event.specs.Elements.{identity_text, following_record}
use Rattle.esm_event.proofs.writing.push_rest.Given as goal

abbrev pub invariant-loop-item : goal.invariant-loop-item
invariant-loop-item l = record {
  text : l.out.items ≡ l.fn.out.items ++ flat_map (following_record l.source) (take l.item-index l.rest);
  identity : l.identity.items ≡ identity_text l.shard;
}
