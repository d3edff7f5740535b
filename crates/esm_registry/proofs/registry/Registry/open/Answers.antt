use Rattle.std.proofs.Common.{◌≡◌, Some, subst}
use Rattle.esm_registry.specs.Payload.{mappings_of}
use Rattle.esm_registry.specs.State.{IsFirstBad}
use Rattle.esm_registry.proofs.registry.Registry.open.Goals as goal

pub invariant_of-result : goal.invariant_of-result
invariant_of-result g c = record {
  said = subst (λ ps. mappings_of ps ≡ Some c.in-Ok.table.mappings) c.payloads.ensures.payloads c.in-Ok.ensures.said;
  free = c.in-Ok.ensures.free;
  down_is = c.requires;
}

pub returns-in-Ok-clause-kept : goal.returns-in-Ok-clause-kept
returns-in-Ok-clause-kept g c = record {
  said = subst (λ ps. mappings_of ps ≡ Some c.in-Ok.table.mappings) c.payloads.ensures.payloads c.in-Ok.ensures.said;
  distinct = c.created.ensures.distinct;
  given = c.created.ensures.given;
}

pub returns-in-Err-clause-bad : goal.returns-in-Err-clause-bad
returns-in-Err-clause-bad g c = λ i e. subst (λ ps. IsFirstBad ps i) c.payloads.ensures.payloads (c.in-Err.ensures.bad i e)
