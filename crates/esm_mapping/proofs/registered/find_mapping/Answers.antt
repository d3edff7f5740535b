use Rattle.std.proofs.Common.{subst, sym}
use Rattle.std.specs.Prelude.{IfErr, IfOk}
use Rattle.esm_config.specs.Given.{IsGiven}
use Rattle.esm_registry.specs.Lists.{has_id}
use Rattle.esm_registry.specs.declared.mapping.Mapping.{Mapping}
use Rattle.esm_mapping.specs.Refusals.{IsNamedOf, WhyNotOf}
use Rattle.esm_mapping.specs.declared.named.MappingError.TheVariants.{Unknown}
use Rattle.esm_mapping.proofs.Running.{all_found}
use Rattle.esm_mapping.proofs.registered.find_mapping.Goals as goal

pub copy_mapping-requires : goal.copy_mapping-requires
copy_mapping-requires g c =
    all_found (λ (m : Mapping). IsGiven m.config) (has_id c.args.id.now) c.args.registry.now.mappings.list c.in-Some.mapping.now c.in-Some.ensures.kept.given (sym c.in-Some.ensures.found)

pub returns-in-None-clause-why : goal.returns-in-None-clause-why
returns-in-None-clause-why g c = subst (λ o. WhyNotOf o Unknown) c.in-None.ensures.found tt

pub returns-in-Some-clause-named : goal.returns-in-Some-clause-named
returns-in-Some-clause-named g c = subst (λ o. IfOk c.copy_mapping.result (IsNamedOf o)) c.in-Some.ensures.found c.copy_mapping.ensures.named

pub returns-in-Some-clause-why : goal.returns-in-Some-clause-why
returns-in-Some-clause-why g c = subst (λ o. IfErr c.copy_mapping.result (WhyNotOf o)) c.in-Some.ensures.found c.copy_mapping.ensures.why
