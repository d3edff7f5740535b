use Rattle.std.proofs.Common.{sym, subst}
use Rattle.esm_api.specs.HeadRead.{IsNamed}
use Rattle.esm_api.proofs.FieldLemmas.{values_more}
use Rattle.esm_api.proofs.length.headers_named.Goals as goal

pub loop-field-preserved : goal.loop-field-preserved
loop-field-preserved c = record {
  values =
      subst (λ values. IsNamed c.args.bytes.now values c.also-found.result)
      (sym (values_more c.args.bytes.now c.args.name.now c.args.fields.now c.loop-field.field-index _ c.loop-field-test.true))
      (c.also-found.ensures.values _ c.loop-field.invariant.values);
  within = c.also-found.ensures.within;
}
