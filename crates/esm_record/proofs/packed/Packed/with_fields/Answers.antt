use Rattle.std.proofs.Common.{Some, Ok, ap}
use Rattle.esm_model.specs.Records.{Record}
use Rattle.esm_model.specs.declared.item.Item.TheVariants.{Stream}
use Rattle.esm_record.proofs.Packs.{rows_grown, said_grown}
use Rattle.esm_record.proofs.packed.Packed.with_fields.Goals as goal

pub invariant_of-result : goal.invariant_of-result
invariant_of-result c = rows_grown _ _ _ _ _ _ c.in_ok-placed.ensures.text c.in_ok-push.ensures.items c.self.invariant c.in_ok-placed.ensures.placed

pub returns : goal.returns
returns c = said_grown c.args.self _ _ _ _ _ _ _ c.in_ok-placed.ensures.text c.in_ok-push.ensures.items c.self.invariant (ap (λ (r : Record). Ok (Some (Stream r))) c.in_ok-placed.ensures.record) c.self.view_is
