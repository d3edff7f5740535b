use Rattle.std.proofs.Common.{◌<◌, length, slice_set, Some, refl, ap, arith}
use Rattle.esm_record.specs.Line.{name_of, slot_of}
use Rattle.esm_record.proofs.Leaves.{kept_named}
use Rattle.esm_record.proofs.object.Found.keep_field.Goals as goal

pub returns-clause-kept : goal.returns-clause-kept
returns-clause-kept c = λ d ms is are.
    let slot : slot_of c.args.field < length c.args.self.now.leaves = omega (arith, c.slot-at.ensures.value, c.slot-at.ensures.within, c.requires) in
    kept_named c.args.field (name_of c.args.field) d ms c.args.self.now (record { leaves = slice_set c.args.self.now.leaves c.slot-at.result (Some c.args.leaf) }) c.args.leaf refl slot (ap (λ i. slice_set c.args.self.now.leaves i (Some c.args.leaf)) c.slot-at.ensures.value) is are
