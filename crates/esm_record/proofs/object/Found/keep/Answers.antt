use Rattle.esm_record.proofs.Leaves.{kept_unnamed, kept_as}
use Rattle.esm_record.proofs.object.Found.keep.Goals as goal

pub returns-in-Some-clause-kept : goal.returns-in-Some-clause-kept
returns-in-Some-clause-kept c = λ d ms is are.
    kept_as c.in-Some.field c.args.name.now d ms c.keep_field.new.self c.in-Some.ensures.named (c.keep_field.ensures.kept d ms is are)

pub returns-in_default-clause-kept : goal.returns-in_default-clause-kept
returns-in_default-clause-kept c = λ d ms is are. kept_unnamed c.args.name.now d ms c.args.self.now c.in_default.ensures.none are
