use Rattle.std.proofs.Common.{refl}
use Rattle.esm_model.specs.declared.names.FileName.TheVariants.{Journal, Spare}
use Rattle.esm_gen.proofs.disks.fresh_disks.Goals as goal

pub returns-in-Ok-Done-clause-journal : goal.returns-in-Ok-Done-clause-journal
returns-in-Ok-Done-clause-journal c =
    let done = rw c.in-Ok-Done.is at c.in-Ok-Done.field-0-is in
    let ended = rw (c.in-Ok-Done.is, done) at c.init-made.ensures.end in
    (ended Journal refl).1

pub returns-in-Ok-Done-clause-spare : goal.returns-in-Ok-Done-clause-spare
returns-in-Ok-Done-clause-spare c =
    let done = rw c.in-Ok-Done.is at c.in-Ok-Done.field-0-is in
    let ended = rw (c.in-Ok-Done.is, done) at c.init-made.ensures.end in
    (ended Spare refl).1
